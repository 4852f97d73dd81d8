-- A waveform as text (a VCD file): its head, and its ticks with their times. Assumes nothing.
use Rattle.std.specs.Prelude.{ℕ, Bool, cond, ◌||◌, List, [], ◌∷◌, ◌++◌}
use Rattle.signals.specs.declared.Signals.{Signals}
use Rattle.text.specs.Ascii.{ascii}
use Rattle.text.specs.Lines.{count_texts}
use Rattle.waveform.specs.BitWires.{level_changes, levels_differ}
use Rattle.waveform.specs.WideWires.{bus_changes, buses_differ}

-- a tick that is written: the first with every wire, between two marks, a later one with those that differ
unfoldable pub wire_texts : Bool → ℕ → Signals → Signals → List (List ℕ)
wire_texts first k before s =
    count_texts (ascii "#") k
    ++ (cond first (ascii "$dumpvars\n") [] ∷ (level_changes first before s ++ (bus_changes first before s ++ (cond first (ascii "$end\n") [] ∷ []))))

-- tick k, after one that put out `before`; a later one where no wire differs writes nothing
unfoldable pub tick_texts : Bool → ℕ → Signals → Signals → List (List ℕ)
tick_texts first k before s = cond (first || (levels_differ before s || buses_differ before s)) (wire_texts first k before s) []

-- the head: no date in it, so that one script gives the same bytes always
abbrev pub head_text : List ℕ
head_text =
    ascii "$version Obblestra trace $end\n$timescale 1 ns $end\n$scope module g364 $end\n"
    ++ (ascii "$var wire 1 a sync $end\n$var wire 1 b vsync $end\n$var wire 1 c inactive $end\n"
    ++ (ascii "$var wire 1 d blank $end\n$var wire 1 e request $end\n$var wire 1 f transfer $end\n"
    ++ (ascii "$var wire 24 g address $end\n$var wire 24 h pixel0 $end\n$var wire 24 i pixel1 $end\n"
    ++ ascii "$var wire 24 j pixel2 $end\n$var wire 24 k pixel3 $end\n$upscope $end\n$enddefinitions $end\n")))
