-- A tick's line (docs/SCRIPT.md). Assumes nothing.
use Rattle.std.specs.Prelude.{ℕ, List, [], ◌∷◌, ◌++◌}
use Rattle.signals.specs.declared.Signals.{Signals}
use Rattle.text.specs.Ascii.{ascii}
use Rattle.text.specs.Lines.{line_end}
use Rattle.waveform.specs.WideWires.{pixel_colour}
use Rattle.report.specs.Phrases.{level_texts, address_texts, colour_texts}

-- a pixel of a tick
abbrev pub dot_texts : Signals → ℕ → List (List ℕ)
dot_texts s k = colour_texts (pixel_colour s k)

-- the four pixels of a tick, and the line's end
abbrev pub dots_texts : Signals → List (List ℕ)
dots_texts s = dot_texts s 0 ++ (dot_texts s 1 ++ (dot_texts s 2 ++ (dot_texts s 3 ++ (line_end ∷ []))))

-- a tick's line
unfoldable pub tick_line_texts : Signals → List (List ℕ)
tick_line_texts s =
    level_texts (ascii "sync=") s.sync
    ++ (level_texts (ascii "vsync=") s.vsync
    ++ (level_texts (ascii "inactive=") s.inactive
    ++ (level_texts (ascii "blank=") s.blank
    ++ (level_texts (ascii "request=") s.request
    ++ (address_texts s.transfer s.address
    ++ dots_texts s)))))
