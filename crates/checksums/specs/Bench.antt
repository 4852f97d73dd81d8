-- Fields of the bench screen (01, "The bench screen and its neighbours") that meet what is asked of two fields: the calls from the beginning on,
-- what they put out, and their nine bytes. Assumes nothing.
use Rattle.std.specs.Prelude.{ℕ, true, List, [], ◌∷◌, ◌++◌, map, ◌≡◌, set, replicate}
use Rattle.screen.specs.Bench.{bench_parameters}
use Rattle.machine.specs.Calls.{write, tick, writes_from}
use Rattle.machine.specs.Rules.{beginning}
use Rattle.machine.specs.declared.Machine.{Machine}
use Rattle.demands.specs.Asked.{Asked, of, picture, after_every}
use Rattle.calls.specs.Nine.{nine_of}
use Rattle.calls.specs.declared.Checksums.{Checksums}
use Rattle.checksums.specs.Field.{put_out, in_flyback}
use Rattle.checksums.specs.Apart.{OneApart, ChangedAbout, AllRise, Stuck}
use Rattle.checksums.specs.Told.{Told}

-- the screen at 8 bits, started; palette entry 5 is document 01's, 6 has one more of red, 7 one less, and the mask lets all through
abbrev pub ready : List Asked
ready =
    map of
    (writes_from 0x021 bench_parameters
    ++ (write 0x040 0xFFFFFF ∷ write 0x105 0x102030 ∷ write 0x106 0x112030 ∷ write 0x107 0x0F2030 ∷ write 0x060 0xB00001 ∷ []))

-- one frame ticked with a picture memory: its field is put out, and the flyback after it has begun
unfoldable pub field : List ℕ → List Asked
field memory = ready ++ replicate 63 (of (tick memory))

abbrev pub after : List Asked → Machine
after calls = after_every beginning calls

-- sixteen pixels of entry 5; one of them entry 6; the same one elsewhere; and one of them entry 6 and another entry 7
abbrev pub fives : List ℕ
fives = replicate 16 5

abbrev pub one_wrong : List ℕ
one_wrong = set fives 2 6

abbrev pub elsewhere : List ℕ
elsewhere = set fives 11 6

abbrev pub cancelled : List ℕ
cancelled = set elsewhere 2 7

-- all of them entry 6: the lowest line of red is stuck high
abbrev pub sixes : List ℕ
sixes = replicate 16 6

-- the three words, unrefused
abbrev pub words : ℕ → ℕ → ℕ → Checksums
words low middle high = record { refusal = 0; words = low ∷ middle ∷ high ∷ [] }

-- the same frame drawn at once; and ticked with entry 5 written between its two lines, so that the second goes out as entry 6 would
unfoldable pub drawn : List Asked
drawn = ready ++ (picture fives (replicate 48 0) ∷ [])

unfoldable pub rewritten : List Asked
rewritten = ready ++ (replicate 49 (of (tick fives)) ++ (of (write 0x105 0x112030) ∷ replicate 14 (of (tick fives))))

-- a field that is put out so, and read so
pub record Reads (calls : List Asked) (colours : List ℕ) (nine : Checksums) : Type 0 where
  pub put : put_out calls ≡ colours
  pub flyback : in_flyback (after calls) ≡ true
  pub nine_is : nine_of (after calls) ≡ nine

pub record Bench : Type 0 where
  pub right : Reads (field fives) (replicate 16 0x102030) (words 0x000000 0x010203 0x000000)
  -- one byte of memory is another: one pixel is, and the nine bytes differ
  pub one_wrong_told : Reads (field one_wrong) (set (replicate 16 0x102030) 2 0x112030) (words 0x010000 0x010203 0x000000)
  pub one_apart : OneApart (put_out (field fives)) (put_out (field one_wrong))
  pub all_rise : AllRise (put_out (field fives)) (put_out (field one_wrong))
  pub one_told : Told (field fives) (field one_wrong) (after (field fives)) (after (field one_wrong))
  -- two bytes have changed about: so have two pixels, and the nine bytes are equal
  pub elsewhere_reads : Reads (field elsewhere) (set (replicate 16 0x102030) 11 0x112030) (words 0x010000 0x010203 0x000000)
  pub changed_about : ChangedAbout (put_out (field one_wrong)) (put_out (field elsewhere))
  pub about_told : Told (field one_wrong) (field elsewhere) (after (field one_wrong)) (after (field elsewhere))
  -- two pixels are wrong and cancel: one has as much too much of red as the other has too little
  pub cancelled_reads : Reads (field cancelled) (set (set (replicate 16 0x102030) 11 0x112030) 2 0x0F2030) (words 0x000000 0x010203 0x000000)
  -- a stuck line is seen
  pub sixes_reads : Reads (field sixes) (replicate 16 0x112030) (words 0x100000 0x010203 0x000000)
  pub stuck : Stuck 0 0 true (put_out (field fives)) (put_out (field sixes))
  pub stuck_told : Told (field fives) (field sixes) (after (field fives)) (after (field sixes))
  -- a picture is its ticks; and a write between them changes what goes out after it
  pub drawn_reads : Reads drawn (replicate 16 0x102030) (words 0x000000 0x010203 0x000000)
  pub rewritten_reads : Reads rewritten (replicate 8 0x102030 ++ replicate 8 0x112030) (words 0x080000 0x010203 0x000000)
