-- Ticks one after another into a room of words, as docs/SPEED.md measures them. r: the registers, m: the picture memory, g: the generator
-- before the first tick. Assumes nothing.
use Rattle.std.specs.Prelude.{ℕ, zero, suc, ◌+◌, ◌*◌, ◌/◌, ◌^◌, min, Bool, cond, List, [], ◌∷◌, ◌≡◌, eqb, length, get_or}
use Rattle.std.proofs.lemmas.List.Edits.{sets}
use Rattle.registers.specs.declared.Registers.{Registers}
use Rattle.signals.specs.Signals.{black}
use Rattle.signals.specs.declared.Signals.{Signals}
use Rattle.generator.specs.Tick.{after}
use Rattle.generator.specs.declared.Generator.{Generator}
use Rattle.generator.specs.declared.Went.{Went}
use Rattle.frame.specs.Demand.{answer}

-- a level's bit
abbrev pub bit : Bool → ℕ → ℕ
bit high weight = cond high weight 0

-- the six levels in one word, high where the bit is 1
unfoldable pub levels_of : Signals → ℕ
levels_of s = bit s.sync 1 + bit s.vsync 2 + bit s.inactive 4 + bit s.blank 8 + bit s.request 16 + bit s.transfer 32

-- the colour of pixel k of the four
abbrev pub colour_of : Signals → ℕ → ℕ
colour_of s k = (get_or s.dots k black).colour

-- a tick's six words: the levels, the address, the four colours
unfoldable pub words_of : Signals → List ℕ
words_of s = levels_of s ∷ s.address ∷ colour_of s 0 ∷ colour_of s 1 ∷ colour_of s 2 ∷ colour_of s 3 ∷ []

-- how many ticks so many words have room for, six to a tick; at most #FFFFFFFF
abbrev pub ticks_in : ℕ → ℕ
ticks_in words = min (words / 6) 0xFFFFFFFF

-- how many of n ticks are done: each one that is not refused. A refused tick moves nothing, so that it is refused again
unfoldable pub ticks_done : Registers → List ℕ → Generator → ℕ → ℕ
ticks_done r m g zero = 0
ticks_done r m g (suc n) = cond (eqb (answer r m g (ticks_done r m g n)).refusal 0) (ticks_done r m g n + 1) (ticks_done r m g n)

-- 0 where all n are done, and otherwise the refusal of the tick that was not
unfoldable pub refusal_of : Registers → List ℕ → Generator → ℕ → ℕ
refusal_of r m g n = cond (eqb (ticks_done r m g n) n) 0 (answer r m g (ticks_done r m g n)).refusal

-- the room after n ticks: six words of each, one tick after another, and all other words as they were
unfoldable pub words_after : Registers → List ℕ → Generator → List ℕ → ℕ → List ℕ
words_after r m g room zero = room
words_after r m g room (suc n) = sets (words_after r m g room n) (6 * n) (words_of (answer r m g n).signals)

-- the ticks done in a room
abbrev pub done_in : Registers → List ℕ → Generator → List ℕ → ℕ
done_in r m g room = ticks_done r m g (ticks_in (length room))

-- THE ANSWER: the refusal or 0, and the ticks done, in one number
abbrev pub answer_in : Registers → List ℕ → Generator → List ℕ → ℕ
answer_in r m g room = refusal_of r m g (ticks_in (length room)) * 2 ^ 32 + done_in r m g room

-- THE WORDS of the ticks done
abbrev pub words_in : Registers → List ℕ → Generator → List ℕ → List ℕ
words_in r m g room = words_after r m g room (done_in r m g room)

-- THE SUMS after them: red, green, blue
abbrev pub sums_in : Registers → List ℕ → Generator → List ℕ → List ℕ
sums_in r m g room =
    (after r m g (done_in r m g room)).sums.red ∷
    (after r m g (done_in r m g room)).sums.green ∷
    (after r m g (done_in r m g room)).sums.blue ∷
    []

-- a loop of ticks: those done, the refusal that ended it or 0, the generator then, and the room then
pub record Filled (r : Registers) (m : List ℕ) (g : Generator) (room later : List ℕ) (w : Went) : Type 0 where
  pub done : w.done ≡ done_in r m g room
  pub refusal : w.refusal ≡ refusal_of r m g (ticks_in (length room))
  pub next : w.next ≡ after r m g (done_in r m g room)
  pub words : later ≡ words_in r m g room
