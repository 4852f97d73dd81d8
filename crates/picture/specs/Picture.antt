-- A whole picture (01, "Refusal numbers", 20 to 22; "Rows and pixels"), in the words of the ticks. r: the registers, m: the picture memory,
-- g: the generator before it. Assumes nothing.
use Rattle.std.specs.Prelude.{ℕ, ◌*◌, Bool, not, cond, ◌||◌, List, eqb, length}
use Rattle.control.specs.Control.{running}
use Rattle.screen.specs.Totals.{frame_ticks, frame_pixels}
use Rattle.registers.specs.declared.Registers.{Registers}
use Rattle.signals.specs.Signals.{colours_of}
use Rattle.picture.specs.Span.{bytes_of}
use Rattle.generator.specs.Counters.{is_start}
use Rattle.generator.specs.Rows.{screen}
use Rattle.generator.specs.Tick.{after}
use Rattle.generator.specs.declared.Generator.{Generator}
use Rattle.frame.specs.Frame.{drawn, refused_within}
use Rattle.picture.specs.declared.Drawn.{Drawn}

-- 22: asked while stopped or not at a frame start
abbrev pub refuses22 : Registers → Generator → Bool
refuses22 r g = not (running r.control) || not (is_start g)

-- the bytes that so many pixels take
abbrev pub bytes_for : ℕ → ℕ
bytes_for pixels = 3 * pixels

-- 21: the buffer is not exactly 3 bytes for each visible pixel
abbrev pub refuses21 : Registers → ℕ → Bool
refuses21 r size = not (eqb size (bytes_for (frame_pixels (screen r))))

-- the order for a picture: 22, 21, 20, which is that of one of the frame's ticks
unfoldable pub picture_refusal : Registers → List ℕ → Generator → ℕ → ℕ
picture_refusal r m g size =
    cond (refuses22 r g) 22
    (cond (refuses21 r size) 21
    (cond (refused_within r m g (frame_ticks (screen r))) 20
    0))

-- A WHOLE PICTURE IS ITS TICKS: the generator is the one that the frame's ticks leave; a refusal leaves the one given
unfoldable pub drawn_of : Registers → List ℕ → Generator → ℕ → Drawn
drawn_of r m g size =
    record {
      refusal = picture_refusal r m g size;
      next = cond (eqb (picture_refusal r m g size) 0) (after r m g (frame_ticks (screen r))) g;
    }

-- the buffer holds the colours of the frame's visible ticks, joined; a refusal leaves it as it was
unfoldable pub buffer_of : Registers → List ℕ → Generator → List ℕ → List ℕ
buffer_of r m g before =
    cond (eqb (picture_refusal r m g (length before)) 0) (bytes_of (colours_of (drawn r m g (frame_ticks (screen r))))) before
