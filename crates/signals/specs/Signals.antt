-- What goes out where nothing is shown or a tick is refused (01, "Rows and pixels", "Refusal numbers"). Assumes nothing.
use Rattle.std.specs.Prelude.{ℕ, false, List, [], ◌∷◌, map}
use Rattle.signals.specs.declared.Dot.{Dot}
use Rattle.signals.specs.declared.Signals.{Signals}

abbrev pub black : Dot
black = record { colour = 0 }

-- the colours of pixels that go out, in order: all that sums and picture buffers take of a pixel
abbrev pub colours_of : List Dot → List ℕ
colours_of dots = map (λ (dot : Dot). dot.colour) dots

-- a refused tick answers 0 for all else
abbrev pub silent : Signals
silent =
    record {
      sync = false;
      vsync = false;
      inactive = false;
      blank = false;
      request = false;
      transfer = false;
      address = 0;
      dots = black ∷ black ∷ black ∷ black ∷ [];
    }
