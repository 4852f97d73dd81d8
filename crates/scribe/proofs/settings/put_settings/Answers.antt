-- `scribe::settings::put_settings` meets its contract: the rows of the code are the table's, by computation.
use Prim.Native.Nat.{ℕ}
use mathlib.Core.Path.{◌≡◌, refl}
use mathlib.Core.Bool.{Bool, true, false, cond}
use mathlib.Core.List.{List, ◌++◌}
use Rattle.room.specs.Room.{texts_of}
use Rattle.room.proofs.Laying.{put_some, put_joined}
use Rattle.scribe.specs.Settings.{rows_texts, settings_texts}
use Rattle.scribe.specs.declared.settings.TheConstants.{SCREEN, INTERLACED, COLOURS}
use Rattle.scribe.proofs.settings.put_settings.Goals as goal

all_rows : (n : Bool) (screen : List (ℕ × ℕ)) → screen ≡ cond n INTERLACED SCREEN → rows_texts screen ++ rows_texts COLOURS ≡ settings_texts n
unfolding texts_of
all_rows false screen e = rw e refl
all_rows true screen e = rw e refl

pub returns : goal.returns
returns c =
    let first = c.put_rows-placed.ensures in
    let rest = c.put_rows.ensures in
    let rows = all_rows c.args.interlaced _ c.choose-screen.ensures.chosen in
    let puts = put_joined (put_some _ _ _ _ _ first.place first.bytes) (put_some _ _ _ _ _ rest.place rest.bytes) in
    let whole = rw rows at puts in
    record { place = whole.place; bytes = whole.bytes }
