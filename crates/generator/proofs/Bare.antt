-- What asks the registers' numbers alone says of a file what it says of one with its numbers and nothing else. Assumes nothing.
use mathlib.Core.Bool.{Bool}
use mathlib.Core.List.{List}
use mathlib.Core.Path.{◌≡◌, refl}
use Prim.Native.Nat.{ℕ}
use Rattle.registers.specs.File.{numbers_of, bare}
use Rattle.registers.specs.declared.Registers.{Registers}
use Rattle.signals.specs.declared.Dot.{Dot}
use Rattle.pixel.specs.declared.Sums.{Sums}
use Rattle.generator.specs.Rows.{visible_at, shows, top_used, taken, transfer_at, held_address, place, request_at}
use Rattle.generator.specs.Tick.{refuses20, seen_after, step_with, signals_with}
use Rattle.generator.specs.Stand.{Runs, Stands}
use Rattle.generator.specs.declared.Generator.{Generator}
use Rattle.generator.specs.declared.stand.Stand.{Stand}

module _ (r : Registers) where
  pub top_bare : (second : Bool) → top_used (bare (numbers_of r)) second ≡ top_used r second
  unfolding top_used
  top_bare second = refl

  module _ (g : Generator) where
    pub runs_bare : Runs r g → Runs (bare (numbers_of r)) g
    runs_bare k = record { runs = k.runs; accepted = k.accepted; placed = k.placed }

    pub runs_whole : Runs (bare (numbers_of r)) g → Runs r g
    runs_whole k = record { runs = k.runs; accepted = k.accepted; placed = k.placed }

    pub stands_whole : (t : Stand) → Stands (bare (numbers_of r)) g t → Stands r g t
    unfolding visible_at shows top_used taken transfer_at held_address place request_at
    stands_whole t st =
        record {
          screen_is = st.screen_is;
          moment_is = st.moment_is;
          transfer_is = st.transfer_is;
          held_is = st.held_is;
          asking_is = st.asking_is;
          request_is = st.request_is;
          shows_is = st.shows_is;
          place_is = st.place_is;
          place_in = st.place_in;
        }

    pub refuses_bare : (m : List ℕ) → refuses20 (bare (numbers_of r)) m g ≡ refuses20 r m g
    unfolding visible_at shows top_used taken transfer_at held_address place refuses20
    refuses_bare m = refl

    pub step_bare : (sums : Sums) → step_with (bare (numbers_of r)) g sums ≡ step_with r g sums
    unfolding visible_at top_used taken transfer_at held_address seen_after step_with
    step_bare sums = refl

    pub signals_bare : (four : List Dot) → signals_with (bare (numbers_of r)) g four ≡ signals_with r g four
    unfolding visible_at shows top_used taken transfer_at held_address request_at signals_with
    signals_bare four = refl
