-- Where a tick stands (01, "Lines and frames", "Rows and pixels"), all in one. Assumes nothing.
use Rattle.std.specs.Prelude.{◌^◌, ◌<◌, true, ◌≡◌}
use Rattle.control.specs.Control.{running, plain}
use Rattle.screen.specs.Limits.{Accepted}
use Rattle.registers.specs.declared.Registers.{Registers}
use Rattle.lines.specs.Lines.{moment_of}
use Rattle.generator.specs.Rows.{screen, field_at, visible_at, shows, transfer_at, held_address, place, asks, request_at}
use Rattle.generator.specs.Sound.{Placed}
use Rattle.generator.specs.declared.Generator.{Generator}
use Rattle.generator.specs.declared.stand.Stand.{Stand}

-- the part of the one condition that a running tick uses
pub record Runs (r : Registers) (g : Generator) : Type 0 where
  pub runs : running r.control ≡ true
  pub accepted : Accepted r.control (screen r)
  pub placed : Placed (field_at r g) g

-- where its next tick stands, as the code holds it between its steps: what a visible one asks and its place are worked out for such a one alone
pub record Stands (r : Registers) (g : Generator) (t : Stand) : Type 0 where
  pub screen_is : t.screen ≡ field_at r g
  pub moment_is : t.moment ≡ moment_of (field_at r g) (plain r.control) g.half.0 g.at.0
  pub transfer_is : t.transfer ≡ transfer_at r g
  pub held_is : t.held ≡ held_address r g
  pub asking_is : visible_at r g ≡ true → t.asking ≡ asks r.control (screen r) g.seen.0
  pub request_is : t.request ≡ request_at r g
  pub shows_is : t.shows ≡ shows r g
  pub place_is : visible_at r g ≡ true → t.place ≡ place r (held_address r g) g.seen.0 0
  pub place_in : t.place < 2 ^ 60
