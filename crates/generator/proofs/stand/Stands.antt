-- What the code finds of a tick is what the rules say of it. Assumes nothing.
use Prim.Native.Nat.{ℕ, ◌+◌, ◌*◌, ◌/◌, ◌%◌, ◌^◌, ◌<◌}
use mathlib.Core.Bool.{Bool, true, false, not, cond, ◌&&◌, true≢false}
use mathlib.Core.Path.{◌≡◌, refl, sym, ap, ◌∙◌}
use native.Mathlib.Omega.{arith}
use lib.Dec.{ltb, leb, eqb}
use Rattle.base.specs.Sum.{rolled}
use Rattle.control.specs.Control.{running, plain, forced_blank, transferring, increment, row_divisor}
use Rattle.units.specs.Parameters.{row_length}
use Rattle.screen.specs.Limits.{Accepted}
use Rattle.units.specs.declared.Screen.{Screen}
use Rattle.screen.proofs.limits.Laws.{narrow, bounded_in, accepted_in}
use Rattle.request.specs.Request.{asking, requested}
use Rattle.request.specs.declared.Known.{Known}
use Rattle.registers.specs.declared.Registers.{Registers}
use Rattle.lines.specs.Lines.{tick_number, field_visible, moment_of}
use Rattle.lines.specs.declared.Moment.{Moment}
use Rattle.generator.specs.Rows.{screen, field_at, visible_at, shows, top_used, taken, transfer_at, held_address, place, asks, leads, request_at}
use Rattle.generator.specs.Sound.{Inside, Sound}
use Rattle.generator.specs.declared.Generator.{Generator}
use Rattle.generator.proofs.FirstVisible.{leads_by}
use Rattle.generator.specs.First.{first_visible}
use Rattle.generator.specs.Stand.{Runs, Stands}

-- the one condition, of a running generator
pub sound_runs : (r : Registers) (g : Generator) → Sound r g → running r.control ≡ true → Runs r g
sound_runs r g z on = record { runs = on; accepted = z.accepted on; placed = z.placed on }

-- a running screen's parameters fit 24 bits, and its generator stands inside its field
pub runs_in_field : (r : Registers) (g : Generator) → Runs r g → (s : Screen) → s ≡ field_at r g → Inside r.control s g.half.0 g.at.0
runs_in_field r g k s e =
    rw e (record { accepted = accepted_in (screen r) g.second k.accepted; bounded = bounded_in (screen r) g.second (narrow (screen r) k.accepted.bounded); half_in = k.placed.half_in; at_in = k.placed.at_in })

-- what is known of a tick for its request
abbrev known : Bool → ℕ → Generator → Screen → Bool → Bool → Known
known on n g s visible asks =
    record { on = on; visible = visible; asks = asks; leads = leads s n; seen = g.seen.0; all = field_visible s; asked = g.asked }

-- the request at a tick that is not visible, from what its parts answer; the prelude by the number of its tick
pub request_by : (control : ℕ) (g : Generator) (s : Screen) → Accepted control s → (n first all : ℕ) (on out : Bool) → first ≡ first_visible s → all ≡ field_visible s → on ≡ transferring control →
    out ≡ requested (record { on = on; visible = false; asks = false; leads = ltb n first && leb first (n + s.transferdelay.0); seen = g.seen.0; all = all; asked = g.asked }) →
    out ≡ requested (known (transferring control) n g s false false)
request_by control g s ok n first all on out ef ea en eo = eo ∙ rw (en, ef, ea, leads_by control s ok n)

-- at a tick that is not visible what a visible one would ask plays no part
request_between : (on : Bool) (n : ℕ) (g : Generator) (s : Screen) (a : Bool) → requested (known on n g s false false) ≡ requested (known on n g s false a)
request_between on n g s a = refl

module _ (r : Registers) (g : Generator) (s : Screen) (es : s ≡ field_at r g) (n : Moment) (en : n ≡ moment_of (field_at r g) (plain r.control) g.half.0 g.at.0) where
  visible_is : n.visible ≡ visible_at r g
  unfolding visible_at moment_of
  visible_is = ap (λ (x : Moment). x.visible) en

  -- the address taken up at VDisplay's first tick
  pub taken_by : (top t : ℕ) → top ≡ top_used r g.second → t ≡ cond n.opens top g.held → t ≡ taken r g
  unfolding taken moment_of
  taken_by top t eu et = et ∙ rw (eu, en)

  -- between the lines
  module _ (off : n.visible ≡ false) (t : ℕ) (et : t ≡ taken r g) (q : Bool) (eq : q ≡ requested (known (transferring r.control) (tick_number s g.half.0 g.at.0) g s false false)) where
    unseen : visible_at r g ≡ false
    unseen = sym visible_is ∙ off

    transfer_off : false ≡ transfer_at r g
    unfolding transfer_at
    transfer_off = rw unseen

    held_off : t ≡ held_address r g
    unfolding held_address
    held_off = rw (← transfer_off) et

    request_off : q ≡ request_at r g
    unfolding request_at
    request_off = eq ∙ rw (unseen, es) (request_between (transferring r.control) (tick_number (field_at r g) g.half.0 g.at.0) g (field_at r g) (asks r.control (screen r) g.seen.0))

    shows_off : false ≡ shows r g
    unfolding shows
    shows_off = rw unseen

    pub stands_off : Stands r g (record { screen = s; moment = n; transfer = false; held = t; asking = false; request = q; shows = false; place = 0 })
    stands_off =
        record {
          screen_is = es;
          moment_is = en;
          transfer_is = transfer_off;
          held_is = held_off;
          asking_is = λ v. absurd (true≢false (sym v ∙ unseen));
          request_is = request_off;
          shows_is = shows_off;
          place_is = λ v. absurd (true≢false (sym v ∙ unseen));
          place_in = omega arith;
        }

  -- in a line
  module _ (on : n.visible ≡ true) (t h d p : ℕ) (o a b : Bool)
      (et : t ≡ taken r g)
      (eh : h ≡ cond (eqb (g.seen.0 % row_length s) 0 && ltb 0 g.seen.0) (rolled t (increment r.control)) t)
      (ed : 2 ^ d ≡ row_divisor r.control)
      (ep : p ≡ (h / 2 ^ d * row_length s + g.seen.0 % row_length s) * 4 + 0)
      (eo : o ≡ transferring r.control)
      (ea : a ≡ asking o s.meminit.0 (g.seen.0 % row_length s))
      (eb : b ≡ forced_blank r.control) where
    seen : visible_at r g ≡ true
    seen = sym visible_is ∙ on

    transfer_is : eqb (g.seen.0 % row_length s) 0 ≡ transfer_at r g
    unfolding transfer_at
    transfer_is = rw (seen, es)

    held_is : h ≡ held_address r g
    unfolding held_address
    held_is = eh ∙ rw (transfer_is, et)

    asking_is : a ≡ asks r.control (screen r) g.seen.0
    unfolding asks
    asking_is = ea ∙ rw (eo, es)

    request_is : (o && a) ≡ request_at r g
    unfolding request_at
    request_is = rw (seen, eo, asking_is)

    shows_is : not b ≡ shows r g
    unfolding shows
    shows_is = rw (seen, eb)

    place_is : p ≡ place r (held_address r g) g.seen.0 0
    unfolding place
    place_is = ep ∙ rw (held_is, ed, es)

    pub stands_in : p < 2 ^ 60 → Stands r g (record { screen = s; moment = n; transfer = eqb (g.seen.0 % row_length s) 0; held = h; asking = a; request = o && a; shows = not b; place = p })
    stands_in bound =
        record {
          screen_is = es;
          moment_is = en;
          transfer_is = transfer_is;
          held_is = held_is;
          asking_is = λ v. asking_is;
          request_is = request_is;
          shows_is = shows_is;
          place_is = λ v. place_is;
          place_in = bound;
        }
