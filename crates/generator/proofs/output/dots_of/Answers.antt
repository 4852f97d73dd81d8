-- `generator::output::dots_of` meets its contract: four pixels in a row, or four black ones.
use Prim.Native.Nat.{◌*◌, ◌/◌, ◌%◌, ◌^◌, ◌≤◌, ◌<◌}
use native.Mathlib.Nat.{mod-lt}
use native.Mathlib.Omega.{arith}
use mathlib.Core.Path.{◌≡◌, ◌∙◌}
use mathlib.Core.Bool.{true}
use Rattle.registers.specs.File.{file_with, bare}
use Rattle.registers.specs.declared.Registers.{Registers}
use Rattle.generator.specs.Stand.{Stands}
use Rattle.generator.specs.Tick.{in_lines}
use Rattle.generator.proofs.Bare.{stands_whole}
use Rattle.generator.proofs.Puts.{held_by, dots_lit, covered_by, uncovered_by, dots_dark, display_some, display_most, line_in, spot_column, spot_by}
use Rattle.generator.proofs.output.dots_of.Goals as goal

pub spot_of-first-requires : goal.spot_of-first-requires
spot_of-first-requires c =
    let some : 0 < c.args.t.screen.display.0 = display_some (bare c.args.n) c.args.g c.requires.runs c.args.t.screen c.requires.stands.screen_is in
    let most : c.args.t.screen.display.0 ≤ 0xFFFFFF = display_most (bare c.args.n) c.args.g c.requires.runs c.args.t.screen c.requires.stands.screen_is in
    let column : (on : c.args.t.shows ≡ true) → c.args.t.moment.column < 2 ^ 26 = λ on. rw (spot_column (bare c.args.n) c.args.g c.requires.runs c.args.t c.requires.stands on) (omega (arith, mod-lt (in_lines (bare c.args.n) c.args.g.second c.args.g.seen.0) some, most)) in
    let line : (on : c.args.t.shows ≡ true) → c.args.t.moment.line < 2 ^ 32 = λ on. line_in (bare c.args.n) c.args.g c.requires.runs c.args.t c.requires.stands in
    (column c.if-t.true, line c.if-t.true)

pub returns-then-on-near : goal.returns-then-on-near
returns-then-on-near c =
    let r : Registers = file_with c.args.n c.args.tables in
    let whole : Stands r c.args.g c.args.t = stands_whole r c.args.g c.args.t c.requires.stands in
    let spotted : c.spot_of-first.result ≡ record { place = c.args.t.place; x = 4 * (in_lines (bare c.args.n) c.args.g.second c.args.g.seen.0 % c.args.t.screen.display.0); y = in_lines (bare c.args.n) c.args.g.second c.args.g.seen.0 / c.args.t.screen.display.0 } = spot_by (bare c.args.n) c.args.g c.requires.runs c.args.t c.requires.stands c.if-t.true _ c.spot_of-first.ensures.spot in
    record { dots = dots_lit (r) c.args.memory.now c.args.g c.args.t (whole) c.if-t.true _ (c.covered.ensures.dots ∙ covered_by (r) c.args.memory.now c.args.g c.args.t (whole) c.if-t.true _ (spotted)) }

pub uncovered-requires : goal.uncovered-requires
uncovered-requires c = record { place_bound = c.requires.stands.place_in; place_value = held_by (bare c.args.n) c.args.memory.now c.args.g c.args.t c.requires.stands c.if-t.true c.requires.g_value }

pub returns-then-t : goal.returns-then-t
returns-then-t c =
    let r : Registers = file_with c.args.n c.args.tables in
    let whole : Stands r c.args.g c.args.t = stands_whole r c.args.g c.args.t c.requires.stands in
    let spotted : c.spot_of-first.result ≡ record { place = c.args.t.place; x = 4 * (in_lines (bare c.args.n) c.args.g.second c.args.g.seen.0 % c.args.t.screen.display.0); y = in_lines (bare c.args.n) c.args.g.second c.args.g.seen.0 / c.args.t.screen.display.0 } = spot_by (bare c.args.n) c.args.g c.requires.runs c.args.t c.requires.stands c.if-t.true _ c.spot_of-first.ensures.spot in
    record { dots = dots_lit (r) c.args.memory.now c.args.g c.args.t (whole) c.if-t.true _ (c.uncovered.ensures.dots ∙ uncovered_by (r) c.args.memory.now c.args.g c.args.t (whole) c.if-t.true _ (spotted) (rw (← c.is_cursor_on-on.ensures.bit, ← c.is_near-near.ensures.test) c.if-on-near.false)) }

pub returns : goal.returns
returns c =
    let r : Registers = file_with c.args.n c.args.tables in
    let whole : Stands r c.args.g c.args.t = stands_whole r c.args.g c.args.t c.requires.stands in
    record { dots = dots_dark (r) c.args.memory.now c.args.g c.args.t (whole) c.if-t.false }
