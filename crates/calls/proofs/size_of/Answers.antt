-- `calls::size_of` meets its contract: Display and VDisplay are registers of 24 bits, and a lead is no more than Display.
use Prim.Native.Nat.{◌/◌, ◌≤◌}
use mathlib.Core.Bool.{Bool, true, false, cond}
use mathlib.Core.Path.{◌≡◌, sym, ap, subst, ◌∙◌}
use native.Mathlib.Omega.{arith}
use Rattle.units.specs.Parameters.{screen_of, in_field, displayed_lines}
use Rattle.units.specs.declared.Screen.{Screen}
use Rattle.lines.specs.Lines.{lead}
use Rattle.registers.specs.File.{InWidths}
use Rattle.registers.specs.declared.Registers.{Registers}
use Rattle.generator.specs.Rows.{screen}
use Rattle.calls.proofs.size_of.Goals as goal

module _ (r : Registers) (z : InWidths r) where
  display_in : (screen r).display.0 ≤ 0xFFFFFF
  unfolding screen_of
  display_in = z.params 2

  lines_in : displayed_lines (screen r) ≤ 0xFFFFFF
  unfolding screen_of
  lines_in = go (screen r).interlaced
    where
      go : (b : Bool) → cond b (screen r).vdisplay.0 ((screen r).vdisplay.0 / 2) ≤ 0xFFFFFF
      go true = z.params 9
      go false = omega (arith, z.params 9)

lead_most : (s : Screen) → lead s ≤ s.display.0
unfolding lead
lead_most s = omega arith

pub overflow_mul-result : goal.overflow_mul-result
overflow_mul-result c =
    let made : c.screen_of-s.result ≡ screen c.args.m.regs = c.screen_of-s.ensures.screen ∙ ap (screen_of c.args.m.regs.params) c.is_interlaced-interlaced.ensures.bit in
    let display : c.screen_of-s.result.display.0 ≤ 0xFFFFFF = subst (λ (s : Screen). s.display.0 ≤ 0xFFFFFF) (sym made) (display_in c.args.m.regs c.requires.widths) in
    omega (arith, display)

pub overflow_add-lines : goal.overflow_add-lines
overflow_add-lines c =
    let made : c.screen_of-s.result ≡ screen c.args.m.regs = c.screen_of-s.ensures.screen ∙ ap (screen_of c.args.m.regs.params) c.is_interlaced-interlaced.ensures.bit in
    omega (arith, c.displayed_lines-lines.ensures.lines ∙ ap displayed_lines (made), lines_in c.args.m.regs c.requires.widths)

pub overflow_mul-shown : goal.overflow_mul-shown
overflow_mul-shown c =
    let made : c.screen_of-s.result ≡ screen c.args.m.regs = c.screen_of-s.ensures.screen ∙ ap (screen_of c.args.m.regs.params) c.is_interlaced-interlaced.ensures.bit in
    let display : c.screen_of-s.result.display.0 ≤ 0xFFFFFF = subst (λ (s : Screen). s.display.0 ≤ 0xFFFFFF) (sym made) (display_in c.args.m.regs c.requires.widths) in
    omega (arith, c.shown_in-shown.ensures.lead, lead_most (in_field true (screen_of c.args.m.regs.params c.is_interlaced-interlaced.result)), subst (λ (s : Screen). s.display.0 ≤ 0xFFFFFF) c.screen_of-s.ensures.screen (display))
