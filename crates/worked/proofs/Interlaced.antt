-- Every row of the interlaced bench screen holds of the rules, and a place is shown twice with code 00: by computation. Assumes nothing.
use mathlib.Core.Path.{refl}
use Rattle.base.specs.Count
use Rattle.control.specs.Control
use Rattle.units.specs.Parameters
use Rattle.screen.specs.Limits
use Rattle.screen.specs.Totals
use Rattle.registers.specs.Map
use Rattle.registers.specs.File
use Rattle.lines.specs.Lines
use Rattle.generator.specs.Rows
use Rattle.generator.specs.Tick
use Rattle.machine.specs.Access
use Rattle.machine.specs.Rules
use Rattle.worked.specs.Table.{puts, those, Holds}
use Rattle.worked.specs.Interlaced.{ready, started, frame, addresses, machines, interlaced_rows, ShownTwice}

pub interlaced_rows_lem : Holds interlaced_rows
unfolding ready started frame addresses machines interlaced_rows puts those Count.count Count.some Count.run Control.increment Control.row_divisor Parameters.screen_of Limits.later_limit Limits.limit_of Totals.totals_of Map.place_of File.zeros File.store_in Lines.period Lines.line_from Lines.line_of Lines.second_half Lines.in_line Lines.visible Lines.lead Lines.column_of Lines.lines_above Lines.visible_before Lines.field_visible Lines.opens Lines.closes Lines.next_second Lines.next_half Lines.next_at Rows.visible_at Rows.top_used Rows.taken Rows.transfer_at Rows.held_address Rows.place Rows.asks Rows.leads Rows.request_at Rows.shows Tick.refuses20 Tick.seen_after Tick.step_with Tick.signals_with Tick.tick_refusal Tick.tick_of Access.start_limit Access.write_refusal Rules.stored Rules.written Rules.advanced
interlaced_rows_lem = (refl, (refl, (refl, (refl, (refl, (refl, (refl, (refl, (refl, tt)))))))))

pub shown_twice : ShownTwice
unfolding ready started machines Count.count Count.some Count.run Control.increment Control.row_divisor Parameters.screen_of Limits.later_limit Limits.limit_of Map.place_of File.zeros File.store_in Lines.period Lines.line_from Lines.second_half Lines.in_line Lines.visible Lines.opens Lines.closes Lines.next_second Lines.next_half Lines.next_at Rows.visible_at Rows.top_used Rows.taken Rows.transfer_at Rows.held_address Rows.place Rows.shows Tick.refuses20 Tick.seen_after Tick.step_with Tick.tick_refusal Tick.tick_of Access.start_limit Access.write_refusal Rules.stored Rules.written Rules.advanced
shown_twice = (refl, refl)
