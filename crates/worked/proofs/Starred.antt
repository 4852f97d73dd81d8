-- Every starred row holds of the rules: one statement, by computation. Assumes nothing.
use mathlib.Core.Path.{refl}
use Rattle.base.specs.Count
use Rattle.control.specs.Control
use Rattle.units.specs.Parameters
use Rattle.screen.specs.Limits
use Rattle.screen.specs.Totals
use Rattle.registers.specs.Map
use Rattle.registers.specs.File
use Rattle.memory.specs.Memory
use Rattle.colour.specs.Colour
use Rattle.cursor.specs.Cursor
use Rattle.pixel.specs.Dot
use Rattle.pixel.specs.Sums
use Rattle.lines.specs.Lines
use Rattle.generator.specs.Rows
use Rattle.generator.specs.Tick
use Rattle.machine.specs.Access
use Rattle.machine.specs.Rules
use Rattle.worked.specs.Table.{puts, those, Holds}
use Rattle.worked.specs.Starred.{started, ticks, first_colours, coloured, starred}

pub starred_rows : Holds starred
unfolding started puts those ticks first_colours coloured starred Count.count Count.some Count.run Control.increment Control.row_divisor Parameters.screen_of Limits.later_limit Limits.limit_of Totals.totals_of Map.place_of File.zeros File.value_in File.store_in Memory.bits_at Memory.pixel_shown Colour.masked_colour Cursor.cursor_code Dot.dot_at Sums.summed Lines.period Lines.line_from Lines.second_half Lines.line_of Lines.in_line Lines.visible Lines.lead Lines.column_of Lines.lines_above Lines.visible_before Lines.field_visible Lines.opens Lines.closes Lines.next_second Lines.next_half Lines.next_at Rows.visible_at Rows.top_used Rows.taken Rows.transfer_at Rows.held_address Rows.place Rows.asks Rows.leads Rows.request_at Rows.shows Tick.dot_of Tick.dots Tick.refuses20 Tick.cleared Tick.sums_after Tick.seen_after Tick.step_with Tick.signals_with Tick.tick_refusal Tick.tick_of Access.start_limit Access.write_refusal Rules.stored Rules.written Rules.advanced
starred_rows = (refl, (refl, (refl, (refl, (refl, (refl, (refl, (refl, (refl, (refl, (refl, (refl, (refl, (refl, (refl, tt)))))))))))))))
