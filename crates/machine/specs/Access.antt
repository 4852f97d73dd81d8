-- What a write is refused for (01, "Starting a screen", "Refusal numbers"; 02, Q-4). Assumes nothing.
use Rattle.std.specs.Prelude.{ℕ, Bool, cond, ◌&&◌, ◌||◌, ltb}
use Rattle.std.specs.Bool.{xor}
use Rattle.control.specs.Control.{running, interlaced, outside}
use Rattle.screen.specs.Limits.{limit_of}
use Rattle.registers.specs.Map.{is_parameter, is_control, is_checksum, is_reserved, widest}
use Rattle.registers.specs.declared.map.Place.{Place}
use Rattle.registers.specs.declared.Registers.{Registers}
use Rattle.generator.specs.Rows.{screen_under}

-- 2: a reserved address, or a checksum written
abbrev pub write_refuses2 : Place → Bool
write_refuses2 p = is_reserved p || is_checksum p

-- 1: a value over what the place holds
abbrev pub write_refuses1 : Place → ℕ → Bool
write_refuses1 p value = ltb (widest p) value

-- 3: #021 to #02E touched while running
abbrev pub refuses3 : Registers → Place → Bool
refuses3 r p = is_parameter p && running r.control

-- bit 1 changed while running, unless that write stops it (02, Q-4)
abbrev pub changes_format : Registers → ℕ → Bool
changes_format r value = running r.control && running value && xor (interlaced value) (interlaced r.control)

-- 4: a control mode that is not in the build, or another format while running
abbrev pub write_refuses4 : Registers → Place → ℕ → Bool
write_refuses4 r p value = is_control p && (outside value || changes_format r value)

-- a control write with bit 0 set is then checked, as the new value stands, its format with it, for 10 to 18
unfoldable pub start_limit : Registers → Place → ℕ → ℕ
start_limit r p value = cond (is_control p && running value) (limit_of value (screen_under r value)) 0

-- the order for a write: 2, 1, 3, 4, then 10 to 18
unfoldable pub write_refusal : Registers → Place → ℕ → ℕ
write_refusal r p value =
    cond (write_refuses2 p) 2
    (cond (write_refuses1 p value) 1
    (cond (refuses3 r p) 3
    (cond (write_refuses4 r p value) 4
    (start_limit r p value))))
