-- The nine checksum bytes of a machine (docs/SCRIPT.md, `nine`). Assumes nothing.
use Rattle.std.specs.Prelude.{ℕ, cond, [], ◌∷◌, eqb}
use Rattle.machine.specs.Rules.{answered}
use Rattle.machine.specs.declared.Machine.{Machine}
use Rattle.machine.specs.declared.Answered.{Answered}
use Rattle.calls.specs.declared.Checksums.{Checksums}

-- the reads of #0C0, #0C1 and #0C2: the first refusal, or the three words
abbrev pub first_refusal : ℕ → ℕ → ℕ → ℕ
first_refusal a b c = cond (eqb a 0) (cond (eqb b 0) c b) a

abbrev pub nine_with : Answered → Answered → Answered → Checksums
nine_with a b c =
    record { refusal = first_refusal a.refusal b.refusal c.refusal; words = a.value ∷ b.value ∷ c.value ∷ [] }

unfoldable pub nine_of : Machine → Checksums
nine_of m = nine_with (answered m 0x0C0) (answered m 0x0C1) (answered m 0x0C2)
