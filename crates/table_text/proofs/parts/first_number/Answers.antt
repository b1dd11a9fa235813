-- `first_number` meets its contract.
use mathlib.Core.Path.{◌≡◌, ◌∙◌}
use native.Mathlib.Omega.{arith}
use native.Mathlib.Decide.{dec_lt}
use Rattle.table_text.proofs.Writing.{first-low, first-high}
use Rattle.table_text.proofs.parts.first_number.Goals as goal

pub returns-in-5 : goal.returns-in-5
returns-in-5 c =
    elim (dec_lt c.args.a 2) [
      | yes l ↦ let e : c.min.result ≡ c.args.a = omega arith in e ∙ first-low _ _ _ c.in-5.is l
      | no l ↦ let e : c.min.result ≡ 2 = omega arith in e ∙ first-high _ _ _ c.in-5.is (omega arith)
    ]
