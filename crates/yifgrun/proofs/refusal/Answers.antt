-- `refusal` meets its contract.
use mathlib.Core.Path.{◌≡◌, ap, ◌∙◌}
use native.Mathlib.Omega.{arith}
use Prim.Native.Nat.{◌+◌, ◌*◌}
use lib.IntN.{pos, neg_ℤ}
use Rattle.objects.specs.Bounds.{refusal_unit}
use Rattle.objects.specs.Refusals.{reason_number}
use Rattle.rules.specs.Asked.{refusal}
use Rattle.yifgrun.proofs.Signed.{minus, minus-fits}
use Rattle.yifgrun.proofs.refusal.Goals as goal

pub overflow_sub-result : goal.overflow_sub-result
overflow_sub-result c = minus-fits (c.from.result * refusal_unit + c.from-2.result) (omega (arith, c.from.ensures, c.from-2.ensures))

pub returns : goal.returns
unfolding refusal
returns c =
    let same : c.from.result * refusal_unit + c.from-2.result ≡ reason_number c.args.r.reason * refusal_unit + c.args.r.line = omega (arith, c.number.ensures, c.from.ensures, c.from-2.ensures) in
    minus (c.from.result * refusal_unit + c.from-2.result) (omega (arith, c.from.ensures, c.from-2.ensures)) ∙ ap (λ k. neg_ℤ (pos k)) same
