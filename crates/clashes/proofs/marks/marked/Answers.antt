-- `clashes::marks::marked` meets its contract.
use mathlib.Core.Path.{◌≡◌, refl}
use mathlib.Core.Bool.{false, not}
use Prim.Native.Nat.{ℕ}
use lib.Dec.{eqb}
use borrow.Author.Tests.{eqb-true}
use Rattle.objects.proofs.ListLaws.{cases, clash}
use Rattle.clashes.proofs.MarkLaws.{not-high, not_low}
use Rattle.clashes.proofs.marks.marked.Goals as goal

zero : (n : ℕ) → not (eqb n 0) ≡ false → n ≡ 0
zero n e = cases (eqb n 0) (λ y. eqb-true n 0 y) (λ f. clash refl (rw f at e))

pub returns-then-bit-ne0 : goal.returns-then-bit-ne0
returns-then-bit-ne0 c = λ e. not_low _ _ c.low.ensures.value c.bit-then-bit-ne0.ensures (zero c.bit-then-bit-ne0.result e)

pub returns-else-bit-ne0 : goal.returns-else-bit-ne0
returns-else-bit-ne0 c = λ _. not-high _ _ c.high.ensures.value c.bit.ensures c.if-bit-ne0.false
