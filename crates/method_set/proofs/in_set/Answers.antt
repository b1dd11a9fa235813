-- `in_set` meets its contract.
use mathlib.Core.Path.{ap, ◌∙◌}
use mathlib.Core.Bool.{not}
use borrow.Author.Tests.{eq-eqb}
use Rattle.method_set.proofs.KeepLaws.{in-hidden, in-pointer, in-value}
use Rattle.method_set.proofs.in_set.Goals as goal

pub returns-else-hit-ne1 : goal.returns-else-hit-ne1
returns-else-hit-ne1 c = ap not (eq-eqb _ _ c.if-hit-ne1.false) ∙ in-hidden _ _ c.args.hits.now c.args.k c.if-hit-ne1.false

pub returns-else-not-has_ptr : goal.returns-else-not-has_ptr
returns-else-not-has_ptr c =
    in-pointer _ _ c.args.hits.now c.args.k c.if-hit-ne1.true c.has_ptr.ensures c.if-not-has_ptr.false c.flag_at.ensures

pub returns-then-not-has_ptr : goal.returns-then-not-has_ptr
returns-then-not-has_ptr c = ap not c.if-not-has_ptr.true ∙ in-value _ _ c.args.hits.now c.args.k c.if-hit-ne1.true c.has_ptr.ensures c.if-not-has_ptr.true
