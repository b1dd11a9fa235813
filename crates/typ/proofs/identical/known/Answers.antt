use mathlib.Core.Path.{sym, ap, ◌∙◌}
use mathlib.Core.Logic.{inl, inr}
use borrow.Author.Tests.{eq-eqb}
use Rattle.objects.proofs.ListLaws.{clash}
use Rattle.pair_marks.specs.Marks.{met}
use Rattle.pair_marks.specs.Classes.{OneClass}
use Rattle.typ.proofs.identical.known.Goals as goal

pub returns-then-labels-x : goal.returns-then-labels-x
unfolding OneClass
returns-then-labels-x c =
    record { one_class = λ _. inl c.if-labels-x.true; y_value = λ q. clash (eq-eqb _ _ c.if-labels-x.true) q }

pub returns-else-labels-x : goal.returns-else-labels-x
returns-else-labels-x c =
    let is = c.is_met.ensures ∙ ap (met _) c.pair_number.ensures in
    record { one_class = λ q. inr (sym is ∙ q); y_value = λ q. sym is ∙ q }
