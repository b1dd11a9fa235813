-- `text::scan::blank` meets its contract. A first byte `_`, and none behind it.
use mathlib.Core.Path.{refl, sym, ◌∙◌}
use borrow.Author.Tests.{le-ltb}
use Rattle.objects.proofs.ListLaws.{clash}
use Rattle.text.proofs.PartLaws.{stop-in}
use Rattle.text.proofs.NameLaws.{blank_none, blank-other, blank-first}
use Rattle.text.proofs.scan.blank.Goals as goal
use Rattle.text.proofs.scan.blank.Goals.{then-from-stop, else-from-stop}

pub bounds-s-from : goal.bounds-s-from
bounds-s-from c = (stop-in _ _ _ c.stop-stop.ensures c.if-from-stop.true).1

pub returns-then-from-eq95 : goal.returns-then-from-eq95
returns-then-from-eq95 c =
    elim c.if-from-stop.branch [
      | then-from-stop w ↦ sym (blank-first _ _ _ c.stop-stop.ensures w.if-from-stop.true w.from.ensures refl (sym w.value-is ∙ c.if-from-eq95.true))
      | else-from-stop w ↦ clash c.if-from-eq95.true (w.value-is ∙ le-ltb _ _ w.if-from-stop.false)
    ]

pub returns-else-from-eq95 : goal.returns-else-from-eq95
returns-else-from-eq95 c =
    elim c.if-from-stop.branch [
      | then-from-stop w ↦
          c.if-from-eq95.false ∙ sym (blank-other _ _ _ c.stop-stop.ensures w.if-from-stop.true w.from.ensures refl (sym w.value-is ∙ c.if-from-eq95.false))
      | else-from-stop w ↦ c.if-from-eq95.false ∙ sym (blank_none _ _ _ c.stop-stop.ensures w.if-from-stop.false)
    ]
