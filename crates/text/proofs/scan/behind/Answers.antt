-- `text::scan::behind` meets its contract. A tab, another byte, or no byte at `to`.
use mathlib.Core.Path.{refl, sym, ap, ◌∙◌}
use borrow.Author.Tests.{eq-eqb, ne_eqb}
use Rattle.std.specs.Prelude.{Some}
use Rattle.text.proofs.PartLaws.{stop-in}
use Rattle.text.proofs.FieldLaws.{behind-end, behind-tab, behind-wrong}
use Rattle.text.proofs.scan.behind.Goals as goal

pub returns-then-stop-to : goal.returns-then-stop-to
returns-then-stop-to c = ap Some c.ended.ensures ∙ sym (behind-end _ _ _ c.stop.ensures c.if-stop-to.true)

pub bounds-s-to : goal.bounds-s-to
bounds-s-to c = (stop-in _ _ _ c.stop.ensures c.if-stop-to.false).1

pub returns-then-from-eq9 : goal.returns-then-from-eq9
returns-then-from-eq9 c =
    ap Some c.line.ensures ∙ sym (behind-tab _ _ _ c.stop.ensures c.if-stop-to.false c.from.ensures refl (eq-eqb _ _ c.if-from-eq9.true))

pub returns-else-from-eq9 : goal.returns-else-from-eq9
returns-else-from-eq9 c = sym (behind-wrong _ _ _ c.stop.ensures c.if-stop-to.false c.from.ensures refl (ne_eqb _ _ c.if-from-eq9.false))
