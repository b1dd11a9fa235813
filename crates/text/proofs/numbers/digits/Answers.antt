-- `text::numbers::digits` meets its contract. The invariant: the field is the number v, at most max, followed by the digits from `i` on. The measure is what is left up to `stop`.
use mathlib.Core.Path.{refl, sym, ap, ◌∙◌}
use borrow.Author.Tests.{eq-eqb, ne_eqb}
use Rattle.std.specs.Prelude.{Some}
use Rattle.text.specs.Cursors.{num_read}
use Rattle.text.proofs.PartLaws.{stop-in}
use Rattle.text.proofs.NumberLaws.{digits-end, digits-tab, digits-wrong, digits-next, pushed-next}
use Rattle.text.proofs.numbers.digits.Goals as goal

pub bounds-s-i : goal.bounds-s-i
bounds-s-i c = (stop-in _ _ _ c.stop-stop.ensures c.loop-i-test.true).1

pub returns-then-b-eq9 : goal.returns-then-b-eq9
returns-then-b-eq9 c =
    ap (λ x. num_read c.args.s.now (Some (c.loop-i.v, x))) c.line.ensures
    ∙ sym (c.loop-i.invariant.0 ∙ digits-tab _ _ _ _ _ c.stop-stop.ensures c.loop-i-test.true c.from-b.ensures refl (eq-eqb _ _ c.if-b-eq9.true) c.loop-i.invariant.1)

pub returns-in_err-v : goal.returns-in_err-v
returns-in_err-v c =
    rw c.from_residual.ensures
    (sym (c.loop-i.invariant.0 ∙ digits-wrong _ _ _ _ _ c.stop-stop.ensures c.loop-i-test.true c.from-b.ensures refl (ne_eqb _ _ c.if-b-eq9.false) c.push.ensures c.in_err-v.was))

pub loop-i-preserved : goal.loop-i-preserved
loop-i-preserved c =
    (c.loop-i.invariant.0 ∙ digits-next _ _ _ _ _ c.stop-stop.ensures c.loop-i-test.true c.from-b.ensures refl (ne_eqb _ _ c.if-b-eq9.false) c.push.ensures c.in_ok-v.was, (pushed-next _ _ _ c.push.ensures c.in_ok-v.was).2)

pub returns : goal.returns
returns c =
    ap (λ x. num_read c.args.s.now (Some (c.loop-i.v, x))) c.ended.ensures
    ∙ sym (c.loop-i.invariant.0 ∙ digits-end _ _ _ _ _ c.stop-stop.ensures c.loop-i-test.false c.loop-i.invariant.1)
