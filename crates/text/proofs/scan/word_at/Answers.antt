-- `text::scan::word_at` meets its contract. The invariant: the word is the next field if its bytes from `j` on are the field from `i` on. The measure is what is left of the word.
use mathlib.Core.Path.{refl, sym, ◌∙◌}
use native.Mathlib.Omega.{arith}
use Rattle.text.proofs.WordLaws.{word-tab, word-other, word_next, word_end, word-within}
use borrow.Author.Tests.{eq-eqb, ne_eqb}
use Rattle.text.proofs.scan.word_at.Goals as goal
use Rattle.text.proofs.scan.word_at.Goals.{then-b-eq9-via-then-b-eq9, then-b-eq9-via-else-b-eq9+then-b-from}

pub returns-then-b-eq9 : goal.returns-then-b-eq9
returns-then-b-eq9 c =
    elim c.then-b-eq9.branch [
      | then-b-eq9-via-then-b-eq9 w ↦
          sym (c.loop-j.invariant ∙ word-tab _ c.args.w.now _ c.loop-j.j _ c.byte-b.ensures c.loop-j-test.true refl (eq-eqb _ _ w.if-b-eq9.true))
      | then-b-eq9-via-else-b-eq9+then-b-from w ↦
          sym (c.loop-j.invariant ∙ word-other _ c.args.w.now _ c.loop-j.j _ c.byte-b.ensures c.loop-j-test.true refl (ne_eqb _ _ w.if-b-eq9.false) w.from.ensures refl (ne_eqb _ _ w.if-b-from.true))
    ]

pub overflow_add-i : goal.overflow_add-i
overflow_add-i c =
    omega (arith, word-within _ c.args.w.now _ c.loop-j.j _ c.byte-b.ensures c.loop-j-test.true refl (ne_eqb _ _ c.if-b-eq9.false) c.from.ensures refl (eq-eqb _ _ c.if-b-from.false) (c.type_inv.w c.loop-j.j).fits)

pub loop-j-preserved : goal.loop-j-preserved
loop-j-preserved c =
    c.loop-j.invariant ∙ word_next _ c.args.w.now _ c.loop-j.j _ c.byte-b.ensures c.loop-j-test.true refl (ne_eqb _ _ c.if-b-eq9.false) c.from.ensures refl (eq-eqb _ _ c.if-b-from.false) (c.type_inv.w c.loop-j.j).fits

pub returns : goal.returns
returns c =
    sym (c.loop-j.invariant ∙ word_end _ c.args.w.now _ c.loop-j.j _ c.loop-j-test.false c.behind.ensures)
