-- `put_tag` meets its contract.
use mathlib.Core.Path.{refl, sym, ◌∙◌}
use borrow.Author.Tests.{eqb-true, eqb-false}
use lib.ListN.{length-set}
use Rattle.print.proofs.WrittenLaws.{wrote_as, wrote_nothing, wrote-length, byte-wrote}
use Rattle.table_text.proofs.WritingMembers.{tag-method, tag-none, tag-some, room-first}
use Rattle.table_text.proofs.parts.put_tag.Goals as goal
use Rattle.table_text.proofs.parts.put_tag.Goals.{then-form-gt1-via-then-form-gt1, then-form-gt1-via-else-form-gt1+then-is_empty}

pub returns-then-form-gt1 : goal.returns-then-form-gt1
returns-then-form-gt1 c =
    elim c.then-form-gt1.branch [
      | then-form-gt1-via-then-form-gt1 w ↦ wrote_as (tag-method _ _ w.if-form-gt1.true) refl (wrote_nothing _ _)
      | then-form-gt1-via-else-form-gt1+then-is_empty w ↦ wrote_as (tag-none _ _ _ _ c.span-tag.ensures w.if-form-gt1.false (eqb-true _ _ (sym w.is_empty.ensures ∙ w.if-is_empty.true))) refl (wrote_nothing _ _)
    ]

pub bounds-out-at : goal.bounds-out-at
bounds-out-at c =
    (room-first c.args.out.now _ (tag-some _ _ _ _ c.span-tag.ensures c.if-form-gt1.false (eqb-false _ _ (sym c.is_empty.ensures ∙ c.if-is_empty.false))) c.requires).0

pub put_word-requires : goal.put_word-requires
put_word-requires c =
    simp length-set (room-first c.args.out.now _ (tag-some _ _ _ _ c.span-tag.ensures c.if-form-gt1.false (eqb-false _ _ (sym c.is_empty.ensures ∙ c.if-is_empty.false))) c.requires).1

pub shape_of-out : goal.shape_of-out
shape_of-out c =
    wrote-length c.put_word.ensures ∙ length-set c.args.out.now c.args.at 9

pub returns : goal.returns
returns c =
    wrote_as (tag-some _ _ _ _ c.span-tag.ensures c.if-form-gt1.false (eqb-false _ _ (sym c.is_empty.ensures ∙ c.if-is_empty.false))) refl (byte-wrote c.put_word.ensures)
