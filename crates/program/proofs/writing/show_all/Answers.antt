-- `show_all` meets its contract: the pieces, each where the one before ends, are all that is due.
use Rattle.std.proofs.Common.{refl, subst, ◌∙◌, arith}
use Rattle.std.specs.Io.KnownBytes.{Appends}
use Rattle.std.proofs.KnownBytes.{Appends-nil, Appends-trans}
use Rattle.program.proofs.PieceLaws.{none-reached, all-reached, all-bytes, next-reached}
use Rattle.program.proofs.writing.show_all.Goals as goal

pub loop-f-init : goal.loop-f-init
unfolding none-reached
loop-f-init g c = record {
  same_marks = refl;
  walk_room = refl;
  hits_room = refl;
  words_room = refl;
  out_room = refl;
  lent = c.requires.mark_words_in_bounds.1;
  reached = none-reached _ _;
  written = Appends-nil _;
}

pub returns-then-f-eq0-clause-place : goal.returns-then-f-eq0-clause-place
returns-then-f-eq0-clause-place g c = all-reached _ _ c.loop-f.invariant.reached c.next_piece-f.ensures.prints c.if-f-eq0.true

pub returns-then-f-eq0-clause-bytes : goal.returns-then-f-eq0-clause-bytes
returns-then-f-eq0-clause-bytes g c =
    let all = all-bytes _ _ c.loop-f.invariant.reached c.next_piece-f.ensures.prints c.if-f-eq0.true in
    subst (Appends (g.W.Write.contents c.args.to.now) (g.W.Write.contents c.loop-f.to)) all c.loop-f.invariant.written

pub loop-f-preserved : goal.loop-f-preserved
unfolding next-reached
loop-f-preserved g c =
    let inv = c.loop-f.invariant in
    let told = c.next_piece-f in
    record {
      same_marks = told.ensures.marks_unchanged ∙ inv.same_marks;
      walk_room = told.auto.walk ∙ inv.walk_room;
      hits_room = told.auto.hits ∙ inv.hits_room;
      words_room = told.auto.words ∙ inv.words_room;
      out_room = told.auto.out ∙ inv.out_room;
      lent = told.ensures.lent;
      reached = next-reached _ _ inv.reached told.ensures.prints (told.auto.out ∙ inv.out_room ∙ c.requires.mark_words_in_bounds.2) (omega (arith, c.if-f-eq0.false)) _ c.in_ok-total.ensures.place;
      written = Appends-trans _ _ _ _ _ inv.written c.in_ok-total.ensures.bytes;
    }
