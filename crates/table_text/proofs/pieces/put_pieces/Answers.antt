use native.Mathlib.Omega.{arith}
use mathlib.Core.Path.{refl, ◌∙◌}
use Rattle.print.proofs.WrittenLaws.{wrote-length}
use Rattle.table_text.proofs.Loops.{next-room, next-wrote, next_place, all-wrote}
use Rattle.table_text.proofs.pieces.put_pieces.Goals as goal

pub loop-j-init : goal.loop-j-init
loop-j-init g c = (refl, λ f p. (refl, refl))

pub put-i-requires : goal.put-i-requires
put-i-requires g c =
    let asked = c.requires.may_put in
    let so_far = c.loop-j.invariant.1 asked.0 asked.2 in
    asked.1 _ _ _ c.loop-j.invariant.0 (omega arith) (omega arith)
    (rw c.loop-j.invariant.0 at (next-room asked.0 c.args.first c.args.count c.loop-j.j c.loop-j-test.true c.args.out.now _ _ c.loop-j.out so_far.1 asked.3 c.loop-j.invariant.0))

pub loop-j-preserved : goal.loop-j-preserved
loop-j-preserved g c = (
  wrote-length (c.requires.may_put.2 _ _ _ _ _ (omega arith) (omega arith) c.put-i.ensures) ∙ c.loop-j.invariant.0,
  λ f p.
      let wrote = p _ _ _ _ _ (omega arith) (omega arith) c.put-i.ensures in
      let so_far = c.loop-j.invariant.1 f p in (
        so_far.0 ∙ next-wrote f c.args.first c.args.count c.loop-j.j c.loop-j-test.true wrote,
        next_place f c.args.first c.args.count c.loop-j.j c.loop-j-test.true _ wrote so_far.1,
      ),
)

pub returns : goal.returns
returns g c = λ f p. let q = c.loop-j.invariant.1 f p in all-wrote f c.args.first c.args.count _ _ c.loop-j.out _ c.loop-j.j c.loop-j-test.false q.0 q.1
