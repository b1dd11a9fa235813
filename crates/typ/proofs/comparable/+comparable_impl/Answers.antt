use Rattle.std.proofs.Common.{ap, not}
use Rattle.std.proofs.Common.{rules}
use mathlib.Core.Path.{◌≡◌, sym}
use mathlib.Core.Bool.{true}
use Prim.Native.Nat.{ℕ}
use native.Mathlib.Omega.{arith}
use borrow.Author.Count.{below_more}
use Rattle.objects.specs.Rows.{table_of}
use Rattle.rules.specs.Comparable.{comparable}
use Rattle.typ.specs.Contents.{content_at}
use Rattle.typ.proofs.ContentLaws.{held_place, was-met, may-not, content-inside, content-lower, content-not, content-is, all-passed, now-met}
use Rattle.typ.proofs.comparable.+comparable_impl.Goals as goal

pub returns-then-met-at-ne0 : goal.returns-then-met-at-ne0
returns-then-met-at-ne0 t c =
    was-met _ _ c.requires.library _ c.requires.t_bound.0 _ c.requires.met_comparable c.if-met-at-ne0.true

pub returns-then-not-may_compare : goal.returns-then-not-may_compare
returns-then-not-may_compare t c =
    may-not _ _ c.requires.library _ c.requires.t_bound.0 _ _ c.requires.met_comparable c.may_compare.ensures (ap not c.if-not-may_compare.true)

pub loop-i-init : goal.loop-i-init
loop-i-init t c =
    (search rules, c.requires.met_comparable, λ k h. absurd (omega arith))

pub content_at-e-requires : goal.content_at-e-requires
content_at-e-requires t c =
    held_place _ _ c.requires.library _ c.requires.t_bound.0 _ _ c.content_count-n.ensures c.loop-i-test.true

pub comparable_impl-requires : goal.comparable_impl-requires
comparable_impl-requires t c = (
  omega (arith, content-lower _ _ c.requires.library _ c.requires.t_bound.0 _ c.content_count-n.ensures _ c.loop-i-test.true _ c.content_at-e.ensures, c.decreases),
  (
    c.requires.library,
    (
      (
        content-inside _ _ c.requires.library _ c.requires.t_bound.0 _ c.content_count-n.ensures _ c.loop-i-test.true _ c.content_at-e.ensures,
        omega (arith, c.loop-i.invariant.0, c.requires.t_bound.1),
      ),
      c.loop-i.invariant.1,
    ),
  ),
)

pub returns-then-not-comparable_impl : goal.returns-then-not-comparable_impl
returns-then-not-comparable_impl t c =
    content-not _ _ c.requires.library _ c.requires.t_bound.0 _ c.content_count-n.ensures _ c.loop-i-test.true _ c.content_at-e.ensures _ _ c.comparable_impl.ensures (ap not c.if-not-comparable_impl.true)

pub loop-i-preserved : goal.loop-i-preserved
loop-i-preserved t c =
    (search rules, c.comparable_impl.ensures.sound, below_more (λ (k : ℕ). comparable (table_of c.args.text.now c.args.rows.now) (content_at c.args.rows.now c.args.t k) ≡ true) _ c.loop-i.invariant.2 (content-is _ _ c.requires.library _ c.requires.t_bound.0 _ c.content_count-n.ensures _ c.loop-i-test.true _ c.content_at-e.ensures _ _ c.comparable_impl.ensures (ap not c.if-not-comparable_impl.false)))

pub returns : goal.returns
returns t c =
    let e = all-passed _ _ c.requires.library _ c.requires.t_bound.0 _ _ _ c.may_compare.ensures (ap not c.if-not-may_compare.false) c.content_count-n.ensures c.loop-i-test.false c.loop-i.invariant.2 in record { judged = sym e; sound = now-met _ _ c.requires.library _ c.requires.t_bound.0 _ c.loop-i.invariant.1 e }
