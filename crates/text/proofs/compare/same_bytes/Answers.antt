-- `text::compare::same-bytes` meets its contract. The invariant: the bytes before `i` are alike. The measure is what is left up to the last four.
use mathlib.Core.Path.{sym}
use Prim.Native.Nat.{◌+◌}
use native.Mathlib.Omega.{arith}
use Rattle.text.proofs.CompareLaws.{same-joined, alike-more}
use Rattle.text.proofs.compare.same_bytes.Goals as goal

pub same_short-requires : goal.same_short-requires
same_short-requires c = (c.requires, c.if-n-lt4.true)

pub returns-then-n-lt4 : goal.returns-then-n-lt4
returns-then-n-lt4 c = c.same_short.ensures

pub differ_four-requires : goal.differ_four-requires
differ_four-requires c = (omega (arith, c.if-n-lt4.false), omega (arith, c.requires, c.if-n-lt4.false))

pub returns-then-differ_four : goal.returns-then-differ_four
returns-then-differ_four c = sym (c.differ_four.ensures.yes c.if-differ_four.true)

pub loop-i-init : goal.loop-i-init
loop-i-init c = λ k l. absurd (omega (arith, l))

pub differ_four-requires-in-loop-i : goal.differ_four-requires-in-loop-i
differ_four-requires-in-loop-i c =
    (omega (arith, c.if-n-lt4.false, c.loop-i-test.true), omega (arith, c.requires, c.if-n-lt4.false, c.loop-i-test.true))

pub returns-then-differ_four-2 : goal.returns-then-differ_four-2
returns-then-differ_four-2 c = sym (c.differ_four-in-loop-i.ensures.yes c.if-differ_four-2.true)

pub loop-i-preserved : goal.loop-i-preserved
loop-i-preserved c =
    alike-more c.args.a.now c.args.b.now c.loop-i.i c.loop-i.invariant (c.differ_four-in-loop-i.ensures.no c.if-differ_four-2.false)

pub returns-else-differ_four : goal.returns-else-differ_four
returns-else-differ_four c =
    sym (same-joined c.args.a.now c.args.b.now c.requires c.loop-i.i c.loop-i.invariant c.loop-i-test.false (c.differ_four.ensures.no c.if-differ_four.false))

pub returns-else-differ_four-2 : goal.returns-else-differ_four-2
returns-else-differ_four-2 c =
    let alike = alike-more c.args.a.now c.args.b.now c.loop-i.i c.loop-i.invariant (c.differ_four-in-loop-i.ensures.no c.if-differ_four-2.false) in
    sym (same-joined c.args.a.now c.args.b.now c.requires (c.loop-i.i + 4) alike (omega arith) (c.differ_four.ensures.no c.if-differ_four.false))
