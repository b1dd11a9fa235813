use native.Mathlib.Omega.{arith}
use mathlib.Core.Path.{refl, ◌∙◌}
use lib.ListN.{length-set}
use Rattle.text.specs.Bytes.{decimal}
use Rattle.print.proofs.WrittenLaws.{digits-part, digits-next, digits-full, wrote_as, room_as}
use Rattle.print.proofs.put_decimal.Goals as goal

pub loop-i-init : goal.loop-i-init
unfolding decimal
loop-i-init c = (refl, omega arith, refl, refl)

pub put_word-requires : goal.put_word-requires
put_word-requires c =
    room_as c.args.at (c.loop-i.invariant.0 ∙ digits-part _ _ c.loop-i.text c.loop-i-test.true c.loop-i.invariant.1 c.loop-i.invariant.2 c.if-rest-lt10.true c.glyph.ensures) c.loop-i.invariant.3 (omega arith)

pub returns-then-rest-lt10 : goal.returns-then-rest-lt10
returns-then-rest-lt10 c =
    wrote_as (c.loop-i.invariant.0 ∙ digits-part _ _ c.loop-i.text c.loop-i-test.true c.loop-i.invariant.1 c.loop-i.invariant.2 c.if-rest-lt10.true c.glyph.ensures) c.loop-i.invariant.3 c.put_word.ensures

pub loop-i-preserved : goal.loop-i-preserved
loop-i-preserved c =
    (c.loop-i.invariant.0 ∙ digits-next _ _ c.loop-i.text c.loop-i-test.true (omega arith) c.if-rest-lt10.false c.glyph-in-loop-i.ensures, omega arith, simp length-set c.loop-i.invariant.2, c.loop-i.invariant.3)

pub put_word-requires-2 : goal.put_word-requires-2
put_word-requires-2 c =
    room_as c.args.at (c.loop-i.invariant.0 ∙ digits-full _ _ c.loop-i.text c.loop-i-test.false) c.loop-i.invariant.3 (omega arith)

pub returns : goal.returns
returns c =
    wrote_as (c.loop-i.invariant.0 ∙ digits-full _ _ c.loop-i.text c.loop-i-test.false) c.loop-i.invariant.3 c.put_word-2.ensures
