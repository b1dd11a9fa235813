-- `text::hash::hash` meets its contract. The invariant: the hash of the name is that of the bytes from `i` on, with what those before gave.
use mathlib.Core.Path.{sym, ◌∙◌}
use native.Mathlib.Omega.{arith}
use Rattle.text.proofs.HashLaws.{hash-next, hash-end}
use Rattle.text.proofs.hash.hash.Goals as goal

pub overflow_sub-name : goal.overflow_sub-name
overflow_sub-name c = c.loop-i.invariant.2

pub four-requires : goal.four-requires
four-requires c = omega (arith, c.loop-i-test.true, c.loop-i.invariant.2)

pub overflow_add-h : goal.overflow_add-h
overflow_add-h c = omega (arith, c.four.ensures.upper_bound, c.loop-i.invariant.1)

pub overflow_mul-h : goal.overflow_mul-h
overflow_mul-h c = omega (arith, c.four.ensures.upper_bound, c.loop-i.invariant.1)

pub overflow_add-i : goal.overflow_add-i
overflow_add-i c = omega (arith, c.loop-i-test.true, c.loop-i.invariant.2)

pub loop-i-smaller : goal.loop-i-smaller
loop-i-smaller c = omega (arith, c.loop-i-test.true, c.loop-i.invariant.2)

pub loop-i-preserved : goal.loop-i-preserved
loop-i-preserved c =
    (c.loop-i.invariant.0 ∙ hash-next c.args.name.now c.loop-i.h c.loop-i.i (omega (arith, c.loop-i-test.true, c.loop-i.invariant.2)) c.four.ensures.value, omega arith, omega (arith, c.loop-i-test.true, c.loop-i.invariant.2))

pub hash_rest-requires : goal.hash_rest-requires
hash_rest-requires c = c.loop-i.invariant.1

pub returns : goal.returns
returns c =
    record {
      value = c.hash_rest.ensures.value ∙ sym (c.loop-i.invariant.0 ∙ hash-end c.args.name.now c.loop-i.h c.loop-i.i c.loop-i-test.false);
      upper_bound = c.hash_rest.ensures.upper_bound;
    }
