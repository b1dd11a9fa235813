-- `text::hash::hash_rest` meets its contract. The invariant: the hash is that of the bytes from `i` on, with what those before gave.
use mathlib.Core.Path.{refl, sym, ◌∙◌}
use native.Mathlib.Omega.{arith}
use Rattle.text.proofs.HashLaws.{rest-next, rest_end}
use Rattle.text.proofs.hash.hash_rest.Goals as goal

pub loop-i-init : goal.loop-i-init
loop-i-init c = (refl, c.requires)

pub overflow_add-h : goal.overflow_add-h
overflow_add-h c = omega (arith, (c.type_inv.name c.loop-i.i).fits)

pub overflow_mul-h : goal.overflow_mul-h
overflow_mul-h c = omega (arith, (c.type_inv.name c.loop-i.i).fits)

pub loop-i-preserved : goal.loop-i-preserved
loop-i-preserved c =
    (c.loop-i.invariant.0 ∙ rest-next c.args.name.now c.loop-i.h c.loop-i.i c.loop-i-test.true c.from.ensures, omega arith)

pub returns : goal.returns
returns c =
    record {
      value = sym (c.loop-i.invariant.0 ∙ rest_end c.args.name.now c.loop-i.h c.loop-i.i c.loop-i-test.false);
      upper_bound = c.loop-i.invariant.1;
    }
