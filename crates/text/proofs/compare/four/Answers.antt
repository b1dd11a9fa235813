-- `text::compare::four` meets its contract.
use Prim.Native.Nat.{◌+◌}
use native.Mathlib.Omega.{arith}
use Rattle.text.proofs.CompareLaws.{four_is}
use Rattle.text.proofs.compare.four.Goals as goal

pub bounds-s-i : goal.bounds-s-i
bounds-s-i c = omega (arith, c.requires)

pub overflow_add-i : goal.overflow_add-i
overflow_add-i c = omega (arith, c.requires)

pub bounds-s-i-2 : goal.bounds-s-i-2
bounds-s-i-2 c = omega (arith, c.requires)

pub overflow_add-i-2 : goal.overflow_add-i-2
overflow_add-i-2 c = omega (arith, c.requires)

pub bounds-s-i-3 : goal.bounds-s-i-3
bounds-s-i-3 c = omega (arith, c.requires)

pub overflow_add-i-3 : goal.overflow_add-i-3
overflow_add-i-3 c = omega (arith, c.requires)

pub bounds-s-i-4 : goal.bounds-s-i-4
bounds-s-i-4 c = omega (arith, c.requires)

pub overflow_mul-result : goal.overflow_mul-result
overflow_mul-result c =
    omega (arith, (c.type_inv.s c.args.i).fits, (c.type_inv.s (c.args.i + 1)).fits, (c.type_inv.s (c.args.i + 2)).fits, (c.type_inv.s (c.args.i + 3)).fits, c.from-a.ensures, c.from-b.ensures, c.from-c.ensures, c.from-d.ensures)

pub overflow_mul-result-2 : goal.overflow_mul-result-2
overflow_mul-result-2 c =
    omega (arith, (c.type_inv.s c.args.i).fits, (c.type_inv.s (c.args.i + 1)).fits, (c.type_inv.s (c.args.i + 2)).fits, (c.type_inv.s (c.args.i + 3)).fits, c.from-a.ensures, c.from-b.ensures, c.from-c.ensures, c.from-d.ensures)

pub overflow_add-result : goal.overflow_add-result
overflow_add-result c =
    omega (arith, (c.type_inv.s c.args.i).fits, (c.type_inv.s (c.args.i + 1)).fits, (c.type_inv.s (c.args.i + 2)).fits, (c.type_inv.s (c.args.i + 3)).fits, c.from-a.ensures, c.from-b.ensures, c.from-c.ensures, c.from-d.ensures)

pub overflow_mul-result-3 : goal.overflow_mul-result-3
overflow_mul-result-3 c =
    omega (arith, (c.type_inv.s c.args.i).fits, (c.type_inv.s (c.args.i + 1)).fits, (c.type_inv.s (c.args.i + 2)).fits, (c.type_inv.s (c.args.i + 3)).fits, c.from-a.ensures, c.from-b.ensures, c.from-c.ensures, c.from-d.ensures)

pub overflow_add-result-2 : goal.overflow_add-result-2
overflow_add-result-2 c =
    omega (arith, (c.type_inv.s c.args.i).fits, (c.type_inv.s (c.args.i + 1)).fits, (c.type_inv.s (c.args.i + 2)).fits, (c.type_inv.s (c.args.i + 3)).fits, c.from-a.ensures, c.from-b.ensures, c.from-c.ensures, c.from-d.ensures)

pub overflow_add-result-3 : goal.overflow_add-result-3
overflow_add-result-3 c =
    omega (arith, (c.type_inv.s c.args.i).fits, (c.type_inv.s (c.args.i + 1)).fits, (c.type_inv.s (c.args.i + 2)).fits, (c.type_inv.s (c.args.i + 3)).fits, c.from-a.ensures, c.from-b.ensures, c.from-c.ensures, c.from-d.ensures)

pub returns : goal.returns
returns c =
    record {
      value = four_is _ _ _ _ c.from-a.ensures c.from-b.ensures c.from-c.ensures c.from-d.ensures;
      upper_bound = omega (arith, (c.type_inv.s c.args.i).fits, (c.type_inv.s (c.args.i + 1)).fits, (c.type_inv.s (c.args.i + 2)).fits, (c.type_inv.s (c.args.i + 3)).fits, c.from-a.ensures, c.from-b.ensures, c.from-c.ensures, c.from-d.ensures);
    }
