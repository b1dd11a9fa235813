use mathlib.Core.Path.{◌≡◌, refl, ap, ◌∙◌}
use Prim.Native.Nat.{◌-◌}
use native.Mathlib.Omega.{arith}
use lib.ListN.{length}
use Rattle.objects.specs.Table.{type_key}
use Rattle.objects.specs.Rows.{word_at, element_at}
use Rattle.objects.proofs.rows.element.Goals as goal

pub returns-then-back-n : goal.returns-then-back-n
unfolding element_at word_at
returns-then-back-n c = refl

pub returns-else-back-n : goal.returns-else-back-n
unfolding element_at
returns-else-back-n c =
    let first : 0 ≡ length c.args.rows.now - 1 - c.args.i = omega (arith, c.if-back-n.false) in
    ap type_key (c.word.ensures ∙ ap (word_at c.args.rows.now) first)
