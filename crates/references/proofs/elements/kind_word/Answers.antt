use mathlib.Core.Path.{◌≡◌, ap}
use Prim.Native.Nat.{◌+◌, ◌*◌}
use native.Mathlib.Omega.{arith}
use Rattle.objects.specs.Bounds.{types_at, row_words}
use Rattle.objects.specs.Rows.{word_at, type_word}
use Rattle.references.proofs.elements.kind_word.Goals as goal

pub returns : goal.returns
unfolding type_word word_at
returns c =
    let first : types_at + row_words * c.args.e.0 ≡ types_at + row_words * c.args.e.0 + 0 = omega arith in
    ap (word_at c.args.rows.now) first
