-- The number of a pair of types, by which it is marked.
use Rattle.std.specs.Prelude.{cond, ℕ, ◌+◌, ltb}
use Rattle.objects.specs.declared.TypeKey.{TypeKey}
use Rattle.objects.specs.Bounds.{pairs_of}

-- The number of a pair of two types, whichever is named first: behind those of all pairs of types below the greater.
unfoldable pub pair : TypeKey → TypeKey → ℕ
pair x y = cond (ltb x.0 y.0) (pairs_of y.0 + x.0) (pairs_of x.0 + y.0)
