-- `comparable` of typ.rs on values, at most n calls inside each other; none: too few.
use Rattle.std.specs.Prelude.{Bool, true, false, not, List, [], ◌∷◌, ℕ, zero, suc, eqb}
use Rattle.std.proofs.Math.Option.{Option, none, some}
use Rattle.objects.specs.declared.TypeKey.{TypeKey}
use Rattle.objects.specs.Table.{Table, Member, Kind, Basic, Array, Slice, Pointer, Map, Chan, Tuple, Func, Struct, Iface, Named, kind_at, under}
use Rattle.gospec.specs.Go.{untyped_nil}

-- `a && b`, where b is not asked if a is false
abbrev pub and_then : Option Bool → Option Bool → Option Bool
and_then none b = none
and_then (some true) b = b
and_then (some false) b = some false

-- `!s.fields().iter().any(|f| !comparable(..))`
abbrev pub all_comparable : (TypeKey → Option Bool) → List Member → Option Bool
all_comparable R [] = some true
all_comparable R (f ∷ fs) = and_then (R f.type) (all_comparable R fs)

-- `match self.underlying_val(objs)`
unfoldable pub comparable_under : (TypeKey → Option Bool) → Kind → Option Bool
comparable_under R (Basic k) = some (not (eqb k untyped_nil))
comparable_under R (Array n e) = R e
comparable_under R (Slice e) = some false
comparable_under R (Pointer e) = some true
comparable_under R (Map k e) = some false
comparable_under R (Chan d e) = some true
comparable_under R (Tuple es) = some false
comparable_under R (Func v p r) = some false
comparable_under R (Struct ms) = all_comparable R ms
comparable_under R (Iface ms) = some true
comparable_under R (Named u ms) = some false

module _ (T : Table) where
  unfoldable pub comparable_impl : ℕ → TypeKey → Option Bool
  comparable_impl zero t = none
  comparable_impl (suc n) t = comparable_under (comparable_impl n) (kind_at T (under T t))
