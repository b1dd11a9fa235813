-- C: comparability.
use Rattle.std.specs.Prelude.{Bool, true, false, not, ℕ, zero, suc, eqb}
use Rattle.objects.specs.Lists.{every}
use Rattle.objects.specs.declared.TypeKey.{TypeKey}
use Rattle.objects.specs.Table.{Table, size, Kind, Basic, Array, Slice, Pointer, Map, Chan, Tuple, Func, Struct, Iface, Named, kind_at}

-- "a named type is judged as its u; an array is comparable if its element is, a struct if all its fields are; `yes` also for pointer, interface, chan
-- and every basic but UntypedNil; otherwise `no`", where R tells which types are comparable
unfoldable pub comparable_kind : (TypeKey → Bool) → Kind → Bool
comparable_kind R (Basic k) = not (eqb k 25)
comparable_kind R (Array n e) = R e
comparable_kind R (Slice e) = false
comparable_kind R (Pointer e) = true
comparable_kind R (Map k e) = false
comparable_kind R (Chan d e) = true
comparable_kind R (Tuple es) = false
comparable_kind R (Func v p r) = false
comparable_kind R (Struct ms) = every (λ m. R m.type) ms
comparable_kind R (Iface ms) = true
comparable_kind R (Named u ms) = R u

module _ (T : Table) where
  -- judged through fewer than n elements, fields and names
  unfoldable pub comparable_in : ℕ → TypeKey → Bool
  comparable_in zero t = false
  comparable_in (suc n) t = comparable_kind (comparable_in n) (kind_at T t)

  -- no type contains itself by value, so that as many steps are enough as there are types
  unfoldable pub comparable : TypeKey → Bool
  comparable t = comparable_in (suc (size T)) t
