-- M: the method set of a type. Of each name the shortest ways decide, the same as in S: the first level that has the name at all decides it.
use Rattle.std.specs.Prelude.{Bool, true, false, cond, not, ◌&&◌, ◌||◌, List, [], ◌∷◌, map}
use Rattle.objects.specs.Lists.{keep, flat}
use Rattle.text.specs.Bytes.{below_bytes}
use Rattle.objects.specs.declared.TypeKey.{TypeKey}
use Rattle.objects.specs.Table.{Table, is_method, has_ptr, members_of, bare, pointer_at, iface_under, named_pointer}
use Rattle.rules.specs.Members.{Identity, identity_of, same_id, id_bytes}
use Rattle.rules.specs.Ways.{Way, member_of, shortest}

module _ (T : Table) where
  -- ---- one name

  -- "An interface's method has flag 1."
  unfoldable pub method_flag : Way → Bool
  method_flag w = w.walk.flag || iface_under T w.walk.at

  -- The way ends in a method, and in none with pointer receiver that no pointer leads to.
  unfoldable pub callable : Way → Bool
  callable w = is_method (member_of w).entity && not (has_ptr (member_of w).entity && not (method_flag w))

  -- What the shortest ways to a name give: the only one, if it ends in a method that may be called. Else the name is not in the set: two methods, a method
  -- beside a field and a method reached twice hide it, and so does, by document 02, point 2, one field: "one field at a level hides its name for all deeper
  -- levels".
  unfoldable pub only_method : List Way → List Way
  only_method [] = []
  only_method (w ∷ []) = cond (callable w) (w ∷ []) []
  only_method (w ∷ v ∷ rest) = []

  -- ---- all names

  -- "ascending by id", each once
  abbrev pub insert : Identity → List Identity → List Identity
  insert q [] = q ∷ []
  insert q (p ∷ ps) = elim (below_bytes (id_bytes q) (id_bytes p)) [
    | true ↦ q ∷ p ∷ ps
    | false ↦ cond (same_id q p) (p ∷ ps) (p ∷ insert q ps)
  ]

  abbrev pub ascending : List Identity → List Identity
  ascending [] = []
  ascending (q ∷ qs) = insert q (ascending qs)

  -- the identities that the table's methods have
  unfoldable pub method_names : List Identity
  method_names = ascending (flat (λ k. map (identity_of T) (keep (λ m. is_method m.entity) (members_of k))) T.types)

  -- "a named type whose u is a pointer has an empty set"; document 02, point 2: "a pointer to any type with an interface under it has an empty set"
  abbrev pub empty_set : TypeKey → Bool
  empty_set t = named_pointer T t || (pointer_at T t && iface_under T (bare T t))

  -- M
  unfoldable pub method_set : TypeKey → List Way
  method_set t = cond (empty_set t) [] (flat (λ q. only_method (shortest T q t)) method_names)
