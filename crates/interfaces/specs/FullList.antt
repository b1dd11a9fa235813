-- The full method list of an interface (document 02, point 7): as it is computed (`full_list`), and as the sentence has it (`FullList`).
use Rattle.std.specs.Prelude.{◌≡◌, Bool, List, [], ◌∷◌, ◌++◌, map, ◌↔◌, ◌≤◌}
use Rattle.objects.specs.Lists.{keep, flat, In, Sorted}
use Rattle.objects.specs.declared.TypeKey.{TypeKey}
use Rattle.objects.specs.Table.{Member, same_type}
use Rattle.rules.specs.Members.{Identity, identity_of, same_id}
use Rattle.rules.specs.MethodSet.{ascending}
use Rattle.rules.specs.Sound.{Lower}
use Rattle.interfaces.specs.Interfaces.{Interfaces, types, reaches, Reached}

-- a method with the interface that it stands under
pub record Entry : Type 0 where
  pub owner : TypeKey
  pub method : Member

abbrev pub entry : TypeKey → Member → Entry
entry t m = record { owner = t; method = m }

-- the first alone, nothing of nothing
abbrev pub first_of : {A : Type 0} → List A → List A
first_of [] = []
first_of (x ∷ l) = x ∷ []

-- Of methods of one identity that stand by number, "its member is the own one if there is one, otherwise the one of the least number"; none, if none is reached.
abbrev pub choice : (i : TypeKey) (reached : TypeKey → Bool) → List Entry → List Entry
choice i reached l = first_of (keep (λ x. same_type i x.owner) l ++ keep (λ x. reached x.owner) l)

module _ (I : Interfaces) where
  abbrev pub identity_at : Entry → Identity
  identity_at x = identity_of I.table x.method

  -- the methods of all interfaces, by number
  unfoldable pub entries : List Entry
  entries = flat (λ t. map (entry t) (I.own t)) (types I)

  -- those of one identity, by number
  abbrev pub of_identity : Identity → List Entry
  of_identity q = keep (λ x. same_id q (identity_at x)) entries

  -- the identities of all interfaces' methods, ascending by id
  unfoldable pub names : List Identity
  names = ascending I.table (map identity_at entries)

  -- THE FULL LIST: "every method reachable through embedded interfaces, one for each identity, ascending by id"
  unfoldable pub full_list : TypeKey → List Member
  full_list t = map (λ x. x.method) (flat (λ q. choice (I.under t) (reaches I (I.under t)) (of_identity q)) names)

-- The method that stands for its identity in the full list of i: own is own of i itself, and the least is taken of all that i reaches.
pub data Stands (I : Interfaces) (i : TypeKey) (m : Member) : Type 0 where
  own : In m (I.own i) → Stands I i m
  least : Reached I i m
      → ((n : Member) → In n (I.own i) → identity_of I.table n ≡ identity_of I.table m → ⊥)
      → ((n : Member) → Reached I i n → identity_of I.table n ≡ identity_of I.table m → m.key.0 ≤ n.key.0)
      → Stands I i m

-- A full list of i, as the sentence has it. There is one only (`full-one`), and `full_list` is it (`full`).
pub record FullList (I : Interfaces) (i : TypeKey) (l : List Member) : Type 0 where
  pub ascends : Sorted (Lower I.table) l
  pub holds : (m : Member) → In m l ↔ Stands I i m
