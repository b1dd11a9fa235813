-- Refusal 17 (document 02, point 7), and when two interfaces have the same methods, over a given test `same` of types.
use Rattle.std.specs.Prelude.{◌≡◌, Bool, true, false, not, ◌&&◌, List}
use Rattle.objects.specs.Lists.{any, keep}
use Rattle.objects.specs.declared.TypeKey.{TypeKey}
use Rattle.objects.specs.Table.{Member}
use Rattle.rules.specs.Members.{identity_of, same_member}
use Rattle.interfaces.specs.Interfaces.{Interfaces, Reached, reaches, interfaces}
use Rattle.interfaces.specs.FullList.{Entry, entries, first_of}

-- the methods that i reaches, by number
abbrev pub reachable : Interfaces → TypeKey → List Entry
reachable I i = keep (λ x. reaches I i x.owner) (entries I)

module _ (I : Interfaces) (same : TypeKey → TypeKey → Bool) where
  -- "two methods of one identity whose types are not identical"
  abbrev pub unlike : Member → Member → Bool
  unlike m n = same_member I.table m n && not (same m.type n.type)

  -- `Clash`, computed (`clashes-iff`)
  unfoldable pub clashes : TypeKey → Bool
  clashes i = any (λ x. any (λ y. unlike x.method y.method) (reachable I i)) (reachable I i)

  -- i reaches two such methods, wherever they stand and whether or not an own one covers them
  pub record Clash (i : TypeKey) : Type 0 where
    pub left : Member
    pub right : Member
    pub reaches-left : Reached I i left
    pub reaches-right : Reached I i right
    pub one : identity_of I.table left ≡ identity_of I.table right
    pub two : same left.type right.type ≡ false

  -- the first interface that reaches two such methods, or none
  unfoldable pub clashing : List TypeKey
  clashing = first_of (keep clashes (interfaces I))

  -- one identity, identical types
  abbrev pub Matches : Member → Member → Type 0
  Matches m n = (identity_of I.table m ≡ identity_of I.table n) × (same m.type n.type ≡ true)

  -- 17 is not due for i: reachable methods of one identity have identical types
  abbrev pub Agrees : TypeKey → Type 0
  Agrees i = (m n : Member) → Reached I i m → Reached I i n → identity_of I.table m ≡ identity_of I.table n → same m.type n.type ≡ true

  -- every method of the one is among those of the other, with an identical type: no member is chosen
  abbrev pub Among : TypeKey → TypeKey → Type 0
  Among i j = (m : Member) → Reached I i m → (n : Member) × Reached I j n × Matches m n
