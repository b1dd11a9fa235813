-- The interfaces of a table with E lines (document 02, point 7): which types they are, what their E lines name, their own methods, and which of them each reaches.
use Rattle.std.specs.Prelude.{◌≡◌, Bool, true, List, [], ◌∷◌, map, ◌↔◌, ℕ}
use Rattle.objects.specs.Lists.{In, up_to, keep}
use Rattle.objects.specs.declared.TypeKey.{TypeKey}
use Rattle.objects.specs.Table.{Table, Member, type_key, same_type}
use Rattle.rules.specs.Chains.{leads}

-- A type that is no interface has no E lines and no own methods here. `table` tells the identities of members.
pub record Interfaces : Type 0 where
  pub table : Table
  -- how many types there are
  pub total : ℕ
  pub iface : TypeKey → Bool
  -- "A named type stands also for its u."
  pub under : TypeKey → TypeKey
  -- the targets of its E lines, in order
  pub embeds : TypeKey → List TypeKey
  -- its M lines, "which now hold only its own methods"
  pub own : TypeKey → List Member

-- "reachable through embedded interfaces": a chain of E lines of any length, none included. An E line to a name leads to the interface under it.
pub data Reaches (I : Interfaces) : TypeKey → TypeKey → Type 0 where
  itself : {i : TypeKey} → Reaches I i i
  through : {i e j : TypeKey} → In e (I.embeds i) → Reaches I (I.under e) j → Reaches I i j

module _ (I : Interfaces) where
  -- the types, by number
  unfoldable pub types : List TypeKey
  types = map type_key (up_to I.total)

  -- the interfaces, by number
  unfoldable pub interfaces : List TypeKey
  interfaces = keep I.iface types

  -- the interfaces that the E lines of i lead to
  abbrev pub targets : TypeKey → List TypeKey
  targets i = map I.under (I.embeds i)

  -- `Reaches`, computed (`reaches-iff`)
  unfoldable pub reaches : TypeKey → TypeKey → Bool
  reaches i j = leads same_type targets (same_type j) I.total [] (i ∷ [])

  -- a test tells what i reaches; of types that are no interfaces it may say anything
  abbrev pub Tells : TypeKey → (TypeKey → Bool) → Type 0
  Tells i reached = (j : TypeKey) → I.iface j ≡ true → (reached j ≡ true) ↔ Reaches I i j

  -- a method that i reaches
  pub record Reached (i : TypeKey) (m : Member) : Type 0 where
    pub owner : TypeKey
    pub way : Reaches I i owner
    pub owns : In m (I.own owner)
