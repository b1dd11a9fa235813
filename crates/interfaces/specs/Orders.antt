-- Refusal 16 (document 02, point 7), and the sets of what each interface reaches, made in one pass along an order of the interfaces.
use Rattle.std.specs.Prelude.{◌≡◌, Bool, true, false, cond, ◌||◌, List, [], ◌∷◌, ℕ, ◌≤◌, ◌<◌}
use Rattle.objects.specs.Lists.{any, keep, In}
use Rattle.objects.specs.declared.TypeKey.{TypeKey}
use Rattle.objects.specs.Table.{same_type}
use Rattle.rules.specs.Chains.{leads}
use Rattle.interfaces.specs.Interfaces.{Interfaces, Reaches, interfaces, targets}
use Rattle.interfaces.specs.FullList.{first_of}

-- the interface of the least number of which P holds: where refusals 16 and 17 name a T line
pub record LeastInterface (I : Interfaces) (P : TypeKey → Type 0) (t : TypeKey) : Type 0 where
  pub face : I.iface t ≡ true
  pub is : P t
  pub least : (u : TypeKey) → I.iface u ≡ true → P u → t.0 ≤ u.0

module _ (I : Interfaces) where
  -- ---- 16: "an interface that embeds itself through E lines", one or more

  abbrev pub EmbedsItself : TypeKey → Type 0
  EmbedsItself i = (e : TypeKey) × In e (I.embeds i) × Reaches I (I.under e) i

  -- `EmbedsItself`, computed (`embeds-itself-iff`)
  unfoldable pub embeds_itself : TypeKey → Bool
  embeds_itself i = leads same_type (targets I) (same_type i) I.total [] (targets I i)

  -- "at the T line of the least-numbered interface on such a cycle": that interface, or none. A name on a cycle is no interface on it.
  unfoldable pub cyclic : List TypeKey
  cyclic = first_of (keep embeds_itself (interfaces I))

  -- ---- an order along E lines

  -- ranks fall along E lines
  abbrev pub Falls : (TypeKey → ℕ) → Type 0
  Falls rank = (i e : TypeKey) → In e (I.embeds i) → rank (I.under e) < rank i

  -- what an interface embeds stands behind it
  abbrev pub Ordered : List TypeKey → Type 0
  Ordered [] = Unit {0}
  Ordered (i ∷ done) = ((e : TypeKey) → In e (I.embeds i) → In (I.under e) done) × Ordered done

  -- what i reaches, made of itself and of the sets of those that its E lines lead to
  abbrev pub united : (TypeKey → TypeKey → Bool) → TypeKey → TypeKey → Bool
  united sets i j = same_type j i || any (λ e. sets (I.under e) j) (I.embeds i)

  -- sets that are made so, as far as they speak of interfaces
  abbrev pub Unions : (TypeKey → TypeKey → Bool) → Type 0
  Unions sets = (i j : TypeKey) → I.iface i ≡ true → I.iface j ≡ true → sets i j ≡ united sets i j

  -- the sets in one pass: each is made once, of those made before; the last made comes first
  unfoldable pub reach_sets : List TypeKey → TypeKey → TypeKey → Bool
  reach_sets [] i j = false
  reach_sets (k ∷ done) i j = cond (same_type k i) (united (reach_sets done) k j) (reach_sets done i j)
