-- `Map<String, V>` as lookup.rs uses it, from ids to values. The key is the identity itself: two members of a table have one id exactly if they have one
-- identity (`id-injective`).
use Rattle.std.specs.Prelude.{Bool, true, false, cond, List, [], ◌∷◌, map}
use Rattle.std.proofs.Math.Option.{Option, none, some}
use Rattle.rules.specs.Members.{Identity, same_id}

pub record Entry (A : Type 0) : Type 0 where
  pub key : Identity
  pub value : A

-- what was inserted, the newest first: it hides what was there under its key
abbrev pub Map : Type 0 → Type 0
Map A = List (Entry A)

module _ {A : Type 0} where
  abbrev pub insert : Identity → A → Map A → Map A
  insert q v m = record { key = q; value = v } ∷ m

  abbrev pub get : Map A → Identity → Option A
  get [] q = none
  get (e ∷ m) q = cond (same_id e.key q) (some e.value) (get m q)

  abbrev pub is_some : Option A → Bool
  is_some none = false
  is_some (some v) = true

  -- `contains_key`
  abbrev pub contains : Map A → Identity → Bool
  contains m q = is_some (get m q)

  -- the keys, in the order in which a loop may go through the map; one that was inserted twice is there twice
  abbrev pub keys : Map A → List Identity
  keys m = map (λ e. e.key) m

  -- `if !base.contains_key(k) { base.insert(k, v) }`, where there is a v
  abbrev pub insert_some : Identity → Option A → Map A → Map A
  insert_some q none m = m
  insert_some q (some v) m = insert q v m

  abbrev pub insert_new : Identity → Option A → Map A → Map A
  insert_new q o m = cond (contains m q) m (insert_some q o m)
