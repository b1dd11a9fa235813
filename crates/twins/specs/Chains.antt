-- Types by a hash of what is compared of them: types that agree are in one bucket. The types of a bucket are chained, from the last to the first: a link is the
-- number of a type and one more, or 0 at the end.
use Rattle.std.specs.Prelude.{◌≡◌, List, [], ◌∷◌, ◌≢◌, ℕ, ◌+◌, ◌-◌, ◌*◌, ◌%◌, ◌<◌, ◌≤◌, get_or}
use Rattle.objects.specs.Bounds.{max_types}
use Rattle.objects.specs.declared.TypeKey.{TypeKey}
use Rattle.objects.specs.Rows.{Words}
use Rattle.objects.specs.Table.{Table, type_key, Member, kind_number, members_of, kind_at}
use Rattle.text.specs.Hash.{hashes, hash_from}
use Rattle.rules.specs.Identity.{own_number, parts}

-- a hash with a number more
unfoldable pub mixed : ℕ → ℕ → ℕ
mixed h x = (h + x) * 1_103_515 % hashes

-- with the labels of these types more
unfoldable pub mixed_labels : Words → ℕ → List TypeKey → ℕ
mixed_labels labels h [] = h
mixed_labels labels h (p ∷ ps) = mixed_labels labels (mixed h (get_or labels p.0 0)) ps

-- the hash of the first name, by which structs and interfaces are told apart before their parts have labels
unfoldable pub first_name : List Member → ℕ
first_name [] = 0
first_name (m ∷ ms) = hash_from 0 m.name

-- as many buckets as there may be types
abbrev pub buckets : ℕ
buckets = max_types

module _ (T : Table) (labels : Words) where
  unfoldable pub bucket_of : TypeKey → ℕ
  bucket_of t = mixed_labels labels (mixed (mixed (mixed (first_name (members_of (kind_at T t))) (kind_number (kind_at T t))) (own_number t (kind_at T t))) (get_or labels t.0 0)) (parts (kind_at T t)) % buckets

  -- the link's type is in bucket b, and no type after it and before h is
  pub record Covers (link h b : ℕ) : Type 0 where
    pub within : link ≤ h
    pub there : link ≢ 0 → bucket_of (type_key (link - 1)) ≡ b
    pub passed : (v : ℕ) → link ≤ v → v < h → bucket_of (type_key v) ≢ b

  -- the links of the first n types
  abbrev pub Linked : Words → ℕ → Type 0
  Linked links n = (u : ℕ) → u < n → Covers (get_or links u 0) u (bucket_of (type_key u))

  -- the chains of all buckets begin with the last of the first n types
  abbrev pub Headed : Words → ℕ → Type 0
  Headed heads n = (b : ℕ) → b < buckets → Covers (get_or heads b 0) n b
