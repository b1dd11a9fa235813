-- Names in order: keys of members that ascend by id, and where an id stands among them.
use Rattle.std.specs.Prelude.{◌≡◌, true, Result, Ok, Err, List, ℕ, ◌<◌, ◌≤◌, length, get_or, take, drop}
use Rattle.objects.specs.Lists.{Bytes, In, Sorted}
use Rattle.objects.specs.Table.{obj_key}
use Rattle.objects.specs.Rows.{Words, member_count_of, member_at, table_of}
use Rattle.text.specs.Bytes.{below_bytes}
use Rattle.rules.specs.Members.{Identity, identity_of, id_bytes}

module _ (text : Bytes) (rows : Words) where
  -- the identity of a member, by its number
  unfoldable pub identity_at : ℕ → Identity
  identity_at m = identity_of (table_of text rows) (member_at text rows (obj_key m))

  -- its id
  unfoldable pub id_at : ℕ → Bytes
  id_at m = id_bytes (identity_at m)

  -- the ids of all in the list come before q, or after it
  abbrev pub AllBelow : Bytes → List ℕ → Type 0
  AllBelow q l = (k : ℕ) → In k l → below_bytes (id_at k) q ≡ true

  abbrev pub AllAbove : Bytes → List ℕ → Type 0
  AllAbove q l = (k : ℕ) → In k l → below_bytes q (id_at k) ≡ true

  -- keys of members, strictly ascending by id
  pub record Listed (l : List ℕ) : Type 0 where
    pub sorted : Sorted (λ (a b : ℕ). below_bytes (id_at a) (id_at b) ≡ true) l
    pub keys : (k : ℕ) → In k l → k < member_count_of rows

  -- where the id q stands in the list, or where it would stand if it is not there
  unfoldable pub Placed : List ℕ → Bytes → Result ℕ ℕ → Type 0
  Placed l q (Ok i) = (i < length l) × (id_at (get_or l i 0) ≡ q)
  Placed l q (Err i) = (i ≤ length l) × AllBelow q (take i l) × AllAbove q (drop i l)
