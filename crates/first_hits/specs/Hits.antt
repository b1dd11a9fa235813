-- What the rows' members make of the names of methods: the methods and fields that are met, in the order of rows, and what is kept of each name.
use Rattle.std.specs.Prelude.{◌≡◌, Bool, cond, ◌||◌, List, [], ◌∷◌, ◌++◌, map, ℕ, zero, suc, ◌+◌, ◌<◌, ◌≤◌, eqb, leb, length, get_or, take, set}
use Rattle.objects.specs.Lists.{Bytes, any, keep, In}
use Rattle.objects.specs.Table.{obj_key, bit}
use Rattle.objects.specs.Rows.{Words, type_count, member_count_of}
use Rattle.objects.specs.Types.{named_read, number_read, under_read, first_read, total_read}
use Rattle.rules.specs.Members.{same_id}
use Rattle.rules.specs.Library.{Library}
use Rattle.multiples.specs.Records.{Record}
use Rattle.walk_rows.specs.Records.{row_of, level_of}
use Rattle.levels.specs.declared.Found.{Found}
use Rattle.first_hits.specs.declared.FirstHit.{FirstHit}
use Rattle.first_hits.specs.declared.Stretch.{Stretch}
use Rattle.first_hits.specs.Names.{identity_at, Listed}

-- ---- what is kept of a name

abbrev pub empty : FirstHit
empty = record { row = 0; place = 0; hidden = 0 }

abbrev pub hit_at : List FirstHit → ℕ → FirstHit
hit_at hits k = get_or hits k empty

-- the row that it says
abbrev pub hit_row : List FirstHit → ℕ → ℕ
hit_row hits k = (hit_at hits k).row

abbrev pub hit_place : List FirstHit → ℕ → ℕ
hit_place hits k = (hit_at hits k).place

-- the mark
abbrev pub hit_hidden : List FirstHit → ℕ → ℕ
hit_hidden hits k = (hit_at hits k).hidden

-- one that is marked
abbrev pub hidden : FirstHit → FirstHit
hidden h = record { row = h.row; place = h.place; hidden = 1 }

-- there is one under key k
pub record Room (hits : List FirstHit) (k : ℕ) : Type 0 where
  pub inside : k < length hits

-- there is one for each member
abbrev pub Rooms : Words → List FirstHit → Type 0
Rooms rows hits = (k : ℕ) → k < member_count_of rows → Room hits k

-- both rows are of one level
abbrev pub beside : List Record → ℕ → ℕ → Bool
beside walk i j = eqb (level_of walk i) (level_of walk j)

-- the first row is not deeper than the second
abbrev pub above : List Record → ℕ → ℕ → Bool
above walk i j = leb (level_of walk i) (level_of walk j)

-- the name under key k is hidden, if it is to be
unfoldable pub hidden_if : Bool → ℕ → List FirstHit → List FirstHit
hidden_if hide k hits = cond hide (set hits k (hidden (hit_at hits k))) hits

-- a method of the name is met again, at a row
unfoldable pub marked_if : List Record → ℕ → ℕ → List FirstHit → List FirstHit
marked_if walk row k hits = hidden_if (beside walk (hit_row hits k) row) k hits

-- a field of the name is met, at a row
unfoldable pub covered_if : List Record → ℕ → ℕ → List FirstHit → List FirstHit
covered_if walk row k hits = hidden_if (above walk row (hit_row hits k)) k hits

-- ---- the members that are met

-- so many from a first one on, at the places from 0 on
unfoldable pub stretch_met : ℕ → ℕ → ℕ → List Found
stretch_met row first zero = []
stretch_met row first (suc k) = stretch_met row first k ++ (record { row = row; place = k; member = obj_key (first + k) } ∷ [])

-- members of the table, where it is a library and the row's type is one of its types
abbrev pub Within : Words → List Record → ℕ → Stretch → Type 0
Within rows walk i s = (text : Bytes) → Library text rows → (row_of walk i).type.0 < type_count rows → s.first + s.total ≤ member_count_of rows

-- the kinds whose members stand under a type
abbrev pub struct_kind : ℕ
struct_kind = 8

abbrev pub iface_kind : ℕ
iface_kind = 9

module _ (rows : Words) (walk : List Record) where
  -- the methods of the row's type, if it is named
  unfoldable pub declared_met : ℕ → List Found
  declared_met i = cond (named_read rows (row_of walk i).type) (stretch_met i (first_read rows (row_of walk i).type) (total_read rows (row_of walk i).type)) []

  -- the members of what is under it, if that is of this kind
  unfoldable pub parts_met : ℕ → ℕ → List Found
  parts_met kind i =
      cond (eqb (number_read rows (under_read rows (row_of walk i).type)) kind)
      (stretch_met i (first_read rows (under_read rows (row_of walk i).type)) (total_read rows (under_read rows (row_of walk i).type))) []

  -- the methods and the fields of the first n rows
  unfoldable pub methods_met : ℕ → List Found
  methods_met zero = []
  methods_met (suc n) = (methods_met n ++ declared_met n) ++ parts_met iface_kind n

  unfoldable pub fields_met : ℕ → List Found
  fields_met zero = []
  fields_met (suc n) = fields_met n ++ parts_met struct_kind n

-- ---- the names

module _ (text : Bytes) (rows : Words) where
  -- it has the name that key k stands for
  abbrev pub named : ℕ → Found → Bool
  named k w = same_id (identity_at text rows w.member.0) (identity_at text rows k)

  -- The first n names ascend, and there is room for one for each member.
  pub record Held (names : Words) (n : ℕ) (hits : List FirstHit) : Type 0 where
    pub listed : Listed text rows (take n names)
    pub few : n ≤ member_count_of rows
    pub long : member_count_of rows ≤ length names
    pub room : Rooms rows hits

  -- Of the methods met of one name, key k's was the first, where the hit says, and the name is hidden exactly if another of its level followed.
  pub record Decides (walk : List Record) (met : List Found) (k : ℕ) (hits : List FirstHit) : Type 0 where
    pub others : List Found
    pub first : met ≡ record { row = hit_row hits k; place = hit_place hits k; member = obj_key k } ∷ others
    pub again : hit_hidden hits k ≡ bit (any (λ v. beside walk (hit_row hits k) v.row) others)

  -- The methods met have their names among the keys, and each of these is decided by the methods met of it.
  pub record Settles (walk : List Record) (met : List Found) (keys : List ℕ) (hits : List FirstHit) : Type 0 where
    pub all : (w : Found) → In w met → In (identity_at text rows w.member.0) (map (identity_at text rows) keys)
    pub decides : (k : ℕ) → In k keys → Decides walk (keep (named k) met) k hits

  -- The same, with the fields met of the name: one that is not deeper hides it too.
  pub record Hides (walk : List Record) (methods fields : List Found) (k : ℕ) (hits : List FirstHit) : Type 0 where
    pub others : List Found
    pub first : methods ≡ record { row = hit_row hits k; place = hit_place hits k; member = obj_key k } ∷ others
    pub hidden : hit_hidden hits k ≡ bit (any (λ v. beside walk (hit_row hits k) v.row) others || any (λ v. above walk v.row (hit_row hits k)) fields)

  pub record Covered (walk : List Record) (methods fields : List Found) (keys : List ℕ) (hits : List FirstHit) : Type 0 where
    pub all : (w : Found) → In w methods → In (identity_at text rows w.member.0) (map (identity_at text rows) keys)
    pub hides : (k : ℕ) → In k keys → Hides walk (keep (named k) methods) (keep (named k) fields) k hits
