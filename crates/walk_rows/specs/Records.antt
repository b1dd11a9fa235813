-- The rows of kept walks in lent records: what a record says, and what a put record and a put first leave. The field `first` of record k is not its own: it says
-- which record is the first of type k.
use Rattle.std.specs.Prelude.{Bool, List, [], ◌∷◌, ◌++◌, ℕ, zero, suc, ◌+◌, eqb, get_or, set}
use Rattle.objects.specs.declared.TypeKey.{TypeKey}
use Rattle.multiples.specs.Records.{Record, empty}
use Rattle.walks.specs.Rows.{Row}

-- ---- a row

-- the row that a record says; the mark is not in it
unfoldable pub row_meant : Record → Row
row_meant r = record {
  type = r.typ;
  parent = r.parent;
  place = r.place;
  key = r.key;
  flag = eqb r.indirect 1;
  level = r.level;
}

-- record i; one that is not there reads as an empty one
abbrev pub record_at : List Record → ℕ → Record
record_at walk i = get_or walk i empty

unfoldable pub row_of : List Record → ℕ → Row
row_of walk i = row_meant (record_at walk i)

-- the first n rows
unfoldable pub rows_of : List Record → ℕ → List Row
rows_of walk zero = []
rows_of walk (suc n) = rows_of walk n ++ (row_of walk n ∷ [])

unfoldable pub level_of : List Record → ℕ → ℕ
level_of walk i = (record_at walk i).level

-- the mark of record i
unfoldable pub mark_of : List Record → ℕ → Bool
mark_of walk i = eqb (record_at walk i).multiples 1

-- the number of type t's first record and one, 0 for none
unfoldable pub first_of : List Record → TypeKey → ℕ
first_of walk t = (record_at walk t.0).first

-- ---- stores

-- a record with another number in the field that is not its own
abbrev pub firsted : Record → ℕ → Record
firsted r k = record { typ = r.typ; parent = r.parent; place = r.place; indirect = r.indirect; multiples = r.multiples; key = r.key; level = r.level; first = k }

-- record n is put; the field that is not its own stays
unfoldable pub record_put : List Record → ℕ → Record → List Record
record_put walk n e = set walk n (firsted e (record_at walk n).first)

-- record n is type t's first
unfoldable pub first_put : List Record → TypeKey → ℕ → List Record
first_put walk t n = set walk t.0 (firsted (record_at walk t.0) (n + 1))
