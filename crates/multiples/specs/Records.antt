-- Level records: one that is empty, one that is marked, and a level once the first record of a type is marked.
use Rattle.std.specs.Prelude.{cond, List, [], ◌∷◌, ℕ, ◌*◌}
use Rattle.objects.specs.Bounds.{max_types}
use Rattle.objects.specs.declared.TypeKey.{TypeKey}
use Rattle.objects.specs.Table.{type_key, obj_key, same_type}
use Rattle.multiples.specs.declared.EmbeddedType.{EmbeddedType}

-- two for each type
abbrev pub max_records : ℕ
max_records = 2 * max_types

abbrev pub Record : Type 0
Record = EmbeddedType

-- all zeros
abbrev pub empty : Record
empty = record { typ = type_key 0; parent = 0; place = 0; indirect = 0; multiples = 0; key = obj_key 0; level = 0; first = 0 }

-- ---- the mark

abbrev pub marked : Record → Record
marked r = record { typ = r.typ; parent = r.parent; place = r.place; indirect = r.indirect; multiples = 1; key = r.key; level = r.level; first = r.first }

-- the first record of the type is marked
abbrev pub consolidated : List Record → TypeKey → List Record
consolidated [] t = []
consolidated (r ∷ rs) t = cond (same_type r.typ t) (marked r ∷ rs) (r ∷ consolidated rs t)
