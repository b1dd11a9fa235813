-- Marks by which refusal 9 sees that a name is new without comparing it. A mark stands for a hash of a name and a number: the type under which the name
-- was met, or, for a field, the struct. Marks are only ever added. A name without its mark was not met; one with it may have been, and is compared.
use Rattle.std.specs.Prelude.{◌≡◌, Bool, false, List, ◌≢◌, ℕ, ◌+◌, ◌*◌, ◌/◌, ◌%◌, ◌^◌, take}
use Rattle.objects.specs.declared.TypeKey.{TypeKey}
use Rattle.objects.specs.Bounds.{max_types}
use Rattle.objects.specs.Lists.{Bytes, In}
use Rattle.objects.specs.Table.{Member, type_key, obj_key, members_of, fields_of, kind_at}
use Rattle.objects.specs.Rows.{Words, word_at, type_word, member_at, members_from, table_of}
use Rattle.objects.specs.Types.{number_read, first_read}
use Rattle.text.specs.Hash.{hashes, hash_from}
use Rattle.rules.specs.Checks.{member_item, clashing}

-- ---- places of marks

-- marks of one half: each name has a mark in both
abbrev pub half : ℕ
half = 16_384

abbrev pub all_marks : ℕ
all_marks = 2 * half

-- words that hold them, 32 to a word
abbrev pub bit_words : ℕ
bit_words = all_marks / 32

-- numbers under which names are marked
abbrev pub numbers : ℕ
numbers = 2 * max_types

-- that of the fields of a struct; a type's own is its number
unfoldable pub fields_number : ℕ → ℕ
fields_number u = max_types + u % max_types

-- the place of a hash and a number
unfoldable pub place_of : ℕ → ℕ → ℕ
place_of k h = (h + k * 2_654_435) * 69_069 % hashes

unfoldable pub high_place : ℕ → ℕ
high_place p = p / (hashes / half)

unfoldable pub low_place : ℕ → ℕ
low_place p = half + (p + p / 65_536) % half

-- ---- what is marked

-- the bit of a place: 0 until it is marked
unfoldable pub bit_at : Words → ℕ → ℕ
bit_at marks i = word_at marks (i / 32) / 2 ^ (i % 32) % 2

abbrev pub MarkedAt : Words → ℕ → Type 0
MarkedAt marks p = (bit_at marks (high_place p) ≢ 0) × (bit_at marks (low_place p) ≢ 0)

unfoldable pub Marked : Words → ℕ → Bytes → Type 0
Marked marks k name = MarkedAt marks (place_of k (hash_from 0 name))

-- no mark is taken back
abbrev pub Grows : Words → Words → Type 0
Grows marks after = (i : ℕ) → bit_at marks i ≢ 0 → bit_at after i ≢ 0

-- all of these members' names are marked
abbrev pub AllMarked : Words → ℕ → List Member → Type 0
AllMarked marks k ms = (x : Member) → In x ms → Marked marks k x.name

-- ---- what the code does with them

-- a mark is added; the answer is no if it is new
pub record Met (marks : Words) (p : ℕ) (after : Words) (r : Bool) : Type 0 where
  pub grows : Grows marks after
  pub here : MarkedAt after p
  pub new : r ≡ false → MarkedAt marks p → ⊥

-- the names of these members are marked
pub record Noted (marks : Words) (k : ℕ) (ms : List Member) (after : Words) : Type 0 where
  pub grows : Grows marks after
  pub all : AllMarked after k ms

module _ (text : Bytes) (rows : Words) where
  -- the fields of u's struct are marked
  unfoldable pub FieldsMarked : Words → TypeKey → Type 0
  FieldsMarked marks u = AllMarked marks (fields_number u.0) (fields_of (kind_at (table_of text rows) u))

  -- they are where the type's word is set
  abbrev pub Ready : Words → Words → Type 0
  Ready marks done = (u : TypeKey) → word_at done u.0 ≢ 0 → FieldsMarked marks u

  pub record Readied (u : TypeKey) (marks done : Words) : Type 0 where
    pub ready : Ready marks done
    pub fields : FieldsMarked marks u

  -- Under t: the members above its i-th, unless it is an interface, and the fields of its struct, if it is a named type.
  pub record Seen (marks : Words) (t : TypeKey) (i : ℕ) : Type 0 where
    pub own : number_read rows t ≢ 9 → AllMarked marks t.0 (members_from text rows (first_read rows t) i)
    pub fields : number_read rows t ≡ 10 → FieldsMarked marks (type_key (type_word rows t 1))

  pub record Prepared (t : TypeKey) (marks done : Words) : Type 0 where
    pub ready : Ready marks done
    pub seen : Seen marks t 0

  -- the line of member i under t was looked at
  pub record Looked (marks : Words) (t : TypeKey) (i : ℕ) (r : Bool) (after : Words) : Type 0 where
    pub answer : r ≡ clashing (table_of text rows) (member_item t (kind_at (table_of text rows) t) (take i (members_of (kind_at (table_of text rows) t))) (member_at text rows (obj_key (first_read rows t + i))))
    pub grows : Grows marks after
    pub seen : Seen after t (i + 1)
