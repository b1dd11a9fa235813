-- Loading: the table that a text holds, or the refusal (2 to 10, 14) with its line.
use Rattle.std.specs.Prelude.{Bool, true, cond, ◌&&◌, ◌||◌, List, [], ◌∷◌, ℕ, suc, ◌≤◌, ltb, length}
use Rattle.std.proofs.Math.Option.{Option, none, some}
use Rattle.objects.specs.Bounds.{max_packages, max_per_type, Bounds, bounds}
use Rattle.objects.specs.Lists.{Bytes, empty, last_or}
use Rattle.objects.specs.Table.{Table, size, member_count, obj_key, Entity, Field, Method, Kind, Basic, is_struct, is_iface, is_named, members_of, no_table, plus_package, plus_type, plus_member}
use Rattle.text.specs.Bytes.{ascii, same_bytes}
use Rattle.text.specs.Lines.{pieces, fields}
use Rattle.rules.specs.Forms.{Line, package_line, type_line, member_line, line_of}
use Rattle.rules.specs.Checks.{Item, items, lacking, forbidden, clashing, containing}
use Rattle.rules.specs.Stages.{first_unordered, first_item}

-- a refusal with its line, or the table
pub data Loaded : Type 0 where
  refused : (n line : ℕ) → Loaded
  loaded : Table → Loaded

-- ---- 4 to 6, and what a line adds

-- the type above: the last so far
abbrev pub last_kind : Table → Kind
last_kind T = last_or (Basic 0) T.types

-- the table with one line more, whose number in the text is `line`
unfoldable pub added : Table → ℕ → Line → Table
added T line (package_line path) = plus_package T path
added T line (type_line k) = plus_type T line k
added T line (member_line name pkg type entity) = plus_member T line (record { key = obj_key (member_count T); name = name; pkg = pkg; type = type; entity = entity })

-- 5: "F not under a struct, M not under a named type or interface"
abbrev pub stands : Entity → Kind → Bool
stands (Field emb tag) k = is_struct k
stands (Method ptr) k = is_named k || is_iface k

-- 5: "A line stands out of place: P after T, .."
abbrev pub in_place : Table → Line → Bool
in_place T (package_line path) = empty T.types
in_place T (type_line k) = true
in_place T (member_line name pkg type entity) = stands entity (last_kind T)

-- For any bounds; those of packages and of the members of one type are no part of them.
module _ (b : Bounds) where
  -- 6: "A 65th package, 257th type, 1,025th member, or 256th member of one type"; document 02, point 4: 513th type, 2,049th member
  abbrev pub has_room : Table → Line → Bool
  has_room T (package_line path) = ltb (length T.packages) max_packages
  has_room T (type_line k) = ltb (size T) b.types
  has_room T (member_line name pkg type entity) = ltb (member_count T) b.members && ltb (length (members_of (last_kind T))) max_per_type

  -- a line of right form: 5, then 6
  abbrev pub placed : Table → ℕ → Line → Loaded
  placed T line l = cond (in_place T l) (cond (has_room T l) (loaded (added T line l)) (refused 6 line)) (refused 5 line)

  -- "4 to 6 are tried in turn on each line"
  abbrev pub line_added : Table → ℕ → Option Line → Loaded
  line_added T line none = refused 4 line
  line_added T line (some l) = placed T line l

  -- the pieces of the text from a line on; the last is no line if it is empty, and otherwise lacks its newline (4)
  unfoldable pub lines_from : ℕ → Table → List Bytes → Loaded
  lines_from line T [] = loaded T
  lines_from line T (last ∷ []) = cond (empty last) (loaded T) (refused 4 line)
  lines_from line T (piece ∷ next ∷ rest) = elim (line_added T line (line_of (fields piece))) [
    | refused n at ↦ refused n at
    | loaded U ↦ lines_from (suc line) U (next ∷ rest)
  ]

-- ---- the whole

-- refusal n at the line that a stage has found, or the rest
unfoldable pub staged : ℕ → Option ℕ → Loaded → Loaded
staged n none rest = rest
staged n (some line) rest = refused n line

-- "7 to 10 each over the whole text before the next"; 14 "after refusal 6 and before 7"
unfoldable pub checked : Table → Loaded
checked T =
    let finds : (Item → Bool) → Option ℕ = λ bad. first_item T bad (items T) in
    staged 14 (first_unordered T.packages)
    (staged 7 (finds (lacking T))
    (staged 8 (finds (forbidden T))
    (staged 9 (finds (clashing T))
    (staged 10 (finds (containing T))
    (loaded T)))))

abbrev pub then_checked : Loaded → Loaded
then_checked (refused n line) = refused n line
then_checked (loaded T) = checked T

module _ (b : Bounds) where
  -- 3: "The first line is not exactly `typetable`, tab, `1`, newline (line 1, also for empty text)."
  abbrev pub headed : List Bytes → Loaded
  headed [] = refused 3 1
  headed (first ∷ []) = refused 3 1
  headed (first ∷ next ∷ rest) = cond (same_bytes first (ascii "typetable\t1"))
      (then_checked (lines_from b 2 no_table (next ∷ rest)))
      (refused 3 1)

  -- 2: "The table has more than 32,768 bytes."; document 02, point 4: 65,536
  unfoldable pub load_within : Bytes → Loaded
  load_within text = cond (ltb b.bytes (length text)) (refused 2 0) (headed (pieces text))

abbrev pub load : Bytes → Loaded
load text = load_within bounds text

-- a text and its table are within b
pub record Within (b : Bounds) (text : Bytes) (T : Table) : Type 0 where
  pub bytes : length text ≤ b.bytes
  pub types : size T ≤ b.types
  pub members : member_count T ≤ b.members

-- no bound of b is above that of b'
pub record Wider (b b' : Bounds) : Type 0 where
  pub bytes : b.bytes ≤ b'.bytes
  pub types : b.types ≤ b'.types
  pub members : b.members ≤ b'.members
