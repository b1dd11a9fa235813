-- A walk over the lines of the table that rows hold, by whatever test: what the code reads of a line and of its number says what a stage finds from there on.
use mathlib.Core.Path.{◌≡◌, sym, ap, ◌∙◌}
use mathlib.Core.Bool.{Bool, true, false}
use mathlib.Core.List.{List}
use mathlib.Core.Option.{Option, some}
use Prim.Native.Nat.{ℕ, ◌+◌, ◌<◌, ◌≤◌}
use lib.ListN.{length, get_or}
use Rattle.objects.specs.declared.TypeKey.{TypeKey}
use Rattle.objects.specs.declared.ObjKey.{ObjKey}
use Rattle.std.specs.declared.option.Option as code
use Rattle.std.specs.Prelude.{Some, None}
use Rattle.objects.specs.Lists.{Bytes}
use Rattle.objects.specs.Table.{Member, Kind, type_key, obj_key, size, members_of, kind_at}
use Rattle.objects.specs.Rows.{Words, type_count, member_count_of, type_word, member_word, member_at, table_of}
use Rattle.objects.specs.Types.{first_read, found}
use Rattle.objects.specs.Laid.{Laid}
use Rattle.objects.proofs.RowLaws.{size-read, type-line-read, member-line-read}
use Rattle.rules.specs.Checks.{Item, type_item, member_item, line_of_item}
use Rattle.rules.specs.Stages.{first_item, lines_under, lines_of}
use Rattle.rules.proofs.ItemLaws.{types_left, types-end, types-on, types-stop, lines-stop, lines-on, members_left, members-end, members-on, members-stop}
use Rattle.references.specs.Lines.{lines_read}
use Rattle.references.proofs.RowKinds.{members-count, members-get, member-there}

-- ---- the line of the text that a row stands on

module _ (text : Bytes) (rows : Words) where
  pub type-line : (t : TypeKey) (k : Kind) → t.0 < type_count rows → line_of_item (table_of text rows) (type_item t k) ≡ type_word rows t 6
  unfolding line_of_item
  type-line t k h = type-line-read text rows t 0 h

  pub member-line : (t : TypeKey) (k : Kind) (above : List Member) (m : ObjKey) → m.0 < member_count_of rows
      → line_of_item (table_of text rows) (member_item t k above (member_at text rows m)) ≡ member_word rows m 7
  unfolding line_of_item member_at
  member-line t k above m h = member-line-read text rows m 0 h

-- ---- the lines of one type

module _ (text : Bytes) (rows : Words) (bad : Item → Bool) (t : TypeKey) (h : t.0 < type_count rows) where
  module _ {b : Bool} (pb : b ≡ bad (type_item t (kind_at (table_of text rows) t))) where
    pub type-fails : b ≡ true → {line : ℕ} → line ≡ type_word rows t 6
        → found (Some line) ≡ first_item (table_of text rows) bad (lines_of t (kind_at (table_of text rows) t))
    unfolding found
    type-fails e p = ap some (p ∙ sym (type-line text rows t _ h)) ∙ sym (lines-stop (table_of text rows) bad t _ (sym pb ∙ e))

    pub type-passes : b ≡ false → {r : Option ℕ} → r ≡ first_item (table_of text rows) bad (lines_under t (kind_at (table_of text rows) t))
        → r ≡ first_item (table_of text rows) bad (lines_of t (kind_at (table_of text rows) t))
    type-passes e p = p ∙ sym (lines-on (table_of text rows) bad t _ (sym pb ∙ e))

  -- ---- from its member i on: n are under it, from a first one on

  module _ {n : ℕ} (pn : n ≡ lines_read rows t) (i : ℕ) where
    pub under-end : n ≤ i → first_item (table_of text rows) bad (members_left t (kind_at (table_of text rows) t) i) ≡ found None
    unfolding found
    under-end l = members-end (table_of text rows) bad t _ i (rw (members-count text rows t h, ← pn) l)

    module _ (l : i < n) {first : ℕ} (pf : first ≡ first_read rows t) {b : Bool}
        (pb : (above : List Member) → b ≡ bad (member_item t (kind_at (table_of text rows) t) above (member_at text rows (obj_key (first + i))))) where
      below : i < lines_read rows t
      below = rw pn at l

      counted : i < length (members_of (kind_at (table_of text rows) t))
      counted = rw (members-count text rows t h, ← pn) l

      got : (d : Member) → get_or (members_of (kind_at (table_of text rows) t)) i d ≡ member_at text rows (obj_key (first + i))
      got d = members-get text rows t h i d below ∙ rw pf

      pub under-on : b ≡ false → first_item (table_of text rows) bad (members_left t (kind_at (table_of text rows) t) i)
          ≡ first_item (table_of text rows) bad (members_left t (kind_at (table_of text rows) t) (i + 1))
      under-on e = members-on (table_of text rows) bad t _ i (member_at text rows (obj_key (first + i))) counted (got _) (sym (pb _) ∙ e)

      pub under-stop : Laid rows → b ≡ true → {line : ℕ} → line ≡ member_word rows (obj_key (first + i)) 7
          → first_item (table_of text rows) bad (members_left t (kind_at (table_of text rows) t) i) ≡ found (Some line)
      unfolding found
      under-stop laid e p =
          members-stop (table_of text rows) bad t _ i (member_at text rows (obj_key (first + i))) counted (got _) (sym (pb _) ∙ e)
          ∙ ap some (member-line text rows t _ _ (obj_key (first + i)) (rw pf (member-there rows laid t h i below)) ∙ sym p)

-- ---- from type i on: n are in the table

module _ (text : Bytes) (rows : Words) (bad : Item → Bool) {n : ℕ} (pn : n ≡ type_count rows) (i : ℕ) where
  pub table-end : n ≤ i → first_item (table_of text rows) bad (types_left (table_of text rows) i) ≡ found None
  unfolding found
  table-end l = types-end (table_of text rows) bad i (rw (size-read text rows, ← pn) l)

  there : i < n → i < size (table_of text rows)
  there l = rw (size-read text rows, ← pn) l

  module _ (l : i < n) {r : code.Option ℕ} (pr : found r ≡ first_item (table_of text rows) bad (lines_of (type_key i) (kind_at (table_of text rows) (type_key i)))) where
    pub table_on : r ≡ None → first_item (table_of text rows) bad (types_left (table_of text rows) i) ≡ first_item (table_of text rows) bad (types_left (table_of text rows) (i + 1))
    unfolding found
    table_on e = types-on (table_of text rows) bad i (there l) (sym pr ∙ ap found e)

    pub table-stop : (line : ℕ) → r ≡ Some line → first_item (table_of text rows) bad (types_left (table_of text rows) i) ≡ found (Some line)
    unfolding found
    table-stop line e = types-stop (table_of text rows) bad i (there l) line (sym pr ∙ ap found e)
