-- The lines of a table one after the other: what a stage (specs/Stages.antt) finds from a type on, and under a T line from a member on.
use mathlib.Core.Path.{◌≡◌, refl, ap, ◌∙◌}
use mathlib.Core.Bool.{Bool, true, false}
use mathlib.Core.List.{List, ◌∷◌, ◌++◌}
use mathlib.Core.Option.{none, some}
use Prim.Native.Nat.{ℕ, ◌+◌, ◌≤◌, ◌<◌}
use native.Mathlib.Numerals.{add-one}
use lib.ListN.{length, get_or, take, drop, drop_of_length-le}
use lib.Seq.{take-suc, drop-cons}
use Rattle.objects.specs.declared.TypeKey.{TypeKey}
use Rattle.objects.specs.Table.{Table, Member, Kind, Basic, type_key, size, members_of, kind_at}
use Rattle.rules.specs.Checks.{Item, type_item, member_item, member_items, items_from, items, line_of_item}
use Rattle.rules.specs.Stages.{first_line, first_item, or_else, lines_under, lines_of}
use Rattle.rules.proofs.StageLaws.{first-here, first-later, first-append}

-- ---- from a type on

-- the lines from the T line of type i on
unfoldable pub types_left : Table → ℕ → List Item
types_left T i = items_from i (drop i T.types)

types-next : (T : Table) (i : ℕ) → i < size T → types_left T i ≡ lines_of (type_key i) (kind_at T (type_key i)) ++ types_left T (i + 1)
unfolding types_left lines_of lines_under kind_at items_from
types-next T i h = rw (drop-cons T.types i (Basic 0) h, add-one i)

module _ (T : Table) (bad : Item → Bool) where
  pub types-start : first_item T bad (items T) ≡ first_item T bad (types_left T 0)
  unfolding types_left
  types-start = refl

  pub types-end : (i : ℕ) → size T ≤ i → first_item T bad (types_left T i) ≡ none
  unfolding types_left items_from first_line
  types-end i h = rw (drop_of_length-le T.types h)

  module _ (i : ℕ) (h : i < size T) where
    parted : first_item T bad (types_left T i) ≡ or_else (first_item T bad (lines_of (type_key i) (kind_at T (type_key i)))) (first_item T bad (types_left T (i + 1)))
    parted = ap (first_item T bad) (types-next T i h) ∙ first-append (line_of_item T) bad _ _

    -- no line of type i fails: the rest decides
    pub types-on : first_item T bad (lines_of (type_key i) (kind_at T (type_key i))) ≡ none → first_item T bad (types_left T i) ≡ first_item T bad (types_left T (i + 1))
    unfolding or_else
    types-on e = parted ∙ rw e

    pub types-stop : (line : ℕ) → first_item T bad (lines_of (type_key i) (kind_at T (type_key i))) ≡ some line → first_item T bad (types_left T i) ≡ some line
    unfolding or_else
    types-stop line e = parted ∙ rw e

-- ---- one type

module _ (T : Table) (bad : Item → Bool) (t : TypeKey) (k : Kind) where
  pub lines-stop : bad (type_item t k) ≡ true → first_item T bad (lines_of t k) ≡ some (line_of_item T (type_item t k))
  unfolding lines_of
  lines-stop e = first-here (line_of_item T) bad _ _ e

  pub lines-on : bad (type_item t k) ≡ false → first_item T bad (lines_of t k) ≡ first_item T bad (lines_under t k)
  unfolding lines_of
  lines-on e = first-later (line_of_item T) bad _ _ e

-- ---- from a member on

-- the lines under a T line from member i of its type on, with the members above each
unfoldable pub members_left : TypeKey → Kind → ℕ → List Item
members_left t k i = member_items t k (take i (members_of k)) (drop i (members_of k))

members-next : (t : TypeKey) (k : Kind) (i : ℕ) (m : Member) → i < length (members_of k) → get_or (members_of k) i m ≡ m
    → members_left t k i ≡ member_item t k (take i (members_of k)) m ∷ members_left t k (i + 1)
unfolding members_left
members-next t k i m h e = rw (drop-cons (members_of k) i m h, add-one i, take-suc (members_of k) i m h, e)

module _ (T : Table) (bad : Item → Bool) (t : TypeKey) (k : Kind) where
  pub members-start : first_item T bad (lines_under t k) ≡ first_item T bad (members_left t k 0)
  unfolding lines_under members_left
  members-start = refl

  pub members-end : (i : ℕ) → length (members_of k) ≤ i → first_item T bad (members_left t k i) ≡ none
  unfolding members_left first_line
  members-end i h = rw (drop_of_length-le (members_of k) h)

  module _ (i : ℕ) (m : Member) (h : i < length (members_of k)) (e : get_or (members_of k) i m ≡ m) where
    pub members-on : bad (member_item t k (take i (members_of k)) m) ≡ false → first_item T bad (members_left t k i) ≡ first_item T bad (members_left t k (i + 1))
    members-on b = ap (first_item T bad) (members-next t k i m h e) ∙ first-later (line_of_item T) bad _ _ b

    pub members-stop : bad (member_item t k (take i (members_of k)) m) ≡ true
        → first_item T bad (members_left t k i) ≡ some (line_of_item T (member_item t k (take i (members_of k)) m))
    members-stop b = ap (first_item T bad) (members-next t k i m h e) ∙ first-here (line_of_item T) bad _ _ b
