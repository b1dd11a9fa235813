-- The line that refusal 10 names: that of the least type that contains itself by value (specs/Contained.antt).
use mathlib.Core.Path.{◌≡◌, refl, sym, ap, subst, fun_ext, ◌∙◌}
use mathlib.Core.Bool.{true, false}
use mathlib.Core.List.{List, [], ◌∷◌, ◌++◌}
use mathlib.Core.Logic.{◌↔◌}
use mathlib.Core.Option.{Option, none, some, some-ne-none}
use Prim.Native.Nat.{ℕ, suc, ◌+◌, ◌<◌, ◌≤◌}
use native.Mathlib.Omega.{arith}
use lib.Dec.{eqb}
use lib.ListN.{length, get_or}
use borrow.Author.Tests.{eqb-true, eqb-false}
use Rattle.objects.specs.declared.TypeKey.{TypeKey}
use Rattle.std.specs.Prelude.{Some, None}
use Rattle.objects.specs.Lists.{Bytes, In}
use Rattle.objects.specs.Table.{Table, Member, Kind, type_key, same_type, size, members_of}
use Rattle.objects.specs.Rows.{Words, type_count, type_word, table_of}
use Rattle.objects.specs.Types.{found}
use Rattle.objects.proofs.ListLaws.{cases}
use Rattle.objects.proofs.BoolLaws.{false_of}
use Rattle.objects.proofs.KeyLaws.{key-eq}
use Rattle.objects.proofs.RowLaws.{size-read, type-line-read}
use Rattle.rules.specs.Checks.{Item, type_item, member_items, items_from, items, line_of_item, contents, containing}
use Rattle.rules.specs.Stages.{first_line, first_item, or_else}
use Rattle.rules.proofs.ChainLaws.{ChainFrom, leads-iff, types-few}
use Rattle.rules.proofs.StageLaws.{first-here, first-later, first-append, none-fails}
use Rattle.rules.proofs.Lacks.{content-in}
use Rattle.cycles.specs.Contents.{inside, Within, Refers, Back}
use Rattle.cycles.specs.Contained.{Finds}
use Rattle.cycles.proofs.ContentLaws.{inside-any}

-- ---- where 7 passed, what a type contains is in the table

pub refers-within : (rows : Words) → Refers rows → Within rows
refers-within rows r t e i =
    let T = table_of r.0 rows in
    rw (← size-read r.0 rows)
    (content-in T (none-fails (line_of_item T) _ (items T) r.1) t e (subst (λ es. In e es) (sym (inside-any r.0 rows t)) i))

-- ---- the first of a table's lines

module _ (T : Table) where
  abbrev finds : List Item → Option ℕ
  finds is = first_item T (containing T) is

  members-pass : (t : TypeKey) (k : Kind) (before ms : List Member) → finds (member_items t k before ms) ≡ none
  unfolding first_line containing
  members-pass t k before [] = refl
  members-pass t k before (m ∷ ms) = members-pass t k (before ++ (m ∷ [])) ms

  -- the type's own line passes, and its members' do
  type-passes : (n : ℕ) (k : Kind) (ks : List Kind) → containing T (type_item (type_key n) k) ≡ false → finds (items_from n (k ∷ ks)) ≡ finds (items_from (suc n) ks)
  unfolding items_from or_else
  type-passes n k ks e =
      first-later (line_of_item T) (containing T) (type_item (type_key n) k) _ e
      ∙ first-append (line_of_item T) (containing T) (member_items (type_key n) k [] (members_of k)) (items_from (suc n) ks)
      ∙ rw (members-pass (type_key n) k [] (members_of k))

  none_from : (n : ℕ) (ks : List Kind) → ((i : ℕ) (k : Kind) → n ≤ i → i < n + length ks → containing T (type_item (type_key i) k) ≡ false) → finds (items_from n ks) ≡ none
  unfolding items_from first_line
  none_from n [] h = refl
  none_from n (k ∷ ks) h = type-passes n k ks (h n k (omega arith) (omega arith)) ∙ none_from (suc n) ks (λ i c l m. h i c (omega arith) (omega arith))

  some-from : (n : ℕ) (ks : List Kind) (t : ℕ) → n ≤ t → t < n + length ks → ((i : ℕ) (k : Kind) → n ≤ i → i < t → containing T (type_item (type_key i) k) ≡ false)
      → ((k : Kind) → containing T (type_item (type_key t) k) ≡ true) → finds (items_from n ks) ≡ some (get_or T.type_lines t 0)
  unfolding items_from line_of_item
  some-from n [] t l m h g = absurd (omega arith)
  some-from n (k ∷ ks) t l m h g =
      cases (eqb n t)
      (λ e. let q = eqb-true n t e in first-here (line_of_item T) (containing T) (type_item (type_key n) k) _ (rw q (g k)) ∙ rw q)
      (λ e. let ne = eqb-false n t e in type-passes n k ks (h n k (omega arith) (omega arith)) ∙ some-from (suc n) ks t (omega arith) (omega arith) (λ i c a b. h i c (omega arith) b) g)

-- ---- the test of a type is a chain over the rows

module _ (text : Bytes) (rows : Words) (w : Within rows) where
  steps : contents (table_of text rows) ≡ inside rows
  steps = fun_ext (inside-any text rows)

  few : (t e : TypeKey) → In e (contents (table_of text rows) t) → e.0 < size (table_of text rows)
  few t e i = rw (size-read text rows) (w t e (subst (λ es. In e es) (inside-any text rows t) i))

  back-iff : (t : TypeKey) (k : Kind) → (containing (table_of text rows) (type_item t k) ≡ true) ↔ ChainFrom (contents (table_of text rows)) (same_type t) (contents (table_of text rows) t)
  unfolding containing
  back-iff t k = leads-iff (types-few (size (table_of text rows)) (contents (table_of text rows)) few) (same_type t) (contents (table_of text rows) t) (few t)

  back-yes : (t : TypeKey) → Back rows t → (k : Kind) → containing (table_of text rows) (type_item t k) ≡ true
  back-yes t b k = (back-iff t k).1 (subst (λ g. ChainFrom g (same_type t) (g t)) (sym steps) b)

  back-no : (t : TypeKey) → (Back rows t → ⊥) → (k : Kind) → containing (table_of text rows) (type_item t k) ≡ false
  back-no t f k = false_of (containing (table_of text rows) (type_item t k)) (λ e. f (subst (λ g. ChainFrom g (same_type t) (g t)) steps ((back-iff t k).0 e)))

-- ---- what the code answers

bad-passed : (line : ℕ) → Some line ≡ None → ⊥
unfolding found
bad-passed line e = some-ne-none line (ap found e)

module _ (rows : Words) (w : Within rows) where
  -- no type up to this one contains itself
  pub clear-more : (i : ℕ) → ((t : TypeKey) → t.0 < i → Back rows t → ⊥) → (Back rows (type_key i) → ⊥) → (t : TypeKey) → t.0 < i + 1 → Back rows t → ⊥
  clear-more i clear f t h =
      cases (eqb t.0 i)
      (λ e. subst (λ u. Back rows u → ⊥) (sym (key-eq t (type_key i) (eqb-true t.0 i e))) f)
      (λ e. let ne = eqb-false t.0 i e in clear t (omega arith))

  pub finds-none : {n : ℕ} → n ≡ type_count rows → (i : ℕ) → n ≤ i → ((t : TypeKey) → t.0 < i → Back rows t → ⊥) → Finds rows None
  unfolding found
  finds-none q i l clear = record {
    line = λ text. sym (none_from (table_of text rows) 0 (table_of text rows).types (λ j k a b. let s = size-read text rows in back-no text rows w (type_key j) (clear (type_key j) (omega (arith, s, q, b, l))) k));
    clear = λ _ t h. clear t (omega (arith, q, h, l));
  }

  pub finds-some : {n : ℕ} → n ≡ type_count rows → (i : ℕ) → i < n → ((t : TypeKey) → t.0 < i → Back rows t → ⊥) → Back rows (type_key i) → {line : ℕ} → line ≡ type_word rows (type_key i) 6
      → Finds rows (Some line)
  unfolding found
  finds-some q i l clear b {line} p = record {
    line = λ text. ap some (p ∙ sym (type-line-read text rows (type_key i) 0 (omega (arith, q, l))))
        ∙ sym (some-from (table_of text rows) 0 (table_of text rows).types i (omega arith) (let s = size-read text rows in omega (arith, s, q, l)) (λ j k a c. back-no text rows w (type_key j) (clear (type_key j) c) k) (back-yes text rows w (type_key i) b));
    clear = λ e. absurd (bad-passed line e);
  }
