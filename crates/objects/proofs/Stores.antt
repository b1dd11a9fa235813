-- Words stored into rows: which words stay as they were, and what is read where they were stored.
use mathlib.Core.Path.{◌≡◌, refl, ◌∙◌}
use mathlib.Core.List.{List, [], ◌∷◌}
use mathlib.Core.Logic.{◌≢◌}
use Prim.Native.Nat.{ℕ, zero, suc, ◌+◌, ◌*◌, ◌<◌, ◌≤◌}
use native.Mathlib.Omega.{arith}
use lib.ListN.{length, get_or, set, length-set}
use lib.Seq.{get_or-set_same, get_or-set_other, sets}
use Rattle.objects.specs.declared.TypeKey.{TypeKey}
use Rattle.objects.specs.Bounds.{row_words, types_at, members_at, packages_at}
use Rattle.objects.specs.Rows.{Words, word_at, package_count, member_count_of, element_count, type_word}

-- ---- one word

module _ (rows : Words) (at v : ℕ) where
  pub word-put : at < length rows → word_at (set rows at v) at ≡ v
  unfolding word_at
  word-put h = get_or-set_same rows at v 0 h

  pub word_kept : (i : ℕ) → i ≢ at → word_at (set rows at v) i ≡ word_at rows i
  unfolding word_at
  word_kept i ne = get_or-set_other rows at i v 0 ne

  pub type-kept : (t : TypeKey) (j : ℕ) → types_at + row_words * t.0 + j ≢ at → type_word (set rows at v) t j ≡ type_word rows t j
  unfolding type_word
  type-kept t j ne = word_kept _ ne

-- ---- a run of words

pub run-kept : (vs : List ℕ) (rows : Words) (at i : ℕ) → ((j : ℕ) → j < length vs → i ≢ at + j) → word_at (sets rows at vs) i ≡ word_at rows i
run-kept [] rows at i h = refl
run-kept (v ∷ vs) rows at i h =
    run-kept vs (set rows at v) (suc at) i (λ j l e. h (suc j) (omega arith) (omega arith))
    ∙ word_kept rows at v i (λ e. h 0 (omega arith) (omega arith))

pub run-put : (vs : List ℕ) (rows : Words) (at j : ℕ) → at + length vs ≤ length rows → j < length vs → word_at (sets rows at vs) (at + j) ≡ get_or vs j 0
run-put [] rows at j h l = absurd (omega arith)
run-put (v ∷ vs) rows at zero h l =
    run-kept vs (set rows at v) (suc at) (at + 0) (λ j k e. omega arith)
    ∙ (let e : at + 0 ≡ at = omega arith in rw e (word-put rows at v (omega arith)))
run-put (v ∷ vs) rows at (suc j) h l =
    let e : at + suc j ≡ suc at + j = omega arith in
    rw e (run-put vs (set rows at v) (suc at) j (simp length-set (omega arith)) (omega arith))

-- ---- the words in use

-- Words of the first `bound` types and of all members, packages and elements of the one are in the other as they were.
pub record Kept (bound : ℕ) (rows after : Words) : Type 0 where
  pub long : length after ≡ length rows
  pub types : (i : ℕ) → types_at ≤ i → i < types_at + row_words * bound → word_at after i ≡ word_at rows i
  pub members : (i : ℕ) → members_at (length rows) ≤ i → i < members_at (length rows) + row_words * member_count_of rows → word_at after i ≡ word_at rows i
  pub packages : (i : ℕ) → packages_at ≤ i → i < packages_at + 2 * package_count rows → word_at after i ≡ word_at rows i
  pub elements : (i : ℕ) → length rows ≤ i + element_count rows → word_at after i ≡ word_at rows i

-- a place that is none of theirs
pub record Free (bound : ℕ) (rows : Words) (at : ℕ) : Type 0 where
  pub types : types_at ≤ at → at < types_at + row_words * bound → ⊥
  pub members : members_at (length rows) ≤ at → at < members_at (length rows) + row_words * member_count_of rows → ⊥
  pub packages : packages_at ≤ at → at < packages_at + 2 * package_count rows → ⊥
  pub elements : at + element_count rows < length rows

module _ {bound : ℕ} {rows : Words} where
  pub kept-none : Kept bound rows rows
  kept-none = record { long = refl; types = λ i l h. refl; members = λ i l h. refl; packages = λ i l h. refl; elements = λ i h. refl }

  pub kept_set : {after : Words} (at v : ℕ) → Kept bound rows after → Free bound rows at → Kept bound rows (set after at v)
  kept_set {after} at v k f = record {
    long = length-set after at v ∙ k.long;
    types = λ i l h. word_kept after at v i (λ e. f.types (omega arith) (omega arith)) ∙ k.types i l h;
    members = λ i l h. word_kept after at v i (λ e. f.members (omega arith) (omega arith)) ∙ k.members i l h;
    packages = λ i l h. word_kept after at v i (λ e. f.packages (omega arith) (omega arith)) ∙ k.packages i l h;
    elements = λ i h. word_kept after at v i (λ e. let z = f.elements in omega arith) ∙ k.elements i h;
  }

  pub kept_sets : {after : Words} (at : ℕ) (vs : List ℕ) → Kept bound rows after → ((i : ℕ) → at ≤ i → i < at + length vs → Free bound rows i) → Kept bound rows (sets after at vs)
  kept_sets at [] k f = k
  kept_sets at (v ∷ vs) k f = kept_sets (suc at) vs (kept_set at v k (f at (omega arith) (omega arith))) (λ i l h. f i (omega arith) (omega arith))
