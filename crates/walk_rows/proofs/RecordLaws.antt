-- What a put record, a put first and a mark leave in the records of kept walks.
use mathlib.Core.Path.{◌≡◌, refl, sym, ap, ◌∙◌}
use mathlib.Core.Bool.{Bool, true, false}
use mathlib.Core.List.{List}
use mathlib.Core.Logic.{◌≢◌}
use Prim.Native.Nat.{ℕ, suc, ◌+◌, ◌<◌}
use native.Mathlib.Omega.{arith}
use lib.Dec.{eqb}
use lib.ListN.{length, set, length-set}
use lib.Seq.{get_or-set_same, get_or-set_other}
use borrow.Author.Tests.{eqb-true, eqb-false}
use Rattle.std.specs.Int.{from_bool}
use Rattle.objects.specs.declared.TypeKey.{TypeKey}
use Rattle.objects.proofs.ListLaws.{cases}
use Rattle.multiples.specs.Records.{Record, empty, marked}
use Rattle.walk_rows.specs.Records.{firsted, row_meant, record_at, row_of, level_of, mark_of, first_of, record_put, first_put}

-- ---- the fields of a record

-- a flag as a word is read as that flag
pub flag-word : (b : Bool) → eqb (from_bool b) 1 ≡ b
flag-word false = refl
flag-word true = refl

-- record i has its own fields in the one as in the other
abbrev pub SameRecord : List Record → List Record → ℕ → Type 0
SameRecord walk after i = firsted (record_at after i) 0 ≡ firsted (record_at walk i) 0

module _ (walk after : List Record) (i : ℕ) (h : SameRecord walk after i) where
  pub row_kept : row_of after i ≡ row_of walk i
  unfolding row_of row_meant
  row_kept = ap row_meant h

  pub mark-kept : mark_of after i ≡ mark_of walk i
  unfolding mark_of
  mark-kept = ap (λ (r : Record). eqb r.multiples 1) h

module _ (walk : List Record) (i : ℕ) where
  pub row_type : (row_of walk i).type ≡ (record_at walk i).typ
  unfolding row_of row_meant
  row_type = refl

  pub row-parent : (row_of walk i).parent ≡ (record_at walk i).parent
  unfolding row_of row_meant
  row-parent = refl

  pub row-place : (row_of walk i).place ≡ (record_at walk i).place
  unfolding row_of row_meant
  row-place = refl

  pub row-level : (row_of walk i).level ≡ level_of walk i
  unfolding row_of row_meant level_of
  row-level = refl

  -- the row of a record that was read
  pub row_read : (r : Record) → r ≡ record_at walk i → row_of walk i ≡ row_meant r
  unfolding row_of
  row_read r read = ap row_meant (sym read)

  pub level-read : (r : Record) → r ≡ record_at walk i → r.level ≡ level_of walk i
  unfolding level_of
  level-read r read = ap (λ (s : Record). s.level) read

-- ---- a record is put in place of another

module _ (walk : List Record) (i : ℕ) (r : Record) where
  pub record-put : i < length walk → record_at (set walk i r) i ≡ r
  record-put l = get_or-set_same walk i r empty l

  pub record-kept : (j : ℕ) → j ≢ i → record_at (set walk i r) j ≡ record_at walk j
  record-kept j ne = get_or-set_other walk i j r empty ne

  -- what a field, or several, say stays, where the new record says it too
  pub put_kept : {A : Type 0} (f : Record → A) → i < length walk → f r ≡ f (record_at walk i) → (j : ℕ) → f (record_at (set walk i r) j) ≡ f (record_at walk j)
  put_kept f l e j =
      cases (eqb j i)
      (λ s. let q = eqb-true j i s in rw (q, record-put l) e)
      (λ s. ap f (record-kept j (eqb-false j i s)))

-- ---- record n is a type's first

module _ (walk : List Record) (t : TypeKey) (n : ℕ) (l : t.0 < length walk) where
  pub first-length : length (first_put walk t n) ≡ length walk
  unfolding first_put
  first-length = simp length-set

  -- no record's own fields change
  pub first-same : (j : ℕ) → SameRecord walk (first_put walk t n) j
  unfolding first_put
  first-same j = put_kept walk t.0 (firsted (record_at walk t.0) (n + 1)) (λ r. firsted r 0) l refl j

  pub first-other : (u : TypeKey) → u.0 ≢ t.0 → first_of (first_put walk t n) u ≡ first_of walk u
  unfolding first_of first_put
  first-other u ne = ap (λ (r : Record). r.first) (record-kept walk t.0 (firsted (record_at walk t.0) (n + 1)) u.0 ne)

  pub first-here : first_of (first_put walk t n) t ≡ suc n
  unfolding first_of first_put
  first-here = ap (λ (r : Record). r.first) (record-put walk t.0 (firsted (record_at walk t.0) (n + 1)) l) ∙ omega arith

-- ---- a mark

-- record i is marked
abbrev pub mark_put : List Record → ℕ → List Record
mark_put walk i = set walk i (marked (record_at walk i))

module _ (walk : List Record) (i : ℕ) (l : i < length walk) where
  pub mark-length : length (mark_put walk i) ≡ length walk
  mark-length = simp length-set

  pub mark-row : (j : ℕ) → row_of (mark_put walk i) j ≡ row_of walk j
  unfolding row_of row_meant
  mark-row j = put_kept walk i (marked (record_at walk i)) row_meant l refl j

  pub mark-first : (u : TypeKey) → first_of (mark_put walk i) u ≡ first_of walk u
  unfolding first_of
  mark-first u = put_kept walk i (marked (record_at walk i)) (λ r. r.first) l refl u.0

  pub mark-other : (j : ℕ) → j ≢ i → mark_of (mark_put walk i) j ≡ mark_of walk j
  unfolding mark_of
  mark-other j ne = ap (λ (r : Record). eqb r.multiples 1) (record-kept walk i (marked (record_at walk i)) j ne)

  pub mark-here : mark_of (mark_put walk i) i ≡ true
  unfolding mark_of
  mark-here = ap (λ (r : Record). eqb r.multiples 1) (record-put walk i (marked (record_at walk i)) l)

-- ---- a record is put

module _ (walk : List Record) (n : ℕ) (e : Record) (l : n < length walk) where
  abbrev whole : Record
  whole = firsted e (record_at walk n).first

  pub put-length : length (record_put walk n e) ≡ length walk
  unfolding record_put
  put-length = simp length-set

  pub put_same : (j : ℕ) → j ≢ n → SameRecord walk (record_put walk n e) j
  unfolding record_put
  put_same j ne = ap (λ r. firsted r 0) (record-kept walk n whole j ne)

  pub put-here : row_of (record_put walk n e) n ≡ row_meant e
  unfolding row_of record_put row_meant
  put-here = ap row_meant (record-put walk n whole l)

  pub put-mark : mark_of (record_put walk n e) n ≡ eqb e.multiples 1
  unfolding mark_of record_put
  put-mark = ap (λ (r : Record). eqb r.multiples 1) (record-put walk n whole l)

  -- the field that is not the record's own stays
  pub put_first : (t : TypeKey) → first_of (record_put walk n e) t ≡ first_of walk t
  unfolding first_of record_put
  put_first t = put_kept walk n whole (λ r. r.first) l refl t.0
