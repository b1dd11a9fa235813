-- A level whose first record of a type is marked (specs/Records.antt), as the loop comes to it: by the place of that record.
use mathlib.Core.Path.{◌≡◌, refl, sym, ap, ◌∙◌}
use mathlib.Core.Bool.{Bool, true, false}
use mathlib.Core.List.{List, [], ◌∷◌}
use mathlib.Core.Logic.{◌≢◌}
use Prim.Native.Nat.{ℕ, zero, suc, ◌+◌, ◌<◌, ◌≤◌}
use native.Mathlib.Omega.{arith}
use native.Mathlib.Decide.{dec_lt}
use lib.ListN.{length, get_or, set}
use Rattle.objects.specs.declared.TypeKey.{TypeKey}
use Rattle.objects.specs.Table.{same_type}
use Rattle.objects.proofs.ListLaws.{cases, clash}
use Rattle.objects.proofs.KeyLaws.{same_key, same_self}
use Rattle.multiples.specs.Records.{Record, empty, marked, consolidated}

same_yes : (a b : TypeKey) → a ≡ b → same_type a b ≡ true
same_yes a b e = rw e (same_self b)

same_no : (a b : TypeKey) → a ≢ b → same_type a b ≡ false
same_no a b n = cases (same_type a b) (λ s. absurd (n (same_key a b s))) (λ s. s)

-- what the test of two types tells
module _ {told : Bool} {a b : TypeKey} (is : told ≡ same_type a b) where
  pub told-same : told ≡ true → a ≡ b
  told-same e = same_key a b (sym is ∙ e)

  pub told-other : told ≡ false → a ≢ b
  told-other e s = clash (same_yes a b s) (sym is ∙ e)

-- none of the first n records is of type t
abbrev pub Absent : List Record → ℕ → TypeKey → Type 0
Absent level n t = (j : ℕ) → j < n → (get_or level j empty).typ ≢ t

-- record i is the first of type t
pub marked-first : (level : List Record) (i : ℕ) (t : TypeKey) → i < length level → Absent level i t → (get_or level i empty).typ ≡ t
    → set level i (marked (get_or level i empty)) ≡ consolidated level t
marked-first [] i t l h e = absurd (omega arith)
marked-first (r ∷ level) zero t l h e = rw (same_yes r.typ t e)
marked-first (r ∷ level) (suc i) t l h e =
    rw (same_no r.typ t (h 0 (omega arith))) (ap (λ rs. r ∷ rs) (marked-first level i t (omega arith) (λ j k. h (suc j) (omega arith)) e))

-- no record is of type t
pub marked-none : (level : List Record) (t : TypeKey) → Absent level (length level) t → level ≡ consolidated level t
marked-none [] t h = refl
marked-none (r ∷ level) t h = rw (same_no r.typ t (h 0 (omega arith))) (ap (λ rs. r ∷ rs) (marked-none level t (λ j k. h (suc j) (omega arith))))

-- one record more is of another type
pub absent_more : (level : List Record) (i : ℕ) (t : TypeKey) → Absent level i t → (get_or level i empty).typ ≢ t → Absent level (i + 1) t
absent_more level i t h ne j l = elim (dec_lt j i) [ yes k ↦ h j k | no k ↦ let same : j ≡ i = omega arith in λ e. ne (rw same at e) ]

-- all records have been passed
pub absent-all : (level : List Record) (i : ℕ) (t : TypeKey) → Absent level i t → length level ≤ i → Absent level (length level) t
absent-all level i t h le j l = h j (omega arith)
