-- What all that a reader gives satisfies, from what its parts give (specs/Readers.antt).
use mathlib.Core.Path.{◌≡◌, refl}
use mathlib.Core.Bool.{Bool, true, false, cond, ◌&&◌}
use mathlib.Core.List.{List, [], ◌∷◌}
use mathlib.Core.Option.{Option, none, some}
use Prim.Native.Nat.{ℕ, ◌≤◌}
use lib.Dec.{leb}
use borrow.Author.Tests.{leb-true}
use Rattle.objects.specs.Lists.{Bytes, when, mapped}
use Rattle.objects.proofs.ListLaws.{and_r}
use Rattle.text.specs.Bytes.{is_numeral, value_from, number}
use Rattle.text.specs.Readers.{Reader, ◌>>=◌, field, done, whole}

-- P of the value, if there is one
abbrev pub Holds : {A : Type 0} → (A → Type 0) → Option A → Type 0
Holds P none = Unit {0}
Holds P (some a) = P a

-- P of what was read, whatever is left
abbrev pub First : {A : Type 0} → (A → Type 0) → A × List Bytes → Type 0
First P p = P p.0

-- P of every value that the reader gives
pub record Gives {A : Type 0} (P : A → Type 0) (r : Reader A) : Type 0 where
  pub given : (fs : List Bytes) → Holds (First P) (r fs)

module _ {A : Type 0} where
  pub when-holds : (P : A → Type 0) (t : Bool) (a : A) → (t ≡ true → P a) → Holds P (when t a)
  when-holds P true a h = h refl
  when-holds P false a h = tt

  pub holds-some : (P : A → Type 0) (o : Option A) (a : A) → o ≡ some a → Holds P o → P a
  holds-some P o a e h = rw e at h

  pub field-gives : {P : A → Type 0} (f : Bytes → Option A) → ((b : Bytes) → Holds P (f b)) → Gives P (field f)
  field-gives {P = P} f h = record { given = λ fs. of fs }
    where
      next : (fs : List Bytes) (o : Option A) → Holds P o → Holds (First P) (mapped (λ a. (a, fs)) o)
      next fs none k = tt
      next fs (some a) k = k

      of : (fs : List Bytes) → Holds (First P) (field f fs)
      of [] = tt
      of (b ∷ fs) = next fs (f b) (h b)

  pub done-gives : {P : A → Type 0} (a : A) → P a → Gives P (done a)
  done-gives {P = P} a h = record { given = λ fs. of fs }
    where
      of : (fs : List Bytes) → Holds (First P) (done a fs)
      of [] = h
      of (b ∷ fs) = tt

  pub none-gives : {P : A → Type 0} → Gives P (λ fs. none)
  none-gives = record { given = λ fs. tt }

  pub cond-gives : {P : A → Type 0} (t : Bool) {r s : Reader A} → Gives P r → Gives P s → Gives P (cond t r s)
  cond-gives true h k = h
  cond-gives false h k = k

  pub whole-gives : (P : A → Type 0) (r : Reader A) → Gives P r → (fs : List Bytes) → Holds P (whole r fs)
  whole-gives P r h fs = go (r fs) (h.given fs)
    where
      go : (o : Option (A × List Bytes)) → Holds (First P) o → Holds P (mapped (λ p. p.0) o)
      go none k = tt
      go (some p) k = k

module _ {A B : Type 0} where
  -- what the first gives may be used of the second
  pub bind-gives : {P : A → Type 0} {Q : B → Type 0} {r : Reader A} {f : A → Reader B} → Gives P r → ((a : A) → P a → Gives Q (f a)) → Gives Q (r >>= f)
  bind-gives {P = P} {Q = Q} {r = r} {f = f} h k = record { given = λ fs. go (r fs) (h.given fs) }
    where
      go : (o : Option (A × List Bytes)) → Holds (First P) o → Holds (First Q) (elim o [ none ↦ none | some p ↦ f p.0 p.1 ])
      go none z = tt
      go (some p) z = (k p.0 z).given p.1

  -- whatever the first gives
  pub then-gives : {Q : B → Type 0} (r : Reader A) {f : A → Reader B} → ((a : A) → Gives Q (f a)) → Gives Q (r >>= f)
  then-gives {Q = Q} r {f = f} k = record { given = λ fs. go (r fs) }
    where
      go : (o : Option (A × List Bytes)) → Holds (First Q) (elim o [ none ↦ none | some p ↦ f p.0 p.1 ])
      go none = tt
      go (some p) = (k p.0).given p.1

pub number-max : (max : ℕ) (b : Bytes) → Holds (λ n. n ≤ max) (number max b)
unfolding number
number-max max b = go (is_numeral b && leb (value_from 0 b) max) refl
  where
    go : (t : Bool) → is_numeral b && leb (value_from 0 b) max ≡ t → Holds (λ n. n ≤ max) (elim t [ true ↦ some (value_from 0 b) | false ↦ none ])
    go true e = leb-true (value_from 0 b) max (and_r (is_numeral b) (leb (value_from 0 b) max) e)
    go false e = tt
