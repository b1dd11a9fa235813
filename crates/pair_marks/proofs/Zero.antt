-- Lists of zeros, and no mark in them.
use mathlib.Core.Path.{◌≡◌, refl, sym, ap, ◌∙◌, subst}
use mathlib.Core.Bool.{false}
use mathlib.Core.List.{List, ◌∷◌, ◌++◌}
use Prim.Native.Nat.{ℕ, zero, suc, ◌/◌, ◌≤◌}
use native.Mathlib.Omega.{arith}
use native.Mathlib.Nat.{zero-div}
use lib.ListN.{length, get_or, take, drop, replicate, take-append-drop}
use lib.Seq.{length-take-le}
use Rattle.pair_marks.specs.Marks.{bit_at, met}

pub get_or-zeros : (n k : ℕ) → ◌≡◌ {A = ℕ} (get_or (replicate n 0) k 0) 0
get_or-zeros zero k = refl
get_or-zeros (suc n) zero = refl
get_or-zeros (suc n) (suc k) = get_or-zeros n k

take-zeros : (n m : ℕ) → ◌≡◌ {A = List ℕ} (take n (replicate m 0)) (replicate (length {A = ℕ} (take n (replicate m 0))) 0)
take-zeros zero m = refl
take-zeros (suc n) zero = refl
take-zeros (suc n) (suc m) = ap (λ (l : List ℕ). 0 ∷ l) (take-zeros n m)

-- what is lent of a list of zeros is one
pub zero-front : (n : ℕ) (l : List ℕ) → l ≡ replicate (length l) 0 → take n l ≡ replicate (length (take n l)) 0
zero-front n l e = subst (λ (m : List ℕ). take n m ≡ replicate (length (take n m)) 0) (sym e) (take-zeros n (length l))

-- what is lent is as long as was asked, and no longer than the list
pub front_long : (l : List ℕ) (n k : ℕ) → n ≡ k → k ≤ length l → (k ≤ length (take n l)) × (length (take n l) ≤ length l)
front_long l n k e h = let long = length-take-le n l (omega arith) in (omega arith, omega arith)

-- what is lent from the start and comes back as it was leaves the list as it was
pub front-back : (n : ℕ) (l m : List ℕ) → m ≡ take n l → m ++ drop n l ≡ l
front-back n l m e = rw e (take-append-drop n l)

pub none-met : (l : List ℕ) → l ≡ replicate (length l) 0 → (p : ℕ) → met l p ≡ false
unfolding met bit_at
none-met l e p = rw (ap (λ (m : List ℕ). get_or m (p / 32) 0) e ∙ get_or-zeros (length l) (p / 32), zero-div)
