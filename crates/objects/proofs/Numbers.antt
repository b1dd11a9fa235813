-- Laws of the numbers 0 to n - 1 (`up_to`), of n numbers from a first one on (`from`), and of what a function makes of each of them.
use mathlib.Core.Path.{◌≡◌, refl, sym, ap, ◌∙◌}
use mathlib.Core.List.{List, [], ◌∷◌, ◌++◌, map}
use mathlib.Core.Logic.{inl}
use Prim.Native.Nat.{ℕ, zero, suc, ◌+◌, ◌<◌, ◌≤◌}
use native.Mathlib.Nat.{eq-or-lt_of_le, le_of_suc-le-suc}
use native.Mathlib.Numerals.{add-one}
use native.Mathlib.Omega.{arith}
use lib.ListN.{length, get_or, length-append, length-map, get_or-append}
use lib.Seq.{get_or_at}
use Rattle.objects.specs.Lists.{In, up_to, on_last}
use Rattle.objects.specs.Rows.{from}
use Rattle.objects.proofs.ListLaws.{either, map-append, map-In, map-In-to, In-map, In-append, In-append-l, In-append-r}
use Rattle.objects.proofs.PairLaws.{AllPairs, pairs-at, pairs-from}

-- ---- 0 to n - 1

pub up_to-length : (n : ℕ) → length (up_to n) ≡ n
up_to-length zero = refl
up_to-length (suc n) = length-append (up_to n) (n ∷ []) ∙ ap (λ k. k + 1) (up_to-length n) ∙ add-one n

pub up_to-at : (n i d : ℕ) → i < n → get_or (up_to n) i d ≡ i
up_to-at zero i d h = absurd (omega arith)
up_to-at (suc n) i d h =
    either (eq-or-lt_of_le (le_of_suc-le-suc h))
    (λ e. get_or_at (up_to n) n [] d i (up_to-length n ∙ sym e) ∙ sym e)
    (λ l. get_or-append (up_to n) (n ∷ []) d i (rw (up_to-length n) l) ∙ up_to-at n i d l)

pub up_to-below : (n i : ℕ) → In i (up_to n) → i < n
up_to-below zero i h = elim h [ ]
up_to-below (suc n) i h =
    either (In-append (up_to n) (n ∷ []) i h)
    (λ j. let l = up_to-below n i j in omega arith)
    (λ j. either j (λ e. omega arith) (λ z. absurd z))

pub up_to-has : (n i : ℕ) → i < n → In i (up_to n)
up_to-has zero i h = absurd (omega arith)
up_to-has (suc n) i h =
    either (eq-or-lt_of_le (le_of_suc-le-suc h))
    (λ e. In-append-r (up_to n) (n ∷ []) i (inl e))
    (λ l. In-append-l (up_to n) (n ∷ []) i (up_to-has n i l))

-- ---- what f makes of each

pub map_at : {A B : Type 0} (f : A → B) (l : List A) (i : ℕ) (d : B) (e : A) → i < length l → get_or (map f l) i d ≡ f (get_or l i e)
map_at f [] i d e h = absurd (omega arith)
map_at f (x ∷ l) zero d e h = refl
map_at f (x ∷ l) (suc i) d e h = map_at f l i d e (omega arith)

module _ {A : Type 0} (f : ℕ → A) where
  pub each-length : (n : ℕ) → length (map f (up_to n)) ≡ n
  each-length n = length-map (up_to n) f ∙ up_to-length n

  pub each_at : (n i : ℕ) (d : A) → i < n → get_or (map f (up_to n)) i d ≡ f i
  each_at n i d h = map_at f (up_to n) i d 0 (rw (up_to-length n) h) ∙ ap f (up_to-at n i 0 h)

  pub each_more : (n : ℕ) → map f (up_to (suc n)) ≡ map f (up_to n) ++ (f n ∷ [])
  each_more n = map-append f (up_to n) (n ∷ [])

  pub each_same : (g : ℕ → A) (n : ℕ) → ((i : ℕ) → i < n → f i ≡ g i) → map f (up_to n) ≡ map g (up_to n)
  each_same g n h = map-In f g (up_to n) (λ i j. h i (up_to-below n i j))

  -- one more behind those that g makes too
  pub each-grown : (g : ℕ → A) (n : ℕ) {x : A} → map f (up_to n) ≡ map g (up_to n) → f n ≡ x → map f (up_to (suc n)) ≡ map g (up_to n) ++ (x ∷ [])
  each-grown g n e q = each_more n ∙ rw (e, q)

-- two lists made by f and by g, side by side
module _ {A : Type 0} (P : A → A → Type 0) (f g : ℕ → A) (n : ℕ) where
  pub each-pairs : ((i : ℕ) → i < n → P (f i) (g i)) → AllPairs P (map f (up_to n)) (map g (up_to n))
  each-pairs h =
      pairs-from P (map f (up_to n)) (map g (up_to n)) (f 0) (each-length f n ∙ sym (each-length g n))
      (λ i l. let k : i < n = rw (each-length f n) at l in rw (each_at f n i (f 0) k, each_at g n i (f 0) k) (h i k))

  pub pairs-each : AllPairs P (map f (up_to n)) (map g (up_to n)) → (i : ℕ) → i < n → P (f i) (g i)
  pairs-each a i h =
      let r = pairs-at P (map f (up_to n)) (map g (up_to n)) i (f 0) a (rw (each-length f n) h) in
      rw (each_at f n i (f 0) h, each_at g n i (f 0) h) at r

-- ---- n numbers from a first one on

module _ (first n : ℕ) where
  pub from-length : length (from first n) ≡ n
  from-length = each-length (λ i. first + i) n

  pub from_at : (i d : ℕ) → i < n → get_or (from first n) i d ≡ first + i
  from_at i d h = each_at (λ k. first + k) n i d h

  pub from-within : (k : ℕ) → In k (from first n) → (first ≤ k) × (k < first + n)
  from-within k h =
      let r = In-map (λ i. first + i) (up_to n) k h in
      let l = up_to-below n r.0 r.1 in
      let e : k ≡ first + r.0 = r.2 in
      (omega arith, omega arith)

  pub from-has : (i : ℕ) → i < n → In (first + i) (from first n)
  from-has i h = map-In-to (λ k. first + k) (up_to n) i (up_to-has n i h)

module _ {A : Type 0} (f : ℕ → A) (first : ℕ) where
  pub run-length : (n : ℕ) → length (map f (from first n)) ≡ n
  run-length n = length-map (from first n) f ∙ from-length first n

  pub run_at : (n i : ℕ) (d : A) → i < n → get_or (map f (from first n)) i d ≡ f (first + i)
  run_at n i d h = map_at f (from first n) i d 0 (rw (from-length first n) h) ∙ ap f (from_at first n i 0 h)

  pub run-has : (n i : ℕ) → i < n → In (f (first + i)) (map f (from first n))
  run-has n i h = map-In-to f (from first n) (first + i) (from-has first n i h)

  pub run-In : (n : ℕ) (x : A) → In x (map f (from first n)) → (k : ℕ) × (first ≤ k) × (k < first + n) × (x ≡ f k)
  run-In n x h =
      let r = In-map f (from first n) x h in
      let w = from-within first n r.0 r.1 in
      (r.0, w.0, w.1, r.2)

  pub run_more : (n : ℕ) → map f (from first (suc n)) ≡ map f (from first n) ++ (f (first + n) ∷ [])
  run_more n = rw (map-append (λ i. first + i) (up_to n) (n ∷ []), map-append f (from first n) ((first + n) ∷ []))

  pub run-same : (g : ℕ → A) (n : ℕ) → ((k : ℕ) → first ≤ k → k < first + n → f k ≡ g k) → map f (from first n) ≡ map g (from first n)
  run-same g n h = map-In f g (from first n) (λ k j. let w = from-within first n k j in h k w.0 w.1)

-- ---- the last one changed

pub on_last-at : {A : Type 0} (f : A → A) (l : List A) (x : A) → on_last f (l ++ (x ∷ [])) ≡ l ++ (f x ∷ [])
on_last-at f [] x = refl
on_last-at f (y ∷ []) x = refl
on_last-at f (y ∷ z ∷ l) x = ap (λ r. y ∷ r) (on_last-at f (z ∷ l) x)

pub each-on_last : {A : Type 0} (f g : ℕ → A) (h : A → A) (n : ℕ) → map f (up_to n) ≡ map g (up_to n) → f n ≡ h (g n) → map f (up_to (suc n)) ≡ on_last h (map g (up_to (suc n)))
each-on_last f g h n e q = each-grown f g n e q ∙ sym (ap (on_last h) (each_more g n) ∙ on_last-at h (map g (up_to n)) (g n))
