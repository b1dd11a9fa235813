-- Laws of the parts of a list: what stands before a member, the last, places, and lists in order (specs/Lists.antt).
use mathlib.Core.Path.{◌≡◌, refl, sym, ap, ◌∙◌}
use mathlib.Core.Bool.{Bool, true, ◌&&◌}
use mathlib.Core.List.{List, [], ◌∷◌, ◌++◌, append_assoc, append-nil, cons≢nil}
use mathlib.Core.Logic.{◌⊎◌, inl, inr}
use Prim.Native.Nat.{ℕ, zero, suc, ◌+◌, ◌<◌, ◌≤◌}
use native.Mathlib.Numerals.{add-one}
use native.Mathlib.Omega.{arith}
use lib.Dec.{ltb}
use lib.ListN.{length, get_or, drop, drop_of_length-le}
use lib.Seq.{drop-cons}
use borrow.Author.Tests.{ltb-true}
use Rattle.objects.specs.Lists.{every, last_or, last_of, on_last, flat, In, Sorted}
use Rattle.objects.proofs.ListLaws.{and_l, and_r, either}

module _ {A : Type 0} where
  pub every-In : (p : A → Bool) (l : List A) (x : A) → every p l ≡ true → In x l → p x ≡ true
  every-In p [] x h x4 = elim x4 [ ]
  every-In p (y ∷ ys) x h (inl e) = rw e (and_l (p y) (every p ys) h)
  every-In p (y ∷ ys) x h (inr i) = every-In p ys x (and_r (p y) (every p ys) h) i

  -- one of a list parts it
  pub parted : (l : List A) (x : A) → In x l → (before : List A) × (after : List A) × (l ≡ before ++ (x ∷ after))
  parted [] x x3 = elim x3 [ ]
  parted (y ∷ ys) x (inl e) = ([], ys, ap (λ z. z ∷ ys) (sym e))
  parted (y ∷ ys) x (inr i) = let r = parted ys x i in (y ∷ r.0, r.1, ap (λ z. y ∷ z) r.2)

  -- a list is in order if all that stand before one come before it
  pub sorted-from : (R : A → A → Type 0) (l : List A)
      → ((before : List A) (x : A) (after : List A) → l ≡ before ++ (x ∷ after) → (y : A) → In y before → R y x) → Sorted R l
  sorted-from R [] h = tt
  sorted-from R (y ∷ ys) h = (
    λ x i. let r = parted ys x i in h (y ∷ r.0) x r.1 (ap (λ z. y ∷ z) r.2) y (inl refl),
    sorted-from R ys (λ before x after e z i. h (y ∷ before) x after (ap (λ w. y ∷ w) e) z (inr i)),
  )

  -- it is enough that each comes after the one next before it, if the order is transitive
  pub ascending : (p : A → A → Bool) → ((x y z : A) → p x y ≡ true → p y z ≡ true → p x z ≡ true) → (l : List A)
      → ((before : List A) (x : A) (after : List A) → l ≡ before ++ (x ∷ after) → every (λ y. p y x) (last_of before) ≡ true)
      → Sorted (λ x y. p x y ≡ true) l
  ascending p trans [] h = tt
  ascending p trans (y ∷ []) h = (λ x i. absurd i, tt)
  ascending p trans (y ∷ z ∷ l) h = let rest = ascending p trans (z ∷ l) later in (first rest.0, rest)
    where
      next : p y z ≡ true
      next = and_l (p y z) true (h (y ∷ []) z l refl)

      later : (before : List A) (x : A) (after : List A) → z ∷ l ≡ before ++ (x ∷ after) → every (λ w. p w x) (last_of before) ≡ true
      later [] x after e = refl
      later (b ∷ before) x after e = h (y ∷ b ∷ before) x after (ap (λ w. y ∷ w) e)

      first : ((x : A) → In x l → p z x ≡ true) → (x : A) → In x (z ∷ l) → p y x ≡ true
      first rest x (inl e) = rw e next
      first rest x (inr i) = trans y z x next (rest x i)

  -- each from a place on passes the test
  pub every-next : (p : A → Bool) (l : List A) (i : ℕ) (x : A) → i < length l → get_or l i x ≡ x → every p (drop i l) ≡ p x && every p (drop (i + 1) l)
  every-next p l i x h e = rw (drop-cons l i x h, e, add-one i)

  pub every-end : (p : A → Bool) (l : List A) (i : ℕ) → length l ≤ i → every p (drop i l) ≡ true
  every-end p l i h = rw (drop_of_length-le l h)

  -- ---- one more at the end

  pub last_snoc : (l : List A) (x : A) → last_of (l ++ (x ∷ [])) ≡ x ∷ []
  last_snoc [] x = refl
  last_snoc (y ∷ []) x = refl
  last_snoc (y ∷ z ∷ l) x = last_snoc (z ∷ l) x

  pub all_snoc : (P : A → Type 0) (l : List A) (y : A) → ((x : A) → In x l → P x) → P y → (x : A) → In x (l ++ (y ∷ [])) → P x
  all_snoc P [] y h k x (inr i) = elim i [ ]
  all_snoc P [] y h k x (inl e) = rw e k
  all_snoc P (z ∷ l) y h k x (inl e) = h x (inl e)
  all_snoc P (z ∷ l) y h k x (inr i) = all_snoc P l y (λ w j. h w (inr j)) k x i

  pub length-snoc : (l : List A) (y : A) → length (l ++ (y ∷ [])) ≡ suc (length l)
  length-snoc [] y = refl
  length-snoc (x ∷ l) y = ap suc (length-snoc l y)

  pub few-snoc : (l : List A) (y : A) (max : ℕ) → ltb (length l) max ≡ true → length (l ++ (y ∷ [])) ≤ max
  few-snoc l y max h = rw (length-snoc l y) (ltb-true (length l) max h)

  -- ---- places

  pub get_or-In : (l : List A) (n : ℕ) (d : A) → n < length l → In (get_or l n d) l
  get_or-In [] n d h = absurd (omega arith)
  get_or-In (x ∷ xs) zero d h = inl refl
  get_or-In (x ∷ xs) (suc n) d h = inr (get_or-In xs n d (omega arith))

  pub get_or-all : (P : A → Type 0) (l : List A) (n : ℕ) (d : A) → ((x : A) → In x l → P x) → P d → P (get_or l n d)
  get_or-all P [] n d h k = k
  get_or-all P (x ∷ xs) zero d h k = h x (inl refl)
  get_or-all P (x ∷ xs) (suc n) d h k = get_or-all P xs n d (λ y i. h y (inr i)) k

  -- ---- the last

  pub on_last-length : (f : A → A) (l : List A) → length (on_last f l) ≡ length l
  on_last-length f [] = refl
  on_last-length f (x ∷ []) = refl
  on_last-length f (x ∷ y ∷ l) = ap suc (on_last-length f (y ∷ l))

  -- one of the list with its last changed is one of the list, or that last
  pub on_last-In : (f : A → A) (d : A) (l : List A) (x : A) → In x (on_last f l) → In x l ⊎ (In (last_or d l) l × (x ≡ f (last_or d l)))
  on_last-In f d [] x x3 = elim x3 [ ]
  on_last-In f d (y ∷ []) x (inr i) = elim i [ ]
  on_last-In f d (y ∷ []) x (inl e) = inr (inl refl, e)
  on_last-In f d (y ∷ z ∷ l) x (inl e) = inl (inl e)
  on_last-In f d (y ∷ z ∷ l) x (inr i) = either (on_last-In f y (z ∷ l) x i) (λ j. inl (inr j)) (λ r. inr (inr r.0, r.1))

  -- what the lists of all give, if the last one's grows at its end
  pub on_last-flat : {B : Type 0} (g : A → List B) (f : A → A) (d : A) (b : List B) (l : List A) → (l ≡ [] → ⊥) → g (f (last_or d l)) ≡ g (last_or d l) ++ b
      → flat g (on_last f l) ≡ flat g l ++ b
  on_last-flat g f d b [] n h = absurd (n refl)
  on_last-flat g f d b (x ∷ []) n h = rw (h, append-nil (g x ++ b), append-nil (g x))
  on_last-flat g f d b (x ∷ y ∷ l) n h = ap (λ r. g x ++ r) (on_last-flat g f x b (y ∷ l) cons≢nil h) ∙ sym (append_assoc (g x) (flat g (y ∷ l)) b)
