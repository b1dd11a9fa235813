-- The remaining twin of a type (crate edits, specs/Tidy.antt): identical to it, the same for identical types, and found in the list of those that remain by its new number.
use mathlib.Core.Path.{◌≡◌, refl, sym, ap, ap₂, ◌∙◌, subst}
use mathlib.Core.Bool.{Bool, true, not}
use mathlib.Core.List.{List, [], ◌∷◌, ◌++◌, map}
use mathlib.Core.Logic.{inl, inr}
use Prim.Native.Nat.{ℕ, zero, suc, ◌≤◌, ◌<◌}
use native.Mathlib.Omega.{arith}
use lib.Dec.{ltb}
use lib.ListN.{length, get_or}
use borrow.Author.Tests.{ltb-true, lt-ltb, le-ltb}
use Rattle.objects.specs.Lists.{keep, head_or, In, Sorted, up_to}
use Rattle.objects.proofs.ListLaws.{cases, either, In-keep, keep-In-to, keep-ext, keep_all, keep-none, any_none, In-map, map-In-to, In-append}
use Rattle.objects.proofs.BoolLaws.{iff-eq}
use Rattle.objects.proofs.KeyLaws.{key-eq, same_key, same_self}
use Rattle.objects.proofs.Numbers.{up_to-below, up_to-has, each_more, each-length, each_at}
use Rattle.objects.proofs.PartLaws.{get_or-In}
use Rattle.objects.proofs.SortedLaws.{sorted-keep}
use Rattle.objects.specs.declared.TypeKey.{TypeKey}
use Rattle.objects.specs.Table.{Table, size, type_key, same_type}
use Rattle.rules.specs.Identity.{identical}
use Rattle.rules.specs.Sound.{Sound}
use Rattle.rules.proofs.IdentityLaws.{identical-self, identical-turn, identical-trans}
use Rattle.edits.specs.Tidy.{all_types, least, remaining, tidy_type}

-- ---- lists of types in order

abbrev pub Lower : TypeKey → TypeKey → Type 0
Lower t u = t.0 < u.0

sorted-append : (l : List TypeKey) (x : TypeKey) → Sorted Lower l → ((y : TypeKey) → In y l → Lower y x) → Sorted Lower (l ++ (x ∷ []))
sorted-append [] x s h = (λ y i. absurd i, tt)
sorted-append (z ∷ l) x s h = (
  λ y i. either (In-append l (x ∷ []) y i) (s.0 y) (λ j. either j (λ e. subst (Lower z) (sym e) (h z (inl refl))) (λ k. absurd k)),
  sorted-append l x s.1 (λ y i. h y (inr i)),
)

-- how many come before x
abbrev before : TypeKey → List TypeKey → ℕ
before x l = length (keep (λ u. ltb u.0 x.0) l)

-- .. is where x stands
stands-at : (l : List TypeKey) (x d : TypeKey) → Sorted Lower l → In x l → (before x l < length l) × (get_or l (before x l) d ≡ x)
stands-at [] x d s x4 = elim x4 [ ]
stands-at (y ∷ l) x d s (inl e) =
    let z : before x (y ∷ l) ≡ 0 = ap length (keep-none (λ u. ltb u.0 x.0) (y ∷ l) (any_none (λ u. ltb u.0 x.0) (y ∷ l) (λ u i. le-ltb u.0 x.0 (rw e (above u i))))) in
    rw z (omega arith, sym e)
  where
    above : (u : TypeKey) → In u (y ∷ l) → y.0 ≤ u.0
    above u (inl q) = rw q (omega arith)
    above u (inr i) = let h = s.0 u i in omega arith
stands-at (y ∷ l) x d s (inr i) =
    let r = stands-at l x d s.1 i in
    let h = r.0 in
    rw (lt-ltb y.0 x.0 (s.0 x i)) (omega arith, r.1)

-- .. and the one at a place has as many before it
before_at : (l : List TypeKey) (i : ℕ) (d : TypeKey) → Sorted Lower l → i < length l → before (get_or l i d) l ≡ i
before_at [] i d s h = absurd (omega arith)
before_at (y ∷ l) zero d s h = ap length (keep-none (λ u. ltb u.0 y.0) (y ∷ l) (any_none (λ u. ltb u.0 y.0) (y ∷ l) (λ u i. le-ltb u.0 y.0 (above u i))))
  where
    above : (u : TypeKey) → In u (y ∷ l) → y.0 ≤ u.0
    above u (inl q) = rw q (omega arith)
    above u (inr i) = let h = s.0 u i in omega arith
before_at (y ∷ l) (suc i) d s h = rw (lt-ltb y.0 (get_or l i d).0 (s.0 (get_or l i d) (get_or-In l i d (omega arith)))) (ap suc (before_at l i d s.1 (omega arith)))

-- fewer come before a smaller one
keep-more : (p q : TypeKey → Bool) → ((x : TypeKey) → p x ≡ true → q x ≡ true) → (l : List TypeKey) → length (keep p l) ≤ length (keep q l)
keep-more p q h [] = omega arith
keep-more p q h (x ∷ l) =
    let k = keep-more p q h l in
    cases (p x)
    (λ e. rw (e, h x e) (omega arith))
    (λ e. cases (q x) (λ d. rw (e, d) (omega arith)) (λ d. rw (e, d) k))

before-less : (l : List TypeKey) (x y : TypeKey) → In x l → x.0 < y.0 → before x l < before y l
before-less [] x y x4 h = elim x4 [ ]
before-less (z ∷ l) x y (inl e) h =
    let k = keep-more (λ u. ltb u.0 x.0) (λ u. ltb u.0 y.0) (λ u a. let b = ltb-true u.0 x.0 a in lt-ltb u.0 y.0 (omega arith)) l in
    let f : z.0 ≡ x.0 = ap (λ (u : TypeKey). u.0) (sym e) in
    rw (le-ltb z.0 x.0 (omega arith), lt-ltb z.0 y.0 (omega arith)) (omega arith)
before-less (z ∷ l) x y (inr i) h =
    let k = before-less l x y i h in
    cases (ltb z.0 x.0)
    (λ e. let b = ltb-true z.0 x.0 e in rw (e, lt-ltb z.0 y.0 (omega arith)) (omega arith))
    (λ e. cases (ltb z.0 y.0) (λ d. rw (e, d) (omega arith)) (λ d. rw (e, d) k))

head-In : (l : List TypeKey) (x d : TypeKey) → In x l → In (head_or d l) l
head-In [] x d i = elim i [ ]
head-In (y ∷ l) x d i = inl refl

head-same : (l : List TypeKey) (x d e : TypeKey) → In x l → head_or d l ≡ head_or e l
head-same [] x d e i = elim i [ ]
head-same (y ∷ l) x d e i = refl

-- the first of a list in order is the least
head-least : (l : List TypeKey) (x d : TypeKey) → Sorted Lower l → In x l → (head_or d l).0 ≤ x.0
head-least [] x d s x4 = elim x4 [ ]
head-least (y ∷ l) x d s (inl e) = rw e (omega arith)
head-least (y ∷ l) x d s (inr i) = let h = s.0 x i in omega arith

-- ---- the types of a table

module _ (T : Table) where
  all-In : (t : TypeKey) → t.0 < size T → In t (all_types T)
  all-In t h = map-In-to type_key (up_to (size T)) t.0 (up_to-has (size T) t.0 h)

  In-all : (t : TypeKey) → In t (all_types T) → t.0 < size T
  In-all t i = let r = In-map type_key (up_to (size T)) t i in rw r.2 (up_to-below (size T) r.0 r.1)

  all-sorted : Sorted Lower (all_types T)
  all-sorted = go (size T)
    where
      go : (n : ℕ) → Sorted Lower (map type_key (up_to n))
      go zero = tt
      go (suc n) = rw (each_more type_key n) (sorted-append (map type_key (up_to n)) (type_key n) (go n) (λ y i. let r = In-map type_key (up_to n) y i in rw r.2 (up_to-below n r.0 r.1)))

module _ (T : Table) (sound : Sound T) where
  abbrev twins : TypeKey → List TypeKey
  twins t = keep (λ u. identical T u t) (all_types T)

  twin-self : (t : TypeKey) → t.0 < size T → In t (twins t)
  twin-self t h = keep-In-to (λ u. identical T u t) (all_types T) t (all-In T t h) (identical-self T sound t)

  -- THE REMAINING TWIN is identical to t, and comes no later
  pub least-is : (t : TypeKey) → t.0 < size T → ((least T t).0 < size T) × (identical T (least T t) t ≡ true) × ((least T t).0 ≤ t.0)
  unfolding least
  least-is t h =
      let i = twin-self t h in
      let r = In-keep (λ u. identical T u t) (all_types T) (head_or t (twins t)) (head-In (twins t) t t i) in
      (In-all T (head_or t (twins t)) r.0, r.1, head-least (twins t) t t (sorted-keep Lower (λ u. identical T u t) (all_types T) (all-sorted T)) i)

  -- identical types have one
  pub least-same : (x y : TypeKey) → x.0 < size T → identical T x y ≡ true → least T x ≡ least T y
  unfolding least
  least-same x y h e =
      head-same (twins x) x x y (twin-self x h)
      ∙ ap (head_or y)
      (keep-ext (λ u. identical T u x) (λ u. identical T u y)
      (λ u. iff-eq (identical T u x) (identical T u y) (λ k. identical-trans T sound u x y k e) (λ k. identical-trans T sound u y x k (identical-turn T sound x y e)))
      (all_types T))

  remains : (t : TypeKey) → t.0 < size T → In (least T t) (remaining T)
  unfolding remaining
  remains t h =
      let r = least-is t h in
      keep-In-to (λ u. same_type (least T u) u) (all_types T) (least T t) (all-In T (least T t) r.0) (rw (least-same (least T t) t r.0 r.1) (same_self (least T t)))

  -- what remains is its own twin
  remains-own : (t : TypeKey) → In t (remaining T) → (t.0 < size T) × (least T t ≡ t)
  unfolding remaining
  remains-own t i = let r = In-keep (λ u. same_type (least T u) u) (all_types T) t i in (In-all T t r.0, same_key (least T t) t r.1)

  remaining-sorted : Sorted Lower (remaining T)
  unfolding remaining
  remaining-sorted = sorted-keep Lower (λ u. same_type (least T u) u) (all_types T) (all-sorted T)

  -- BY ITS NEW NUMBER a type's twin is found
  pub tidy-at : (t d : TypeKey) → t.0 < size T → ((tidy_type T t).0 < length (remaining T)) × (get_or (remaining T) (tidy_type T t).0 d ≡ least T t)
  unfolding tidy_type
  tidy-at t d h = stands-at (remaining T) (least T t) d remaining-sorted (remains t h)

  -- identical types become one, and no others do
  pub tidy-same : (x y : TypeKey) → x.0 < size T → identical T x y ≡ true → tidy_type T x ≡ tidy_type T y
  unfolding tidy_type
  tidy-same x y h e = ap (λ (z : TypeKey). type_key (length (keep (λ u. ltb u.0 z.0) (remaining T)))) (least-same x y h e)

  pub same-tidy : (x y : TypeKey) → x.0 < size T → y.0 < size T → tidy_type T x ≡ tidy_type T y → identical T x y ≡ true
  same-tidy x y hx hy e =
      let z : least T x ≡ least T y = sym (tidy-at x x hx).1 ∙ ap (λ (k : TypeKey). get_or (remaining T) k.0 x) e ∙ (tidy-at y x hy).1 in
      identical-trans T sound x (least T x) y (identical-turn T sound (least T x) x (least-is x hx).1) (subst (λ u. identical T u y ≡ true) (sym z) (least-is y hy).1)

  -- WHAT HAS A NEW NUMBER: the type that remains at that place; an earlier type gets an earlier number
  pub record Had (u : TypeKey) : Type 0 where
    pub type : TypeKey
    pub inside : type.0 < size T
    pub is : tidy_type T type ≡ u
    pub order : (e : TypeKey) → e.0 < type.0 → (tidy_type T e).0 < u.0

  pub had : (u : TypeKey) → u.0 < length (remaining T) → Had u
  unfolding tidy_type
  had u h =
      let t = get_or (remaining T) u.0 u in
      let i = get_or-In (remaining T) u.0 u h in
      let r = remains-own t i in
      let at : before t (remaining T) ≡ u.0 = before_at (remaining T) u.0 u remaining-sorted h in
      record {
        type = t;
        inside = r.0;
        is = key-eq (type_key (before (least T t) (remaining T))) u (ap (λ z. before z (remaining T)) r.1 ∙ at);
        order = λ e k. let he = r.0 in let l = least-is e (omega arith) in let le = l.2 in let b = before-less (remaining T) (least T e) t (remains e (omega arith)) (omega arith) in omega arith;
      }

  -- a table in which identical types are one: all remain, each with its number
  module _ (alone : (x y : TypeKey) → x.0 < size T → y.0 < size T → identical T x y ≡ true → x ≡ y) where
    least-own : (t : TypeKey) → t.0 < size T → least T t ≡ t
    least-own t h = let r = least-is t h in alone (least T t) t r.0 h r.1

    pub all-remain : remaining T ≡ all_types T
    unfolding remaining
    all-remain = keep_all (λ t. same_type (least T t) t) (all_types T) (any_none (λ t. not (same_type (least T t) t)) (all_types T) (λ t i. rw (least-own t (In-all T t i), same_self t)))

    pub tidy-own : (t : TypeKey) → t.0 < size T → tidy_type T t ≡ t
    unfolding tidy_type
    tidy-own t h =
        key-eq (type_key (before (least T t) (remaining T))) t
        (ap₂ before (least-own t h) all-remain
        ∙ ap (λ z. before z (all_types T)) (sym (each_at type_key (size T) t.0 t h))
        ∙ before_at (all_types T) t.0 t (all-sorted T) (rw (each-length type_key (size T)) h))
