-- Laws of Booleans and of the tests and parts of lists (specs/Lists.antt).
use mathlib.Core.Path.{◌≡◌, refl, sym, ap, ap₂, ◌∙◌, fun_ext}
use mathlib.Core.Bool.{Bool, true, false, cond, not, ◌&&◌, ◌||◌}
use mathlib.Core.List.{List, [], ◌∷◌, ◌++◌, map, append_assoc, cons≢nil}
use mathlib.Core.Logic.{◌⊎◌, inl, inr}
use Rattle.objects.specs.Lists.{any, keep, flat, In}

-- ---- Booleans

pub cases {ℓ} : {C : Type ℓ} (b : Bool) → (b ≡ true → C) → (b ≡ false → C) → C
cases true t f = t refl
cases false t f = f refl

pub clash : {C : Type 0} {b : Bool} → b ≡ true → b ≡ false → C
clash p q = let z : ◌≡◌ {A = Bool} true false = cc in absurd (no z)
  where
    no : ◌≡◌ {A = Bool} true false → ⊥
    no = mathlib.Core.Bool.true≢false

pub or_assoc : (a b c : Bool) → (a || b) || c ≡ a || (b || c)
or_assoc true b c = refl
or_assoc false b c = refl

pub or-false : (a : Bool) → a || false ≡ a
or-false true = refl
or-false false = refl

pub or-true : (a : Bool) → a || true ≡ true
or-true true = refl
or-true false = refl

pub not-or : (a b : Bool) → not (a || b) ≡ not a && not b
not-or true b = refl
not-or false b = refl

-- ---- any, keep, flat

module _ {A : Type 0} where
  pub any_append : (p : A → Bool) (l m : List A) → any p (l ++ m) ≡ any p l || any p m
  any_append p [] m = refl
  any_append p (x ∷ xs) m = rw (any_append p xs m, or_assoc)

  pub keep_append : (p : A → Bool) (l m : List A) → keep p (l ++ m) ≡ keep p l ++ keep p m
  keep_append p [] m = refl
  keep_append p (x ∷ xs) m = cases (p x) (λ e. rw (e, keep_append p xs m)) (λ e. rw (e, keep_append p xs m))

  -- keeping twice; the order does not matter
  pub keep-keep : (p q : A → Bool) (l : List A) → keep p (keep q l) ≡ keep (λ x. q x && p x) l
  keep-keep p q [] = refl
  keep-keep p q (x ∷ xs) =
      cases (q x) (λ e. cases (p x) (λ f. rw (e, f, keep-keep p q xs)) (λ f. rw (e, f, keep-keep p q xs))) (λ e. rw (e, keep-keep p q xs))

  pub keep-swap : (p q : A → Bool) (l : List A) → keep p (keep q l) ≡ keep q (keep p l)
  keep-swap p q [] = refl
  keep-swap p q (x ∷ xs) =
      cases (q x) (λ e. cases (p x) (λ f. rw (e, f, e, keep-swap p q xs)) (λ f. rw (e, f, keep-swap p q xs))) (λ e. cases (p x) (λ f. rw (e, f, e, keep-swap p q xs)) (λ f. rw (e, f, keep-swap p q xs)))

  -- a test that the kept ones pass changes nothing
  pub keep-weaker : (p q : A → Bool) → ((x : A) → p x ≡ true → q x ≡ true) → (l : List A) → keep p (keep q l) ≡ keep p l
  keep-weaker p q h [] = refl
  keep-weaker p q h (x ∷ xs) =
      cases (p x) (λ e. rw (h x e, e, keep-weaker p q h xs)) (λ e. cases (q x) (λ f. rw (f, e, keep-weaker p q h xs)) (λ f. rw (f, e, keep-weaker p q h xs)))

  pub any-keep : (p q : A → Bool) → ((x : A) → p x ≡ true → q x ≡ true) → (l : List A) → any p (keep q l) ≡ any p l
  any-keep p q h [] = refl
  any-keep p q h (x ∷ xs) =
      cases (p x) (λ e. rw (h x e, e)) (λ e. cases (q x) (λ f. rw (f, e, any-keep p q h xs)) (λ f. rw (f, e, any-keep p q h xs)))

  pub keep-none : (p : A → Bool) (l : List A) → any p l ≡ false → keep p l ≡ []
  keep-none p [] h = refl
  keep-none p (x ∷ xs) h = cases (p x) (λ e. clash (rw e) h) (λ e. rw e (keep-none p xs (rw e at h)))

  pub remove-none : (p : A → Bool) (l : List A) → any p l ≡ false → keep (λ x. not (p x)) l ≡ l
  remove-none p [] h = refl
  remove-none p (x ∷ xs) h = cases (p x) (λ e. clash (rw e) h) (λ e. rw e (ap (λ r. x ∷ r) (remove-none p xs (rw e at h))))

  pub any-ext : (p q : A → Bool) → ((x : A) → p x ≡ q x) → (l : List A) → any p l ≡ any q l
  any-ext p q h l = ap (λ r. any r l) (fun_ext h)

  pub keep-ext : (p q : A → Bool) → ((x : A) → p x ≡ q x) → (l : List A) → keep p l ≡ keep q l
  keep-ext p q h l = ap (λ r. keep r l) (fun_ext h)

module _ {A B : Type 0} where
  pub flat_append : (f : A → List B) (l m : List A) → flat f (l ++ m) ≡ flat f l ++ flat f m
  flat_append f [] m = refl
  flat_append f (x ∷ xs) m = rw (flat_append f xs m, append_assoc)

  pub any-map : (p : B → Bool) (f : A → B) (l : List A) → any p (map f l) ≡ any (λ x. p (f x)) l
  any-map p f [] = refl
  any-map p f (x ∷ xs) = rw (any-map p f xs)

  pub keep-map : (p : B → Bool) (f : A → B) (l : List A) → keep p (map f l) ≡ map f (keep (λ x. p (f x)) l)
  keep-map p f [] = refl
  keep-map p f (x ∷ xs) = cases (p (f x)) (λ e. rw (e, keep-map p f xs)) (λ e. rw (e, keep-map p f xs))

  pub any-flat : (p : B → Bool) (f : A → List B) (l : List A) → any p (flat f l) ≡ any (λ x. any p (f x)) l
  any-flat p f [] = refl
  any-flat p f (x ∷ xs) = rw (any_append p (f x) (flat f xs), any-flat p f xs)

  -- what is left out beforehand would have been left out afterwards
  pub keep-flat : (p : B → Bool) (q : A → Bool) (f : A → List B) → ((x : A) → q x ≡ false → any p (f x) ≡ false) → (l : List A)
      → keep p (flat f (keep q l)) ≡ keep p (flat f l)
  keep-flat p q f h [] = refl
  keep-flat p q f h (x ∷ xs) =
      cases (q x)
      (λ e. rw (e, keep_append p (f x) (flat f (keep q xs)), keep_append p (f x) (flat f xs), keep-flat p q f h xs))
      (λ e. rw (e, keep_append p (f x) (flat f xs), keep-none p (f x) (h x e), keep-flat p q f h xs))

pub map-append : {A B : Type 0} (f : A → B) (l m : List A) → map f (l ++ m) ≡ map f l ++ map f m
map-append f [] m = refl
map-append f (x ∷ xs) m = rw (map-append f xs m)

module _ {A : Type 0} where
  pub any-In : (p : A → Bool) (l : List A) (x : A) → In x l → p x ≡ true → any p l ≡ true
  any-In p [] x x4 h = elim x4 [ ]
  any-In p (y ∷ ys) x (inl e) h = rw (← e, h)
  any-In p (y ∷ ys) x (inr i) h = rw (any-In p ys x i h, or-true)

  pub any_none : (p : A → Bool) (l : List A) → ((x : A) → In x l → p x ≡ false) → any p l ≡ false
  any_none p [] h = refl
  any_none p (y ∷ ys) h = rw (h y (inl refl)) (any_none p ys (λ x i. h x (inr i)))

  pub none-In : (p : A → Bool) (l : List A) (x : A) → any p l ≡ false → In x l → p x ≡ false
  none-In p l x h i = cases (p x) (λ e. clash (any-In p l x i e) h) (λ e. e)

  -- one that passes the test
  pub some-In : (p : A → Bool) (l : List A) → any p l ≡ true → (x : A) × In x l × (p x ≡ true)
  some-In p [] h = clash h refl
  some-In p (y ∷ ys) h = cases (p y) (λ e. (y, inl refl, e)) (λ e. let r = some-In p ys (rw e at h) in (r.0, inr r.1, r.2))

  pub map-In : {B : Type 0} (f g : A → B) (l : List A) → ((x : A) → In x l → f x ≡ g x) → map f l ≡ map g l
  map-In f g [] h = refl
  map-In f g (y ∷ ys) h = ap₂ (λ a b. a ∷ b) (h y (inl refl)) (map-In f g ys (λ x i. h x (inr i)))

pub map-map : {A B C : Type 0} (f : B → C) (g : A → B) (l : List A) → map f (map g l) ≡ map (λ x. f (g x)) l
map-map f g [] = refl
map-map f g (x ∷ xs) = rw (map-map f g xs)

pub keep-yes : {A : Type 0} (l : List A) → keep (λ x. true) l ≡ l
keep-yes [] = refl
keep-yes (x ∷ xs) = rw (keep-yes xs)

pub un_not : (b : Bool) → not b ≡ false → b ≡ true
un_not true h = refl
un_not false h = sym h

pub any-yes : {A : Type 0} (p : A → Bool) (l : List A) → any p l ≡ any (λ x. true) (keep p l)
any-yes p [] = refl
any-yes p (x ∷ xs) = cases (p x) (λ e. rw e) (λ e. rw e (any-yes p xs))

pub or_l : (a b : Bool) → a || b ≡ false → a ≡ false
or_l true b h = h
or_l false b h = refl

pub or_r : (a b : Bool) → a || b ≡ false → b ≡ false
or_r true b h = clash refl h
or_r false b h = h

pub and_l : (a b : Bool) → a && b ≡ true → a ≡ true
and_l true b h = refl
and_l false b h = h

pub and_r : (a b : Bool) → a && b ≡ true → b ≡ true
and_r true b h = h
and_r false b h = clash h refl

pub any-sub : {A : Type 0} (p q : A → Bool) (l : List A) → any p (keep q l) ≡ true → any p l ≡ true
any-sub p q [] h = h
any-sub p q (x ∷ xs) h =
    cases (p x) (λ e. rw e) (λ e. rw e (any-sub p q xs (cases (q x) (λ f. rw (f, e) at h) (λ f. rw f at h))))

-- ---- membership

pub either {ℓ} : {A B : Type 0} {C : Type ℓ} → A ⊎ B → (A → C) → (B → C) → C
either (inl a) f g = f a
either (inr b) f g = g b

module _ {A : Type 0} where
  pub In-keep : (p : A → Bool) (l : List A) (x : A) → In x (keep p l) → In x l × (p x ≡ true)
  In-keep p [] x i = elim i [ ]
  In-keep p (y ∷ ys) x i =
      cases (p y)
      (λ e. either (rw e at i) (λ f. (inl f, rw (f, e))) (λ j. let r = In-keep p ys x j in (inr r.0, r.1)))
      (λ e. let r = In-keep p ys x (rw e at i) in (inr r.0, r.1))

  pub In-append : (l m : List A) (x : A) → In x (l ++ m) → In x l ⊎ In x m
  In-append [] m x i = inr i
  In-append (y ∷ ys) m x (inl e) = inl (inl e)
  In-append (y ∷ ys) m x (inr i) = either (In-append ys m x i) (λ j. inl (inr j)) (λ j. inr j)

module _ {A B : Type 0} where
  pub In-map : (f : A → B) (l : List A) (y : B) → In y (map f l) → (x : A) × In x l × (y ≡ f x)
  In-map f [] y x' = elim x' [ ]
  In-map f (x ∷ xs) y (inl e) = (x, inl refl, e)
  In-map f (x ∷ xs) y (inr i) = let r = In-map f xs y i in (r.0, inr r.1, r.2)

  pub In-flat : (f : A → List B) (l : List A) (y : B) → In y (flat f l) → (x : A) × In x l × In y (f x)
  In-flat f [] y i = elim i [ ]
  In-flat f (x ∷ xs) y i = either (In-append (f x) (flat f xs) y i) (λ j. (x, inl refl, j)) (λ j. let r = In-flat f xs y j in (r.0, inr r.1, r.2))

pub map-nil : {A B : Type 0} (f : A → B) (l : List A) → map f l ≡ [] → l ≡ []
map-nil f [] h = refl
map-nil f (x ∷ xs) h = absurd (cons≢nil h)

module _ {A : Type 0} where
  pub In-append-l : (l m : List A) (x : A) → In x l → In x (l ++ m)
  In-append-l [] m x x3 = elim x3 [ ]
  In-append-l (y ∷ ys) m x (inl e) = inl e
  In-append-l (y ∷ ys) m x (inr i) = inr (In-append-l ys m x i)

  pub In-append-r : (l m : List A) (x : A) → In x m → In x (l ++ m)
  In-append-r [] m x i = i
  In-append-r (y ∷ ys) m x i = inr (In-append-r ys m x i)

module _ {A B : Type 0} where
  pub map-In-to : (f : A → B) (l : List A) (x : A) → In x l → In (f x) (map f l)
  map-In-to f [] x x3 = elim x3 [ ]
  map-In-to f (y ∷ ys) x (inl e) = inl (ap f e)
  map-In-to f (y ∷ ys) x (inr i) = inr (map-In-to f ys x i)

  pub flat-In-to : (f : A → List B) (l : List A) (x : A) (y : B) → In x l → In y (f x) → In y (flat f l)
  flat-In-to f [] x y x4 j = elim x4 [ ]
  flat-In-to f (z ∷ zs) x y (inl e) j = In-append-l (f z) (flat f zs) y (rw e at j)
  flat-In-to f (z ∷ zs) x y (inr i) j = In-append-r (f z) (flat f zs) y (flat-In-to f zs x y i j)

module _ {A : Type 0} where
  pub keep_all : (p : A → Bool) (l : List A) → any (λ x. not (p x)) l ≡ false → keep p l ≡ l
  keep_all p [] h = refl
  keep_all p (x ∷ xs) h = cases (p x) (λ e. rw e (ap (λ r. x ∷ r) (keep_all p xs (rw e at h)))) (λ e. clash (rw e) h)

  pub none_kept : (p : A → Bool) (l : List A) → keep p l ≡ [] → any p l ≡ false
  none_kept p l h = any-yes p l ∙ rw h

  pub any-In-ext : (p q : A → Bool) (l : List A) → ((x : A) → In x l → p x ≡ q x) → any p l ≡ any q l
  any-In-ext p q [] h = refl
  any-In-ext p q (x ∷ xs) h = ap₂ (λ a b. a || b) (h x (inl refl)) (any-In-ext p q xs (λ y i. h y (inr i)))

  pub keep-In-ext : (p q : A → Bool) (l : List A) → ((x : A) → In x l → p x ≡ q x) → keep p l ≡ keep q l
  keep-In-ext p q [] h = refl
  keep-In-ext p q (x ∷ xs) h = cases (q x) (λ e. rw (h x (inl refl) ∙ e, e, keep-In-ext p q xs (λ y i. h y (inr i)))) (λ e. rw (h x (inl refl) ∙ e, e, keep-In-ext p q xs (λ y i. h y (inr i))))

pub flat_map : {A B C : Type 0} (f : B → List C) (g : A → B) (l : List A) → flat f (map g l) ≡ flat (λ x. f (g x)) l
flat_map f g [] = refl
flat_map f g (x ∷ xs) = rw (flat_map f g xs)

pub map-flat : {A B C : Type 0} (f : B → C) (g : A → List B) (l : List A) → map f (flat g l) ≡ flat (λ x. map f (g x)) l
map-flat f g [] = refl
map-flat f g (x ∷ xs) = rw (map-append f (g x) (flat g xs), map-flat f g xs)

pub flat-In-ext : {A B : Type 0} (f g : A → List B) (l : List A) → ((x : A) → In x l → f x ≡ g x) → flat f l ≡ flat g l
flat-In-ext f g [] h = refl
flat-In-ext f g (x ∷ xs) h = ap₂ (λ a b. a ++ b) (h x (inl refl)) (flat-In-ext f g xs (λ y i. h y (inr i)))

pub keep-In-to : {A : Type 0} (p : A → Bool) (l : List A) (x : A) → In x l → p x ≡ true → In x (keep p l)
keep-In-to {A = A} p [] x x4 h = elim x4 [ ]
keep-In-to p (y ∷ ys) x (inl e) h = rw (← e, h) (inl refl)
keep-In-to p (y ∷ ys) x (inr i) h = cases (p y) (λ f. rw f (inr (keep-In-to p ys x i h))) (λ f. rw f (keep-In-to p ys x i h))
