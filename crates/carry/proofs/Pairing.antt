-- Two lists side by side (`AllPairs`), what is made of them place by place, and what an emptiness says of both.
use mathlib.Core.Path.{◌≡◌, refl, ap₂, ◌∙◌}
use mathlib.Core.Bool.{Bool}
use mathlib.Core.List.{List, [], ◌∷◌, ◌++◌, map, cons≢nil}
use native.Mathlib.Omega.{arith}
use lib.ListN.{length, length-append}
use Rattle.objects.specs.Lists.{keep, flat, empty}
use Rattle.objects.proofs.ListLaws.{cases}
use Rattle.objects.proofs.PairLaws.{AllPairs, pairs-long}

module _ {A : Type 0} (P : A → A → Type 0) where
  pub pairs-append : (a b c d : List A) → AllPairs P a c → AllPairs P b d → AllPairs P (a ++ b) (c ++ d)
  pairs-append [] b [] d p q = q
  pairs-append [] b (y ∷ c) d p q = absurd p
  pairs-append (x ∷ a) b [] d p q = absurd p
  pairs-append (x ∷ a) b (y ∷ c) d p q = (p.0, pairs-append a b c d p.1 q)

  -- behind lists of one length
  pub pairs-rest : (Q : A → A → Type 0) (a b c d : List A) → AllPairs Q a c → AllPairs P (a ++ b) (c ++ d) → AllPairs P b d
  pairs-rest Q [] b [] d q p = p
  pairs-rest Q [] b (y ∷ c) d q p = absurd q
  pairs-rest Q (x ∷ a) b [] d q p = absurd q
  pairs-rest Q (x ∷ a) b (y ∷ c) d q p = pairs-rest Q a b c d q.1 p.1

  pub pairs-keep : (p q : A → Bool) → ((x y : A) → P x y → q y ≡ p x) → (l m : List A) → AllPairs P l m → AllPairs P (keep p l) (keep q m)
  pairs-keep p q h [] [] a = tt
  pairs-keep p q h [] (y ∷ m) a = absurd a
  pairs-keep p q h (x ∷ l) [] a = absurd a
  pairs-keep p q h (x ∷ l) (y ∷ m) a =
      cases (p x)
      (λ e. rw (h x y a.0 ∙ e, e) (a.0, pairs-keep p q h l m a.1))
      (λ e. rw (h x y a.0 ∙ e, e) (pairs-keep p q h l m a.1))

  pub pairs-empty : (l m : List A) → AllPairs P l m → empty l ≡ empty m
  pairs-empty [] [] a = refl
  pairs-empty [] (y ∷ m) a = absurd a
  pairs-empty (x ∷ l) [] a = absurd a
  pairs-empty (x ∷ l) (y ∷ m) a = refl

  -- none beside none
  pub pairs-none : (l m : List A) → AllPairs P l m → l ≡ [] → m ≡ []
  pairs-none [] [] a e = refl
  pairs-none [] (y ∷ m) a e = absurd a
  pairs-none (x ∷ l) [] a e = refl
  pairs-none (x ∷ l) (y ∷ m) a e = absurd (cons≢nil e)

  pub pairs-nothing : (l m : List A) → AllPairs P l m → m ≡ [] → l ≡ []
  pairs-nothing [] m a e = refl
  pairs-nothing (x ∷ l) [] a e = absurd a
  pairs-nothing (x ∷ l) (y ∷ m) a e = absurd (cons≢nil e)

  -- lists of two parts, whose second ones are of one length
  pub pairs-split : (a b c d : List A) → length b ≡ length d → AllPairs P (a ++ b) (c ++ d) → AllPairs P a c × AllPairs P b d
  pairs-split [] b [] d e p = (tt, p)
  pairs-split [] b (y ∷ c) d e p = absurd (omega (arith, pairs-long P b ((y ∷ c) ++ d) p, length-append (y ∷ c) d))
  pairs-split (x ∷ a) b [] d e p = absurd (omega (arith, pairs-long P ((x ∷ a) ++ b) d p, length-append (x ∷ a) b))
  pairs-split (x ∷ a) b (y ∷ c) d e p = let r = pairs-split a b c d e p.1 in ((p.0, r.0), r.1)

  pub pairs-both : (Q : A → A → Type 0) (l m : List A) → AllPairs P l m → AllPairs Q l m → AllPairs (λ x y. P x y × Q x y) l m
  pairs-both Q [] [] a b = tt
  pairs-both Q [] (y ∷ m) a b = a
  pairs-both Q (x ∷ l) [] a b = a
  pairs-both Q (x ∷ l) (y ∷ m) a b = ((a.0, b.0), pairs-both Q l m a.1 b.1)

module _ {A B : Type 0} (P : A → A → Type 0) where
  pub pairs-of : (f : B → A) (l m : List B) → AllPairs P (map f l) (map f m) → AllPairs (λ x y. P (f x) (f y)) l m
  pairs-of f [] [] a = tt
  pairs-of f [] (y ∷ m) a = a
  pairs-of f (x ∷ l) [] a = a
  pairs-of f (x ∷ l) (y ∷ m) a = (a.0, pairs-of f l m a.1)

  pub pairs-mapped : (Q : B → B → Type 0) (f g : A → B) → ((x y : A) → P x y → Q (f x) (g y)) → (l m : List A) → AllPairs P l m → AllPairs Q (map f l) (map g m)
  pairs-mapped Q f g h [] [] a = tt
  pairs-mapped Q f g h [] (y ∷ m) a = absurd a
  pairs-mapped Q f g h (x ∷ l) [] a = absurd a
  pairs-mapped Q f g h (x ∷ l) (y ∷ m) a = (h x y a.0, pairs-mapped Q f g h l m a.1)

  pub pairs-flat : (Q : B → B → Type 0) (f g : A → List B) → ((x y : A) → P x y → AllPairs Q (f x) (g y)) → (l m : List A) → AllPairs P l m → AllPairs Q (flat f l) (flat g m)
  pairs-flat Q f g h [] [] a = tt
  pairs-flat Q f g h [] (y ∷ m) a = absurd a
  pairs-flat Q f g h (x ∷ l) [] a = absurd a
  pairs-flat Q f g h (x ∷ l) (y ∷ m) a = pairs-append Q (f x) (flat f l) (g y) (flat g m) (h x y a.0) (pairs-flat Q f g h l m a.1)

  -- what is equal place by place is one list
  pub pairs-equal : (f g : A → B) → ((x y : A) → P x y → g y ≡ f x) → (l m : List A) → AllPairs P l m → map g m ≡ map f l
  pairs-equal f g h [] [] a = refl
  pairs-equal f g h [] (y ∷ m) a = absurd a
  pairs-equal f g h (x ∷ l) [] a = absurd a
  pairs-equal f g h (x ∷ l) (y ∷ m) a = ap₂ (λ z r. z ∷ r) (h x y a.0) (pairs-equal f g h l m a.1)

-- beside each what f makes of it
pub pairs-graph : {A : Type 0} (f : A → A) (l : List A) → AllPairs (λ a b. b ≡ f a) l (map f l)
pairs-graph f [] = tt
pairs-graph f (x ∷ l) = (refl, pairs-graph f l)

pub graph-pairs : {A : Type 0} (f : A → A) (l m : List A) → AllPairs (λ a b. b ≡ f a) l m → m ≡ map f l
graph-pairs f [] [] a = refl
graph-pairs f [] (y ∷ m) a = absurd a
graph-pairs f (x ∷ l) [] a = absurd a
graph-pairs f (x ∷ l) (y ∷ m) a = ap₂ (λ z r. z ∷ r) a.0 (graph-pairs f l m a.1)
