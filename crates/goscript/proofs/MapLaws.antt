-- What a map says of one key after a loop that inserts under keys that it lacks.
use mathlib.Core.Path.{◌≡◌, refl, sym, ap, ◌∙◌, subst}
use mathlib.Core.Bool.{Bool, true, false, cond}
use mathlib.Core.List.{List, [], ◌∷◌, foldl}
use mathlib.Core.Option.{Option, none, some}
use Rattle.objects.specs.Lists.{any}
use Rattle.objects.proofs.ListLaws.{cases}
use Rattle.rules.specs.Members.{Identity, same_id}
use Rattle.rules.proofs.MemberLaws.{same_id-true, same_id-self}
use Rattle.goscript.specs.Maps.{Map, get, contains, keys, insert_new}

module _ {A : Type 0} where
  abbrev pub or_else : Option A → Option A → Option A
  or_else none o = o
  or_else (some v) o = some v

  pub or_else-assoc : (a b c : Option A) → or_else (or_else a b) c ≡ or_else a (or_else b c)
  or_else-assoc none b c = refl
  or_else-assoc (some v) b c = refl

  pub or_else-none : (a : Option A) → or_else a none ≡ a
  or_else-none none = refl
  or_else-none (some v) = refl

  pub keys-have : (m : Map A) (q : Identity) → any (λ k. same_id k q) (keys m) ≡ contains m q
  keys-have [] q = refl
  keys-have (e ∷ m) q = cases (same_id e.key q) (λ h. rw h) (λ h. rw h (keys-have m q))

  -- a key that is not q
  new-other : (k q : Identity) (o : Option A) (m : Map A) → same_id k q ≡ false → get (insert_new k o m) q ≡ get m q
  new-other k q none m h = cases (contains m k) (λ c. rw c) (λ c. rw c)
  new-other k q (some v) m h = cases (contains m k) (λ c. rw c) (λ c. rw (c, h))

  new-same : (q : Identity) (o : Option A) (m : Map A) → get (insert_new q o m) q ≡ or_else (get m q) o
  new-same q o m = go (get m q) refl o
    where
      go : (g : Option A) → get m q ≡ g → (o : Option A) → get (insert_new q o m) q ≡ or_else (get m q) o
      go none e none = rw e e
      go none e (some v) = rw (e, same_id-self q)
      go (some w) e o = rw e e

  module _ (f : Identity → Option A) where
    twice : (a o : Option A) (b : Bool) → or_else (or_else a o) (cond b o none) ≡ or_else a o
    twice none none true = refl
    twice none none false = refl
    twice none (some v) b = refl
    twice (some w) o b = refl

    loop-at : (ks : List Identity) (m : Map A) (q : Identity) → get (foldl (λ b k. insert_new k (f k) b) m ks) q ≡ or_else (get m q) (cond (any (λ k. same_id k q) ks) (f q) none)
    loop-at [] m q = sym (or_else-none (get m q))
    loop-at (k ∷ ks) m q =
        cases (same_id k q)
        (λ e. rw e (loop-at ks (insert_new k (f k) m) q ∙ ap (λ o. or_else o (cond (any (λ x. same_id x q) ks) (f q) none)) (same e) ∙ twice (get m q) (f q) (any (λ x. same_id x q) ks)))
        (λ e. rw e (loop-at ks (insert_new k (f k) m) q ∙ ap (λ o. or_else o (cond (any (λ x. same_id x q) ks) (f q) none)) (new-other k q (f k) m e)))
      where
        same : same_id k q ≡ true → get (insert_new k (f k) m) q ≡ or_else (get m q) (f q)
        same e = subst (λ x. get (insert_new x (f x) m) q ≡ or_else (get m q) (f q)) (sym (same_id-true k q e)) (new-same q (f q) m)

-- a loop through the keys of a map, where a key that the map lacks gives nothing
pub loop-keys : {A B : Type 0} (f : Identity → Option A) (n : Map B) (m : Map A) (q : Identity) → (get n q ≡ none → f q ≡ none)
    → get (foldl (λ b k. insert_new k (f k) b) m (keys n)) q ≡ or_else (get m q) (f q)
loop-keys {B = B} f n m q h = loop-at f (keys n) m q ∙ go (get n q) refl
  where
    go : (g : Option B) → get n q ≡ g → or_else (get m q) (cond (any (λ k. same_id k q) (keys n)) (f q) none) ≡ or_else (get m q) (f q)
    go none e = rw (keys-have n q, e, h e)
    go (some v) e = rw (keys-have n q, e)
