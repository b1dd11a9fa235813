-- What falls in `identical_impl`: the pairs of types that are not yet in `dup`, and between two interface pairs a rank by the type's number. No more calls
-- are inside each other than `enough_calls`.
use mathlib.Core.Path.{◌≡◌, refl, ap, ◌∙◌}
use mathlib.Core.Bool.{Bool, true, false, cond, not, ◌&&◌, ◌||◌}
use mathlib.Core.List.{List, [], ◌∷◌, map}
use mathlib.Core.Logic.{inl, inr}
use Prim.Native.Nat.{ℕ, suc, ◌+◌, ◌*◌, ◌≤◌, ◌<◌}
use native.Mathlib.Omega.{arith}
use native.Mathlib.Nat.{suc-mul, mul-le-mul_right}
use lib.Dec.{ltb}
use lib.ListN.{length, length-map, length-append}
use borrow.Author.Tests.{ltb-true}
use Rattle.objects.specs.Lists.{any, keep, flat, up_to, In}
use Rattle.objects.specs.declared.TypeKey.{TypeKey}
use Rattle.objects.specs.Table.{Table, size, type_key, Entity, Field, Method, Member, Kind, Basic, Array, Slice, Pointer, Map, Chan, Tuple, Func, Struct, Iface, Named, is_tuple, is_iface, is_named, refs, members_of, kind_at}
use Rattle.objects.proofs.ListLaws.{cases, clash, either, or_l, or_r, and_l, and_r, any-In, some-In, In-append, In-map, map-In-to, flat-In-to}
use Rattle.objects.proofs.BoolLaws.{and_i}
use Rattle.objects.proofs.PartLaws.{every-In}
use Rattle.objects.proofs.KeyLaws.{same_self}
use Rattle.objects.proofs.Numbers.{up_to-length, up_to-has}
use Rattle.rules.specs.Identity.{parts, Pair, same_pair}
use Rattle.rules.specs.Checks.{may_refer, may_embed, smaller_tuple, ends_in_slice, type_allowed, member_allowed}
use Rattle.rules.specs.Load.{stands}
use Rattle.rules.specs.Sound.{Sound}
use Rattle.rules.proofs.IdentityLaws.{pair}
use Rattle.goscript.proofs.LevelsEnd.{smaller}
use Rattle.goscript.proofs.Runs.{Sub}

-- ---- how many of a list pass a test

module _ {A : Type 0} (p q : A → Bool) (h : (x : A) → p x ≡ true → q x ≡ true) where
  keep-fewer : (l : List A) → length (keep p l) ≤ length (keep q l)
  keep-fewer [] = omega arith
  keep-fewer (x ∷ l) =
      let ih = keep-fewer l in
      cases (p x) (λ e. rw (e, h x e) (omega arith)) (λ e. cases (q x) (λ f. rw (e, f) (omega arith)) (λ f. rw (e, f) (omega arith)))

  -- one fails that passed before
  keep-less : (l : List A) (z : A) → In z l → p z ≡ false → q z ≡ true → length (keep p l) < length (keep q l)
  keep-less [] z x3 f g = elim x3 [ ]
  keep-less (x ∷ l) z (inl e) f g = let ih = keep-fewer l in rw (← e, f, g) (omega arith)
  keep-less (x ∷ l) z (inr i) f g =
      let ih = keep-less l z i f g in
      cases (p x) (λ e. rw (e, h x e) (omega arith)) (λ e. cases (q x) (λ k. rw (e, k) (omega arith)) (λ k. rw (e, k) (omega arith)))

keep-most : {A : Type 0} (p : A → Bool) (l : List A) → length (keep p l) ≤ length l
keep-most p [] = omega arith
keep-most p (x ∷ l) = let ih = keep-most p l in cases (p x) (λ e. rw e (omega arith)) (λ e. rw e (omega arith))

flat-length : {A B : Type 0} (f : A → List B) (n : ℕ) (l : List A) → ((x : A) → length (f x) ≡ n) → length (flat f l) ≡ length l * n
flat-length f n [] h = omega arith
flat-length f n (x ∷ l) h = let ih = flat-length f n l h in let a = length-append (f x) (flat f l) in let e = h x in omega (arith, suc-mul (length l) n)

-- ---- pairs

pair-self : (p : Pair) → same_pair p p ≡ true
pair-self p = and_i (same_self p.left) (same_self p.right)

module _ (T : Table) where
  abbrev row : ℕ → List Pair
  row i = map (λ j. pair (type_key i) (type_key j)) (up_to (size T))

  abbrev all_pairs : List Pair
  all_pairs = flat row (up_to (size T))

  pairs-count : length all_pairs ≡ size T * size T
  pairs-count = flat-length row (size T) (up_to (size T)) (λ i. length-map (up_to (size T)) (λ j. pair (type_key i) (type_key j)) ∙ up_to-length (size T)) ∙ ap (λ n. n * size T) (up_to-length (size T))

  pair-In : (x y : TypeKey) → x.0 < size T → y.0 < size T → In (pair x y) all_pairs
  pair-In x y hx hy =
      flat-In-to row (up_to (size T)) x.0 (pair x y) (up_to-has (size T) x.0 hx) (map-In-to (λ j. pair (type_key x.0) (type_key j)) (up_to (size T)) y.0 (up_to-has (size T) y.0 hy))

  -- not in dup
  abbrev fresh : List Pair → Pair → Bool
  fresh d p = not (any (same_pair p) d)

  -- how many pairs are not in dup
  unfoldable pub unmet : List Pair → ℕ
  unmet d = length (keep (fresh d) all_pairs)

  fresh-sub : (d e : List Pair) → Sub d e → (p : Pair) → fresh e p ≡ true → fresh d p ≡ true
  fresh-sub d e s p h =
      cases (any (same_pair p) d)
      (λ f. let r = some-In (same_pair p) d f in clash h (ap not (any-In (same_pair p) e r.0 (s r.0 r.1) r.2)))
      (λ f. rw f)

  pub unmet-sub : (d e : List Pair) → Sub d e → unmet e ≤ unmet d
  unfolding unmet
  unmet-sub d e s = keep-fewer (fresh e) (fresh d) (fresh-sub d e s) all_pairs

  pub unmet-falls : (x y : TypeKey) (d e : List Pair) → x.0 < size T → y.0 < size T → any (same_pair (pair x y)) d ≡ false → Sub (pair x y ∷ d) e → unmet e < unmet d
  unfolding unmet
  unmet-falls x y d e hx hy h s =
      keep-less (fresh e) (fresh d) (fresh-sub d e (λ p i. s p (inr i))) all_pairs (pair x y) (pair-In x y hx hy)
      (ap not (any-In (same_pair (pair x y)) e (pair x y) (s (pair x y) (inl refl)) (pair-self (pair x y))))
      (rw h)

  unmet-most : (d : List Pair) → unmet d ≤ size T * size T
  unfolding unmet
  unmet-most d = let k = keep-most (fresh d) all_pairs in let c = pairs-count in omega arith

  -- ---- ranks

  unfoldable pub rank : TypeKey → ℕ
  rank u = cond (is_named (kind_at T u) || is_iface (kind_at T u)) 0 (suc u.0)

  pub rank_most : (u : TypeKey) → u.0 < size T → rank u ≤ size T
  unfolding rank
  rank_most u h = cases (is_named (kind_at T u) || is_iface (kind_at T u)) (λ e. rw e (omega arith)) (λ e. rw e (omega arith))

  falls : (t u : TypeKey) → (is_named (kind_at T u) ≡ false → is_iface (kind_at T u) ≡ false → u.0 < t.0) → rank u < suc t.0
  unfolding rank
  falls t u h =
      cases (is_named (kind_at T u) || is_iface (kind_at T u))
      (λ e. rw e (omega arith))
      (λ e. let l = h (or_l (is_named (kind_at T u)) (is_iface (kind_at T u)) e) (or_r (is_named (kind_at T u)) (is_iface (kind_at T u)) e) in rw e (omega arith))

  referred : (t u : TypeKey) → may_refer T t u ≡ true → rank u < suc t.0
  referred t u h = falls t u (smaller T t u h)

  tupled : (t u : TypeKey) → smaller_tuple T t u ≡ true → rank u < suc t.0
  tupled t u h = falls t u (λ n i. ltb-true u.0 t.0 (and_r (is_tuple (kind_at T u)) (ltb u.0 t.0) h))

  ref-falls : (t u : TypeKey) (k : Kind) → type_allowed T t k ≡ true → is_named k ≡ false → In u (refs k) → rank u < suc t.0
  ref-falls t u (Basic k) a n i = absurd i
  ref-falls t u (Array m e) a n (inl q) = rw q (referred t e a)
  ref-falls t u (Array m e) a n (inr i) = absurd i
  ref-falls t u (Slice e) a n (inl q) = rw q (referred t e a)
  ref-falls t u (Slice e) a n (inr i) = absurd i
  ref-falls t u (Pointer e) a n (inl q) = rw q (referred t e a)
  ref-falls t u (Pointer e) a n (inr i) = absurd i
  ref-falls t u (Map k e) a n (inl q) = rw q (referred t k (and_l (may_refer T t k) (may_refer T t e) a))
  ref-falls t u (Map k e) a n (inr (inl q)) = rw q (referred t e (and_r (may_refer T t k) (may_refer T t e) a))
  ref-falls t u (Map k e) a n (inr (inr i)) = absurd i
  ref-falls t u (Chan d e) a n (inl q) = rw q (referred t e a)
  ref-falls t u (Chan d e) a n (inr i) = absurd i
  ref-falls t u (Tuple es) a n i = referred t u (every-In (may_refer T t) es u a i)
  ref-falls t u (Func v p r) a n i = let both = and_l (smaller_tuple T t p && smaller_tuple T t r) (not v || ends_in_slice T p) a in func i (and_l (smaller_tuple T t p) (smaller_tuple T t r) both) (and_r (smaller_tuple T t p) (smaller_tuple T t r) both)
    where
      func : In u (p ∷ r ∷ []) → smaller_tuple T t p ≡ true → smaller_tuple T t r ≡ true → rank u < suc t.0
      func (inl q) a b = rw q (tupled t p a)
      func (inr (inl q)) a b = rw q (tupled t r b)
      func (inr (inr i)) a b = absurd i
  ref-falls t u (Struct ms) a n i = absurd i
  ref-falls t u (Iface ms) a n i = absurd i
  ref-falls t u (Named v ms) a n i = clash refl n

  member-falls : (t u : TypeKey) (k : Kind) (x : Entity) → stands x k ≡ true → member_allowed T t k u x ≡ true → is_named k || is_iface k ≡ false → rank u < suc t.0
  member-falls t u k (Field emb tag) s a n = referred t u (and_l (may_refer T t u) (not emb || may_embed T u) a)
  member-falls t u k (Method ptr) s a n = clash s n

  -- A PART'S RANK IS SMALLER, except that of an interface
  pub rank-part : Sound T → (t u : TypeKey) → is_iface (kind_at T t) ≡ false → In u (parts (kind_at T t)) → rank u < rank t
  unfolding parts rank
  rank-part s t u ni i =
      cases (is_named (kind_at T t))
      (λ e. let j : In u [] = rw e at i in absurd j)
      (λ e.
      let ne : is_named (kind_at T t) || is_iface (kind_at T t) ≡ false = rw (e, ni) in
      rw ne (either (In-append (refs (kind_at T t)) (map (λ (m : Member). m.type) (members_of (kind_at T t))) u (rw e at i))
      (λ j. ref-falls t u (kind_at T t) (s.allowed t) e j)
      (λ j. let r = In-map (λ (m : Member). m.type) (members_of (kind_at T t)) u j in rw r.2 (member-falls t r.0.type (kind_at T t) r.0.entity (s.standing t r.0 r.1) (s.allowed_member t r.0 r.1) ne))))

  -- ---- the measure

  unfoldable pub measure : List Pair → TypeKey → ℕ
  measure d x = unmet d * suc (size T) + rank x

  pub measure-part : Sound T → (d e : List Pair) (x a : TypeKey) → Sub d e → is_iface (kind_at T x) ≡ false → In a (parts (kind_at T x)) → measure e a < measure d x
  unfolding measure
  measure-part s d e x a sub ni i = let m = mul-le-mul_right (suc (size T)) (unmet-sub d e sub) in let r = rank-part s x a ni i in omega arith

  pub measure-opened : (d e : List Pair) (x y a : TypeKey) → x.0 < size T → y.0 < size T → any (same_pair (pair x y)) d ≡ false → Sub (pair x y ∷ d) e → a.0 < size T → measure e a < measure d x
  unfolding measure
  measure-opened d e x y a hx hy h s ha =
      let m = mul-le-mul_right (suc (size T)) (unmet-falls x y d e hx hy h s) in let r = rank_most a ha in omega (arith, suc-mul (unmet e) (suc (size T)))

  pub measure-most : (d : List Pair) (x : TypeKey) → x.0 < size T → measure d x ≤ size T * size T * suc (size T) + size T
  unfolding measure
  measure-most d x h = let m = mul-le-mul_right (suc (size T)) (unmet-most d) in let r = rank_most x h in omega arith
