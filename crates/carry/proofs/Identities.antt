-- I: types of U are identical exactly if those of T are that they are like. Pairs that are alike mismatch both or neither, and so are their corresponding parts alike.
use mathlib.Core.Path.{◌≡◌, refl, sym, ap, ap₂, ◌∙◌, subst}
use mathlib.Core.Bool.{Bool, true, false, not, ◌&&◌}
use mathlib.Core.List.{List, [], ◌∷◌, map}
use lib.Dec.{eqb}
use borrow.Author.Tests.{eqb-true, eq-eqb}
use Rattle.objects.proofs.ListLaws.{cases, clash}
use Rattle.objects.proofs.KeyLaws.{same_key}
use Rattle.objects.proofs.KindLaws.{named-is}
use Rattle.objects.proofs.PairLaws.{AllPairs, pairs-self, pairs-left, pairs-right}
use Rattle.objects.specs.declared.TypeKey.{TypeKey}
use Rattle.objects.specs.Table.{Table, same_type, Member, Kind, kind_number, is_named, refs, members_of, kind_at}
use Rattle.rules.specs.Chains.{Chain, here, there}
use Rattle.rules.specs.Identity.{own_number, parts, Pair, corresponding, alike_member, alike, mismatch, pair_parts, identical}
use Rattle.rules.specs.Sound.{Sound}
use Rattle.rules.proofs.MemberLaws.{Alike, alike-join}
use Rattle.rules.proofs.IdentityLaws.{pair, identical-chain}
use Rattle.carry.specs.Maps.{CarriedMember, CarriedMembers, Likeness}
use Rattle.carry.proofs.Pairing.{pairs-append}
use Rattle.carry.proofs.Lines.{types-carried, kind-kept, named-kept, own-kept, members_kept}

-- a named type's own number is its type number
own-named : (t : TypeKey) (k : Kind) → is_named k ≡ true → own_number t k ≡ t.0
unfolding own_number
own-named t k e = ap (own_number t) (named-is k e).2

-- no mismatch, whatever the parts are
abbrev matches : Table → TypeKey → TypeKey → Bool
matches T x y = eqb (kind_number (kind_at T x)) (kind_number (kind_at T y)) && eqb (own_number x (kind_at T x)) (own_number y (kind_at T y)) && alike T (members_of (kind_at T x)) (members_of (kind_at T y))

matches-self : (T : Table) (x : TypeKey) → matches T x x ≡ true
matches-self T x =
    rw (eq-eqb (kind_number (kind_at T x)) (kind_number (kind_at T x)) refl, eq-eqb (own_number x (kind_at T x)) (own_number x (kind_at T x)) refl)
    (alike-join T (members_of (kind_at T x)) (members_of (kind_at T x)) (pairs-self (Alike T) (members_of (kind_at T x)) (λ m i. (refl, refl, refl))))

-- two named types of different numbers
none_other : (T : Table) (x y : TypeKey) → is_named (kind_at T x) ≡ true → is_named (kind_at T y) ≡ true → eqb x.0 y.0 ≡ false → matches T x y ≡ false
none_other T x y ex ey e =
    rw (own-named x (kind_at T x) ex, own-named y (kind_at T y) ey, e) (none (eqb (kind_number (kind_at T x)) (kind_number (kind_at T y))) (alike T (members_of (kind_at T x)) (members_of (kind_at T y))))
  where
    none : (k b : Bool) → k && false && b ≡ false
    none true b = refl
    none false b = refl

module _ (R : TypeKey → TypeKey → Type 0) where
  -- pairs that are alike
  abbrev LikePair : Pair → Pair → Type 0
  LikePair p q = R p.left q.left × R p.right q.right

  corresponding-alike : (xs us ys vs : List TypeKey) → AllPairs R xs us → AllPairs R ys vs → AllPairs LikePair (corresponding xs ys) (corresponding us vs)
  corresponding-alike [] [] ys vs a b = tt
  corresponding-alike [] (u ∷ us) ys vs a b = absurd a
  corresponding-alike (x ∷ xs) [] ys vs a b = absurd a
  corresponding-alike (x ∷ xs) (u ∷ us) [] [] a b = tt
  corresponding-alike (x ∷ xs) (u ∷ us) [] (v ∷ vs) a b = absurd b
  corresponding-alike (x ∷ xs) (u ∷ us) (y ∷ ys) [] a b = absurd b
  corresponding-alike (x ∷ xs) (u ∷ us) (y ∷ ys) (v ∷ vs) a b = ((a.0, b.0), corresponding-alike xs us ys vs a.1 b.1)

  module _ (T U : Table) where
    alike-member : (m n o r : Member) → CarriedMember R T U m n → CarriedMember R T U o r → alike_member U n r ≡ alike_member T m o
    alike-member m n o r c d = rw (c.identity, d.identity, c.entity, d.entity)

    alike-carried : (ms ns os rs : List Member) → CarriedMembers R T U ms ns → CarriedMembers R T U os rs → alike U ns rs ≡ alike T ms os
    alike-carried [] [] [] [] c d = refl
    alike-carried [] [] [] (r ∷ rs) c d = absurd d
    alike-carried [] [] (o ∷ os) [] c d = absurd d
    alike-carried [] [] (o ∷ os) (r ∷ rs) c d = refl
    alike-carried [] (n ∷ ns) os rs c d = absurd c
    alike-carried (m ∷ ms) [] os rs c d = absurd c
    alike-carried (m ∷ ms) (n ∷ ns) [] [] c d = refl
    alike-carried (m ∷ ms) (n ∷ ns) [] (r ∷ rs) c d = absurd d
    alike-carried (m ∷ ms) (n ∷ ns) (o ∷ os) [] c d = absurd d
    alike-carried (m ∷ ms) (n ∷ ns) (o ∷ os) (r ∷ rs) c d = ap₂ (λ a b. a && b) (alike-member m n o r c.0 d.0) (alike-carried ms ns os rs c.1 d.1)

module _ (R : TypeKey → TypeKey → Type 0) (T U : Table) (g : Likeness R T U) where
  matches-named : (x u y v : TypeKey) → R x u → R y v → is_named (kind_at T x) ≡ true → is_named (kind_at T y) ≡ true → matches U u v ≡ matches T x y
  matches-named x u y v r s ex ey =
      cases (same_type x y)
      (λ e. self U u v (g.named x u y v r s ex ∙ e) ∙ sym (self T x y e))
      (λ e. none_other U u v (named-kept R T U g x u r ∙ ex) (named-kept R T U g y v s ∙ ey) (g.named x u y v r s ex ∙ e) ∙ sym (none_other T x y ex ey e))
    where
      self : (W : Table) (a b : TypeKey) → same_type a b ≡ true → matches W a b ≡ true
      self W a b e = subst (λ (z : TypeKey). matches W a z ≡ true) (same_key a b e) (matches-self W a)

  matches-other : (x u y v : TypeKey) → R x u → R y v → is_named (kind_at T x) ≡ false → is_named (kind_at T y) ≡ false → matches U u v ≡ matches T x y
  matches-other x u y v r s ex ey =
      rw (
        kind-kept R T U g x u r,
        kind-kept R T U g y v s,
        own-kept R T U g x u r ex,
        own-kept R T U g y v s ey,
        alike-carried R T U (members_of (kind_at T x)) (members_of (kind_at U u)) (members_of (kind_at T y)) (members_of (kind_at U v)) (members_kept R T U g x u r) (members_kept R T U g y v s),
      )

  matches-kept : (x u y v : TypeKey) → R x u → R y v → matches U u v ≡ matches T x y
  matches-kept x u y v r s =
      cases (eqb (kind_number (kind_at T x)) (kind_number (kind_at T y)))
      (λ e. let k = eqb-true (kind_number (kind_at T x)) (kind_number (kind_at T y)) e in
      cases (is_named (kind_at T x))
      (λ t. matches-named x u y v r s t (ap (λ z. eqb z 10) (sym k) ∙ t))
      (λ t. matches-other x u y v r s t (ap (λ z. eqb z 10) (sym k) ∙ t)))
      (λ e. rw (kind-kept R T U g x u r, kind-kept R T U g y v s, e))

  mismatch-kept : (p q : Pair) → LikePair R p q → mismatch U q ≡ mismatch T p
  unfolding mismatch
  mismatch-kept p q r = ap not (matches-kept p.left q.left p.right q.right r.0 r.1)

  -- ---- corresponding parts

  parts-kept : (t u : TypeKey) → R t u → AllPairs R (parts (kind_at T t)) (parts (kind_at U u))
  unfolding parts
  parts-kept t u r =
      cases (is_named (kind_at T t))
      (λ e. rw (named-kept R T U g t u r, e) tt)
      (λ e. rw (named-kept R T U g t u r, e)
      (pairs-append R (refs (kind_at T t)) (map (λ (m : Member). m.type) (members_of (kind_at T t))) (refs (kind_at U u)) (map (λ (m : Member). m.type) (members_of (kind_at U u)))
      (g.line t u r).refers (types-carried R T U (members_of (kind_at T t)) (members_of (kind_at U u)) (members_kept R T U g t u r))))

  pairs-kept : (p q : Pair) → LikePair R p q → AllPairs (LikePair R) (pair_parts T p) (pair_parts U q)
  unfolding pair_parts
  pairs-kept p q r =
      corresponding-alike R (parts (kind_at T p.left)) (parts (kind_at U q.left)) (parts (kind_at T p.right)) (parts (kind_at U q.right))
      (parts-kept p.left q.left r.0) (parts-kept p.right q.right r.1)

  -- ---- chains

  there-kept : (p q : Pair) → LikePair R p q → Chain (pair_parts T) (mismatch T) p → Chain (pair_parts U) (mismatch U) q
  there-kept p q r (here e) = here (mismatch-kept p q r ∙ e)
  there-kept p q r (there {y = y} i c) = let s = pairs-right (LikePair R) (pair_parts T p) (pair_parts U q) (pairs-kept p q r) y i in there s.1 (there-kept y s.0 s.2 c)

  back-kept : (q p : Pair) → LikePair R p q → Chain (pair_parts U) (mismatch U) q → Chain (pair_parts T) (mismatch T) p
  back-kept q p r (here e) = here (sym (mismatch-kept p q r) ∙ e)
  back-kept q p r (there {y = y} i c) = let s = pairs-left (LikePair R) (pair_parts T p) (pair_parts U q) (pairs-kept p q r) y i in there s.1 (back-kept y s.0 s.2 c)

  -- IDENTITY IS KEPT
  pub identical-kept : Sound T → Sound U → (x u y v : TypeKey) → R x u → R y v → identical U u v ≡ identical T x y
  identical-kept sound sound_u x u y v r s =
      let old = identical-chain T sound x y in
      let new = identical-chain U sound_u u v in
      cases (identical T x y)
      (λ e. cases (identical U u v) (λ d. d ∙ sym e) (λ d. clash e (old.1 (back-kept (pair u v) (pair x y) (r, s) (new.0 d)))))
      (λ e. new.1 (there-kept (pair x y) (pair u v) (r, s) (old.0 e)) ∙ sym e)
