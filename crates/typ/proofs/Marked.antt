-- Laws of the contracts of the cycle (specs/Compared.antt): marks and classes that grow, and comparisons that leave both as they are.
use mathlib.Core.Path.{◌≡◌, refl, ap, ◌∙◌}
use mathlib.Core.Bool.{Bool, true, false}
use mathlib.Core.List.{List}
use mathlib.Core.Logic.{◌⊎◌, ◌≢◌}
use Prim.Native.Nat.{ℕ, suc, ◌/◌, ◌<◌}
use native.Mathlib.Omega.{arith}
use native.Mathlib.Nat.{le_trans}
use lib.ListN.{length}
use Rattle.objects.specs.declared.TypeKey.{TypeKey}
use Rattle.objects.specs.Table.{Table, size}
use Rattle.objects.proofs.ListLaws.{cases, clash, either}
use Rattle.objects.proofs.KeyLaws.{key-eq}
use Rattle.rules.specs.StepIdentity.{same_in}
use Rattle.rules.proofs.StepLaws.{same-less, same_self}
use Rattle.pair_marks.specs.Marks.{met, meet}
use Rattle.pair_marks.specs.Classes.{OneClass}
use Rattle.pair_marks.specs.Pairs.{pair}
use Rattle.typ.specs.Compared.{Same, Well, AllMet, AllOne, Agree, NewMet, Merged, Leads, Grown, Compared, PartsCompared}
use Rattle.pair_marks.proofs.Bits.{met-other, unmet-falls}

pub grown-refl : (l : List ℕ) → Grown l l
grown-refl l = record { fewer = omega arith; kept = λ p e. e }

pub grown-trans : {l m r : List ℕ} → Grown l m → Grown m r → Grown l r
grown-trans g h = record { fewer = le_trans h.fewer g.fewer; kept = λ p e. h.kept p (g.kept p e) }

pub grown-meet : (l : List ℕ) (p : ℕ) → p / 32 < length l → met l p ≡ false → Grown l (meet l p)
grown-meet l p h e = record {
  fewer = omega (arith, unmet-falls l p h e);
  kept = λ q m. met-other l p q (λ z. clash m (ap (met l) z ∙ e)) h e ∙ m;
}

module _ (T : Table) where
  pub merged-refl : (c : List ℕ) → Merged T c c
  unfolding Merged
  merged-refl c a b ha hb o = o

  pub merged-trans : (c d e : List ℕ) → Merged T c d → Merged T d e → Merged T c e
  unfolding Merged
  merged-trans c d e g h a b ha hb o = h a b ha hb (g a b ha hb o)

  -- what is taken for identical was so before, or is new
  pub agree_less : (n : ℕ) (l l' c c' : List ℕ) → Grown l l' → Merged T c c' → Agree T n l' c' → Agree T n l c
  unfolding AllMet AllOne Merged
  agree_less n l l' c c' g m h = (λ a b ha hb d e. h.0 a b ha hb d (g.kept (pair a b) e), λ a b ha hb o. h.1 a b ha hb (m a b ha hb o))

  pub new_none : (n : ℕ) (l : List ℕ) → NewMet T n l l
  unfolding NewMet
  new_none n l a b ha hb d u m = clash m u

  pub new-more : (n : ℕ) (l m r : List ℕ) → NewMet T n l m → NewMet T n m r → NewMet T n l r
  unfolding NewMet
  new-more n l m r g h a b ha hb d u e = cases (met m (pair a b)) (λ q. g a b ha hb d u q) (λ q. h a b ha hb d q e)

  -- the pairs met before and those met since are all
  pub new-all : (n : ℕ) (l l' : List ℕ) → AllMet T (suc n) l → NewMet T n l l' → AllMet T (suc n) l'
  unfolding AllMet NewMet
  new-all n l l' g h a b ha hb d e = cases (met l (pair a b)) (λ q. g a b ha hb d q) (λ q. h a b ha hb d q e)

  pub leads-none : (l c : List ℕ) (x y : TypeKey) → Leads T l l c c x y
  unfolding Leads
  leads-none l c x y s a = a

  -- x and y are identical only if v and w are, which lead on
  pub leads-more : (l m r c d e : List ℕ) (x y v w : TypeKey) → (Same T x y → Same T v w) → Leads T l m c d x y → Leads T m r d e v w → Leads T l r c e x y
  unfolding Leads
  leads-more l m r c d e x y v w f g h s a = h (f s) (g s a)

  pub went-parts : (x y : TypeKey) (l l' c c' : List ℕ) (r : Bool) → PartsCompared T l l' c c' x y r → Compared T l l' c c' x y r
  went-parts x y l l' c c' r w = record {
    grown = w.grown;
    merged = w.merged;
    well = w.well;
    leads = w.leads;
    same_if = λ q n a. (same-less T n x y (w.same_if q n a).0, (w.same_if q n a).1);
    differ-if = w.differ-if;
  }

  -- ---- marks and labels stay

  module _ (l c : List ℕ) (x y : TypeKey) (w : Well T l c) where
    went-same : ((n : ℕ) → Agree T n l c → same_in T n x y ≡ true) → Compared T l l c c x y true
    went-same h = record {
      grown = grown-refl l;
      merged = merged-refl c;
      well = w;
      leads = leads-none l c x y;
      same_if = λ _ n a. (h n a, new_none n l);
      differ-if = λ q. clash refl q;
    }

    pub went-self : x.0 ≡ y.0 → Compared T l l c c x y true
    went-self e = went-same (λ n _. let z : x ≡ y = key-eq x y e in rw z (same_self T n y))

    pub went-apart : (Same T x y → ⊥) → Compared T l l c c x y false
    went-apart d = record {
      grown = grown-refl l;
      merged = merged-refl c;
      well = w;
      leads = leads-none l c x y;
      same_if = λ q. clash q refl;
      differ-if = λ _. d;
    }

    -- the two are of one class, or their pair is met
    module _ (hx : x.0 < size T) (hy : y.0 < size T) (d : x.0 ≢ y.0) (k : OneClass c x y ⊎ (met l (pair x y) ≡ true)) where
      pub taken-same : (n : ℕ) → Agree T n l c → same_in T n x y ≡ true
      unfolding AllMet AllOne
      taken-same n a = either k (λ o. a.1 x y hx hy o) (λ m. a.0 x y hx hy d m)

      pub went-taken : Compared T l l c c x y true
      went-taken = went-same taken-same
