-- What a comparison of specs/Identical.antt shows, whichever comparisons it is made of (`Judged`): `true` shows that what was claimed holds at n steps if each
-- pair in `dup` agrees at n steps, and that those put in meanwhile then agree at one step more; `false` shows that the claim fails at some number of steps.
use mathlib.Core.Path.{◌≡◌, refl, subst, fun_ext}
use mathlib.Core.Bool.{Bool, true, false, ◌&&◌, and-false}
use mathlib.Core.List.{List, [], ◌∷◌}
use mathlib.Core.Logic.{◌⊎◌, inl, inr}
use mathlib.Core.Option.{some}
use Prim.Native.Nat.{ℕ, zero, suc}
use Rattle.objects.specs.Lists.{In}
use Rattle.objects.specs.declared.TypeKey.{TypeKey}
use Rattle.objects.specs.Table.{Table, same_type}
use Rattle.objects.proofs.ListLaws.{cases, either}
use Rattle.objects.proofs.BoolLaws.{and_i}
use Rattle.objects.proofs.KeyLaws.{same_key}
use Rattle.rules.specs.Identity.{Pair}
use Rattle.rules.specs.StepIdentity.{same_in}
use Rattle.rules.proofs.StepLaws.{same_self, same-less}
use Rattle.goscript.specs.Identical.{Verdict, same, differ, out, Run, check, onward, ◌and◌, all_same, identical_impl_o}

-- c of each two at the same place, none left over
abbrev pub all_b : {A : Type 0} → (A → A → Bool) → List A → List A → Bool
all_b c [] [] = true
all_b c [] (b ∷ bs) = false
all_b c (a ∷ as') [] = false
all_b c (a ∷ as') (b ∷ bs) = c a b && all_b c as' bs

abbrev pub Sub : List Pair → List Pair → Type 0
Sub d e = (p : Pair) → In p d → In p e

abbrev pub AgreeIn : Table → ℕ → Pair → Type 0
AgreeIn T n p = same_in T n p.left p.right ≡ true

abbrev pub AllMet : Table → ℕ → List Pair → Type 0
AllMet T n d = (p : Pair) → In p d → AgreeIn T n p

-- `dup` was d and is e; B n is the claim at n steps
pub record Grew (T : Table) (d e : List Pair) (B : ℕ → Bool) : Type 0 where
  pub kept : Sub d e
  pub holds : (n : ℕ) → AllMet T n e → B n ≡ true
  pub new : (n : ℕ) → AllMet T n e → (p : Pair) → In p e → In p d ⊎ AgreeIn T (suc n) p

abbrev pub Judged : Table → List Pair → (ℕ → Bool) → Verdict → Type 0
Judged T d B (same e) = Grew T d e B
Judged T d B differ = (n : ℕ) × (B n ≡ false)
Judged T d B out = ⊥

module _ (T : Table) where
  -- one claim for another
  pub judged-as : (d : List Pair) (B C : ℕ → Bool) (v : Verdict) → ((n : ℕ) → B n ≡ C n) → Judged T d B v → Judged T d C v
  judged-as d B C v h j = subst (λ (D : ℕ → Bool). Judged T d D v) (fun_ext h) j

  -- `true`, with nothing put in
  pub stays : (d : List Pair) (B : ℕ → Bool) → ((n : ℕ) → AllMet T n d → B n ≡ true) → Judged T d B (same d)
  stays d B h = record { kept = λ p i. i; holds = h; new = λ n a p i. inl i }

  pub check-judged : (b : Bool) (d : List Pair) → Judged T d (λ n. b) (check b d)
  check-judged true d = stays d (λ n. true) (λ n a. refl)
  check-judged false d = (0, refl)

  then : (d e : List Pair) (A B : ℕ → Bool) (v : Verdict) → Grew T d e A → Judged T e B v → Judged T d (λ n. A n && B n) v
  then d e A B (same f) g h = record {
    kept = λ p i. h.kept p (g.kept p i);
    holds = λ n a. and_i (g.holds n (λ p i. a p (h.kept p i))) (h.holds n a);
    new = λ n a p i. either (h.new n a p i) (λ j. g.new n (λ q k. a q (h.kept q k)) p j) (λ s. inr s);
  }
  then d e A B differ g h = (h.0, rw (h.1, and-false))
  then d e A B out g h = h

  pub and-judged : (a b : Run) (A B : ℕ → Bool) (d : List Pair) → Judged T d A (a d) → ((e : List Pair) → Sub d e → Judged T e B (b e)) → Judged T d (λ n. A n && B n) ((a and b) d)
  and-judged a b A B d j h = go (a d) j
    where
      go : (v : Verdict) → Judged T d A v → Judged T d (λ n. A n && B n) (onward b v)
      go (same e) g = then d e A B (b e) g (h e g.kept)
      go differ g = (g.0, rw g.1)
      go out g = g

  pub all-judged : {A : Type 0} (c : A → A → Run) (C : A → A → ℕ → Bool) (xs ys : List A) (d : List Pair)
      → ((x y : A) → In x xs → (e : List Pair) → Sub d e → Judged T e (C x y) (c x y e)) → Judged T d (λ n. all_b (λ x y. C x y n) xs ys) (all_same c xs ys d)
  all-judged c C [] [] d h = check-judged true d
  all-judged c C [] (y ∷ ys) d h = check-judged false d
  all-judged c C (x ∷ xs) [] d h = check-judged false d
  all-judged c C (x ∷ xs) (y ∷ ys) d h =
      and-judged (c x y) (all_same c xs ys) (C x y) (λ n. all_b (λ x y. C x y n) xs ys) d (h x y (inl refl) d (λ p i. i))
      (λ e s. all-judged c C xs ys e (λ z w i f t. h z w (inr i) f (λ p j. t p (s p j))))

  -- a type is the same as itself
  pub self-judged : (d : List Pair) (x y : TypeKey) → same_type x y ≡ true → Judged T d (λ n. same_in T n x y) (same d)
  self-judged d x y e = stays d (λ n. same_in T n x y) (λ n a. rw (same_key x y e) (same_self T n y))

  pub o-judged : (R : TypeKey → TypeKey → Run) (x y : TypeKey) (d : List Pair) → Judged T d (λ n. same_in T n x y) (R x y d) → Judged T d (λ n. same_in T n x y) (identical_impl_o T R (some x) (some y) d)
  o-judged R x y d j = cases (same_type x y) (λ e. rw e (self-judged d x y e)) (λ e. rw e j)

  -- what holds at one step more holds
  pub lower : (d : List Pair) (x y : TypeKey) (v : Verdict) → Judged T d (λ n. same_in T (suc n) x y) v → Judged T d (λ n. same_in T n x y) v
  lower d x y (same e) g = record { kept = g.kept; holds = λ n a. same-less T n x y (g.holds n a); new = g.new }
  lower d x y differ g = (suc g.0, g.1)
  lower d x y out g = g

  -- a pair that was put in before its parts were compared
  pub opened : (d : List Pair) (p : Pair) (v : Verdict) → Judged T (p ∷ d) (λ n. same_in T (suc n) p.left p.right) v → Judged T d (λ n. same_in T n p.left p.right) v
  opened d p (same e) g = record {
    kept = λ q i. g.kept q (inr i);
    holds = λ n a. a p (g.kept p (inl refl));
    new = λ n a q i. either (g.new n a q i) (λ j. either j (λ s. inr (rw s (g.holds n a))) (λ k. inl k)) (λ s. inr s);
  }
  opened d p differ g = (suc g.0, g.1)
  opened d p out g = g

  -- from no pair at all: the claim holds at every number of steps
  all-met : (e : List Pair) (B : ℕ → Bool) → Grew T [] e B → (n : ℕ) → AllMet T n e
  unfolding same_in
  all-met e B g zero p i = refl
  all-met e B g (suc n) p i = either (g.new n (all-met e B g n) p i) (λ j. absurd j) (λ s. s)

  pub begun : (e : List Pair) (B : ℕ → Bool) → Grew T [] e B → (n : ℕ) → B n ≡ true
  begun e B g n = g.holds n (all-met e B g n)
