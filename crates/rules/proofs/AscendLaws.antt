-- Interface methods ascend by id (specs/Sound.antt, `ascend`): each is alone in its identity, and two lists of the same identities stand side by side.
use mathlib.Core.Path.{◌≡◌, refl, sym, ap, ◌∙◌}
use mathlib.Core.Bool.{Bool, false, not}
use mathlib.Core.List.{List, [], ◌∷◌}
use mathlib.Core.Logic.{◌⊎◌, inl, inr}
use borrow.Author.Tests.{not-true, not-false}
use Rattle.objects.specs.Lists.{any, In, Sorted}
use Rattle.objects.specs.Table.{Table, Member}
use Rattle.objects.proofs.ListLaws.{cases, clash, some-In, none-In}
use Rattle.objects.proofs.PairLaws.{AllPairs}
use Rattle.text.proofs.ByteLaws.{below_irrefl, below-trans}
use Rattle.rules.specs.Members.{identity_of, id_bytes, same_member}
use Rattle.rules.specs.Sound.{Lower}
use Rattle.rules.proofs.MemberLaws.{same_id-true}

module _ (T : Table) where
  -- the same identity
  abbrev pub SameIdentity : Member → Member → Type 0
  SameIdentity m n = identity_of T m ≡ identity_of T n

  pub lower-apart : (m n : Member) → SameIdentity m n → Lower T m n → ⊥
  lower-apart m n e h = clash (rw e at h) (below_irrefl (id_bytes (identity_of T n)))

  lower-cycle : (m n : Member) → Lower T m n → Lower T n m → ⊥
  lower-cycle m n h k = clash (below-trans (id_bytes (identity_of T m)) (id_bytes (identity_of T n)) (id_bytes (identity_of T m)) h k) (below_irrefl (id_bytes (identity_of T m)))

  -- one method for an identity
  pub ascend-one : (l : List Member) → Sorted (Lower T) l → (a b : Member) → In a l → In b l → SameIdentity a b → a ≡ b
  ascend-one [] s a b x4 _ e = elim x4 [ ]
  ascend-one (x ∷ l) s a b (inl i) (inl j) e = i ∙ sym j
  ascend-one (x ∷ l) s a b (inl i) (inr j) e = absurd (lower-apart x b (ap (identity_of T) (sym i) ∙ e) (s.0 b j))
  ascend-one (x ∷ l) s a b (inr i) (inl j) e = absurd (lower-apart x a (ap (identity_of T) (sym j) ∙ sym e) (s.0 a i))
  ascend-one (x ∷ l) s a b (inr i) (inr j) e = ascend-one l s.1 a b i j e

  -- a list that has one of m's identity
  abbrev pub Has : List Member → Member → Type 0
  Has l m = (n : Member) × In n l × SameIdentity m n

  -- a method of ms that ns lacks, or none
  pub lacking-or : (ms ns : List Member) → ((m : Member) × In m ms × ((n : Member) → In n ns → same_member T m n ≡ false)) ⊎ ((m : Member) → In m ms → Has ns m)
  lacking-or ms ns =
      let lacks : Member → Bool = λ m. not (any (same_member T m) ns) in
      cases (any lacks ms)
      (λ e. let r = some-In lacks ms e in inl (r.0, r.1, λ n i. none-In (same_member T r.0) ns n (not-true (any (same_member T r.0) ns) r.2) i))
      (λ e. inr (λ m i. let r = some-In (same_member T m) ns (not-false (any (same_member T m) ns) (none-In lacks ms m e i)) in (r.0, r.1, same_id-true (identity_of T m) (identity_of T r.0) r.2)))

  tail-has : (m n : Member) (ms ns : List Member) → Sorted (Lower T) (m ∷ ms) → SameIdentity m n → (k : Member) → In k ms → Has (n ∷ ns) k → Has ns k
  tail-has m n ms ns s e k i (x, inl j, f) = absurd (lower-apart m k (e ∙ ap (identity_of T) (sym j) ∙ sym f) (s.0 k i))
  tail-has m n ms ns s e k i (x, inr j, f) = (x, j, f)

  heads : (m n : Member) (ms ns : List Member) → Sorted (Lower T) (m ∷ ms) → Sorted (Lower T) (n ∷ ns) → Has (n ∷ ns) m → Has (m ∷ ms) n → SameIdentity m n
  heads m n ms ns s t (x, inl j, f) h = f ∙ ap (identity_of T) j
  heads m n ms ns s t (x, inr j, f) (y, inl k, g) = sym (g ∙ ap (identity_of T) k)
  heads m n ms ns s t (x, inr j, f) (y, inr k, g) = let h = s.0 y k in let i = t.0 x j in absurd (lower-cycle m n (rw (← g) at h) (rw (← f) at i))

  -- two ascending lists of the same identities stand side by side
  pub aligned : (ms ns : List Member) → Sorted (Lower T) ms → Sorted (Lower T) ns → ((m : Member) → In m ms → Has ns m) → ((n : Member) → In n ns → Has ms n) → AllPairs SameIdentity ms ns
  aligned [] [] s t f g = tt
  aligned [] (n ∷ ns) s t f g = (g n (inl refl)).1
  aligned (m ∷ ms) [] s t f g = (f m (inl refl)).1
  aligned (m ∷ ms) (n ∷ ns) s t f g =
      let e = heads m n ms ns s t (f m (inl refl)) (g n (inl refl)) in
      (e, aligned ms ns s.1 t.1 (λ k i. tail-has m n ms ns s e k i (f k (inr i))) (λ k i. tail-has n m ns ms t (sym e) k i (g k (inr i))))
