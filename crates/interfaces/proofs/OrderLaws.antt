-- Refusal 16: an order along E lines exists exactly if no interface embeds itself, and along one the sets of what each interface reaches are made in one pass.
use mathlib.Core.Path.{◌≡◌, refl, sym, ap, subst}
use mathlib.Core.Bool.{Bool, true, false}
use mathlib.Core.List.{List, [], ◌∷◌}
use mathlib.Core.Logic.{◌↔◌, inl, inr}
use Prim.Native.Nat.{ℕ, zero, suc, ◌≤◌, ◌<◌}
use native.Mathlib.Omega.{arith}
use lib.ListN.{length}
use Rattle.objects.specs.Lists.{keep, In, Sorted}
use Rattle.objects.specs.declared.TypeKey.{TypeKey}
use Rattle.objects.specs.Table.{same_type}
use Rattle.objects.proofs.ListLaws.{cases, clash, either, any-In, some-In, or-true}
use Rattle.objects.proofs.BoolLaws.{false_of}
use Rattle.objects.proofs.KeyLaws.{same_key, same_self}
use Rattle.interfaces.specs.Interfaces.{Interfaces, Reaches, itself, through, types, reaches, Tells}
use Rattle.interfaces.specs.Orders.{LeastInterface, EmbedsItself, embeds_itself, cyclic, Falls, Ordered, united, Unions, reach_sets}
use Rattle.interfaces.proofs.Fit.{Linked}
use Rattle.interfaces.proofs.Lists.{keep-less}
use Rattle.interfaces.proofs.ReachLaws.{reaches-iff, embeds-itself-iff, types-In}
use Rattle.interfaces.proofs.Least.{first-interface, no-interface}

-- ---- ranks and cycles

module _ (I : Interfaces) where
  lower : (rank : TypeKey → ℕ) → Falls I rank → {i j : TypeKey} → Reaches I i j → rank j ≤ rank i
  lower rank falls itself = omega arith
  lower rank falls {i} (through {e = e} h w) = let a = falls i e h in let b = lower rank falls w in omega (arith, a, b)

  pub ranked-clear : (rank : TypeKey → ℕ) → Falls I rank → (i : TypeKey) → EmbedsItself I i → ⊥
  ranked-clear rank falls i c = let a = falls i c.0 c.1 in let b = lower rank falls c.2 in omega (arith, a, b)

  -- how many types i reaches: a rank, where no interface embeds itself
  abbrev pub reach_count : TypeKey → ℕ
  reach_count i = length (keep (reaches I i) (types I))

  module _ (linked : Linked I) where
    pub clear-ranked : ((i : TypeKey) → EmbedsItself I i → ⊥) → Falls I reach_count
    clear-ranked clear i e h =
        keep-less (reaches I (I.under e)) (reaches I i) (λ j r. (here j).1 (through h ((there j).0 r))) (types I) i ((types-In I i).1 low)
        (false_of (reaches I (I.under e) i) (λ r. clear i (e, h, (there i).0 r))) ((here i).1 itself)
      where
        low : i.0 < I.total
        low = linked.inside i (linked.embedding i e h)

        here : (j : TypeKey) → (reaches I i j ≡ true) ↔ Reaches I i j
        here j = reaches-iff I linked i j low

        there : (j : TypeKey) → (reaches I (I.under e) j ≡ true) ↔ Reaches I (I.under e) j
        there j = reaches-iff I linked (I.under e) j (linked.inside (I.under e) (linked.allowed i e h))

    -- AN ORDER ALONG E LINES EXISTS EXACTLY IF NO INTERFACE EMBEDS ITSELF
    pub order-iff : ((rank : TypeKey → ℕ) × Falls I rank) ↔ ((i : TypeKey) → EmbedsItself I i → ⊥)
    order-iff = (λ r. ranked-clear r.0 r.1, λ clear. (reach_count, clear-ranked clear))

    -- WHERE EACH INTERFACE WITHOUT A RANK EMBEDS ONE WITHOUT, AND NONE EMBEDS ITSELF, EACH HAS ITS RANK
    pub all-given : ((i : TypeKey) → EmbedsItself I i → ⊥) → (given : TypeKey → Bool)
        → ((i : TypeKey) → I.iface i ≡ true → given i ≡ false → (e : TypeKey) × In e (I.embeds i) × (given (I.under e) ≡ false))
        → (i : TypeKey) → I.iface i ≡ true → given i ≡ true
    all-given clear given waits i f = go (suc (reach_count i)) i f (omega arith)
      where
        go : (n : ℕ) (i : TypeKey) → I.iface i ≡ true → reach_count i < n → given i ≡ true
        go zero i f l = absurd (omega arith)
        go (suc n) i f l =
            cases (given i) (λ e. e)
            (λ e.
            let w = waits i f e in
            let r = clear-ranked clear i w.0 w.1 in
            clash (go n (I.under w.0) (linked.allowed i w.0 w.1) (omega (arith, l, r))) w.2)

    -- REFUSAL 16 NAMES THE LEAST INTERFACE THAT LIES ON A CYCLE
    pub cyclic-is : (t : TypeKey) → In t (cyclic I) ↔ LeastInterface I (EmbedsItself I) t
    unfolding cyclic
    cyclic-is t = first-interface I linked (embeds_itself I) (EmbedsItself I) (λ i f. embeds-itself-iff I linked i) t

    pub cyclic-none : (cyclic I ≡ []) ↔ ((i : TypeKey) → EmbedsItself I i → ⊥)
    unfolding cyclic
    cyclic-none =
        let n = no-interface I linked (embeds_itself I) (EmbedsItself I) (λ i f. embeds-itself-iff I linked i) in
        (λ e i c. n.0 e i (linked.embedding i c.0 c.1) c, λ h. n.1 (λ i f c. h i c))

  -- ---- reach sets

  -- a set made of those of the targets is right if they are
  united-is : (sets : TypeKey → TypeKey → Bool) (i j : TypeKey) → ((e : TypeKey) → In e (I.embeds i) → (sets (I.under e) j ≡ true) ↔ Reaches I (I.under e) j)
      → (united I sets i j ≡ true) ↔ Reaches I i j
  united-is sets i j h = (
    λ u. cases (same_type j i)
        (λ e. subst (λ k. Reaches I i k) (sym (same_key j i e)) itself)
        (λ e. let r = some-In (λ k. sets (I.under k) j) (I.embeds i) (rw e at u) in through r.1 ((h r.0 r.1).0 r.2)),
    λ w. back w h,
  )
    where
      back : {i j : TypeKey} → Reaches I i j → ((e : TypeKey) → In e (I.embeds i) → (sets (I.under e) j ≡ true) ↔ Reaches I (I.under e) j) → united I sets i j ≡ true
      back {i} itself h = rw (same_self i)
      back {i} {j} (through {e = e} k w) h = rw (any-In (λ f. sets (I.under f) j) (I.embeds i) e k ((h e k).1 w), or-true (same_type j i))

  -- ANY SETS THAT ARE UNIONS ALONG RANKS ARE THE REACH SETS
  pub union-reaches : Linked I → (rank : TypeKey → ℕ) → Falls I rank → (sets : TypeKey → TypeKey → Bool) → Unions I sets → (i : TypeKey) → I.iface i ≡ true → Tells I i (sets i)
  union-reaches linked rank falls sets is i a j b = go (suc (rank i)) i a (omega arith)
    where
      go : (n : ℕ) (i : TypeKey) → I.iface i ≡ true → rank i < n → (sets i j ≡ true) ↔ Reaches I i j
      go zero i f l = absurd (omega arith)
      go (suc n) i f l = rw (is i j f b) (united-is sets i j (λ e h. let r = falls i e h in go n (I.under e) (linked.allowed i e h) (omega (arith, r, l))))

  -- ONE PASS ALONG AN ORDER MAKES THEM
  pub sets-reach : (l : List TypeKey) → Ordered I l → (i : TypeKey) → In i l → (j : TypeKey) → (reach_sets I l i j ≡ true) ↔ Reaches I i j
  unfolding reach_sets
  sets-reach [] o i h j = elim h [ ]
  sets-reach (k ∷ done) o i h j =
      let made : (united I (reach_sets I done) k j ≡ true) ↔ Reaches I k j = united-is (reach_sets I done) k j (λ e m. sets-reach done o.1 (I.under e) (o.0 e m) j) in
      cases (same_type k i)
      (λ e. rw e (subst (λ t. (united I (reach_sets I done) k j ≡ true) ↔ Reaches I t j) (same_key k i e) made))
      (λ e. rw e (sets-reach done o.1 i (either h (λ q. clash (subst (λ t. same_type k t ≡ true) (sym q) (same_self k)) e) (λ m. m)) j))

  -- interfaces by falling ranks, with all that they embed, are such an order
  ordered : (rank : TypeKey → ℕ) → Falls I rank → (l : List TypeKey) → Sorted (λ (a b : TypeKey). rank b ≤ rank a) l
      → ((i e : TypeKey) → In i l → In e (I.embeds i) → In (I.under e) l) → Ordered I l
  ordered rank falls [] s c = tt
  ordered rank falls (k ∷ l) s c = (
    λ e h. either (c k e (inl refl) h) (λ q. let f = falls k e h in let g = ap rank q in absurd (omega (arith, f, g))) (λ m. m),
    ordered rank falls l s.1
        (λ i e m h. either (c i e (inr m) h) (λ q. let f = falls i e h in let g = ap rank q in let b = s.0 i m in absurd (omega (arith, f, g, b))) (λ n. n)),
  )

  -- SO ONE PASS OVER ALL INTERFACES BY RISING RANK (the last comes first in l) GIVES EACH ITS REACH SET
  pub one-pass : Linked I → (rank : TypeKey → ℕ) → Falls I rank → (l : List TypeKey) → Sorted (λ (a b : TypeKey). rank b ≤ rank a) l → ((i : TypeKey) → I.iface i ≡ true → In i l)
      → (i j : TypeKey) → I.iface i ≡ true → (reach_sets I l i j ≡ true) ↔ Reaches I i j
  one-pass linked rank falls l s all i j f = sets-reach l (ordered rank falls l s (λ k e m h. all (I.under e) (linked.allowed k e h))) i (all i f) j
