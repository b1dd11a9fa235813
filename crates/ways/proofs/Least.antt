-- `select` without its bound: what it gives is told by the least length that has a way, among all lengths.
use mathlib.Core.Path.{◌≡◌, refl, sym, ap, ◌∙◌}
use mathlib.Core.Bool.{Bool}
use mathlib.Core.List.{List, [], ◌∷◌, cons≢nil}
use mathlib.Core.Logic.{◌⊎◌, inl, inr}
use Prim.Native.Nat.{ℕ, zero, suc, ◌+◌, ◌≤◌, ◌<◌}
use native.Mathlib.Omega.{arith}
use native.Mathlib.Decide.{dec_lt}
use Rattle.objects.proofs.ListLaws.{cases, clash, In-keep}
use Rattle.objects.specs.declared.TypeKey.{TypeKey}
use Rattle.rules.specs.Members.{Identity}
use Rattle.rules.specs.Ways.{Walk, Way, notfound, judged}
use Rattle.ways.specs.Graph.{Graph, walks, ways, shortest, start, select}
use Rattle.ways.specs.Levels.{raw}
use Rattle.ways.proofs.Merge.{Lawful}
use Rattle.ways.proofs.Same.{Keyed, reached, hits, hit-fresh, has, good}
use Rattle.ways.proofs.Bound.{Closed, bound, none_before, none-longer}

-- d steps have a way, and no fewer have one
pub record Least (G : Graph) (key : Identity) (r0 : Walk) (d : ℕ) : Type 0 where
  pub some : ways G key r0 d ≡ [] → ⊥
  pub none : (j : ℕ) → j < d → ways G key r0 j ≡ []

module _ (G : Graph) (key : Identity) (r0 : Walk) where
  shortest-none : (k j : ℕ) → ((i : ℕ) → i < j + k → ways G key r0 i ≡ []) → shortest G key r0 j k ≡ []
  shortest-none zero j h = refl
  shortest-none (suc k) j h = rw (h j (omega arith), shortest) (shortest-none k (suc j) (λ i l. h i (omega arith)))

  shortest-at : (k j d : ℕ) → Least G key r0 d → j ≤ d → d < j + k → shortest G key r0 j k ≡ ways G key r0 d
  shortest-at zero j d l le lt = absurd (omega arith)
  shortest-at (suc k) j d l le lt = elim (dec_lt j d) [ yes h ↦ rw (l.none j h, shortest) (shortest-at k (suc j) d l h (omega arith)) | no h ↦ go (ways G key r0 d) refl (omega arith) ]
    where
      go : (ws : List Way) → ways G key r0 d ≡ ws → j ≡ d → shortest G key r0 j (suc k) ≡ ways G key r0 d
      go [] e f = absurd (l.some e)
      go (w ∷ ws) e f = rw (f, e, shortest)

  -- among the lengths below k there is a least, or none has a way
  look : (k : ℕ) → ((d : ℕ) × Least G key r0 d) ⊎ ((j : ℕ) → j < k → ways G key r0 j ≡ [])
  look zero = inr (λ j h. absurd (omega arith))
  look (suc k) = step (look k)
    where
      step : ((d : ℕ) × Least G key r0 d) ⊎ ((j : ℕ) → j < k → ways G key r0 j ≡ []) → ((d : ℕ) × Least G key r0 d) ⊎ ((j : ℕ) → j < suc k → ways G key r0 j ≡ [])
      step (inl l) = inl l
      step (inr h) = go (ways G key r0 k) refl
        where
          go : (ws : List Way) → ways G key r0 k ≡ ws → ((d : ℕ) × Least G key r0 d) ⊎ ((j : ℕ) → j < suc k → ways G key r0 j ≡ [])
          go [] e = inr (λ j l. elim (dec_lt j k) [ yes q ↦ h j q | no q ↦ let same : j ≡ k = omega arith in rw same e ])
          go (w ∷ ws) e = inl (k, record { some = λ f. cons≢nil (sym e ∙ f); none = h })

module _ (G : Graph) (law : Lawful G) (cl : Closed G) (r0 : Walk) (in0 : r0.at.0 < G.size) (key : Identity) (kd : Keyed G key) where
  pub least-bound : (d : ℕ) → Least G key r0 d → d < G.size
  least-bound d l = go (good G r0 key d) refl
    where
      go : (W : List Walk) → good G r0 key d ≡ W → d < G.size
      go [] e = absurd (l.some (hits G key (walks G r0 d) kd ∙ rw e))
      go (w ∷ ws) e =
          let i = In-keep (λ x. has G key x.at) (walks G r0 d) w (rw e (inl refl)) in
          let f = hit-fresh G law r0 key kd.alike d (none_before G law r0 key kd.alike d l.none) (raw w) i.1 in
          bound G law cl r0 in0 d w i.0 (cases (reached G r0 d w.at) (λ t. clash f (rw t)) (λ t. t))

  -- every question has a least length, or no way of any length
  pub least-or-none : ((d : ℕ) × Least G key r0 d) ⊎ ((j : ℕ) → ways G key r0 j ≡ [])
  least-or-none = step (look G key r0 G.size)
    where
      step : ((d : ℕ) × Least G key r0 d) ⊎ ((j : ℕ) → j < G.size → ways G key r0 j ≡ []) → ((d : ℕ) × Least G key r0 d) ⊎ ((j : ℕ) → ways G key r0 j ≡ [])
      step (inl l) = inl l
      step (inr h) = inr (none-longer G law cl r0 in0 key kd.alike h)

  pub shortest-least : (d : ℕ) → Least G key r0 d → shortest G key r0 0 G.size ≡ ways G key r0 d
  shortest-least d l = let b = least-bound d l in shortest-at G key r0 G.size 0 d l (omega arith) (omega arith)

  pub shortest-nothing : ((j : ℕ) → ways G key r0 j ≡ []) → shortest G key r0 0 G.size ≡ []
  shortest-nothing h = shortest-none G key r0 G.size 0 (λ i l. h i)

  -- looking at more lengths than there are types changes nothing
  pub shortest-more : (k : ℕ) → G.size ≤ k → shortest G key r0 0 k ≡ shortest G key r0 0 G.size
  shortest-more k le = go least-or-none
    where
      go : ((d : ℕ) × Least G key r0 d) ⊎ ((j : ℕ) → ways G key r0 j ≡ []) → shortest G key r0 0 k ≡ shortest G key r0 0 G.size
      go (inl l) = let b = least-bound l.0 l.1 in shortest-at G key r0 k 0 l.0 l.1 (omega arith) (omega arith) ∙ sym (shortest-least l.0 l.1)
      go (inr h) = shortest-none G key r0 k 0 (λ i l. h i) ∙ sym (shortest-nothing h)

-- WHAT SELECT GIVES, over all lengths
module _ (G : Graph) (law : Lawful G) (cl : Closed G) (t : TypeKey) (in0 : t.0 < G.size) (f a : Bool) (key : Identity) (kd : Keyed G key) where
  pub select-least : (d : ℕ) → Least G key (start t f) d → select G key t f a ≡ judged a (ways G key (start t f) d)
  select-least d l = ap (judged a) (shortest-least G law cl (start t f) in0 key kd d l)

  pub select-none : ((j : ℕ) → ways G key (start t f) j ≡ []) → select G key t f a ≡ notfound
  select-none h = ap (judged a) (shortest-nothing G law cl (start t f) in0 key kd h)
