-- What S reads off the kept walks is what the shortest ways give.
use mathlib.Core.Path.{◌≡◌, refl, sym, ap, ap₂, ◌∙◌, subst}
use mathlib.Core.Bool.{Bool, true, not}
use mathlib.Core.List.{List, [], ◌∷◌, ◌++◌, cons≢nil, append-nil}
use mathlib.Core.Logic.{inl, inr}
use Prim.Native.Nat.{ℕ, zero, suc, ◌+◌, ◌≤◌, ◌<◌}
use native.Mathlib.Omega.{arith}
use native.Mathlib.Nat.{add-zero}
use native.Mathlib.Decide.{dec_lt}
use lib.Dec.{eqb}
use lib.ListN.{length, take}
use borrow.Author.Tests.{eq-eqb, ne_eqb}
use Rattle.objects.specs.Lists.{any, keep, flat, In}
use Rattle.objects.proofs.ListLaws.{either, keep_append, keep-none, keep_all, any_none, flat_append, In-keep, In-map, In-flat, In-append}
use Rattle.objects.proofs.KeyLaws.{same_key}
use Rattle.objects.specs.declared.TypeKey.{TypeKey}
use Rattle.rules.specs.Members.{Identity}
use Rattle.rules.specs.Ways.{Walk, Way, judged}
use Rattle.ways.specs.Graph.{Graph, walks, matching, ends, ways, shortest, start}
use Rattle.ways.proofs.Order.{long}
use Rattle.ways.proofs.Bound.{Closed, none-longer}
use Rattle.ways.proofs.Numbered.{numbered, numbered-lawful}
use Rattle.walks.specs.Kept.{new, kept}
use Rattle.walks.specs.Rows.{walks_of, stage, kept_rows, range}
use Rattle.walks.specs.Reads.{as_short, shortest_of}
use Rattle.walks.proofs.Levels.{spot, two-enough}
use Rattle.walks.proofs.RowsKept.{In-two, rows-kept}

module _ (G : Graph) (r0 : Walk) where
  -- a kept walk of d steps is one of d steps, to a type that no fewer lead to
  pub kept-In : (d : ℕ) (w : Walk) → In w (kept G r0 d) → In w (walks G r0 d) × (new G r0 d w ≡ true)
  kept-In d w i = In-keep (new G r0 d) (walks G r0 d) w (In-two spot (keep (new G r0 d) (walks G r0 d)) [] w i)

  kept-long : (d : ℕ) (w : Walk) → In w (kept G r0 d) → length w.places ≡ length r0.places + d
  kept-long d w i = long G r0 d w (kept-In d w i).0

  later-long : (k d : ℕ) (w : Walk) → In w (flat (kept G r0) (range d k)) → length r0.places + d ≤ length w.places
  later-long zero d w i = absurd i
  later-long (suc k) d w i =
      either (In-append (kept G r0 d) (flat (kept G r0) (range (suc d) k)) w i)
      (λ j. let l = kept-long d w j in omega arith)
      (λ j. let l = later-long k (suc d) w j in omega arith)

  module _ (q : Identity) where
    walk_of : (W : List Walk) (v : Way) → In v (flat (ends G q) W) → In v.walk W
    walk_of W v i =
        let w = In-flat (ends G q) W v i in
        let m = In-map (λ m. record { walk = w.0; last = m }) (matching G q w.0.at) v w.2 in
        subst (λ (x : Way). In x.walk W) (sym m.2) w.1

    -- of a level's ways and those of later levels, the level's are as short as the first
    short-here : (d k : ℕ) (w : Way) (E : List Way) → flat (ends G q) (kept G r0 d) ≡ w ∷ E → as_short (w ∷ (E ++ flat (ends G q) (flat (kept G r0) (range (suc d) k)))) ≡ w ∷ E
    short-here d k w E e =
        ap (λ l. w ∷ l)
        (keep_append short E rest
        ∙ ap₂ (λ a b. a ++ b)
        (keep_all short E (any_none _ E (λ v i. ap not (eq-eqb (length v.walk.places) (length w.walk.places) (here v (inr i) ∙ sym (here w (inl refl)))))))
        (keep-none short rest (any_none _ rest (λ v i. ne_eqb (length v.walk.places) (length w.walk.places) (λ s. let a = later-long k (suc d) v.walk (walk_of (flat (kept G r0) (range (suc d) k)) v i) in let b = here w (inl refl) in omega arith))))
        ∙ append-nil E)
      where
        short : Way → Bool
        short v = eqb (length v.walk.places) (length w.walk.places)

        rest : List Way
        rest = flat (ends G q) (flat (kept G r0) (range (suc d) k))

        here : (v : Way) → In v (w ∷ E) → length v.walk.places ≡ length r0.places + d
        here v i = kept-long d v.walk (walk_of (kept G r0 d) v (subst (In v) (sym e) i))

    from-level : (k d : ℕ) → ((j : ℕ) → j < d → ways G q r0 j ≡ []) → take 2 (as_short (flat (ends G q) (flat (kept G r0) (range d k)))) ≡ take 2 (shortest G q r0 d k)
    from-level zero d h = refl
    from-level (suc k) d h = go (flat (ends G q) (kept G r0 d)) refl (ways G q r0 d) refl (from-level k (suc d))
      where
        two : take 2 (flat (ends G q) (kept G r0 d)) ≡ take 2 (ways G q r0 d)
        two = two-enough G r0 q d h

        split : flat (ends G q) (flat (kept G r0) (range d (suc k))) ≡ flat (ends G q) (kept G r0 d) ++ flat (ends G q) (flat (kept G r0) (range (suc d) k))
        split = flat_append (ends G q) (kept G r0 d) (flat (kept G r0) (range (suc d) k))

        go : (E : List Way) → flat (ends G q) (kept G r0 d) ≡ E → (W : List Way) → ways G q r0 d ≡ W
            → (((j : ℕ) → j < suc d → ways G q r0 j ≡ []) → take 2 (as_short (flat (ends G q) (flat (kept G r0) (range (suc d) k)))) ≡ take 2 (shortest G q r0 (suc d) k))
            → take 2 (as_short (flat (ends G q) (flat (kept G r0) (range d (suc k))))) ≡ take 2 (shortest G q r0 d (suc k))
        go [] e [] f ih = ap (λ l. take 2 (as_short l)) (split ∙ ap (λ l. l ++ flat (ends G q) (flat (kept G r0) (range (suc d) k))) e) ∙ rw (f, shortest) (ih (λ j l. elim (dec_lt j d) [ yes m ↦ h j m | no m ↦ let s : j ≡ d = omega arith in rw s f ]))
        go [] e (w ∷ W) f ih = absurd (cons≢nil (sym (ap (take 2) f) ∙ sym two ∙ ap (take 2) e))
        go (w ∷ E) e [] f ih = absurd (cons≢nil (sym (ap (take 2) e) ∙ two ∙ ap (take 2) f))
        go (v ∷ E) e (w ∷ W) f ih =
            ap (λ l. take 2 (as_short l)) (split ∙ ap (λ l. l ++ flat (ends G q) (flat (kept G r0) (range (suc d) k))) e)
            ∙ ap (take 2) (short-here d k v E e)
            ∙ sym (ap (take 2) e) ∙ two ∙ ap (take 2) f
            ∙ rw (f, shortest)

-- WHAT THE ROWS OF ANY NUMBER OF LEVELS GIVE: the first two of the shortest ways among as many lengths.
pub kept-shortest : (G : Graph) (q : Identity) (t : TypeKey) (f : Bool) (d : ℕ) → take 2 (shortest_of G (walks_of (stage G t f d).rows) q) ≡ take 2 (shortest G q (start t f) 0 (suc d))
kept-shortest G q t f d = ap (λ W. take 2 (shortest_of G W q)) (rows-kept G t f d) ∙ from-level G (start t f) q (suc d) 0 (λ j l. absurd (omega arith))

-- ---- as many lengths as there are types

over-one : (d k : ℕ) → d + suc k ≡ suc d + k
over-one d k = omega arith

module _ (G : Graph) (q : Identity) (r0 : Walk) where
  -- one length more changes nothing if it has no way where none before it has
  shortest-last : (k d : ℕ) → ((j : ℕ) → j < d → ways G q r0 j ≡ []) → (((j : ℕ) → j < d + k → ways G q r0 j ≡ []) → ways G q r0 (d + k) ≡ []) → shortest G q r0 d (suc k) ≡ shortest G q r0 d k
  shortest-last zero d h g = rw (sym (ap (ways G q r0) (add-zero d)) ∙ g (λ j l. h j (omega arith)), shortest)
  shortest-last (suc k) d h g = go (ways G q r0 d) refl (shortest-last k (suc d))
    where
      go : (W : List Way) → ways G q r0 d ≡ W
          → (((j : ℕ) → j < suc d → ways G q r0 j ≡ []) → (((j : ℕ) → j < suc d + k → ways G q r0 j ≡ []) → ways G q r0 (suc d + k) ≡ []) → shortest G q r0 (suc d) (suc k) ≡ shortest G q r0 (suc d) k)
          → shortest G q r0 d (suc (suc k)) ≡ shortest G q r0 d (suc k)
      go [] e ih = rw (e, shortest) (ih (λ j l. elim (dec_lt j d) [ yes m ↦ h j m | no m ↦ let s : j ≡ d = omega arith in rw s e ]) (λ a. subst (λ n. ways G q r0 n ≡ []) (over-one d k) (g (λ j l. a j (omega arith)))))
      go (w ∷ W) e ih = rw (e, shortest)

pub judged-two : (a : Bool) (ws vs : List Way) → take 2 ws ≡ take 2 vs → judged a ws ≡ judged a vs
judged-two a ws vs h = sym (cut ws) ∙ ap (judged a) h ∙ cut vs
  where
    cut : (l : List Way) → judged a (take 2 l) ≡ judged a l
    cut [] = refl
    cut (w ∷ []) = refl
    cut (w ∷ v ∷ l) = refl

module _ (G : Graph) (closed : Closed G) (q : Identity) (t : TypeKey) (in0 : t.0 < G.size) (f : Bool) where
  -- the ways that the kept rows have to q, and all ways
  abbrev by_rows : List Way
  by_rows = shortest_of G (walks_of (kept_rows G t f)) q

  abbrev by_length : ℕ → List Way
  by_length = ways G q (start t f)

  -- no way of any length, if there is none of fewer steps than there are types
  none_at_all : ((j : ℕ) → j < G.size → by_length j ≡ []) → (j : ℕ) → by_length j ≡ []
  none_at_all = none-longer (numbered G) (numbered-lawful G) closed (start t f) in0 q (λ a b e. ap (λ x. any (G.hit q) (G.members x)) (same_key a b e))

  pub kept-two : take 2 by_rows ≡ take 2 (shortest G q (start t f) 0 G.size)
  kept-two =
      kept-shortest G q t f G.size
      ∙ ap (take 2) (shortest-last G q (start t f) G.size 0 (λ j l. absurd (omega arith)) (λ h. none_at_all (λ j l. h j (omega arith)) (0 + G.size)))
