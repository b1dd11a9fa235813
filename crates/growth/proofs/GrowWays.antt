-- A graph grows: the old ways are the ways of the new graph that use no added member, and what follows for the answer. Over any graphs of types; that the
-- graphs of two tables grow so is proofs/GrowGraph.antt.
use mathlib.Core.Path.{◌≡◌, refl, sym, ap, ◌∙◌}
use mathlib.Core.Bool.{Bool, true, false, cond, not, ◌&&◌, ◌||◌}
use mathlib.Core.List.{List, [], ◌∷◌, map}
use mathlib.Core.Logic.{inl, inr}
use Prim.Native.Nat.{ℕ, zero, suc, ◌≤◌, ◌<◌}
use native.Mathlib.Omega.{arith}
use lib.ListN.{length, length-append}
use Rattle.objects.specs.Lists.{any, keep, flat, In}
use Rattle.objects.proofs.ListLaws.{cases, clash, or-true, or-false, un_not, any_none, any-map, keep_append, keep-map, keep-ext, keep-flat, map-append, map-map, map-nil, In-map, In-flat, In-keep, map-In-to, remove-none, keep-none}
use Rattle.objects.specs.declared.TypeKey.{TypeKey}
use Rattle.objects.specs.declared.ObjKey.{ObjKey}
use Rattle.objects.specs.Table.{has_ptr}
use Rattle.rules.specs.Members.{Identity}
use Rattle.rules.specs.Ways.{Place, Walk, Way, badreceiver, entry, is_ambiguous, single, judged, places_of, member_of}
use Rattle.ways.specs.Graph.{Graph, Step, along, onward, walks, matching, ends, ways, start, select}
use Rattle.ways.proofs.Order.{long}
use Rattle.ways.proofs.Merge.{Lawful}
use Rattle.ways.proofs.Same.{Keyed}
use Rattle.ways.proofs.Bound.{Closed, in_size}
use Rattle.ways.proofs.Least.{Least, select-least}
use Rattle.growth.specs.Grown.{Numbers, carry_member}
use Rattle.growth.specs.Promise.{carry_selected, Gives}

-- ---- what is carried

module _ (n : Numbers) where
  abbrev pub carry_step : Step → Step
  carry_step s = record { place = s.place; key = n.mem s.key; target = n.ty s.target; ptr = s.ptr }

  abbrev pub carry_place : Place → Place
  carry_place p = record { place = p.place; member = carry_member n p.member }

  abbrev pub carry_walk : Walk → Walk
  carry_walk w = record { places = w.places; used = map n.mem w.used; at = n.ty w.at; flag = w.flag }

  abbrev pub carry_way : Way → Way
  carry_way w = record { walk = carry_walk w.walk; last = carry_place w.last }

-- "new if it uses an added member"
module _ (added : ObjKey → Bool) where
  abbrev pub new_walk : Walk → Bool
  new_walk w = any added w.used

  abbrev pub uses_new : Way → Bool
  uses_new w = added (member_of w).key || new_walk w.walk

-- The new graph H has what the old one G had: of a carried type's embedded fields and of its members with the name, those that are not added are the
-- carried ones, at their old places.
pub record Grows (n : Numbers) (added : ObjKey → Bool) (G H : Graph) (q : Identity) : Type 0 where
  pub steps : (t : TypeKey) → t.0 < G.size → keep (λ s. not (added s.key)) (H.steps (n.ty t)) ≡ map (carry_step n) (G.steps t)
  pub members : (t : TypeKey) → t.0 < G.size → keep (λ p. not (added p.member.key)) (matching H q (n.ty t)) ≡ map (carry_place n) (matching G q t)

module _ (n : Numbers) (added : ObjKey → Bool) (G H : Graph) (q : Identity) (cl : Closed G) (g : Grows n added G H q) where
  -- where the walk is old, a way or walk that goes on from it is as new as the member that it takes
  goes_on : (w : Walk) → new_walk added w ≡ false → (k : ObjKey) → not (added k || new_walk added w) ≡ not (added k)
  goes_on w e k = rw (e, or-false (added k))

  old-onward : (w : Walk) → w.at.0 < G.size → new_walk added (carry_walk n w) ≡ false → keep (λ v. not (new_walk added v)) (onward H (carry_walk n w)) ≡ map (carry_walk n) (onward G w)
  old-onward w h o =
      keep-map (λ v. not (new_walk added v)) (along H (carry_walk n w)) (H.steps (n.ty w.at))
      ∙ ap (map (along H (carry_walk n w))) (keep-ext _ _ (λ s. goes_on (carry_walk n w) o s.key) (H.steps (n.ty w.at)) ∙ g.steps w.at h)
      ∙ map-map (along H (carry_walk n w)) (carry_step n) (G.steps w.at)
      ∙ sym (map-map (carry_walk n) (along G w) (G.steps w.at))

  -- walks that stand at old types and whose carried walks are old
  abbrev Old : List Walk → Type 0
  Old W = (w : Walk) → In w W → (w.at.0 < G.size) × (new_walk added (carry_walk n w) ≡ false)

  old-flat : (W : List Walk) → Old W → keep (λ v. not (new_walk added v)) (flat (onward H) (map (carry_walk n) W)) ≡ map (carry_walk n) (flat (onward G) W)
  old-flat [] h = refl
  old-flat (w ∷ ws) h =
      let o = h w (inl refl) in
      rw (
        keep_append (λ v. not (new_walk added v)) (onward H (carry_walk n w)) (flat (onward H) (map (carry_walk n) ws)),
        map-append (carry_walk n) (onward G w) (flat (onward G) ws),
        old-onward w o.0 o.1,
        old-flat ws (λ v i. h v (inr i)),
      )

  new-stays : (w : Walk) → not (new_walk added w) ≡ false → any (λ v. not (new_walk added v)) (onward H w) ≡ false
  new-stays w h =
      any-map (λ v. not (new_walk added v)) (along H w) (H.steps w.at)
      ∙ any_none _ (H.steps w.at) (λ s i. rw (un_not (new_walk added w) h, or-true (added s.key)))

  module _ (t : TypeKey) (f : Bool) (in0 : t.0 < G.size) where
    abbrev r0 : Walk
    r0 = start t f

    old-all : (d : ℕ) → keep (λ v. not (new_walk added v)) (walks H (carry_walk n r0) d) ≡ map (carry_walk n) (walks G r0 d) → Old (walks G r0 d)
    old-all d e w i =
        let k = In-keep (λ v. not (new_walk added v)) (walks H (carry_walk n r0) d) (carry_walk n w) (rw e (map-In-to (carry_walk n) (walks G r0 d) w i)) in
        (in_size G cl r0 in0 d w i, cases (new_walk added (carry_walk n w)) (λ z. clash k.1 (rw z)) (λ z. z))

    pub walks-old : (d : ℕ) → keep (λ v. not (new_walk added v)) (walks H (carry_walk n r0) d) ≡ map (carry_walk n) (walks G r0 d)
    walks-old zero = refl
    walks-old (suc d) =
        sym (keep-flat (λ v. not (new_walk added v)) (λ v. not (new_walk added v)) (onward H) new-stays (walks H (carry_walk n r0) d))
        ∙ rw (walks-old d) (old-flat (walks G r0 d) (old-all d (walks-old d)))

    old-ends : (w : Walk) → w.at.0 < G.size → new_walk added (carry_walk n w) ≡ false → keep (λ v. not (uses_new added v)) (ends H q (carry_walk n w)) ≡ map (carry_way n) (ends G q w)
    old-ends w h o =
        keep-map (λ v. not (uses_new added v)) (λ p. record { walk = carry_walk n w; last = p }) (matching H q (n.ty w.at))
        ∙ ap (map (λ p. record { walk = carry_walk n w; last = p }))
        (keep-ext _ _ (λ p. goes_on (carry_walk n w) o p.member.key) (matching H q (n.ty w.at)) ∙ g.members w.at h)
        ∙ map-map (λ p. record { walk = carry_walk n w; last = p }) (carry_place n) (matching G q w.at)
        ∙ sym (map-map (carry_way n) (λ p. record { walk = w; last = p }) (matching G q w.at))

    old-found : (W : List Walk) → Old W → keep (λ v. not (uses_new added v)) (flat (ends H q) (map (carry_walk n) W)) ≡ map (carry_way n) (flat (ends G q) W)
    old-found [] h = refl
    old-found (w ∷ ws) h =
        let o = h w (inl refl) in
        rw (
          keep_append (λ v. not (uses_new added v)) (ends H q (carry_walk n w)) (flat (ends H q) (map (carry_walk n) ws)),
          map-append (carry_way n) (ends G q w) (flat (ends G q) ws),
          old-ends w o.0 o.1,
          old-found ws (λ v i. h v (inr i)),
        )

    new-ends : (w : Walk) → not (new_walk added w) ≡ false → any (λ v. not (uses_new added v)) (ends H q w) ≡ false
    new-ends w h =
        any-map (λ v. not (uses_new added v)) (λ p. record { walk = w; last = p }) (matching H q w.at)
        ∙ any_none _ (matching H q w.at) (λ p i. rw (un_not (new_walk added w) h, or-true (added p.member.key)))

    -- THE OLD WAYS ARE THE WAYS THAT USE NO ADDED MEMBER, in their order.
    pub ways-old : (d : ℕ) → keep (λ w. not (uses_new added w)) (ways H q (carry_walk n r0) d) ≡ map (carry_way n) (ways G q r0 d)
    ways-old d =
        sym (keep-flat (λ v. not (uses_new added v)) (λ v. not (new_walk added v)) (ends H q) new-ends (walks H (carry_walk n r0) d))
        ∙ rw (walks-old d) (old-found (walks G r0 d) (old-all d (walks-old d)))

    -- some way of d steps is new
    abbrev pub new : ℕ → Bool
    new d = any (uses_new added) (ways H q (start (n.ty t) f) d)

    pub ways-same : (d : ℕ) → new d ≡ false → ways H q (start (n.ty t) f) d ≡ map (carry_way n) (ways G q r0 d)
    ways-same d e = sym (remove-none (uses_new added) (ways H q (start (n.ty t) f) d) e) ∙ ways-old d

    -- no new way as short as the old ones: the least length stays
    pub least_kept : (d : ℕ) → Least G q r0 d → ((j : ℕ) → j ≤ d → new j ≡ false) → Least H q (start (n.ty t) f) d
    least_kept d l e =
        record {
          some = λ z. l.some (map-nil (carry_way n) (ways G q r0 d) (sym (ways-same d (e d (omega arith))) ∙ z));
          none = λ j h. ways-same j (e j (omega arith)) ∙ rw (l.none j h);
        }

    -- of ways as short as the old ones some are old
    pub old-there : (d : ℕ) → Least G q r0 d → any (λ w. not (uses_new added w)) (ways H q (start (n.ty t) f) d) ≡ true
    old-there d l =
        cases (any (λ w. not (uses_new added w)) (ways H q (start (n.ty t) f) d)) (λ e. e)
        (λ e. absurd (l.some (map-nil (carry_way n) (ways G q r0 d) (sym (ways-old d) ∙ keep-none (λ w. not (uses_new added w)) (ways H q (start (n.ty t) f) d) e))))

-- ---- the answers

only : {x y : List ℕ} → In x (y ∷ []) → y ≡ x
only (inl e) = sym e
only (inr i) = absurd i

single-gives : (a : Bool) (w : Way) (p : List ℕ) → Gives (single a w) p → places_of w ≡ p
single-gives a w p = go (has_ptr (member_of w).entity && not w.walk.flag && not a)
  where
    go : (b : Bool) → Gives (cond b badreceiver (entry (member_of w) w.walk.flag (places_of w))) p → places_of w ≡ p
    go true h = absurd h
    go false h = only h

-- what an answer shows are places of the ways that are judged
pub judged-gives : (a : Bool) (ws : List Way) (p : List ℕ) → Gives (judged a ws) p → (w : Way) × In w ws × (places_of w ≡ p)
judged-gives a [] p h = absurd h
judged-gives a (w ∷ []) p h = (w, inl refl, single-gives a w p h)
judged-gives a (w ∷ v ∷ rest) p (inl e) = (w, inl refl, sym e)
judged-gives a (w ∷ v ∷ rest) p (inr i) = (v, inr (inl refl), only i)

pub way_long : (G : Graph) (q : Identity) (t : TypeKey) (f : Bool) (d : ℕ) (w : Way) → In w (ways G q (start t f) d) → length (places_of w) ≡ suc d
way_long G q t f d w i =
    let v = In-flat (ends G q) (walks G (start t f) d) w i in
    let m = In-map (λ x. record { walk = v.0; last = x }) (matching G q v.0.at) w v.2 in
    let l = long G (start t f) d v.0 v.1 in
    rw (m.2, length-append v.0.places (m.0.place ∷ [])) (omega arith)

single-carry : (n : Numbers) (a : Bool) (w : Way) → single a (carry_way n w) ≡ carry_selected n (single a w)
single-carry n a w = go (has_ptr (member_of w).entity && not w.walk.flag && not a)
  where
    go : (b : Bool) → cond b badreceiver (entry (carry_member n (member_of w)) w.walk.flag (places_of w)) ≡ carry_selected n (cond b badreceiver (entry (member_of w) w.walk.flag (places_of w)))
    go true = refl
    go false = refl

judged-carry : (n : Numbers) (a : Bool) (ws : List Way) → judged a (map (carry_way n) ws) ≡ carry_selected n (judged a ws)
judged-carry n a [] = refl
judged-carry n a (w ∷ []) = single-carry n a w
judged-carry n a (w ∷ v ∷ rest) = refl

judged-two : (a : Bool) (p : Way → Bool) (ws : List Way) → any p ws ≡ true → any (λ w. not (p w)) ws ≡ true → is_ambiguous (judged a ws) ≡ true
judged-two a p [] h k = clash h refl
judged-two a p (w ∷ []) h k = cases (p w) (λ e. clash k (rw e)) (λ e. clash h (rw e))
judged-two a p (w ∷ v ∷ rest) h k = refl

module _ (n : Numbers) (added : ObjKey → Bool) (G H : Graph) (q : Identity) (law_g : Lawful G) (law_h : Lawful H) (cl_g : Closed G) (cl_h : Closed H) (kd_g : Keyed G q) (kd_h : Keyed H q) (g : Grows n added G H q)
    (t : TypeKey) (in0 : t.0 < G.size) (in_h : (n.ty t).0 < H.size) (f a : Bool) where
  -- NO NEW WAY IS AS SHORT AS THE OLD: THE SAME ANSWER.
  pub kept : (d : ℕ) → Least G q (start t f) d → ((j : ℕ) → j ≤ d → new n added G H q cl_g g t f in0 j ≡ false) → select H q (n.ty t) f a ≡ carry_selected n (select G q t f a)
  kept d l e =
      select-least H law_h cl_h (n.ty t) in_h f a q kd_h d (least_kept n added G H q cl_g g t f in0 d l e)
      ∙ ap (judged a) (ways-same n added G H q cl_g g t f in0 d (e d (omega arith)))
      ∙ judged-carry n a (ways G q (start t f) d)
      ∙ ap (carry_selected n) (sym (select-least G law_g cl_g t in0 f a q kd_g d l))

  -- A NEW WAY IS AS SHORT AS THE OLD, none shorter: ambiguous.
  pub tied : (d : ℕ) → Least G q (start t f) d → Least H q (start (n.ty t) f) d → new n added G H q cl_g g t f in0 d ≡ true → is_ambiguous (select H q (n.ty t) f a) ≡ true
  tied d l m e =
      ap is_ambiguous (select-least H law_h cl_h (n.ty t) in_h f a q kd_h d m)
      ∙ judged-two a (uses_new added) (ways H q (start (n.ty t) f) d) e (old-there n added G H q cl_g g t f in0 d l)
