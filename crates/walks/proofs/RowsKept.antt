-- The rows, read as walks, are the kept walks level after level.
use mathlib.Core.Path.{◌≡◌, refl, sym, ap, ap₂, ◌∙◌, subst}
use mathlib.Core.Bool.{Bool, true, false, not, ◌&&◌, ◌||◌}
use mathlib.Core.List.{List, [], ◌∷◌, ◌++◌, map, append-nil, append_assoc}
use mathlib.Core.Logic.{◌⊎◌, inl, inr}
use Prim.Native.Nat.{ℕ, zero, suc, ◌+◌, ◌-◌, ◌≤◌, ◌<◌}
use native.Mathlib.Omega.{arith}
use native.Mathlib.Numerals.{add-one}
use native.Mathlib.Nat.{add-zero, add-suc, suc-add, zero-add}
use native.Mathlib.Decide.{dec_lt}
use lib.Dec.{leb, ltb}
use lib.ListN.{length, length-append, get_or-append, get_or-eq_default}
use lib.Seq.{get_or-append-add}
use borrow.Author.Tests.{lt-ltb, le-ltb, not-true}
use Rattle.objects.specs.Lists.{any, keep, flat, In}
use Rattle.objects.proofs.ListLaws.{cases, clash, either, or-false, map-append, map-map, map-In, any-map, any_append, any-In, any-In-ext, any-keep, any_none, keep-map, keep-ext, flat_map, flat_append, map-flat, flat-In-ext, In-keep, In-map, In-flat, In-append}
use Rattle.objects.proofs.PartLaws.{get_or-In}
use Rattle.objects.proofs.KeyLaws.{same_key, same_self}
use Rattle.objects.specs.declared.TypeKey.{TypeKey}
use Rattle.objects.specs.Table.{type_key, same_type}
use Rattle.rules.specs.Ways.{Walk}
use Rattle.ways.specs.Graph.{Graph, onward, walks, start}
use Rattle.walks.specs.Kept.{count, twice, first_two, sooner, new, kept}
use Rattle.walks.specs.Rows.{Row, root_row, row, places_to, used_to, walk_at, walks_of, full, enter_all, Stage, level, embeds, below, stage, range}
use Rattle.walks.proofs.Levels.{spot, kept_on}

-- ---- lists

pub count-append : (u : TypeKey) (l m : List TypeKey) → count u (l ++ m) ≡ count u l + count u m
count-append u [] m = sym (zero-add (count u m))
count-append u (t ∷ l) m = let h = count-append u l m in cases (same_type t u) (λ e. rw e (omega arith)) (λ e. rw e (omega arith))

pub count_none : {A : Type 0} (at : A → TypeKey) (u : TypeKey) (L : List A) → any (λ x. same_type (at x) u) L ≡ false → count u (map at L) ≡ 0
count_none at u [] h = refl
count_none at u (x ∷ L) h = cases (same_type (at x) u) (λ e. clash (rw e) h) (λ e. rw e (count_none at u L (rw e at h)))

two-map : {A C : Type 0} (at : C → TypeKey) (g : A → C) (L : List A) (B : List TypeKey) → map g (first_two (λ x. at (g x)) B L) ≡ first_two at B (map g L)
two-map at g [] B = refl
two-map at g (x ∷ L) B = cases (twice B (at (g x))) (λ e. rw e (two-map at g L B)) (λ e. rw e (ap (λ l. g x ∷ l) (two-map at g L (at (g x) ∷ B))))

-- a type stands among the first two exactly if it stands in the list
any-two : {A : Type 0} (at : A → TypeKey) (u : TypeKey) (L : List A) (B : List TypeKey) → count u B ≡ 0 → any (λ x. same_type (at x) u) (first_two at B L) ≡ any (λ x. same_type (at x) u) L
any-two at u [] B h = refl
any-two at u (x ∷ L) B h =
    cases (same_type (at x) u)
    (λ e. let n : twice B (at x) ≡ false = rw (same_key (at x) u e, h) in rw (n, e))
    (λ e. cases (twice B (at x))
    (λ f. rw (f, e) (any-two at u L B h))
    (λ f. rw (f, e) (any-two at u L (at x ∷ B) (rw e h))))

pub In-two : {A : Type 0} (at : A → TypeKey) (L : List A) (B : List TypeKey) (x : A) → In x (first_two at B L) → In x L
In-two {A = A} at [] B x i = elim i [ ]
In-two at (y ∷ L) B x i =
    cases (twice B (at y))
    (λ e. inr (In-two at L B x (rw e at i)))
    (λ e. either (rw e at i) (λ f. inl f) (λ j. inr (In-two at L (at y ∷ B) x j)))

In-range : (lo n i : ℕ) → In i (range lo n) → (lo ≤ i) × (i < lo + n)
In-range lo zero i h = absurd h
In-range lo (suc n) i h = either h (λ e. (omega arith, omega arith)) (λ j. let r = In-range (suc lo) n i j in (omega arith, omega arith))

pub range-append : (lo m n : ℕ) → range lo (m + n) ≡ range lo m ++ range (lo + m) n
range-append lo zero n = rw (zero-add n, add-zero lo)
range-append lo (suc m) n = rw (suc-add m n) (ap (λ l. lo ∷ l) (range-append (suc lo) m n ∙ rw (suc-add lo m, add-suc lo m)))

pub range_last : (n : ℕ) → range 0 (suc n) ≡ range 0 n ++ (n ∷ [])
range_last n = ap (range 0) (sym (add-one n)) ∙ range-append 0 n 1 ∙ rw (zero-add n)

pub map_range : {B : Type 0} (f : ℕ → B) (g : Row → B) (F : List Row) (lo : ℕ) → ((j : ℕ) → j < length F → f (lo + j) ≡ g (row F j)) → map f (range lo (length F)) ≡ map g F
map_range f g [] lo h = refl
map_range f g (x ∷ F) lo h = ap₂ (λ a b. a ∷ b) (rw add-zero at (h 0 (omega arith))) (map_range f g F (suc lo) (λ j l. rw (suc-add, ← add-suc) (h (suc j) (omega arith))))

-- ---- entering

-- a row of u
abbrev pub met : List Row → TypeKey → Bool
met R u = any (λ r. same_type r.type u) R

abbrev pub typ : Row → TypeKey
typ r = r.type

-- R are the rows to level d, F and X rows of the level below it
module _ (d : ℕ) (R : List Row) (low : (r : Row) → In r R → r.level ≤ d) where
  abbrev pub Under : List Row → Type 0
  Under F = (x : Row) → In x F → x.level ≡ suc d

  full_is : (F : List Row) (x : Row) → Under F → x.level ≡ suc d → full (R ++ F) x ≡ met R (typ x) || twice (map typ (R ++ F)) (typ x)
  full_is F x un e =
      ap (λ b. b || twice (map typ (R ++ F)) (typ x))
      (any_append (λ r. same_type r.type x.type && ltb r.level x.level) R F
      ∙ ap₂ (λ a b. a || b)
      (any-In-ext _ _ R (λ r i. let l = low r i in and_yes (same_type r.type x.type) (ltb r.level x.level) (rw e (lt-ltb r.level (suc d) (omega arith)))))
      (any_none _ F (λ r i. and_no (same_type r.type x.type) (ltb r.level x.level) (rw (e, un r i) (le-ltb (suc d) (suc d) (omega arith)))))
      ∙ or-false (met R (typ x)))
    where
      and_yes : (a b : Bool) → b ≡ true → a && b ≡ a
      and_yes true b h = h
      and_yes false b h = refl

      and_no : (a b : Bool) → b ≡ false → a && b ≡ false
      and_no true b h = h
      and_no false b h = refl

  enter-rows : (X F : List Row) (B : List TypeKey) → Under F → Under X → ((u : TypeKey) → met R u ≡ false → count u B ≡ count u (map typ (R ++ F)))
      → enter_all (R ++ F) X ≡ (R ++ F) ++ first_two typ B (keep (λ x. not (met R (typ x))) X)
  enter-rows [] F B uf ux h = sym (append-nil (R ++ F))
  enter-rows (x ∷ X) F B uf ux h =
      cases (met R (typ x))
      (λ e. rw (full_is F x uf (ux x (inl refl)), e) (enter-rows X F B uf (λ y i. ux y (inr i)) h))
      (λ e. let s : twice B (typ x) ≡ twice (map typ (R ++ F)) (typ x) = ap (λ n. leb 2 n) (h (typ x) e) in
      cases (twice B (typ x))
      (λ f. rw (full_is F x uf (ux x (inl refl)), e, sym s ∙ f, f) (enter-rows X F B uf (λ y i. ux y (inr i)) h))
      (λ f. rw (full_is F x uf (ux x (inl refl)), e, sym s ∙ f, f)
      (ap (λ l. enter_all l X) (append_assoc R F (x ∷ []))
      ∙ enter-rows X (F ++ (x ∷ [])) (typ x ∷ B)
      (λ y i. either (In-append F (x ∷ []) y i) (uf y) (λ j. either j (λ q. rw q (ux x (inl refl))) (λ z. absurd z)))
      (λ y i. ux y (inr i))
      (λ u g. more u (h u g))
      ∙ ap (λ l. l ++ first_two typ (typ x ∷ B) (keep (λ y. not (met R (typ y))) X)) (sym (append_assoc R F (x ∷ [])))
      ∙ append_assoc (R ++ F) (x ∷ []) (first_two typ (typ x ∷ B) (keep (λ y. not (met R (typ y))) X)))))
    where
      more : (u : TypeKey) → count u B ≡ count u (map typ (R ++ F)) → count u (typ x ∷ B) ≡ count u (map typ (R ++ (F ++ (x ∷ []))))
      more u g =
          let m : count u (map typ (R ++ (F ++ (x ∷ [])))) ≡ count u (map typ (R ++ F)) + count u (typ x ∷ []) = ap (λ l. count u (map typ l)) (sym (append_assoc R F (x ∷ []))) ∙ ap (count u) (map-append typ (R ++ F) (x ∷ [])) ∙ count-append u (map typ (R ++ F)) (typ x ∷ []) in
          cases (same_type (typ x) u) (λ e. let k : count u (typ x ∷ []) ≡ 1 = rw e in rw e (omega arith)) (λ e. let k : count u (typ x ∷ []) ≡ 0 = rw e in rw e (omega arith))

-- ---- reading rows

-- every parent stands in the first n rows
abbrev Inside : ℕ → List Row → Type 0
Inside n F = (x : Row) → In x F → x.parent < n

-- a row that is to stand below row `parent`, which is d steps down
abbrev child_walk : List Row → ℕ → Row → Walk
child_walk R d x = record { places = places_to R d x.parent ++ (x.place ∷ []); used = x.key ∷ used_to R d x.parent; at = x.type; flag = x.flag }

module _ (R : List Row) (some : 0 < length R) (ins : Inside (length R) R) where
  parent_in : (i : ℕ) → (row R i).parent < length R
  parent_in i = elim (dec_lt i (length R)) [ yes h ↦ ins (row R i) (get_or-In R i _ h) | no h ↦ rw (get_or-eq_default R (root_row (type_key 0) false) {n = i} (omega arith)) some ]

  old_row : (F : List Row) (i : ℕ) → i < length R → row (R ++ F) i ≡ row R i
  old_row F i h = get_or-append R F (root_row (type_key 0) false) i h

  old-places : (F : List Row) (d i : ℕ) → i < length R → places_to (R ++ F) d i ≡ places_to R d i
  old-places F zero i h = refl
  old-places F (suc d) i h = rw (old_row F i h, old-places F d (row R i).parent (parent_in i))

  old-used : (F : List Row) (d i : ℕ) → i < length R → used_to (R ++ F) d i ≡ used_to R d i
  old-used F zero i h = refl
  old-used F (suc d) i h = rw (old_row F i h, old-used F d (row R i).parent (parent_in i))

  -- a row is read off the rows before it alone
  pub old-walk : (F : List Row) (i : ℕ) → i < length R → walk_at (R ++ F) i ≡ walk_at R i
  old-walk F i h = rw (old_row F i h, old-places F (row R i).level i h, old-used F (row R i).level i h)

  new-walk : (F : List Row) (d j : ℕ) → (row F j).parent < length R → (row F j).level ≡ suc d → walk_at (R ++ F) (length R + j) ≡ child_walk R d (row F j)
  new-walk F d j p e =
      let r : row (R ++ F) (length R + j) ≡ row F j = get_or-append-add R F j (root_row (type_key 0) false) in
      rw (r, e, places_to, used_to, r, old-places F d (row F j).parent p, old-used F d (row F j).parent p)

embeds-onward : (G : Graph) (R : List Row) (d i : ℕ) → (row R i).level ≡ d → map (child_walk R d) (embeds G R i) ≡ onward G (walk_at R i)
embeds-onward G R d i e = rw (← e) (map-map (child_walk R (row R i).level) _ (G.steps (row R i).type))

-- ---- the levels

-- What holds of the rows of the levels 0 to d.
pub record Held (G : Graph) (r0 : Walk) (d : ℕ) (S : Stage) : Type 0 where
  pub begins : S.from ≤ length S.rows
  pub some : 0 < length S.rows
  pub inside : Inside (length S.rows) S.rows
  pub low : (r : Row) → In r S.rows → r.level ≤ d
  pub last : (i : ℕ) → In i (level S) → (row S.rows i).level ≡ d
  pub here : map (walk_at S.rows) (level S) ≡ kept G r0 d
  pub known : (u : TypeKey) → met S.rows u ≡ sooner G r0 (suc d) u
  pub one : (r x : Row) → In r S.rows → In x S.rows → r.type ≡ x.type → r.level ≡ x.level
  pub above : (x : Row) → In x S.rows → (x.level ≡ 0) ⊎ (x.level ≡ suc (row S.rows x.parent).level)
  pub all : walks_of S.rows ≡ flat (kept G r0) (range 0 (suc d))

-- the types of a level's kept walks, with those sooner, are those of its walks
pub kept-types : (G : Graph) (r0 : Walk) (d : ℕ) (u : TypeKey) → sooner G r0 d u || any (λ w. same_type w.at u) (kept G r0 d) ≡ sooner G r0 (suc d) u
kept-types G r0 d u =
    cases (sooner G r0 d u)
    (λ e. rw e)
    (λ e. rw e (any-two spot u (keep (new G r0 d) (walks G r0 d)) [] refl ∙ any-keep (λ w. same_type w.at u) (new G r0 d) (λ w h. ap not (ap (sooner G r0 d) (same_key w.at u h) ∙ e)) (walks G r0 d)))

module _ (G : Graph) (r0 : Walk) (d : ℕ) (S : Stage) (h : Held G r0 d S) where
  abbrev R : List Row
  R = S.rows

  abbrev X : List Row
  X = flat (embeds G R) (level S)

  abbrev F : List Row
  F = first_two typ [] (keep (λ x. not (met R (typ x))) X)

  -- a row of X is a child of a row of the last level
  child : (x : Row) → In x X → (x.parent < length R) × (x.level ≡ suc d) × (x.level ≡ suc (row R x.parent).level)
  child x i =
      let j = In-flat (embeds G R) (level S) x i in
      let z = In-map (λ s. record { type = s.target; parent = j.0; place = s.place; key = s.key; flag = (row R j.0).flag || s.ptr; level = suc (row R j.0).level }) (G.steps (row R j.0).type) x j.2 in
      let b = In-range S.from (length R - S.from) j.0 j.1 in
      let c = h.begins in
      (rw z.2 (omega arith), rw z.2 (ap suc (h.last j.0 j.1)), rw z.2)

  child-in : (x : Row) → In x F → (x.parent < length R) × (x.level ≡ suc d) × (x.level ≡ suc (row R x.parent).level)
  child-in x i = child x (In-keep (λ y. not (met R (typ y))) X x (In-two typ (keep (λ y. not (met R (typ y))) X) [] x i)).0

  -- its type has no row before
  child-new : (x : Row) → In x F → met R (typ x) ≡ false
  child-new x i = not-true (met R (typ x)) (In-keep (λ y. not (met R (typ y))) X x (In-two typ (keep (λ y. not (met R (typ y))) X) [] x i)).1

  apart : (r x : Row) → In r R → In x F → r.type ≡ x.type → ⊥
  apart r x i j e = clash (any-In (λ y. same_type y.type (typ x)) R r i (ap (λ t. same_type t (typ x)) e ∙ same_self (typ x))) (child-new x j)

  grown : enter_all R X ≡ R ++ F
  grown =
      ap (λ l. enter_all l X) (sym (append-nil R))
      ∙ enter-rows d R h.low X [] [] (λ x i. absurd i) (λ x i. (child x i).1) (λ u g. sym (ap (λ l. count u (map typ l)) (append-nil R) ∙ count_none typ u R g))
      ∙ ap (λ l. l ++ F) (append-nil R)

  below_walks : map (child_walk R d) F ≡ kept G r0 (suc d)
  below_walks =
      two-map spot (child_walk R d) (keep (λ x. not (met R (typ x))) X) []
      ∙ ap (first_two spot [])
      (ap (map (child_walk R d)) (keep-ext _ (λ x. not (sooner G r0 (suc d) (typ x))) (λ x. ap not (h.known (typ x))) X)
      ∙ sym (keep-map (new G r0 (suc d)) (child_walk R d) X)
      ∙ ap (keep (new G r0 (suc d)))
      (map-flat (child_walk R d) (embeds G R) (level S)
      ∙ flat-In-ext _ _ (level S) (λ i j. embeds-onward G R d i (h.last i j))
      ∙ sym (flat_map (onward G) (walk_at R) (level S))
      ∙ ap (flat (onward G)) h.here))
      ∙ sym (kept_on G r0 d)

  below-known : (u : TypeKey) → met (R ++ F) u ≡ sooner G r0 (suc (suc d)) u
  below-known u =
      any_append (λ r. same_type r.type u) R F
      ∙ ap₂ (λ a b. a || b) (h.known u) (sym (any-map (λ (w : Walk). same_type w.at u) (child_walk R d) F) ∙ ap (any (λ w. same_type w.at u)) below_walks)
      ∙ kept-types G r0 (suc d) u

  below_length : length (R ++ F) - length R ≡ length F
  below_length = rw (length-append R F) (omega arith)

  -- the new rows as walks
  below-here : map (walk_at (R ++ F)) (range (length R) (length F)) ≡ kept G r0 (suc d)
  below-here =
      map_range (walk_at (R ++ F)) (child_walk R d) F (length R) (λ j l. let c = child-in (row F j) (get_or-In F j (root_row (type_key 0) false) l) in new-walk R h.some h.inside F d j c.0 c.1)
      ∙ below_walks

  below_all : walks_of (R ++ F) ≡ flat (kept G r0) (range 0 (suc (suc d)))
  below_all =
      ap (λ n. map (walk_at (R ++ F)) (range 0 n)) (length-append R F)
      ∙ ap (map (walk_at (R ++ F))) (range-append 0 (length R) (length F))
      ∙ map-append (walk_at (R ++ F)) (range 0 (length R)) (range (0 + length R) (length F))
      ∙ ap₂ (λ a b. a ++ b)
      (map-In (walk_at (R ++ F)) (walk_at R) (range 0 (length R)) (λ i j. let b = In-range 0 (length R) i j in old-walk R h.some h.inside F i (omega arith)) ∙ h.all)
      (rw (zero-add (length R)) below-here)
      ∙ sym (ap (flat (kept G r0)) (range_last (suc d)) ∙ flat_append (kept G r0) (range 0 (suc d)) (suc d ∷ []) ∙ ap (λ l. flat (kept G r0) (range 0 (suc d)) ++ l) (append-nil (kept G r0 (suc d))))

  new-level : (i : ℕ) → length R ≤ i → i < length R + length F → (row (R ++ F) i).level ≡ suc d
  new-level i a b =
      let e : i ≡ length R + (i - length R) = omega arith in
      ap (λ n. (row (R ++ F) n).level) e
      ∙ ap (λ (r : Row). r.level) (get_or-append-add R F (i - length R) (root_row (type_key 0) false))
      ∙ (child-in (row F (i - length R)) (get_or-In F (i - length R) (root_row (type_key 0) false) (omega arith))).1

  held_rows : Held G r0 (suc d) (record { rows = R ++ F; from = length R })
  held_rows = record {
    begins = rw (length-append R F) (omega arith);
    some = let s = h.some in rw (length-append R F) (omega arith);
    inside = λ x i. rw (length-append R F) (either (In-append R F x i) (λ j. let l = h.inside x j in omega arith) (λ j. let l = (child-in x j).0 in omega arith));
    low = λ x i. either (In-append R F x i) (λ j. let l = h.low x j in omega arith) (λ j. let l = (child-in x j).1 in omega arith);
    last = λ i j. let b = In-range (length R) (length (R ++ F) - length R) i j in let l = below_length in new-level i b.0 (omega arith);
    here = rw below_length below-here;
    known = below-known;
    one = λ r x i j e. either (In-append R F r i)
        (λ k. either (In-append R F x j) (λ l. h.one r x k l e) (λ l. absurd (apart r x k l e)))
        (λ k. either (In-append R F x j) (λ l. absurd (apart x r l k (sym e))) (λ l. (child-in r k).1 ∙ sym (child-in x l).1));
    above = λ x i. either (In-append R F x i)
        (λ j. either (h.above x j) (λ z. inl z) (λ z. inr (z ∙ ap (λ (r : Row). suc r.level) (sym (old_row R h.some h.inside F x.parent (h.inside x j))))))
        (λ j. let c = child-in x j in inr (c.2 ∙ ap (λ (r : Row). suc r.level) (sym (old_row R h.some h.inside F x.parent c.0))));
    all = below_all;
  }

  held_on : Held G r0 (suc d) (below G S)
  held_on = subst (λ l. Held G r0 (suc d) (record { rows = l; from = length R })) (sym grown) held_rows

pub held : (G : Graph) (t : TypeKey) (f : Bool) (d : ℕ) → Held G (start t f) d (stage G t f d)
held G t f zero = record {
  begins = omega arith;
  some = omega arith;
  inside = λ x i. either i (λ e. rw e (omega arith)) (λ j. absurd j);
  low = λ x i. either i (λ e. rw e (omega arith)) (λ j. absurd j);
  last = λ i j. either j (λ e. rw e) (λ z. absurd z);
  here = refl;
  known = λ u. refl;
  one = λ r x i j e. either i (λ a. either j (λ b. rw (a, b)) (λ z. absurd z)) (λ z. absurd z);
  above = λ x i. either i (λ e. inl (rw e)) (λ j. absurd j);
  all = refl;
}
held G t f (suc d) = held_on G (start t f) d (stage G t f d) (held G t f d)

-- THE ROWS ARE THE KEPT WALKS, level after level, for every graph and every number of levels.
pub rows-kept : (G : Graph) (t : TypeKey) (f : Bool) (d : ℕ) → walks_of (stage G t f d).rows ≡ flat (kept G (start t f)) (range 0 (suc d))
rows-kept G t f d = (held G t f d).all
