-- The promise for S (`PromiseS` of specs/Promise.antt), for every question that the old library has the numbers of.
use mathlib.Core.Path.{◌≡◌, refl, sym, ap, ap₂, ◌∙◌, subst}
use mathlib.Core.Bool.{Bool, true, false, cond, ◌&&◌, ◌||◌}
use mathlib.Core.List.{List, [], map}
use mathlib.Core.Logic.{◌⊎◌}
use mathlib.Core.Option.{Option}
use Prim.Native.Nat.{ℕ, ◌≤◌, ◌<◌}
use native.Mathlib.Omega.{arith}
use native.Mathlib.Decide.{dec_lt}
use lib.ListN.{length}
use Rattle.objects.specs.Lists.{Bytes, any, In}
use Rattle.objects.proofs.ListLaws.{cases, clash, either}
use Rattle.objects.specs.declared.TypeKey.{TypeKey}
use Rattle.objects.specs.declared.PackageKey.{PackageKey}
use Rattle.objects.specs.Table.{Table, size, is_method, has_package, under, bare, pointer_at, iface_under, named_pointer}
use Rattle.text.specs.Bytes.{is_blank}
use Rattle.rules.specs.Members.{Identity}
use Rattle.rules.specs.Sound.{Sound}
use Rattle.rules.specs.Ways as rules
use Rattle.rules.specs.Ways.{searched_as, Way, places_of, Selected, notfound, badreceiver, entry, ambiguous, is_ambiguous, no_method}
use Rattle.rules.proofs.SelectedLaws.{no-method-ambiguous}
use Rattle.rules.proofs.RangeLaws.{under-in}
use Rattle.ways.specs.Graph.{Graph, ways, start, select}
use Rattle.ways.specs.OfTable.{graph}
use Rattle.ways.proofs.Bridge.{ways-are}
use Rattle.ways.proofs.Selects.{select-says}
use Rattle.ways.proofs.TableLaws.{lawful, keyed, closed, bare-in}
use Rattle.ways.proofs.Least.{Least, select-least, select-none, least-or-none}
use Rattle.growth.specs.Grown.{Numbers, is_added, Grown}
use Rattle.growth.specs.Promise.{is_shut, ways_of, Shortest, is_new, carry_selected, Gives, new_way, old_name, new_name, PromiseS}
use Rattle.growth.proofs.GrowWays.{carry_way, ways-same, judged-gives, way_long, kept, tied}
use Rattle.growth.proofs.GrowKinds.{under-kept, bare-kept, pointer-kept, iface-kept, named-kept, name-kept}
use Rattle.growth.proofs.GrowGraph.{grows}

-- ---- S by the graph

-- what becomes of the answer for a named pointer type
abbrev pub post : Bool → Selected → Selected
post b r = cond b (no_method r) r

post-gives : (b : Bool) (r : Selected) (p : List ℕ) → Gives (post b r) p → Gives r p
post-gives true notfound p h = h
post-gives true badreceiver p h = h
post-gives true (entry m f l) p h = cases (is_method m.entity) (λ e. absurd (rw e at h)) (λ e. rw e at h)
post-gives true (ambiguous first second) p h = h
post-gives false r p h = h

post-carry : (n : Numbers) (b : Bool) (r : Selected) → post b (carry_selected n r) ≡ carry_selected n (post b r)
post-carry n true notfound = refl
post-carry n true badreceiver = refl
post-carry n true (entry m f l) = cases (is_method m.entity) (λ e. rw e) (λ e. rw e)
post-carry n true (ambiguous first second) = refl
post-carry n false r = refl

post-ambiguous : (b : Bool) (r : Selected) → is_ambiguous (post b r) ≡ is_ambiguous r
post-ambiguous true r = no-method-ambiguous r
post-ambiguous false r = refl

carry-ambiguous : (n : Numbers) (r : Selected) → is_ambiguous (carry_selected n r) ≡ is_ambiguous r
carry-ambiguous n notfound = refl
carry-ambiguous n badreceiver = refl
carry-ambiguous n (entry m f l) = refl
carry-ambiguous n (ambiguous first second) = refl

post-notfound : (b : Bool) → post b notfound ≡ notfound
post-notfound true = refl
post-notfound false = refl

module _ (T : Table) where
  -- where the search starts, and whether a pointer was removed
  abbrev pub start_at : TypeKey → TypeKey
  start_at t = bare T (searched_as T t)

  abbrev pub start_flag : TypeKey → Bool
  start_flag t = pointer_at T (searched_as T t)

  module _ (q : Identity) (t : TypeKey) (a : Bool) where
    pub select-shut : is_shut T q t ≡ true → rules.select T q t a ≡ notfound
    unfolding rules.select rules.searched
    select-shut h =
        cases (is_blank q.name) (λ e. rw e)
        (λ e. rw e (cases (named_pointer T t)
        (λ m. let k : pointer_at T (under T t) && iface_under T (bare T (under T t)) ≡ true = rw (e, m) at h in rw (m, k))
        (λ m. let k : pointer_at T t && iface_under T (bare T t) ≡ true = rw (e, m) at h in rw (m, k))))

    -- of a type that is no named pointer type
    said : (u : TypeKey) → pointer_at T u && iface_under T (bare T u) ≡ false → rules.searched T q u a ≡ select (graph T) q (bare T u) (pointer_at T u) a
    said u k = select-says T q u a ∙ rw k

    pub select-open : is_shut T q t ≡ false → rules.select T q t a ≡ post (named_pointer T t) (select (graph T) q (start_at t) (start_flag t) a)
    unfolding rules.select
    select-open h =
        cases (is_blank q.name) (λ e. clash (rw e) h)
        (λ e. rw e (cases (named_pointer T t)
        (λ m. let k : pointer_at T (under T t) && iface_under T (bare T (under T t)) ≡ false = rw (e, m) at h in rw m (ap no_method (said (under T t) k)))
        (λ m. let k : pointer_at T t && iface_under T (bare T t) ≡ false = rw (e, m) at h in rw m (said t k))))

  pub not-blank : (q : Identity) (t : TypeKey) → is_shut T q t ≡ false → is_blank q.name ≡ false
  not-blank q t h = cases (is_blank q.name) (λ e. clash (rw e) h) (λ e. e)

  pub ways-open : (q : Identity) (t : TypeKey) (d : ℕ) → is_shut T q t ≡ false → ways_of T q t d ≡ ways (graph T) q (start (start_at t) (start_flag t)) d
  ways-open q t d h = rw h (ways-are T q (searched_as T t) d)

  pub start-in : Sound T → (t : TypeKey) → t.0 < size T → (start_at t).0 < size T
  start-in sound t h =
      bare-in T sound (searched_as T t) (cases (named_pointer T t) (λ e. rw e (under-in T sound t h)) (λ e. rw e h))

-- ---- two tables

module _ (n : Numbers) (A B : Table) (sound_a : Sound A) (sound_b : Sound B) (g : Grown n A B) (t : TypeKey) (h : t.0 < size A) where
  searched-in : (searched_as A t).0 < size A
  searched-in = cases (named_pointer A t) (λ e. rw e (under-in A sound_a t h)) (λ e. rw e h)

  searched-kept : searched_as B (n.ty t) ≡ n.ty (searched_as A t)
  searched-kept = cases (named_pointer A t) (λ e. rw (named-kept n A B sound_a g t h, e) (under-kept n A B sound_a g t h)) (λ e. rw (named-kept n A B sound_a g t h, e))

  start-kept : start_at B (n.ty t) ≡ n.ty (start_at A t)
  start-kept = ap (bare B) searched-kept ∙ bare-kept n A B sound_a g (searched_as A t) searched-in

  flag-kept : start_flag B (n.ty t) ≡ start_flag A t
  flag-kept = ap (pointer_at B) searched-kept ∙ pointer-kept n A B sound_a g (searched_as A t) searched-in

  -- the name as the old table has it, and as the new one has it
  module _ (q r : Identity) (e : r ≡ q) (a : Bool) where
    shut-kept : is_shut B r (n.ty t) ≡ is_shut A q t
    shut-kept =
        ap (λ (z : Identity). is_shut B z (n.ty t)) e
        ∙ ap₂ (λ f i. is_blank q.name || (f && i)) flag-kept (ap (iface_under B) start-kept ∙ iface-kept n A B sound_a g (start_at A t) (start-in A sound_a t h))

    module _ (open-A : is_shut A q t ≡ false) where
      abbrev s : TypeKey
      s = start_at A t

      abbrev f : Bool
      f = start_flag A t

      abbrev G : Graph
      G = graph A

      abbrev H : Graph
      H = graph B

      in_g : s.0 < size A
      in_g = start-in A sound_a t h

      in_h : (n.ty s).0 < size B
      in_h = g.type_in s in_g

      open-B : is_shut B r (n.ty t) ≡ false
      open-B = shut-kept ∙ open-A

      ways-A : (d : ℕ) → ways_of A q t d ≡ ways G q (start s f) d
      ways-A d = ways-open A q t d open-A

      ways-B : (d : ℕ) → ways_of B r (n.ty t) d ≡ ways H q (start (n.ty s) f) d
      ways-B d = ways-open B r (n.ty t) d open-B ∙ ap₂ (λ u b. ways H r (start u b) d) start-kept flag-kept ∙ ap (λ z. ways H z (start (n.ty s) f) d) e

      answer-A : rules.select A q t a ≡ post (named_pointer A t) (select G q s f a)
      answer-A = select-open A q t a open-A

      answer-B : rules.select B r (n.ty t) a ≡ post (named_pointer A t) (select H q (n.ty s) f a)
      answer-B =
          select-open B r (n.ty t) a open-B
          ∙ ap (λ z. post z (select H r (start_at B (n.ty t)) (start_flag B (n.ty t)) a)) (named-kept n A B sound_a g t h)
          ∙ ap₂ (λ u b. post (named_pointer A t) (select H r u b a)) start-kept flag-kept
          ∙ ap (λ z. post (named_pointer A t) (select H z (n.ty s) f a)) e

      nb : is_blank q.name ≡ false
      nb = not-blank A q t open-A

      least-A : (d : ℕ) → Shortest A q t d → Least G q (start s f) d
      least-A d l = record { some = λ z. l.some (ways-A d ∙ z); none = λ j k. sym (ways-A j) ∙ l.none j k }

      shortest-A : (d : ℕ) → Least G q (start s f) d → Shortest A q t d
      shortest-A d l = record { some = λ z. l.some (sym (ways-A d) ∙ z); none = λ j k. ways-A j ∙ l.none j k }

      old-least : ((d : ℕ) × Least G q (start s f) d) ⊎ ((j : ℕ) → ways G q (start s f) j ≡ [])
      old-least = least-or-none G (lawful A sound_a) (closed A sound_a) (start s f) in_g q (keyed A sound_a q nb)

      new-least : ((d : ℕ) × Least H q (start (n.ty s) f) d) ⊎ ((j : ℕ) → ways H q (start (n.ty s) f) j ≡ [])
      new-least = least-or-none H (lawful B sound_b) (closed B sound_b) (start (n.ty s) f) in_h q (keyed B sound_b q nb)

      new_none : ((j : ℕ) → ways H q (start (n.ty s) f) j ≡ []) → select H q (n.ty s) f a ≡ notfound
      new_none = select-none H (lawful B sound_b) (closed B sound_b) (n.ty s) in_h f a q (keyed B sound_b q nb)

      new-way : (j : ℕ) (b : Bool) → new_way n A B r t j ≡ b → any (is_new n A) (ways H q (start (n.ty s) f) j) ≡ b
      new-way j b z = sym (ap (any (is_new n A)) (ways-B j)) ∙ z

      carried : (j : ℕ) → new_way n A B r t j ≡ false → ways H q (start (n.ty s) f) j ≡ map (carry_way n) (ways G q (start s f) j)
      carried j z = ways-same n (is_added n A) G H q (closed A sound_a) (grows n A B sound_a g q) s f in_g j (new-way j false z)

      open-found : (rules.select A q t a ≡ notfound → ⊥) → (d : ℕ) × Shortest A q t d
      open-found given =
          either old-least (λ l. (l.0, shortest-A l.0 l.1))
          (λ z. absurd (given (answer-A ∙ ap (post (named_pointer A t)) (select-none G (lawful A sound_a) (closed A sound_a) s in_g f a q (keyed A sound_a q nb) z) ∙ post-notfound (named_pointer A t))))

      open-same : (d : ℕ) → Shortest A q t d → ((j : ℕ) → j ≤ d → new_way n A B r t j ≡ false) → rules.select B r (n.ty t) a ≡ carry_selected n (rules.select A q t a)
      open-same d l none-new =
          answer-B
          ∙ ap (post (named_pointer A t)) (kept n (is_added n A) G H q (lawful A sound_a) (lawful B sound_b) (closed A sound_a) (closed B sound_b) (keyed A sound_a q nb) (keyed B sound_b q nb) (grows n A B sound_a g q) s in_g in_h f a d (least-A d l) (λ j k. new-way j false (none-new j k)))
          ∙ post-carry n (named_pointer A t) (select G q s f a)
          ∙ ap (carry_selected n) (sym answer-A)

      open-tied : (d : ℕ) → Shortest A q t d → ((j : ℕ) → j < d → new_way n A B r t j ≡ false) → new_way n A B r t d ≡ true → is_ambiguous (rules.select B r (n.ty t) a) ≡ true
      open-tied d l none-new is-new =
          let m : Least H q (start (n.ty s) f) d = record {
            some = λ z. clash (new-way d true is-new) (ap (any (is_new n A)) z);
            none = λ j k. carried j (none-new j k) ∙ ap (map (carry_way n)) ((least-A d l).none j k);
          } in
          let p = tied n (is_added n A) G H q (lawful A sound_a) (lawful B sound_b) (closed A sound_a) (closed B sound_b) (keyed A sound_a q nb) (keyed B sound_b q nb) (grows n A B sound_a g q) s in_g in_h f a d (least-A d l) m (new-way d true is-new) in
          ap is_ambiguous answer-B ∙ post-ambiguous (named_pointer A t) (select H q (n.ty s) f a) ∙ p

      -- what is given is a shortest way of the new table, so it is shorter than the old way
      open-overtaken : (d i : ℕ) → Shortest A q t d → i < d → new_way n A B r t i ≡ true → (w : Way) → In w (ways_of A q t d) → Gives (rules.select B r (n.ty t) a) (places_of w) → ⊥
      open-overtaken d i l lt is-new w k given =
          either new-least
          (λ m.
          let le : m.0 ≤ i = elim (dec_lt i m.0) [ yes c ↦ clash (new-way i true is-new) (ap (any (is_new n A)) (m.1.none i c)) | no c ↦ omega arith ] in
          let gs = post-gives (named_pointer A t) (select H q (n.ty s) f a) (places_of w) (subst (λ (y : Selected). Gives y (places_of w)) answer-B given) in
          let v = judged-gives a (ways H q (start (n.ty s) f) m.0) (places_of w) (subst (λ (y : Selected). Gives y (places_of w)) (select-least H (lawful B sound_b) (closed B sound_b) (n.ty s) in_h f a q (keyed B sound_b q nb) m.0 m.1) gs) in
          let k0 = way_long G q s f d w (subst (In w) (ways-A d) k) in
          let k1 = way_long H q (n.ty s) f m.0 v.0 v.1 in
          let y : length (places_of w) ≡ length (places_of v.0) = ap length (sym v.2) in
          omega arith)
          (λ z. clash (new-way i true is-new) (ap (any (is_new n A)) (z i)))

      open-absent : rules.select A q t a ≡ notfound → ((j : ℕ) → new_way n A B r t j ≡ false) → rules.select B r (n.ty t) a ≡ notfound
      open-absent z none-new =
          either old-least
          (λ l. open-same l.0 (shortest-A l.0 l.1) (λ j k. none-new j) ∙ ap (carry_selected n) z)
          (λ nw. answer-B ∙ ap (post (named_pointer A t)) (new_none (λ j. carried j (none-new j) ∙ ap (map (carry_way n)) (nw j))) ∙ post-notfound (named_pointer A t))

  -- THE PROMISE FOR S
  pub promise-S : (a : Bool) (pkg : Option PackageKey) (name : Bytes) → has_package A pkg ≡ true → PromiseS n A B t a pkg name
  promise-S a pkg name hp =
      cases (is_shut A (old_name n A B t a pkg name) t) shut
      (λ z. record {
        found = open-found q r e a z;
        same = open-same q r e a z;
        tied = open-tied q r e a z;
        overtaken = open-overtaken q r e a z;
        still_ambiguous = λ d l none-new amb. cases (new_way n A B r t d)
            (λ y. open-tied q r e a z d l none-new y)
            (λ y. ap is_ambiguous (open-same q r e a z d l (λ j k. elim (dec_lt j d) [ yes c ↦ none-new j c | no c ↦ let same : j ≡ d = omega arith in rw same y ])) ∙ carry-ambiguous n (rules.select A q t a) ∙ amb);
        still_notfound = open-absent q r e a z;
      })
    where
      q : Identity
      q = old_name n A B t a pkg name

      r : Identity
      r = new_name n A B t a pkg name

      e : new_name n A B t a pkg name ≡ old_name n A B t a pkg name
      e = name-kept n A B sound_a g pkg name hp

      shut : is_shut A (old_name n A B t a pkg name) t ≡ true → PromiseS n A B t a pkg name
      shut z =
          let none : (d : ℕ) → ways_of A q t d ≡ [] = λ d. rw z in
          record {
            found = λ given. absurd (given (select-shut A q t a z));
            same = λ d l none-new. absurd (l.some (none d));
            tied = λ d l none-new y. absurd (l.some (none d));
            overtaken = λ d i l lt y w k given. l.some (none d);
            still_ambiguous = λ d l none-new amb. absurd (l.some (none d));
            still_notfound = λ y none-new. select-shut B r (n.ty t) a (shut-kept q r e a ∙ z);
          }
