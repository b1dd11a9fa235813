-- The promise for N (`PromiseN` of specs/Promise.antt): a type that met an interface meets it still, or a new way to one of its methods is as short as the old
-- way or shorter.
use mathlib.Core.Path.{◌≡◌, refl, sym, ap, ap₂, ◌∙◌, subst}
use mathlib.Core.Bool.{Bool, true, false, cond, not, ◌&&◌}
use mathlib.Core.List.{List, [], ◌∷◌, map}
use mathlib.Core.Logic.{◌⊎◌, inl, inr}
use mathlib.Core.Option.{Option, none, some}
use Prim.Native.Nat.{ℕ, zero, suc, ◌≤◌, ◌<◌}
use native.Mathlib.Omega.{arith}
use native.Mathlib.Decide.{dec_lt}
use Rattle.objects.specs.Lists.{keep, when, In}
use Rattle.objects.proofs.ListLaws.{cases, clash, either, In-keep, In-map, In-flat, keep-map, keep-In-ext}
use Rattle.objects.specs.declared.TypeKey.{TypeKey}
use Rattle.objects.specs.Table.{Table, size, is_method, has_ptr, Member, under, iface_under, named_pointer, all_methods}
use Rattle.rules.specs.Members.{Identity, identity_of, same_id, same_member}
use Rattle.rules.specs.Ways as rules
use Rattle.rules.specs.Ways.{Walk, Way, member_of, places_of, Selected, notfound, badreceiver, entry, ambiguous, single, judged, owned}
use Rattle.rules.specs.Missing.{Lack, compared, unmet_there, unmet_by, unmet, first_unmet, missing}
use Rattle.rules.specs.Sound.{Sound, MemberOf}
use Rattle.ways.specs.Graph.{walks, matching, ends, ways, start, select}
use Rattle.ways.specs.OfTable.{graph}
use Rattle.ways.proofs.TableLaws.{lawful, keyed, closed}
use Rattle.ways.proofs.MemberSorts.{owned-member}
use Rattle.ways.proofs.Least.{select-least, select-none, least-or-none}
use Rattle.growth.specs.Grown.{Numbers, carry_member, Grown}
use Rattle.growth.specs.Promise.{is_shut, carry_selected, new_way, Disturbed, PromiseN}
use Rattle.growth.proofs.GrowKinds.{iface-kept, methods-kept, identity-kept}
use Rattle.growth.proofs.GrowIdentity.{Whole, type-whole, identity-stays}
use Rattle.growth.proofs.GrowGraph.{method-in}
use Rattle.growth.proofs.GrowSelect.{post, start_at, start_flag, select-shut, select-open, not-blank, start-in, promise-S}

-- ---- an entry's member is one of the table's

abbrev is_entry : Selected → Bool
is_entry notfound = false
is_entry badreceiver = false
is_entry (entry m f p) = true
is_entry (ambiguous first second) = false

no-entry : {C : Type 0} (r : Selected) (m : Member) (f : Bool) (p : List ℕ) → r ≡ entry m f p → r ≡ notfound → C
no-entry r m f p e z = clash (ap is_entry e) (ap is_entry z)

abbrev entry_or : Member → Selected → Member
entry_or d notfound = d
entry_or d badreceiver = d
entry_or d (entry m f p) = m
entry_or d (ambiguous first second) = d

single-member : (a : Bool) (w : Way) (m : Member) (f : Bool) (p : List ℕ) → single a w ≡ entry m f p → member_of w ≡ m
single-member a w m f p = go (has_ptr (member_of w).entity && not w.walk.flag && not a)
  where
    go : (b : Bool) → cond b badreceiver (entry (member_of w) w.walk.flag (places_of w)) ≡ entry m f p → member_of w ≡ m
    go true e = clash refl (ap is_entry (sym e))
    go false e = ap (entry_or m) e

judged-member : (a : Bool) (ws : List Way) (m : Member) (f : Bool) (p : List ℕ) → judged a ws ≡ entry m f p → (w : Way) × In w ws × (member_of w ≡ m)
judged-member a [] m f p e = clash refl (ap is_entry (sym e))
judged-member a (w ∷ []) m f p e = (w, inl refl, single-member a w m f p e)
judged-member a (w ∷ v ∷ rest) m f p e = clash refl (ap is_entry (sym e))

post-entry : (b : Bool) (r : Selected) (m : Member) (f : Bool) (p : List ℕ) → post b r ≡ entry m f p → r ≡ entry m f p
post-entry true notfound m f p e = e
post-entry true badreceiver m f p e = e
post-entry true (entry o g l) m f p e = cases (is_method o.entity) (λ z. clash refl (ap is_entry (sym (rw z at e)))) (λ z. rw z at e)
post-entry true (ambiguous first second) m f p e = e
post-entry false r m f p e = e

module _ (T : Table) (sound : Sound T) where
  way-member : (q : Identity) (r : Walk) (d : ℕ) (w : Way) → In w (ways (graph T) q r d) → (x : TypeKey) × MemberOf T x (member_of w)
  way-member q r d w i =
      let v = In-flat (ends (graph T) q) (walks (graph T) r d) w i in
      let y = In-map (λ x. record { walk = v.0; last = x }) (matching (graph T) q v.0.at) w v.2 in
      let o = owned-member T sound v.0.at y.0 (In-keep ((graph T).hit q) (owned T v.0.at) y.0 y.1).0 in
      (o.0, subst (λ (z : Way). MemberOf T o.0 (member_of z)) (sym y.2) o.1)

  pub entry-member : (q : Identity) (t : TypeKey) → t.0 < size T → (a : Bool) (m : Member) (f : Bool) (p : List ℕ) → rules.select T q t a ≡ entry m f p → (x : TypeKey) × MemberOf T x m
  entry-member q t h a m f p e =
      cases (is_shut T q t)
      (λ z. no-entry (rules.select T q t a) m f p e (select-shut T q t a z))
      (λ z.
      let G = graph T in
      let s = start_at T t in
      let g = start_flag T t in
      let kd = keyed T sound q (not-blank T q t z) in
      let in_g = start-in T sound t h in
      let e' = post-entry (named_pointer T t) (select G q s g a) m f p (sym (select-open T q t a z) ∙ e) in
      either (least-or-none G (lawful T sound) (closed T sound) (start s g) in_g q kd)
      (λ l.
      let w = judged-member a (ways G q (start s g) l.0) m f p (sym (select-least G (lawful T sound) (closed T sound) s in_g g a q kd l.0 l.1) ∙ e') in
      let o = way-member q (start s g) l.0 w.0 w.1 in
      (o.0, subst (MemberOf T o.0) w.2 o.1))
      (λ none-there. no-entry (select G q s g a) m f p e' (select-none G (lawful T sound) (closed T sound) s in_g g a q kd none-there)))

-- ---- one method

is_some : Option Bool → Bool
is_some none = false
is_some (some b) = true

some-not : {C : Type 0} (b : Bool) → some b ≡ none → C
unfolding is_some
some-not b e = clash refl (ap is_some e)

-- a method is met only by an entry
met-entry : (T : Table) (m : Member) (r : Selected) → unmet_by T m r ≡ none → is_entry r ≡ true
met-entry T m notfound e = some-not false e
met-entry T m badreceiver e = some-not false e
met-entry T m (entry found f p) e = refl
met-entry T m (ambiguous first second) e = some-not false e

module _ (n : Numbers) (A B : Table) (sound_a : Sound A) (sound_b : Sound B) (g : Grown n A B) where
  abbrev Kept : Member → Type 0
  Kept m = Whole n A B sound_a sound_b g m.type

  compared-kept : (m o : Member) → Kept m → Kept o → compared B (carry_member n m) (carry_member n o) ≡ compared A m o
  compared-kept m o wm wo = ap (λ b. when (not b) true) (identity-stays n A B sound_a sound_b g m.type o.type wm wo)

  by-kept : (m : Member) → Kept m → (r : Selected) → ((o : Member) (f : Bool) (p : List ℕ) → r ≡ entry o f p → Kept o) → unmet_by B (carry_member n m) (carry_selected n r) ≡ unmet_by A m r
  by-kept m wm notfound h = refl
  by-kept m wm badreceiver h = refl
  by-kept m wm (entry o f p) h = ap (λ z. cond (is_method o.entity) z (some false)) (compared-kept m o wm (h o f p refl))
  by-kept m wm (ambiguous first second) h = refl

  there-kept : (s : Bool) (m : Member) → Kept m → (os : List Member) → ((o : Member) → In o os → Kept o) → unmet_there B s (carry_member n m) (map (carry_member n) os) ≡ unmet_there A s m os
  there-kept s m wm [] h = refl
  there-kept s m wm (o ∷ os) h = compared-kept m o wm (h o (inl refl))

  module _ (t : TypeKey) (ht : t.0 < size A) (s : Bool) where
    -- the methods of a t with an interface under it that have m's identity
    found-kept : (x : TypeKey) (m : Member) → MemberOf A x m → keep (same_member B (carry_member n m)) (all_methods B (n.ty t)) ≡ map (carry_member n) (keep (same_member A m) (all_methods A t))
    found-kept x m i =
        ap (keep (same_member B (carry_member n m))) (methods-kept n A B sound_a g t ht)
        ∙ keep-map (same_member B (carry_member n m)) (carry_member n) (all_methods A t)
        ∙ ap (map (carry_member n)) (keep-In-ext (λ o. same_member B (carry_member n m) (carry_member n o)) (same_member A m) (all_methods A t)
        (λ o j. ap₂ same_id (identity-kept n A B sound_a g x m i) (identity-kept n A B sound_a g (under A t) o (method-in n A B sound_a g t o j))))

    -- t with an interface under it: nothing changes
    unmet-face : (x : TypeKey) (m : Member) → MemberOf A x m → iface_under A t ≡ true → unmet B (n.ty t) s (carry_member n m) ≡ unmet A t s m
    unfolding unmet
    unmet-face x m i e =
        let f : iface_under B (n.ty t) ≡ true = iface-kept n A B sound_a g t ht ∙ e in
        rw (e, f) (ap (unmet_there B s (carry_member n m)) (found-kept x m i)
        ∙ there-kept s m (type-whole n A B sound_a sound_b g x m i) (keep (same_member A m) (all_methods A t))
        (λ o j. type-whole n A B sound_a sound_b g (under A t) o (method-in n A B sound_a g t o (In-keep (same_member A m) (all_methods A t) o j).0)))

    -- any other t: as the answers of S
    unmet-other : (x : TypeKey) (m : Member) → MemberOf A x m → iface_under A t ≡ false
        → rules.select B (identity_of B (carry_member n m)) (n.ty t) false ≡ carry_selected n (rules.select A (identity_of A m) t false) → unmet B (n.ty t) s (carry_member n m) ≡ unmet A t s m
    unfolding unmet
    unmet-other x m i e same =
        let f : iface_under B (n.ty t) ≡ false = iface-kept n A B sound_a g t ht ∙ e in
        rw (e, f) (ap (unmet_by B (carry_member n m)) same
        ∙ by-kept m (type-whole n A B sound_a sound_b g x m i) (rules.select A (identity_of A m) t false)
        (λ o f p z. let r = entry-member A sound_a (identity_of A m) t ht false o f p z in type-whole n A B sound_a sound_b g r.0 o r.1))

    -- ---- all methods of i

    seek : (q : Identity) (d : ℕ) → ((j : ℕ) × (j ≤ d) × (new_way n A B q t j ≡ true)) ⊎ ((j : ℕ) → j ≤ d → new_way n A B q t j ≡ false)
    seek q zero = cases (new_way n A B q t 0) (λ e. inl (0, omega arith, e)) (λ e. inr (λ j h. let z : j ≡ 0 = omega arith in rw z e))
    seek q (suc d) =
        either (seek q d) (λ r. inl (r.0, (let h = r.1 in omega arith), r.2))
        (λ none-new. cases (new_way n A B q t (suc d)) (λ e. inl (suc d, omega arith, e))
        (λ e. inr (λ j h. elim (dec_lt d j) [ yes l ↦ let z : j ≡ suc d = omega arith in rw z e | no l ↦ none-new j (omega arith) ])))

    module _ (i : TypeKey) where
      -- one method that was met
      still-met : (m : Member) → In m (all_methods A i) → unmet A t s m ≡ none → (unmet B (n.ty t) s (carry_member n m) ≡ none) ⊎ Disturbed n A B t i
      unfolding unmet identity_of
      still-met m k e =
          let im = method-in n A B sound_a g i m k in
          cases (iface_under A t)
          (λ f. inl (unmet-face (under A i) m im f ∙ e))
          (λ f.
          let p = promise-S n A B sound_a sound_b g t ht false m.pkg m.name (sound_a.packaged (under A i) m im) in
          let is = met-entry A m (rules.select A (identity_of A m) t false) (rw f at e) in
          let z = p.found (λ nf. clash is (ap is_entry nf)) in
          either (seek (identity_of B (carry_member n m)) z.0)
          (λ j. inr (record { method = m; concerned = k; d = z.0; shortest = z.1; j = j.0; as_short = j.1; new = j.2 }))
          (λ none-new. inl (unmet-other (under A i) m im f (p.same z.0 z.1 none-new) ∙ e)))

      still-all : (ms : List Member) → ((m : Member) → In m ms → In m (all_methods A i)) → first_unmet A t s ms ≡ none → (first_unmet B (n.ty t) s (map (carry_member n) ms) ≡ none) ⊎ Disturbed n A B t i
      still-all [] h e = inl refl
      still-all (m ∷ ms) h e = go (unmet A t s m) refl (still-all ms (λ x j. h x (inr j)))
        where
          has_lack : Option Lack → Bool
          has_lack none = false
          has_lack (some l) = true

          go : (o : Option Bool) → unmet A t s m ≡ o → (first_unmet A t s ms ≡ none → (first_unmet B (n.ty t) s (map (carry_member n) ms) ≡ none) ⊎ Disturbed n A B t i)
              → (first_unmet B (n.ty t) s (map (carry_member n) (m ∷ ms)) ≡ none) ⊎ Disturbed n A B t i
          go none u rest =
              either (still-met m (h m (inl refl)) u)
              (λ v. either (rest (rw (u, first_unmet) at e)) (λ r. inl (rw (v, first_unmet) r)) (λ d. inr d))
              (λ d. inr d)
          go (some w) u rest = clash refl (ap has_lack (rw (u, first_unmet) at e))

    -- THE PROMISE FOR N
    pub promise-N : (i : TypeKey) → i.0 < size A → PromiseN n A B t i s
    unfolding missing
    promise-N i hi e =
        either (still-all i (all_methods A i) (λ m j. j) e)
        (λ v. inl (ap (first_unmet B (n.ty t) s) (methods-kept n A B sound_a g i hi) ∙ v))
        (λ d. inr d)
