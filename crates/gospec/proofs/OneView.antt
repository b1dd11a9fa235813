-- M and S read one list of shortest ways: what M holds S with a 0 gives (`held-given`), and the methods that S gives M holds (`given-held`).
use mathlib.Core.Path.{◌≡◌, refl, sym, ap, ◌∙◌, subst}
use mathlib.Core.Bool.{Bool, true, false, not, ◌&&◌}
use mathlib.Core.List.{List, [], ◌∷◌, ◌++◌}
use mathlib.Core.Logic.{inl}
use Prim.Native.Nat.{ℕ, zero, suc}
use borrow.Author.Tests.{not-true}
use Rattle.objects.specs.Lists.{any, In}
use Rattle.objects.proofs.ListLaws.{cases, clash, either, or_l, or_r, and_l, and_r, In-append, In-flat, flat-In-to}
use Rattle.objects.proofs.BoolLaws.{and_i, and_yes}
use Rattle.objects.proofs.KindLaws.{iface-is}
use Rattle.objects.specs.declared.TypeKey.{TypeKey}
use Rattle.objects.specs.Table.{Table, Member, Kind, is_method, has_ptr, members_of, declared_of, all_methods, kind_at, under, bare, pointer_at, iface_under, named_pointer}
use Rattle.text.specs.Bytes.{is_blank}
use Rattle.rules.specs.Members.{Identity, identity_from, identity_of}
use Rattle.rules.specs.Sound.{Sound}
use Rattle.rules.specs.Ways.{Place, Way, places_from, places_of, member_of, Selected, notfound, badreceiver, entry, ambiguous, judged, no_method, field_places, owned, ways, has_own, shortest_from, shortest, searched, select}
use Rattle.rules.specs.MethodSet.{method_flag, callable, only_method, method_names, empty_set, method_set}
use Rattle.rules.proofs.MemberLaws.{same_id-true}
use Rattle.rules.proofs.MethodNames.{names-listed}
use Rattle.ways.specs.IsWay.{IsWay}
use Rattle.ways.proofs.AllWays.{ways-listed}
use Rattle.ways.proofs.MemberSorts.{declared-flag, field-no-method, iface-In, owned-member}
use Rattle.gospec.specs.GoSelectors.{underlying}
use Rattle.gospec.proofs.Places.{In-At}
use Rattle.gospec.proofs.Calls.{method-sort}

-- ---- the shortest ways are ways

module _ (T : Table) (q : Identity) (t : TypeKey) where
  from-way : (w : Way) (k d : ℕ) (level : List TypeKey) → In w (shortest_from T q t k d level) → (e : ℕ) × In w (ways T q t e)
  unfolding shortest_from
  from-way w zero d level i = absurd i
  from-way w (suc k) d level i =
      cases (any (has_own T q) level)
      (λ e. (d, rw (e, shortest_from) at i))
      (λ e. from-way w k (suc d) _ (rw (e, shortest_from) at i))

  shortest-way : (w : Way) → In w (shortest T q t) → (d : ℕ) × IsWay T q t d w
  unfolding shortest
  shortest-way w i = let r = from-way w _ 0 _ i in (r.0, (ways-listed T t q r.0 w).0 r.1)

-- ---- what the shortest ways give M

module _ (T : Table) where
  -- the ways that decide a name give w exactly if it is the only one and may be called
  only_one : (ws : List Way) (w : Way) → In w (only_method T ws) → (ws ≡ w ∷ []) × (callable T w ≡ true)
  unfolding only_method
  only_one [] w i = absurd i
  only_one (v ∷ []) w i =
      cases (callable T v)
      (λ c. let j : In w (v ∷ []) = rw c at i in either j (λ e. rw e (refl, c)) (λ z. absurd z))
      (λ c. let j : In w [] = rw c at i in absurd j)
  only_one (v ∷ u ∷ ws) w i = absurd i

  one_only : (ws : List Way) (w : Way) → ws ≡ w ∷ [] → callable T w ≡ true → In w (only_method T ws)
  unfolding only_method
  one_only ws w e c = rw (e, c) (inl refl)

  -- a way that M takes for the identity q has it
  pub held-named : (q : Identity) (t : TypeKey) (w : Way) → In w (only_method T (shortest T q t)) → identity_of T (member_of w) ≡ q
  held-named q t w i =
      let o = only_one (shortest T q t) w i in
      same_id-true (identity_of T (member_of w)) q (shortest-way T q t w (subst (In w) (sym o.0) (inl refl))).1.matches

-- ---- the receiver's rule

module _ (T : Table) (sound : Sound T) where
  -- M asks for the same as S with a 0, though an interface's method has flag 1 in M: it has no pointer receiver
  receiver : (w : Way) → In w.last (owned T w.walk.at) → is_method (member_of w).entity ≡ true
      → has_ptr (member_of w).entity && not w.walk.flag && not false ≡ has_ptr (member_of w).entity && not (method_flag T w)
  unfolding owned all_methods
  receiver w i m =
      either (In-append (declared ++ field_places T u) (places_from 0 (all_methods T u)) w.last i)
      (λ j. either (In-append declared (field_places T u) w.last j)
      (λ d. rw (← declared-flag T sound u w.last w refl d, and_yes (has_ptr (member_of w).entity && not w.walk.flag)))
      (λ f. clash m (field-no-method T sound u w.last f)))
      (λ l. rw (plain l))
    where
      u : TypeKey
      u = w.walk.at

      declared : List Place
      declared = places_from 0 (declared_of (kind_at T u))

      plain : In w.last (places_from 0 (all_methods T u)) → has_ptr (member_of w).entity ≡ false
      plain l =
          let k = iface-In T sound u w.last l in
          let f = iface-is (underlying T u) k.0 in
          let a = In-At f.0 (member_of w) (subst (λ (z : Kind). In (member_of w) (members_of z)) f.1 k.1) in
          (method-sort T sound u a.0 (member_of w) f.0 f.1 a.1).1

-- ---- the parts of an answer

abbrev is_entry : Selected → Bool
is_entry notfound = false
is_entry badreceiver = false
is_entry (entry m f p) = true
is_entry (ambiguous first second) = false

abbrev entry_member : Member → Selected → Member
entry_member o notfound = o
entry_member o badreceiver = o
entry_member o (entry m f p) = m
entry_member o (ambiguous first second) = o

abbrev entry_flag : Selected → Bool
entry_flag notfound = false
entry_flag badreceiver = false
entry_flag (entry m f p) = f
entry_flag (ambiguous first second) = false

abbrev entry_places : Selected → List ℕ
entry_places notfound = []
entry_places badreceiver = []
entry_places (entry m f p) = p
entry_places (ambiguous first second) = []

no-entry : {C : Type 0} (s : Selected) (m : Member) (f : Bool) (p : List ℕ) → is_entry s ≡ false → s ≡ entry m f p → C
no-entry s m f p n e = clash refl (ap is_entry (sym e) ∙ n)

-- of a named pointer type S gives no method
method-dropped : (s : Selected) (m : Member) (f : Bool) (p : List ℕ) → no_method s ≡ entry m f p → is_method m.entity ≡ false
method-dropped notfound m f p h = no-entry notfound m f p refl h
method-dropped badreceiver m f p h = no-entry badreceiver m f p refl h
method-dropped (ambiguous a b) m f p h = no-entry (ambiguous a b) m f p refl h
method-dropped (entry o g l) m f p h =
    cases (is_method o.entity)
    (λ e. no-entry notfound m f p refl (rw e at h))
    (λ e. ap (λ (x : Member). is_method x.entity) (sym (ap (entry_member m) (rw e at h))) ∙ e)

-- ---- M and S

module _ (T : Table) (sound : Sound T) (t : TypeKey) where
  -- a pointer to a type with an interface under it
  abbrev to_interface : Bool
  to_interface = pointer_at T t && iface_under T (bare T t)

  -- one shortest way, to a name that may be asked for
  pub select-one : (q : Identity) (w : Way) → is_blank q.name ≡ false → named_pointer T t ≡ false → to_interface ≡ false → shortest T q t ≡ w ∷ []
      → has_ptr (member_of w).entity && not w.walk.flag && not false ≡ false → select T q t false ≡ entry (member_of w) w.walk.flag (places_of w)
  unfolding select searched
  select-one q w b n o e r = rw (b, n, o, e, r)

  -- a method's name may be asked for
  pub method-named : (q : Identity) → In q (method_names T) → is_blank q.name ≡ false
  unfolding identity_of identity_from
  method-named q i = let n = (names-listed T q).0 i in ap (λ (x : Identity). is_blank x.name) n.named ∙ sound.method_named n.type n.method n.stands n.is_one

  -- WHAT M HOLDS S GIVES,
  pub held-given : (w : Way) → In w (method_set T t)
      → (select T (identity_of T (member_of w)) t false ≡ entry (member_of w) w.walk.flag (places_of w)) × (is_method (member_of w).entity ≡ true)
  unfolding method_set callable
  held-given w i =
      cases (empty_set T t)
      (λ e. let j : In w [] = rw e at i in absurd j)
      (λ e. let j = In-flat (λ q. only_method T (shortest T q t)) (method_names T) w (rw e at i) in from e j.0 j.1 j.2)
    where
      from : empty_set T t ≡ false → (q : Identity) → In q (method_names T) → In w (only_method T (shortest T q t))
          → (select T (identity_of T (member_of w)) t false ≡ entry (member_of w) w.walk.flag (places_of w)) × (is_method (member_of w).entity ≡ true)
      from e q k h =
          let o = only_one T (shortest T q t) w h in
          let m = and_l (is_method (member_of w).entity) (not (has_ptr (member_of w).entity && not (method_flag T w))) o.1 in
          let r = not-true (has_ptr (member_of w).entity && not (method_flag T w)) (and_r (is_method (member_of w).entity) (not (has_ptr (member_of w).entity && not (method_flag T w))) o.1) in
          let y = (shortest-way T q t w (subst (In w) (sym o.0) (inl refl))).1 in (
            ap (λ x. select T x t false) (held-named T q t w h)
                ∙ select-one q w (method-named q k) (or_l (named_pointer T t) to_interface e) (or_r (named_pointer T t) to_interface e) o.0 (receiver T sound w y.owns m ∙ r),
            m,
          )

  -- AND THE METHODS THAT S GIVES M HOLDS: the same member, flag and places.
  pub given-held : (q : Identity) (m : Member) (f : Bool) (p : List ℕ) → select T q t false ≡ entry m f p → is_method m.entity ≡ true
      → (w : Way) × In w (method_set T t) × (member_of w ≡ m) × (w.walk.flag ≡ f) × (places_of w ≡ p)
  unfolding method_set callable select searched
  given-held q m f p h g =
      cases (is_blank q.name)
      (λ b. no-entry notfound m f p refl (rw b at h))
      (λ b. cases (named_pointer T t)
      (λ n. clash g (method-dropped (searched T q (under T t) false) m f p (rw (b, n) at h)))
      (λ n. cases to_interface
      (λ o. no-entry notfound m f p refl (rw (b, n, o) at h))
      (λ o. by-ways n o (shortest T q t) refl (rw (b, n, o) at h))))
    where
      by-ways : named_pointer T t ≡ false → to_interface ≡ false → (ws : List Way) → shortest T q t ≡ ws → judged false ws ≡ entry m f p
          → (w : Way) × In w (method_set T t) × (member_of w ≡ m) × (w.walk.flag ≡ f) × (places_of w ≡ p)
      by-ways n o [] e j = no-entry notfound m f p refl j
      by-ways n o (w ∷ v ∷ ws) e j = no-entry (ambiguous (places_of w) (places_of v)) m f p refl j
      by-ways n o (w ∷ []) e j =
          cases (has_ptr (member_of w).entity && not w.walk.flag && not false)
          (λ r. no-entry badreceiver m f p refl (rw r at j))
          (λ r. one r (rw r at j))
        where
          one : has_ptr (member_of w).entity && not w.walk.flag && not false ≡ false → entry (member_of w) w.walk.flag (places_of w) ≡ entry m f p
              → (w : Way) × In w (method_set T t) × (member_of w ≡ m) × (w.walk.flag ≡ f) × (places_of w ≡ p)
          one r same =
              let mine : member_of w ≡ m = ap (entry_member m) same in
              let method : is_method (member_of w).entity ≡ true = ap (λ (x : Member). is_method x.entity) mine ∙ g in
              let y = (shortest-way T q t w (subst (In w) (sym e) (inl refl))).1 in
              let stands = owned-member T sound w.walk.at w.last y.owns in
              let c : callable T w ≡ true = and_i method (ap not (sym (receiver T sound w y.owns method) ∙ r)) in
              let i = flat-In-to (λ x. only_method T (shortest T x t)) (method_names T) q w
              ((names-listed T q).1 (record { type = stands.0; method = member_of w; stands = stands.1; is_one = method; named = sym (same_id-true (identity_of T (member_of w)) q y.matches) }))
              (one_only T (shortest T q t) w e c) in
              (w, rw (n, o) i, mine, ap entry_flag same, ap entry_places same)
