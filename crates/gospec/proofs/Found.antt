-- What is found in a type: the ways of the table's graph are the occurrences of the Go spec, so that `select` tells none, one or several of them.
use mathlib.Core.Path.{◌≡◌, refl, sym, ap, ◌∙◌, subst}
use mathlib.Core.Bool.{Bool, true, false, ◌||◌}
use mathlib.Core.List.{List, [], ◌∷◌, ◌++◌, append_assoc}
use mathlib.Core.Logic.{◌⊎◌, inl, inr}
use mathlib.Core.Option.{Option}
use Prim.Native.Nat.{ℕ, zero, suc, ◌+◌, ◌<◌}
use native.Mathlib.Omega.{arith}
use Rattle.objects.specs.Lists.{Bytes, In, Sorted}
use Rattle.objects.specs.declared.TypeKey.{TypeKey}
use Rattle.objects.specs.declared.PackageKey.{PackageKey}
use Rattle.objects.specs.Table.{Table, size, Member, is_embedded, Kind, Struct, Iface, Named, is_pointer, is_struct, is_iface, is_named, fields_of, declared_of, all_methods_of, all_methods, kind_at, bare, pointer_at}
use Rattle.objects.proofs.ListLaws.{cases, clash, either, or_assoc, or-false, In-keep, In-append, In-append-l, In-append-r, In-map, In-flat, map-In-to, flat-In-to, keep-In-to}
use Rattle.objects.proofs.KindLaws.{pointer_is, struct_is, iface-is, named-is, bare-plain, bare-pointer}
use Rattle.text.specs.Bytes.{is_blank}
use Rattle.rules.specs.Members.{Identity, identity_from, identity_of, same_id}
use Rattle.rules.specs.Sound.{Sound}
use Rattle.rules.specs.Ways.{Place, places_from, Walk, Way, places_of, Selected, notfound, is_ambiguous, received, single, judged, owned, field_places}
use Rattle.ways.specs.Graph.{Step, along, onward, walks, matching, ends, ways, start, select}
use Rattle.ways.specs.OfTable.{graph, step_of}
use Rattle.ways.proofs.Order.{before-irrefl}
use Rattle.ways.proofs.Least.{Least, least-or-none, select-least, select-none}
use Rattle.ways.proofs.Extra.{walks-first}
use Rattle.ways.proofs.TableLaws.{Earlier, lawful, keyed, closed, ways-ascend}
use Rattle.gospec.specs.Go.{At, at_first, at-later, SameIds}
use Rattle.gospec.specs.GoSelectors.{underlying, Declares, a-field, a-method, of-interface, Stars, no-star, star, Embeds, embeds, Occurs, declared, promoted}
use Rattle.gospec.proofs.Names.{hit-go, go-hit}
use Rattle.gospec.proofs.Places.{At-In}

-- ---- lists at their places

-- of members listed from n on, the one at place n + i stands at i
places-At : (n : ℕ) (ms : List Member) (p : Place) → In p (places_from n ms) → (i : ℕ) × At ms i p.member × (p.place ≡ n + i)
places-At n [] p x' = elim x' [ ]
places-At n (m ∷ ms) p (inl e) = rw e (0, at_first, omega arith)
places-At n (m ∷ ms) p (inr i) = let r = places-At (suc n) ms p i in let h = r.2 in (suc r.0, at-later r.1, omega arith)

place-At : (ms : List Member) (p : Place) → In p (places_from 0 ms) → At ms p.place p.member
place-At ms p i = let r = places-At 0 ms p i in let e : r.0 ≡ p.place = (let h = r.2 in omega arith) in subst (λ j. At ms j p.member) e r.1

At-places : (n i : ℕ) (ms : List Member) (m : Member) → At ms i m → In (record { place = n + i; member = m }) (places_from n ms)
At-places n i ms m at_first = let z : n + 0 ≡ n = omega arith in inl (rw z)
At-places n i ms m (at-later {y = y} {l = l} {i = j} a) = let z : n + suc j ≡ suc n + j = omega arith in inr (subst (λ (p : ℕ). In (record { place = p; member = m }) (places_from (suc n) l)) (sym z) (At-places (suc n) j l m a))

At-place : (i : ℕ) (ms : List Member) (m : Member) → At ms i m → In (record { place = i; member = m }) (places_from 0 ms)
At-place i ms m a = let z : 0 + i ≡ i = omega arith in subst (λ (p : ℕ). In (record { place = p; member = m }) (places_from 0 ms)) z (At-places 0 i ms m a)

-- ---- the kinds behind the lists

fields-of : (k : Kind) (i : ℕ) (f : Member) → At (fields_of k) i f → (fs : List Member) × (k ≡ Struct fs) × At fs i f
fields-of k i f a = cases (is_struct k) (λ e. let s = struct_is k e in (s.0, s.1, subst (λ (z : Kind). At (fields_of z) i f) s.1 a)) (λ e. let j : In f [] = rw e at (At-In a) in absurd j)

methods-of : (k : Kind) (i : ℕ) (m : Member) → At (all_methods_of k) i m → (ms : List Member) × (k ≡ Iface ms) × At ms i m
methods-of k i m a = cases (is_iface k) (λ e. let s = iface-is k e in (s.0, s.1, subst (λ (z : Kind). At (all_methods_of z) i m) s.1 a)) (λ e. let j : In m [] = rw e at (At-In a) in absurd j)

declared-of : (k : Kind) (i : ℕ) (m : Member) → At (declared_of k) i m → (u : TypeKey) × (ms : List Member) × (k ≡ Named u ms) × At ms i m
declared-of k i m a = cases (is_named k) (λ e. let s = named-is k e in (s.0, s.1, s.2, subst (λ (z : Kind). At (declared_of z) i m) s.2 a)) (λ e. let j : In m [] = rw e at (At-In a) in absurd j)

-- ---- one pointer removed, as a relation

module _ (T : Table) where
  pub bare-stars : (e : TypeKey) → Stars T e (bare T e) (pointer_at T e)
  unfolding pointer_at
  bare-stars e =
      cases (is_pointer (kind_at T e))
      (λ h. let p = pointer_is (kind_at T e) h in rw (bare-pointer T e p.0 p.1, h) (star p.1))
      (λ h. rw (bare-plain T e h, h) (no-star {e = e} (λ a z. clash (ap is_pointer z) h)))

  pub stars-bare : (e a : TypeKey) (b : Bool) → Stars T e a b → (bare T e ≡ a) × (pointer_at T e ≡ b)
  unfolding pointer_at
  stars-bare e a b (no-star h) =
      cases (is_pointer (kind_at T e))
      (λ p. let q = pointer_is (kind_at T e) p in absurd (h q.0 q.1))
      (λ p. (bare-plain T e p, p))
  stars-bare e a b (star p) = (bare-pointer T e a p, ap is_pointer p)

  -- ---- one step

  pub step-embeds : (t : TypeKey) (s : Step) → In s ((graph T).steps t) → Embeds T t s.place s.target s.ptr
  step-embeds t s i =
      let p = In-map (step_of T) (Rattle.rules.specs.Ways.embedded T t) s i in
      let f = In-keep (λ (x : Place). is_embedded x.member.entity) (field_places T t) p.0 p.1 in
      let k = fields-of (underlying T t) p.0.place p.0.member (place-At (fields_of (underlying T t)) p.0 f.0) in
      subst (λ (x : Step). Embeds T t x.place x.target x.ptr) (sym p.2) (embeds p.0.member k.1 k.2 f.1 (bare-stars p.0.member.type))

  pub embeds-step : (t a : TypeKey) (i : ℕ) (b : Bool) → Embeds T t i a b → (s : Step) × In s ((graph T).steps t) × (s.place ≡ i) × (s.target ≡ a) × (s.ptr ≡ b)
  embeds-step t a i b (embeds {fs = fs} f l at m st) =
      let r = stars-bare f.type a b st in (
        step_of T (record { place = i; member = f }),
        map-In-to (step_of T) (Rattle.rules.specs.Ways.embedded T t) (record { place = i; member = f })
            (keep-In-to (λ (x : Place). is_embedded x.member.entity) (field_places T t) (record { place = i; member = f })
            (subst (λ (k : Kind). In (record { place = i; member = f }) (places_from 0 (fields_of k))) (sym l) (At-place i fs f at)) m),
        refl,
        r.0,
        r.1,
      )

module _ (T : Table) (name : Bytes) (pkg : Option PackageKey) where
  abbrev pub asked : Identity
  asked = identity_from T pkg name

  abbrev pub Same : Member → Type 0
  Same m = SameIds T m.name m.pkg name pkg

  abbrev hit : Place → Bool
  hit p = same_id (identity_of T p.member) asked

  -- ---- one member

  pub member-declares : (t : TypeKey) (x : Place) → In x (matching (graph T) asked t) → Declares T t x.place x.member × Same x.member
  unfolding owned all_methods
  member-declares t x i =
      let k = In-keep hit (owned T t) x i in (
        either (In-append (places_from 0 (declared_of (kind_at T t)) ++ field_places T t) (places_from 0 (all_methods T t)) x k.0)
            (λ j. either (In-append (places_from 0 (declared_of (kind_at T t))) (field_places T t) x j)
            (λ l. let d = declared-of (kind_at T t) x.place x.member (place-At (declared_of (kind_at T t)) x l) in a-method d.2 d.3)
            (λ l. let d = fields-of (underlying T t) x.place x.member (place-At (fields_of (underlying T t)) x l) in a-field d.1 d.2))
            (λ j. let d = methods-of (underlying T t) x.place x.member (place-At (all_methods_of (underlying T t)) x j) in of-interface d.1 d.2),
        hit-go T x.member name pkg k.1,
      )

  declares-owned : (t : TypeKey) (i : ℕ) (m : Member) → Declares T t i m → In (record { place = i; member = m }) (owned T t)
  unfolding owned all_methods
  declares-owned t i m (a-field {fs = fs} l a) =
      In-append-l (places_from 0 (declared_of (kind_at T t)) ++ field_places T t) (places_from 0 (all_methods T t)) (record { place = i; member = m })
      (In-append-r (places_from 0 (declared_of (kind_at T t))) (field_places T t) (record { place = i; member = m })
      (subst (λ (k : Kind). In (record { place = i; member = m }) (places_from 0 (fields_of k))) (sym l) (At-place i fs m a)))
  declares-owned t i m (a-method {ms = ms} l a) =
      In-append-l (places_from 0 (declared_of (kind_at T t)) ++ field_places T t) (places_from 0 (all_methods T t)) (record { place = i; member = m })
      (In-append-l (places_from 0 (declared_of (kind_at T t))) (field_places T t) (record { place = i; member = m })
      (subst (λ (k : Kind). In (record { place = i; member = m }) (places_from 0 (declared_of k))) (sym l) (At-place i ms m a)))
  declares-owned t i m (of-interface {ms = ms} l a) =
      In-append-r (places_from 0 (declared_of (kind_at T t)) ++ field_places T t) (places_from 0 (all_methods T t)) (record { place = i; member = m })
      (subst (λ (k : Kind). In (record { place = i; member = m }) (places_from 0 (all_methods_of k))) (sym l) (At-place i ms m a))

  pub declares-member : (t : TypeKey) (i : ℕ) (m : Member) → Declares T t i m → Same m → In (record { place = i; member = m }) (matching (graph T) asked t)
  declares-member t i m d e = keep-In-to hit (owned T t) (record { place = i; member = m }) (declares-owned t i m d) (go-hit T m name pkg e)

  -- ---- ways are occurrences

  -- the way w from the walk r is the occurrence of m at the places ps, b if a pointer lies on it
  pub record Match (r : Walk) (w : Way) (ps : List ℕ) (m : Member) (b : Bool) : Type 0 where
    pub places : places_of w ≡ r.places ++ ps
    pub flag : w.walk.flag ≡ r.flag || b
    pub member : w.last.member ≡ m

  made : (r : Walk) (x : Place) → Match r (record { walk = r; last = x }) (x.place ∷ []) x.member false
  made r x = record { places = refl; flag = sym (or-false r.flag); member = refl }

  longer : (r : Walk) (st : Step) (w : Way) (ps : List ℕ) (m : Member) (c : Bool) → Match (along (graph T) r st) w ps m c → Match r w (st.place ∷ ps) m (st.ptr || c)
  longer r st w ps m c h = record { places = h.places ∙ append_assoc r.places (st.place ∷ []) ps; flag = h.flag ∙ or_assoc r.flag st.ptr c; member = h.member }

  -- the first step, and the rest
  way-first : (d : ℕ) (r : Walk) (w : Way) → In w (ways (graph T) asked r (suc d)) → (s : Step) × In s ((graph T).steps r.at) × In w (ways (graph T) asked (along (graph T) r s) d)
  way-first d r w i =
      let v = In-flat (ends (graph T) asked) (walks (graph T) r (suc d)) w i in
      let u = In-flat (λ u. walks (graph T) u d) (onward (graph T) r) v.0 (subst (In v.0) (walks-first (graph T) r d) v.1) in
      let s = In-map (along (graph T) r) ((graph T).steps r.at) u.0 u.1 in
      (s.0, s.1, subst (λ (z : Walk). In w (ways (graph T) asked z d)) s.2 (flat-In-to (ends (graph T) asked) (walks (graph T) u.0 d) v.0 w u.2 v.2))

  first_way : (d : ℕ) (r : Walk) (w : Way) (s : Step) → In s ((graph T).steps r.at) → In w (ways (graph T) asked (along (graph T) r s) d) → In w (ways (graph T) asked r (suc d))
  first_way d r w s i j =
      let v = In-flat (ends (graph T) asked) (walks (graph T) (along (graph T) r s) d) w j in
      flat-In-to (ends (graph T) asked) (walks (graph T) r (suc d)) v.0 w
      (subst (In v.0) (sym (walks-first (graph T) r d)) (flat-In-to (λ u. walks (graph T) u d) (onward (graph T) r) (along (graph T) r s) v.0 (map-In-to (along (graph T) r) ((graph T).steps r.at) s i) v.1))
      v.2

  pub way-occurs : (d : ℕ) (r : Walk) (w : Way) → In w (ways (graph T) asked r d) → (ps : List ℕ) × (m : Member) × (b : Bool) × Occurs T name pkg r.at d ps m b × Match r w ps m b
  way-occurs zero r w i =
      let e = either (In-append (ends (graph T) asked r) [] w i) (λ j. j) (λ j. absurd j) in
      let x = In-map (λ m. record { walk = r; last = m }) (matching (graph T) asked r.at) w e in
      let d = member-declares r.at x.0 x.1 in
      (x.0.place ∷ [], x.0.member, false, declared x.0.member d.0 d.1, subst (λ (z : Way). Match r z (x.0.place ∷ []) x.0.member false) (sym x.2) (made r x.0))
  way-occurs (suc d) r w i =
      let f = way-first d r w i in
      let o = way-occurs d (along (graph T) r f.0) w f.2 in
      (f.0.place ∷ o.0, o.1, f.0.ptr || o.2, promoted (step-embeds T r.at f.0 f.1) o.3, longer r f.0 w o.0 o.1 o.2 o.4)

  pub occurs-way : {t : TypeKey} {d : ℕ} {ps : List ℕ} {m : Member} {b : Bool} → Occurs T name pkg t d ps m b → (r : Walk) → r.at ≡ t → (w : Way) × In w (ways (graph T) asked r d) × Match r w ps m b
  occurs-way (declared {t = t} {i = i} m x e) r z = (
    record { walk = r; last = record { place = i; member = m } },
    In-append-l (ends (graph T) asked r) [] (record { walk = r; last = record { place = i; member = m } })
        (map-In-to (λ m. record { walk = r; last = m }) (matching (graph T) asked r.at) (record { place = i; member = m })
        (subst (λ (y : TypeKey). In (record { place = i; member = m }) (matching (graph T) asked y)) (sym z) (declares-member t i m x e))),
    made r (record { place = i; member = m }),
  )
  occurs-way (promoted {t = t} {a = a} {i = i} {d = d} {b = b} {c = c} {ps = ps} {m = m} x o) r z =
      let k = embeds-step T t a i b x in
      let w = occurs-way o (along (graph T) r k.0) k.3 in (
        w.0,
        first_way d r w.0 k.0 (subst (λ (y : TypeKey). In k.0 ((graph T).steps y)) (sym z) k.1) w.1,
        subst (λ (j : ℕ). Match r w.0 (j ∷ ps) m (b || c)) k.2 (subst (λ (y : Bool). Match r w.0 (k.0.place ∷ ps) m (y || c)) k.4 (longer r k.0 w.0 ps m c w.2)),
      )

-- ---- none, one or several

-- what a single occurrence is answered; o: a pointer was removed before
abbrev pub outcome : Bool → Bool → List ℕ → Member → Bool → Selected
outcome a o ps m b = received a m (o || b) ps

module _ (T : Table) (sound : Sound T) (name : Bytes) (pkg : Option PackageKey) (nb : is_blank (asked T name pkg).name ≡ false) (t : TypeKey) (in0 : t.0 < size T) (o : Bool) where
  abbrev pub Sel : Bool → Selected
  Sel a = select (graph T) (asked T name pkg) t o a

  abbrev pub Occ : ℕ → List ℕ → Member → Bool → Type 0
  Occ = Occurs T name pkg t

  abbrev here : ℕ → List Way
  here d = ways (graph T) (asked T name pkg) (start t o) d

  pub data Found : Type 0 where
    absent : ((d : ℕ) (ps : List ℕ) (m : Member) (b : Bool) → Occ d ps m b → ⊥) → ((a : Bool) → Sel a ≡ notfound) → Found
    alone : (d : ℕ) (ps : List ℕ) (m : Member) (b : Bool) → Occ d ps m b
        → ((e : ℕ) (qs : List ℕ) (n : Member) (c : Bool) → e < d → Occ e qs n c → ⊥)
        → ((qs : List ℕ) (n : Member) (c : Bool) → Occ d qs n c → (qs ≡ ps) × ((a : Bool) → Sel a ≡ outcome a o qs n c)) → Found
    crowd : (d : ℕ) (ps : List ℕ) (m : Member) (b : Bool) (qs : List ℕ) (n : Member) (c : Bool) → Occ d ps m b → Occ d qs n c → (ps ≡ qs → ⊥)
        → ((e : ℕ) (qs : List ℕ) (n : Member) (c : Bool) → e < d → Occ e qs n c → ⊥)
        → ((a : Bool) → is_ambiguous (Sel a) ≡ true) → Found

  occurs-in : (d : ℕ) (ps : List ℕ) (m : Member) (b : Bool) → Occ d ps m b → (w : Way) × In w (here d) × Match T name pkg (start t o) w ps m b
  occurs-in d ps m b x = occurs-way T name pkg x (start t o) refl

  none-there : (d : ℕ) → here d ≡ [] → (ps : List ℕ) (m : Member) (b : Bool) → Occ d ps m b → ⊥
  none-there d e ps m b x = let r = occurs-in d ps m b x in subst (In r.0) e r.1

  single-is : (a : Bool) (w : Way) (ps : List ℕ) (m : Member) (b : Bool) → Match T name pkg (start t o) w ps m b → single a w ≡ outcome a o ps m b
  single-is a w ps m b h = rw (h.flag, h.places, h.member)

  -- two ways of one length stand at different places
  apart : (d : ℕ) (w v : Way) (rest : List Way) → here d ≡ w ∷ v ∷ rest → places_of w ≡ places_of v → ⊥
  apart d w v rest e p =
      let s : Sorted Earlier (w ∷ v ∷ rest) = subst (Sorted Earlier) e (ways-ascend T sound (asked T name pkg) nb (start t o) d) in
      before-irrefl (places_of v) (subst (λ (z : List ℕ). Rattle.ways.proofs.Order.Before z (places_of v)) p (s.0 v (inl refl)))

  least-is : (a : Bool) (d : ℕ) → Least (graph T) (asked T name pkg) (start t o) d → Sel a ≡ judged a (here d)
  least-is a d l = select-least (graph T) (lawful T sound) (closed T sound) t in0 o a (asked T name pkg) (keyed T sound (asked T name pkg) nb) d l

  pub finds : Found
  finds = go (least-or-none (graph T) (lawful T sound) (closed T sound) (start t o) in0 (asked T name pkg) (keyed T sound (asked T name pkg) nb))
    where
      at : (d : ℕ) → Least (graph T) (asked T name pkg) (start t o) d → (ws : List Way) → here d ≡ ws → Found
      at d l [] e = absurd (l.some e)
      at d l (w ∷ []) e =
          let r = way-occurs T name pkg d (start t o) w (rw e (inl refl)) in
          alone d r.0 r.1 r.2 r.3 (λ j qs n c h. none-there j (l.none j h) qs n c)
          (λ qs n c x.
          let k = occurs-in d qs n c x in
          let z : k.0 ≡ w = either (subst (In k.0) e k.1) (λ y. y) (λ y. absurd y) in (
            sym k.2.places ∙ ap places_of z ∙ r.4.places,
            λ a. least-is a d l ∙ ap (judged a) e ∙ ap (single a) (sym z) ∙ single-is a k.0 qs n c k.2,
          ))
      at d l (w ∷ v ∷ rest) e =
          let r = way-occurs T name pkg d (start t o) w (rw e (inl refl)) in
          let k = way-occurs T name pkg d (start t o) v (rw e (inr (inl refl))) in
          crowd d r.0 r.1 r.2 k.0 k.1 k.2 r.3 k.3 (λ z. apart d w v rest e (r.4.places ∙ z ∙ sym k.4.places))
          (λ j qs n c h. none-there j (l.none j h) qs n c)
          (λ a. ap is_ambiguous (least-is a d l ∙ ap (judged a) e))

      go : ((d : ℕ) × Least (graph T) (asked T name pkg) (start t o) d) ⊎ ((j : ℕ) → here j ≡ []) → Found
      go (inl l) = at l.0 l.1 (here l.0) refl
      go (inr n) = absent (λ d. none-there d (n d)) (λ a. select-none (graph T) (lawful T sound) (closed T sound) t in0 o a (asked T name pkg) (keyed T sound (asked T name pkg) nb) n)
