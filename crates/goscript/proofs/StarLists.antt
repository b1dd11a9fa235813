-- FOR A POINTER TO A NAMED INTERFACE goscript lists the interface's own method set (`star-lists`). Go's set of it is empty.
use mathlib.Core.Path.{◌≡◌, refl, sym, ap, ◌∙◌, subst}
use mathlib.Core.Bool.{false, ◌||◌}
use mathlib.Core.List.{List, [], ◌∷◌, ◌++◌, map, cons≢nil}
use mathlib.Core.Logic.{inl, ◌↔◌}
use Prim.Native.Nat.{ℕ, ◌≤◌, ◌<◌}
use Rattle.objects.specs.Lists.{flat, In}
use Rattle.objects.proofs.ListLaws.{clash, either, In-map, map-In-to, In-flat}
use Rattle.objects.proofs.KindLaws.{bare-pointer}
use Rattle.objects.specs.declared.TypeKey.{TypeKey}
use Rattle.objects.specs.Table.{Table, size, Member, Kind, Iface, Named, is_pointer, is_iface, members_of, kind_at, under, bare, pointer_at, named_pointer}
use Rattle.rules.specs.Members.{Identity, identity_of}
use Rattle.rules.specs.Sound.{Sound}
use Rattle.rules.specs.Ways.{Place, Walk, Way, places_of, member_of, start, onward, matching, ends}
use Rattle.rules.specs.MethodSet.{callable}
use Rattle.ways.specs.MethodLevels.{Level, as_goscript, to_interface, first_level, below, set_by_levels}
use Rattle.ways.proofs.Same.{One}
use Rattle.ways.proofs.TableLaws.{names-neither, one}
use Rattle.gospec.specs.Go.{At}
use Rattle.gospec.specs.GoSelectors.{underlying, Declares, a-field, a-method, of-interface, embeds}
use Rattle.gospec.specs.GoMethodSets.{MethodSet, of_plain, of-star, own_value, listed, from-value, from-star}
use Rattle.gospec.proofs.Names.{same-ids}
use Rattle.gospec.proofs.Places.{At-In}
use Rattle.gospec.proofs.Found.{member-declares, declares-member}
use Rattle.gospec.proofs.Operands.{under-defined}
use Rattle.gospec.proofs.Calls.{method-sort}
use Rattle.gospec.proofs.SelectGo.{asked-blank}
use Rattle.goscript.specs.Lookup.{enough_turns}
use Rattle.goscript.specs.Maps.{Map}
use Rattle.goscript.specs.MethodSets.{Selection, MethodCollision, new_method_set}
use Rattle.goscript.specs.Departures.{PointsToNamedInterface, GivenFrom, here, past-none, past-field}
use Rattle.goscript.proofs.Collisions.{selection_of}
use Rattle.goscript.proofs.MethodSetIs.{method-set-is-goscript}
use Rattle.goscript.proofs.BelowFields.{goscript-lists}
use Rattle.goscript.proofs.DepartedGo.{interface-under}

-- a list of one at most that has x
one_list : (l : List Place) (x : Place) → One l → In x l → l ≡ x ∷ []
one_list [] x o i = absurd i
one_list (y ∷ []) x o i = either i (λ e. ap (λ z. z ∷ []) (sym e)) (λ z. absurd z)
one_list (y ∷ z ∷ l) x o i = absurd o

-- a level without walks gives nothing
none-given : (T : Table) (q : Identity) {L : Level} {w : Way} → GivenFrom T q L w → L.walks ≡ [] → ⊥
unfolding below
none-given T q (here e c) h = cons≢nil (sym (rw h at e))
none-given T q (past-none e g) h = none-given T q g (rw h)
none-given T q (past-field f g) h = none-given T q g (rw h)

module _ (T : Table) (sound : Sound T) (t : TypeKey) (in0 : t.0 < size T) (p : PointsToNamedInterface T t) where
  bare-is : bare T t ≡ p.name
  bare-is = bare-pointer T t p.name p.points

  iface : underlying T p.name ≡ Iface p.methods
  iface = interface-under T t p

  -- no method is declared with an interface as receiver
  none-declared : {u : TypeKey} {i : ℕ} {ms : List Member} (m : Member) → kind_at T p.name ≡ Named u ms → At ms i m → ⊥
  none-declared {u = u} {ms = ms} m k a = clash (ap is_iface (sym (under-defined T p.name u ms (kind_at T u) k refl) ∙ iface)) (names-neither T sound p.name u ms m k (At-In a)).1

  not-empty : named_pointer T t || to_interface as_goscript T t ≡ false
  unfolding pointer_at named_pointer
  not-empty = rw (bare-is, p.points, p.names)

  -- nothing lies below an interface
  first_below : (below T (first_level T t)).walks ≡ []
  unfolding below onward
  first_below = rw (bare-is, iface)

  -- ---- what goscript gives is in the interface's set

  declared-set : (i : ℕ) (m : Member) → Declares T p.name i m → MethodSet T p.name (i ∷ []) m
  declared-set i m (a-field l a) = clash refl (ap is_iface (sym iface ∙ l))
  declared-set i m (a-method k a) = absurd (none-declared m k a)
  declared-set i m (of-interface l a) = of_plain (λ e z. clash refl (ap is_pointer (sym z ∙ p.names))) (listed l a)

  given-set : (w : Way) → GivenFrom T (identity_of T (member_of w)) (first_level T t) w → MethodSet T p.name (places_of w) (member_of w)
  unfolding identity_of
  given-set w (past-none e g) = absurd (none-given T (identity_of T (member_of w)) g first_below)
  given-set w (past-field f g) = absurd (none-given T (identity_of T (member_of w)) g first_below)
  given-set w (here e c) =
      let q = identity_of T (member_of w) in
      let i : In w (flat (ends T q) (start T t ∷ [])) = rw e (inl refl) in
      let v = In-flat (ends T q) (start T t ∷ []) w i in
      let x = In-map (λ y. record { walk = v.0; last = y }) (matching T q v.0.at) w v.2 in
      let at : v.0 ≡ start T t = either v.1 (λ z. z) (λ z. absurd z) in
      let j : In x.0 (matching T q p.name) = subst (λ (z : TypeKey). In x.0 (matching T q z)) (ap (λ (z : Walk). z.at) at ∙ bare-is) x.1 in
      subst (λ (z : Way). MethodSet T p.name (places_of z) (member_of z)) (sym x.2)
      (subst (λ (z : Walk). MethodSet T p.name (z.places ++ (x.0.place ∷ [])) x.0.member) (sym at)
      (declared-set x.0.place x.0.member (member-declares T (member_of w).name (member_of w).pkg p.name x.0 j).0))

  -- ---- and what is in the interface's set goscript gives

  -- the interface's method i, by the pointer
  abbrev star_way : ℕ → Member → Way
  star_way i m = record { walk = start T t; last = record { place = i; member = m } }

  star-given : (i : ℕ) (m : Member) (ms : List Member) → underlying T p.name ≡ Iface ms → At ms i m → In (star_way i m) (set_by_levels as_goscript T t)
  unfolding identity_of callable
  star-given i m ms l a =
      let q = identity_of T m in
      let s = method-sort T sound p.name i m ms l a in
      let nb = sound.method_named (under T p.name) m (subst (λ (k : Kind). In m (members_of k)) (sym l) (At-In a)) s.0 in
      let o = one_list (matching T q p.name) (record { place = i; member = m }) (one T sound q p.name (asked-blank T m.name m.pkg false nb))
      (declares-member T m.name m.pkg p.name i m (of-interface l a) (same-ids T m.name m.name m.pkg m.pkg refl)) in
      (goscript-lists T sound t in0 not-empty (star_way i m)).1
      (here (ap (λ (z : List Place). map (λ y. record { walk = start T t; last = y }) z ++ []) (ap (matching T q) bare-is ∙ o)) (rw (s.0, s.1)))

  set_given : (ps : List ℕ) (m : Member) → MethodSet T p.name ps m → (w : Way) × In w (set_by_levels as_goscript T t) × (member_of w ≡ m) × (places_of w ≡ ps)
  set_given ps m (of-star k s) = clash refl (ap is_pointer (sym k ∙ p.names))
  set_given ps m (of_plain n (own_value l k a h)) = absurd (none-declared l k a)
  set_given ps m (of_plain n (listed {i = i} {m = l} {ms = ms} k a)) = (star_way i l, star-given i l ms k a, refl, refl)
  set_given ps m (of_plain n (from-value (embeds f l a e st) s r)) = clash refl (ap is_iface (sym iface ∙ l))
  set_given ps m (of_plain n (from-star (embeds f l a e st) s r)) = clash refl (ap is_iface (sym iface ∙ l))

  -- GOSCRIPT LISTS THE INTERFACE'S OWN METHOD SET.
  pub star-lists : (out : Map MethodCollision) (k : ℕ) → enough_turns T ≤ k → (ps : List ℕ) (m : Member)
      → ((s : Selection) × In s (new_method_set T out k t) × (s.obj ≡ m) × (s.indices ≡ ps)) ↔ MethodSet T p.name ps m
  star-lists out k le ps m = (to, from)
    where
      same : new_method_set T out k t ≡ map (selection_of T) (set_by_levels as_goscript T t)
      same = method-set-is-goscript T sound t in0 out k le

      to : (s : Selection) × In s (new_method_set T out k t) × (s.obj ≡ m) × (s.indices ≡ ps) → MethodSet T p.name ps m
      to h =
          let w = In-map (selection_of T) (set_by_levels as_goscript T t) h.0 (subst (In h.0) same h.1) in
          let member : member_of w.0 ≡ m = ap (λ (z : Selection). z.obj) (sym w.2) ∙ h.2 in
          let places : places_of w.0 ≡ ps = ap (λ (z : Selection). z.indices) (sym w.2) ∙ h.3 in
          subst (λ (z : Member). MethodSet T p.name ps z) member
          (subst (λ (z : List ℕ). MethodSet T p.name z (member_of w.0)) places (given-set w.0 ((goscript-lists T sound t in0 not-empty w.0).0 w.1)))

      from : MethodSet T p.name ps m → (s : Selection) × In s (new_method_set T out k t) × (s.obj ≡ m) × (s.indices ≡ ps)
      from s =
          let w = set_given ps m s in
          (selection_of T w.0, subst (In (selection_of T w.0)) (sym same) (map-In-to (selection_of T) (set_by_levels as_goscript T t) w.0 w.1), w.2, w.3)
