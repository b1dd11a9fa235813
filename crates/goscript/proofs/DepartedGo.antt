-- GOSCRIPT'S METHOD SET AGAINST GO'S, in the Go spec's own words: `MethodSet::new` lists all that Go's method set has (`go-in-goscript`), and what it lists besides
-- are the methods whose selector denotes a field, and all of a pointer to a named interface (`goscript-beside-go`).
use mathlib.Core.Path.{◌≡◌, refl, sym, ap, ◌∙◌, subst}
use mathlib.Core.Bool.{Bool, true, false, not, ◌&&◌, ◌||◌}
use mathlib.Core.List.{List, []}
use mathlib.Core.Logic.{◌⊎◌, inl, inr, ◌↔◌}
use mathlib.Core.Option.{Option}
use Prim.Native.Nat.{ℕ, ◌≤◌, ◌<◌}
use Rattle.objects.specs.Lists.{Bytes, In}
use Rattle.objects.proofs.ListLaws.{cases, clash, and_l, and_r, or_l, or_r, In-keep, keep-In-to, In-map, map-In-to, In-flat}
use Rattle.objects.proofs.KindLaws.{pointer_is, iface-is, named-is, under-named, bare-pointer}
use Rattle.objects.specs.declared.TypeKey.{TypeKey}
use Rattle.objects.specs.declared.PackageKey.{PackageKey}
use Rattle.objects.specs.Table.{Table, size, Member, Iface, is_method, is_named, kind_at, under, bare, pointer_at, iface_under, named_pointer}
use Rattle.rules.specs.Members.{Identity, identity_of}
use Rattle.rules.specs.Sound.{Sound}
use Rattle.rules.specs.Ways.{Way, places_of, member_of, Selected, entry, shortest, select}
use Rattle.rules.specs.MethodSet.{method_names, empty_set, method_set}
use Rattle.ways.specs.MethodLevels.{listed, as_goscript, to_interface, standing, set_by_levels}
use Rattle.gospec.specs.GoSelectors.{underlying, OneStar, Denotes}
use Rattle.gospec.specs.Says.{blank, Says, legal-field, legal-method, not-one}
use Rattle.gospec.specs.GoMethodSets.{MethodSet}
use Rattle.gospec.proofs.Operands.{under-defined}
use Rattle.gospec.proofs.Results.{field-ptr, method_in}
use Rattle.gospec.proofs.SelectGo.{select-is-go, go-is-select, alike-one}
use Rattle.gospec.proofs.Promotion.{set_says}
use Rattle.gospec.proofs.OneView.{select-one, method-named}
use Rattle.gospec.proofs.MethodSetGo.{method-set-is-go}
use Rattle.gospec.proofs.EmptySets.{pointer-interface}
use Rattle.goscript.specs.Lookup.{enough_turns}
use Rattle.goscript.specs.Maps.{Map}
use Rattle.goscript.specs.MethodSets.{Selection, MethodCollision, new_method_set}
use Rattle.goscript.specs.Departures.{covered, to_named_interface, DenotesField, PointsToNamedInterface}
use Rattle.goscript.proofs.Collisions.{selection_of}
use Rattle.goscript.proofs.MethodSetIs.{method-set-is-goscript}
use Rattle.goscript.proofs.Departed.{standing-named, uncovered, empty-now, set-less}
use Rattle.goscript.proofs.BelowFields.{one-field}

-- ---- the departures are Go's

-- a field that S gives: the selector is legal and denotes it
says-field : {T : Table} {R : TypeKey → Type 0} {name : Bytes} {pkg : Option PackageKey} {x : TypeKey} {a b : Bool} {ps : List ℕ} {m : Member}
    → Says T R name pkg x a (entry m b ps) → is_method m.entity ≡ false → (name ≡ blank → ⊥) × Denotes T R name pkg x ps m b
says-field (legal-field m n d f) h = (n, d)
says-field (legal-method m n d i c) h = clash i h
says-field (not-one n d e) h = clash e refl

points-named : (T : Table) (t : TypeKey) → to_named_interface T t ≡ true → PointsToNamedInterface T t
unfolding pointer_at iface_under
points-named T t h =
    let to = bare T t in
    let r = and_r (pointer_at T t) (is_named (kind_at T to) && iface_under T to) h in
    let p = pointer_is (kind_at T t) (and_l (pointer_at T t) (is_named (kind_at T to) && iface_under T to) h) in
    let n = named-is (kind_at T to) (and_l (is_named (kind_at T to)) (iface_under T to) r) in
    let i = iface-is (kind_at T (under T to)) (and_r (is_named (kind_at T to)) (iface_under T to) r) in
    record {
      name = p.0;
      under = n.0;
      declared = n.1;
      methods = i.0;
      points = p.1;
      names = ap (kind_at T) (sym (bare-pointer T t p.0 p.1)) ∙ n.2;
      is = ap (kind_at T) (sym (under-named T to n.0 n.1 n.2)) ∙ i.1;
    }

pub interface-under : (T : Table) (t : TypeKey) (p : PointsToNamedInterface T t) → underlying T p.name ≡ Iface p.methods
interface-under T t p = under-defined T p.name p.under p.declared (Iface p.methods) p.names p.is

module _ (T : Table) (sound : Sound T) (t : TypeKey) (in0 : t.0 < size T) where
  -- x.f denotes one member, which is a field or a method
  not-both : (ps : List ℕ) (m : Member) → DenotesField T t m → MethodSet T t ps m → ⊥
  unfolding identity_of
  not-both ps m d s =
      let k = set_says T sound (OneStar T) s in
      let given = select T (identity_of T m) t false in
      let method = entry m k.0 ps in
      let field = entry d.field d.flag d.places in
      let e = alike-one method given refl (go-is-select T sound t in0 false m.pkg m.name method (legal-method m k.1 k.2 k.3 k.4)) in
      let f = alike-one field given refl (go-is-select T sound t in0 false m.pkg m.name field (legal-field d.field d.named d.denotes d.is-field)) in
      clash k.3 (ap method_in (sym e ∙ f) ∙ d.is-field)

  -- S gives the field that covers a member's name
  covered-go : (m : Member) → covered T (identity_of T m) t ≡ true → In (identity_of T m) (method_names T) → empty_set T t ≡ false → DenotesField T t m
  unfolding identity_of
  covered-go m c n e =
      let q = identity_of T m in
      let to = pointer_at T t && iface_under T (bare T t) in
      let f = one-field (shortest T q t) c in
      let s = select-one T sound t q f.0 (method-named T sound t q n) (or_l (named_pointer T t) to e) (or_r (named_pointer T t) to e) f.1 (rw (field-ptr (member_of f.0) f.2)) in
      let d = says-field (subst (λ (r : Selected). Says T (OneStar T) m.name m.pkg t false r) s (select-is-go T sound t in0 false m.pkg m.name)) f.2 in
      record { field = member_of f.0; places = places_of f.0; flag = f.0.walk.flag; named = d.0; is-field = f.2; denotes = d.1 }

  -- ---- the ways of goscript's set

  abbrev theirs : List Way
  theirs = set_by_levels as_goscript T t

  -- they have what M has,
  held-theirs : (w : Way) → In w (method_set T t) → In w theirs
  held-theirs w i =
      cases (to_named_interface T t)
      (λ e. let j : In w [] = rw (set-less T t, e) at i in absurd j)
      (λ e. (In-keep (uncovered T t) theirs w (rw (set-less T t, e) at i)).0)

  -- and each is the way of a method's name, in a set that is not empty
  theirs-named : (w : Way) → In w theirs → (named_pointer T t || to_interface as_goscript T t ≡ false) × In (identity_of T (member_of w)) (method_names T)
  unfolding set_by_levels
  theirs-named w i =
      cases (named_pointer T t || to_interface as_goscript T t)
      (λ e. let j : In w [] = rw e at i in absurd j)
      (λ e.
      let j = In-flat (λ q. listed (standing as_goscript T q t)) (method_names T) w (rw e at i) in
      (e, subst (λ (q : Identity). In q (method_names T)) (sym (standing-named as_goscript T j.0 t w j.2)) j.1))

  way_beside : (w : Way) → In w theirs → (MethodSet T t (places_of w) (member_of w) → ⊥) ↔ (DenotesField T t (member_of w) ⊎ PointsToNamedInterface T t)
  way_beside w i = (to, from)
    where
      to : (MethodSet T t (places_of w) (member_of w) → ⊥) → DenotesField T t (member_of w) ⊎ PointsToNamedInterface T t
      to n =
          cases (to_named_interface T t)
          (λ p. inr (points-named T t p))
          (λ p. cases (covered T (identity_of T (member_of w)) t)
          (λ c. let k = theirs-named w i in inl (covered-go (member_of w) c k.1 (empty-now T t k.0 p)))
          (λ c.
          let held : In w (method_set T t) = rw (set-less T t, p) (keep-In-to (uncovered T t) theirs w i (ap not c)) in
          absurd (n ((method-set-is-go T sound t in0 (places_of w) (member_of w)).0 (record { way = w; there = held; member = refl; places = refl })))))

      from : DenotesField T t (member_of w) ⊎ PointsToNamedInterface T t → MethodSet T t (places_of w) (member_of w) → ⊥
      from (inl d) s = not-both (places_of w) (member_of w) d s
      from (inr p) s = pointer-interface T t p.name p.methods p.points (interface-under T t p) (places_of w) (member_of w) s

  -- ---- what `MethodSet::new` returns

  module _ (out : Map MethodCollision) (k : ℕ) (le : enough_turns T ≤ k) where
    -- GOSCRIPT LISTS ALL THAT GO'S METHOD SET HAS,
    pub go-in-goscript : (ps : List ℕ) (m : Member) → MethodSet T t ps m → (s : Selection) × In s (new_method_set T out k t) × (s.obj ≡ m) × (s.indices ≡ ps)
    go-in-goscript ps m h =
        let l = (method-set-is-go T sound t in0 ps m).1 h in
        let s = selection_of T l.way in
        (s, subst (In s) (sym (method-set-is-goscript T sound t in0 out k le)) (map-In-to (selection_of T) theirs l.way (held-theirs l.way l.there)), l.member, l.places)

    -- AND WHAT IT LISTS BESIDES: the methods whose selector denotes a field, and all of a pointer to a named interface.
    pub goscript-beside-go : (s : Selection) → In s (new_method_set T out k t) → (MethodSet T t s.indices s.obj → ⊥) ↔ (DenotesField T t s.obj ⊎ PointsToNamedInterface T t)
    goscript-beside-go s i =
        let w = In-map (selection_of T) theirs s (subst (In s) (method-set-is-goscript T sound t in0 out k le) i) in
        subst (λ (z : Selection). (MethodSet T t z.indices z.obj → ⊥) ↔ (DenotesField T t z.obj ⊎ PointsToNamedInterface T t)) (sym w.2) (way_beside w.0 w.1)
