-- N with s 1 IS GO'S "Implementing an interface": it answers `satisfied` exactly if t implements i.
use mathlib.Core.Path.{◌≡◌, refl, sym, ap, ◌∙◌, subst}
use mathlib.Core.Bool.{Bool, true, false}
use mathlib.Core.List.{List, [], ◌∷◌}
use mathlib.Core.Logic.{inl, inr, ◌↔◌}
use mathlib.Core.Option.{Option, none, some}
use Prim.Native.Nat.{ℕ, ◌<◌}
use Rattle.objects.specs.Lists.{Bytes, In, Sorted, keep}
use Rattle.objects.specs.declared.TypeKey.{TypeKey}
use Rattle.objects.specs.declared.PackageKey.{PackageKey}
use Rattle.objects.specs.Table.{Table, size, Member, is_method, Kind, Iface, is_iface, all_methods_of, all_methods, under, iface_under}
use Rattle.objects.proofs.ListLaws.{cases, clash, either, In-keep, keep-In-to}
use Rattle.objects.proofs.KindLaws.{iface-is}
use Rattle.rules.specs.Members.{identity_of, same_member}
use Rattle.rules.specs.Identity.{identical}
use Rattle.rules.specs.Sound.{Sound, Lower}
use Rattle.rules.specs.Ways.{Selected, notfound, badreceiver, entry, ambiguous, select}
use Rattle.rules.specs.Missing.{Lack, compared, unmet_there, unmet_by, unmet, first_unmet, missing}
use Rattle.rules.proofs.MemberLaws.{same_id-true, same_id-eq}
use Rattle.rules.proofs.AscendLaws.{ascend-one}
use Rattle.gospec.specs.GoSelectors.{underlying, Denotes, Callable, OneStar}
use Rattle.gospec.specs.Says.{blank, Says, legal-field, legal-method, not-one, Reading}
use Rattle.gospec.specs.GoImplements.{HasMethod, ListsMethod, Implements, an-element, a-subset}
use Rattle.gospec.proofs.Names.{same_names}
use Rattle.gospec.proofs.IdentityGo.{identical-is-go}
use Rattle.gospec.proofs.SelectGo.{selection-is-go, go-is-selection, one-star, alike-one}

abbrev is_none : Option Bool → Bool
is_none none = true
is_none (some b) = false

-- ---- one answer

module _ (T : Table) where
  compared-none : (m found : Member) → compared T m found ≡ none → identical T m.type found.type ≡ true
  compared-none m found h = cases (identical T m.type found.type) (λ e. e) (λ e. clash (ap is_none (rw e at h)) refl)

  none-compared : (m found : Member) → identical T m.type found.type ≡ true → compared T m found ≡ none
  none-compared m found h = rw h

  -- an answer that meets m
  pub record Meets (m : Member) (r : Selected) : Type 0 where
    pub found : Member
    pub flag : Bool
    pub places : List ℕ
    pub is : r ≡ entry found flag places
    pub method : is_method found.entity ≡ true
    pub same-type : identical T m.type found.type ≡ true

  by-none : (m : Member) (r : Selected) → unmet_by T m r ≡ none → Meets m r
  by-none m notfound e = clash refl (ap is_none (sym e))
  by-none m badreceiver e = clash refl (ap is_none (sym e))
  by-none m (entry found flag places) e =
      cases (is_method found.entity)
      (λ h. record { found = found; flag = flag; places = places; is = refl; method = h; same-type = compared-none m found (rw h at e) })
      (λ h. clash refl (ap is_none (sym (rw h at e))))
  by-none m (ambiguous first second) e = clash refl (ap is_none (sym e))

  none-by : (m : Member) (r : Selected) → Meets m r → unmet_by T m r ≡ none
  none-by m r h = rw (h.is, h.method) (none-compared m h.found h.same-type)

-- a method that S gives: the selector is legal and denotes it, and the call is valid
pub says-method : {T : Table} {R : TypeKey → Type 0} {name : Bytes} {pkg : Option PackageKey} {x : TypeKey} {a b : Bool} {ps : List ℕ} {m : Member}
    → Says T R name pkg x a (entry m b ps) → is_method m.entity ≡ true → (name ≡ blank → ⊥) × Denotes T R name pkg x ps m b × Callable T a x ps m
says-method (legal-field m n d f) h = clash h f
says-method (legal-method m n d i c) h = (n, d, c)
says-method (not-one n d e) h = clash e refl

module _ (T : Table) (sound : Sound T) (R : TypeKey → Type 0) (t : TypeKey) (in0 : t.0 < size T) (rd : Reading T R t) where
  -- ---- t is no interface: "S with a 0 and the method's own package"

  met-other : (m : Member) → unmet_by T m (select T (identity_of T m) t false) ≡ none → HasMethod T R t m
  unfolding identity_of
  met-other m e =
      let r = by-none T m (select T (identity_of T m) t false) e in
      let d = says-method (subst (λ (z : Selected). Says T R m.name m.pkg t false z) r.is (selection-is-go T sound R t in0 rd false m.pkg m.name)) r.method in
      record {
        places = r.places;
        found = r.found;
        flag = r.flag;
        named = d.0;
        denotes = d.1;
        method = r.method;
        callable = d.2;
        same-type = (identical-is-go T sound m.type r.found.type).0 r.same-type;
      }

  other-met : (m : Member) → HasMethod T R t m → unmet_by T m (select T (identity_of T m) t false) ≡ none
  unfolding identity_of
  other-met m h =
      none-by T m (select T (identity_of T m) t false)
      (record {
        found = h.found;
        flag = h.flag;
        places = h.places;
        is = alike-one (entry h.found h.flag h.places) (select T (identity_of T m) t false) refl (go-is-selection T sound R t in0 rd false m.pkg m.name (entry h.found h.flag h.places) (legal-method h.found h.named h.denotes h.method h.callable));
        method = h.method;
        same-type = (identical-is-go T sound m.type h.found.type).1 h.same-type;
      })

  -- ---- t is an interface with the methods ns

  met-face : (m : Member) (ns K : List Member) → keep (same_member T m) ns ≡ K → unmet_there T true m K ≡ none → ListsMethod T ns m
  met-face m ns [] k e = clash refl (ap is_none (sym e))
  met-face m ns (l ∷ K) k e =
      let i = In-keep (same_member T m) ns l (subst (In l) (sym k) (inl refl)) in
      record {
        found = l;
        listed = i.0;
        same_name = (same_names T m l).0 (same_id-true (identity_of T m) (identity_of T l) i.1);
        same-type = (identical-is-go T sound m.type l.type).0 (compared-none T m l e);
      }

  face-met : (m : Member) (ns K : List Member) → Sorted (Lower T) ns → keep (same_member T m) ns ≡ K → ListsMethod T ns m → unmet_there T true m K ≡ none
  face-met m ns [] s k h =
      absurd (subst (In h.found) k (keep-In-to (same_member T m) ns h.found h.listed (same_id-eq (identity_of T m) (identity_of T h.found) ((same_names T m h.found).1 h.same_name))))
  face-met m ns (l ∷ K) s k h =
      let i = In-keep (same_member T m) ns l (subst (In l) (sym k) (inl refl)) in
      let z : h.found ≡ l = ascend-one T ns s h.found l h.listed i.0 (sym ((same_names T m h.found).1 h.same_name) ∙ same_id-true (identity_of T m) (identity_of T l) i.1) in
      none-compared T m l (subst (λ (y : Member). identical T m.type y.type ≡ true) z ((identical-is-go T sound m.type h.found.type).1 h.same-type))

  -- ---- all methods of i

  unmet-face : (m : Member) (ns : List Member) → underlying T t ≡ Iface ns → unmet T t true m ≡ unmet_there T true m (keep (same_member T m) ns)
  unfolding unmet iface_under all_methods
  unmet-face m ns o = rw o

  unmet-other : (m : Member) → is_iface (underlying T t) ≡ false → unmet T t true m ≡ unmet_by T m (select T (identity_of T m) t false)
  unfolding unmet iface_under
  unmet-other m f = rw f

  all-met : (ms : List Member) → first_unmet T t true ms ≡ none → (m : Member) → In m ms → unmet T t true m ≡ none
  all-met [] e m i = elim i [ ]
  all-met (x ∷ ms) e m i = go (λ z j. all-met ms z m j) (unmet T t true x) refl
    where
      satisfied : Option Lack → Bool
      satisfied none = true
      satisfied (some l) = false

      go : (first_unmet T t true ms ≡ none → In m ms → unmet T t true m ≡ none) → (o : Option Bool) → unmet T t true x ≡ o → unmet T t true m ≡ none
      go rec (some w) z = clash refl (ap satisfied (sym (rw (z, first_unmet) at e)))
      go rec none z = either i (λ q. ap (unmet T t true) q ∙ z) (λ j. rec (rw (z, first_unmet) at e) j)

  met_all : (ms : List Member) → ((m : Member) → In m ms → unmet T t true m ≡ none) → first_unmet T t true ms ≡ none
  met_all [] h = refl
  met_all (m ∷ ms) h = rw (h m (inl refl), first_unmet) (met_all ms (λ x i. h x (inr i)))

  -- N IS GO'S, for i with an interface under it: only such an i may be asked for
  pub implements-is-go : (i : TypeKey) (ms : List Member) → underlying T i ≡ Iface ms → (missing T t i true ≡ none) ↔ Implements T R t i
  unfolding missing all_methods
  implements-is-go i ms k = (to, from)
    where
      methods : all_methods T i ≡ ms
      methods = ap all_methods_of k

      to : missing T t i true ≡ none → Implements T R t i
      to e =
          let all : (m : Member) → In m ms → unmet T t true m ≡ none = all-met ms (subst (λ (l : List Member). first_unmet T t true l ≡ none) methods e) in
          cases (is_iface (underlying T t))
          (λ f.
          let r = iface-is (underlying T t) f in
          a-subset k r.1 (λ m j. met-face m r.0 (keep (same_member T m) r.0) refl (sym (unmet-face m r.0 r.1) ∙ all m j)))
          (λ f. an-element k (λ ns z. clash (ap is_iface z) f) (λ m j. met-other m (sym (unmet-other m f) ∙ all m j)))

      from : Implements T R t i → missing T t i true ≡ none
      from (an-element {ms = ns} l n h) =
          let f : is_iface (underlying T t) ≡ false = cases (is_iface (underlying T t)) (λ e. let r = iface-is (underlying T t) e in absurd (n r.0 r.1)) (λ e. e) in
          subst (λ (z : List Member). first_unmet T t true z ≡ none) (sym (ap all_methods_of l)) (met_all ns (λ m j. unmet-other m f ∙ other-met m (h m j)))
      from (a-subset {ms = ns} {ns = os} l o h) =
          subst (λ (z : List Member). first_unmet T t true z ≡ none) (sym (ap all_methods_of l))
          (met_all ns (λ m j. unmet-face m os o ∙ face-met m os (keep (same_member T m) os) (subst (λ (z : Kind). Sorted (Lower T) (all_methods_of z)) o (sound.ascend (under T t))) refl (h m j)))

-- with document 01's reading of (*x).f, and no side condition
pub satisfied-is-go : (T : Table) → Sound T → (t i : TypeKey) → t.0 < size T → (ms : List Member) → underlying T i ≡ Iface ms → (missing T t i true ≡ none) ↔ Implements T (OneStar T) t i
satisfied-is-go T sound t i in0 ms k = implements-is-go T sound (OneStar T) t in0 (one-star T t) i ms k
