-- M IS GO'S METHOD SET: M lists a member at places exactly if the Go spec's method set has it there (`method-set-is-go`), and each identity once
-- (`set-ascends`, `set-once`). M's flag is no part of it.
use mathlib.Core.Path.{◌≡◌, refl, sym, ap, ◌∙◌, subst}
use mathlib.Core.Bool.{false}
use mathlib.Core.List.{List, [], ◌∷◌, map}
use mathlib.Core.Logic.{inl, inr, ◌↔◌}
use Prim.Native.Nat.{ℕ, ◌<◌}
use Rattle.objects.specs.Lists.{flat, In, Sorted}
use Rattle.objects.specs.declared.TypeKey.{TypeKey}
use Rattle.objects.specs.Table.{Table, size, Member}
use Rattle.objects.proofs.ListLaws.{cases, clash, In-map, In-flat, map-In-to}
use Rattle.text.proofs.ByteLaws.{below_irrefl}
use Rattle.rules.specs.Members.{Identity, identity_of, id_bytes}
use Rattle.rules.specs.Sound.{Sound}
use Rattle.rules.specs.Ways.{Way, places_of, member_of, Selected, entry, shortest, select}
use Rattle.rules.specs.MethodSet.{callable, only_method, method_names, empty_set, method_set}
use Rattle.rules.proofs.MethodNames.{Lower, names-ascend}
use Rattle.gospec.specs.Go.{SameNames}
use Rattle.gospec.specs.GoSelectors.{OneStar}
use Rattle.gospec.specs.Says.{blank, Says, legal-method}
use Rattle.gospec.specs.GoMethodSets.{MethodSet}
use Rattle.gospec.specs.Lists.{Lists}
use Rattle.gospec.proofs.Names.{same_names}
use Rattle.gospec.proofs.SelectGo.{select-is-go, go-is-select, alike-one}
use Rattle.gospec.proofs.Implements.{says-method}
use Rattle.gospec.proofs.Promotion.{set_says, says-set}
use Rattle.gospec.proofs.OneView.{held-named, held-given, given-held}

-- ---- the two sets

module _ (T : Table) (sound : Sound T) (t : TypeKey) (in0 : t.0 < size T) where
  held-go : (w : Way) → In w (method_set T t) → MethodSet T t (places_of w) (member_of w)
  unfolding identity_of
  held-go w i =
      let m = member_of w in
      let g = held-given T sound t w i in
      let s = says-method (subst (λ (r : Selected). Says T (OneStar T) m.name m.pkg t false r) g.0 (select-is-go T sound t in0 false m.pkg m.name)) g.1 in
      says-set T sound (OneStar T) t (places_of w) m w.walk.flag s.0 s.1 g.1 s.2

  go-held : (ps : List ℕ) (m : Member) → MethodSet T t ps m → Lists T t ps m
  unfolding identity_of
  go-held ps m s =
      let d = set_says T sound (OneStar T) s in
      let e = alike-one (entry m d.0 ps) (select T (identity_of T m) t false) refl (go-is-select T sound t in0 false m.pkg m.name (entry m d.0 ps) (legal-method m d.1 d.2 d.3 d.4)) in
      let w = given-held T sound t (identity_of T m) m d.0 ps e d.3 in
      record { way = w.0; there = w.1; member = w.2; places = w.4 }

  -- M IS GO'S METHOD SET.
  pub method-set-is-go : (ps : List ℕ) (m : Member) → Lists T t ps m ↔ MethodSet T t ps m
  method-set-is-go ps m = (
    λ l. subst (λ (z : Member). MethodSet T t ps z) l.member (subst (λ (z : List ℕ). MethodSet T t z (member_of l.way)) l.places (held-go l.way l.there)),
    go-held ps m,
  )

  -- ---- each identity once

  abbrev id_of : Way → Identity
  id_of w = identity_of T (member_of w)

  abbrev held_of : Identity → List Way
  held_of q = only_method T (shortest T q t)

  ascends : (l : List Identity) → Sorted Lower l → Sorted Lower (map id_of (flat held_of l))
  unfolding only_method
  ascends [] s = tt
  ascends (q ∷ l) s = go (shortest T q t) refl (ascends l s.1)
    where
      others : List Way
      others = flat held_of l

      go : (ws : List Way) → shortest T q t ≡ ws → Sorted Lower (map id_of others) → Sorted Lower (map id_of (flat held_of (q ∷ l)))
      go [] e r = rw e r
      go (w ∷ v ∷ ws) e r = rw e r
      go (w ∷ []) e r =
          cases (callable T w)
          (λ c. rw (e, c) (
            λ y i.
                let v = In-map id_of others y i in
                let p = In-flat held_of l v.0 v.1 in
                let mine : id_of w ≡ q = held-named T q t w (rw (e, c) (inl refl)) in
                rw (mine, v.2, held-named T p.0 t v.0 p.2) (s.0 p.0 p.1),
            r,
          ))
          (λ c. rw (e, c) r)

  -- M ASCENDS BY ID, so it has each identity once.
  pub set-ascends : Sorted Lower (map (λ w. identity_of T (member_of w)) (method_set T t))
  unfolding method_set
  set-ascends = cases (empty_set T t) (λ e. rw e tt) (λ e. rw e (ascends (method_names T) (names-ascend T sound)))

  sorted-one : (l : List Way) → Sorted Lower (map id_of l) → (v w : Way) → In v l → In w l → id_of v ≡ id_of w → v ≡ w
  sorted-one [] s v w x4 _ h = elim x4 [ ]
  sorted-one (x ∷ l) s v w (inl e) (inl f) h = e ∙ sym f
  sorted-one (x ∷ l) s v w (inl e) (inr j) h = clash (s.0 (id_of w) (map-In-to id_of l w j)) (rw (← h, e) (below_irrefl (id_bytes (id_of x))))
  sorted-one (x ∷ l) s v w (inr i) (inl f) h = clash (s.0 (id_of v) (map-In-to id_of l v i)) (rw (h, f) (below_irrefl (id_bytes (id_of x))))
  sorted-one (x ∷ l) s v w (inr i) (inr j) h = sorted-one l s.1 v w i j h

  pub set-once : (v w : Way) → In v (method_set T t) → In w (method_set T t) → identity_of T (member_of v) ≡ identity_of T (member_of w) → v ≡ w
  set-once v w i j h = sorted-one (method_set T t) set-ascends v w i j h

  -- "In a method set, each method must have a unique non-blank method name."
  pub unique-name : (ps qs : List ℕ) (m n : Member) → MethodSet T t ps m → MethodSet T t qs n → SameNames T m n → (m ≡ n) × (ps ≡ qs)
  unique-name ps qs m n a b h =
      let x = go-held ps m a in
      let y = go-held qs n b in
      let e = set-once x.way y.way x.there y.there (ap (identity_of T) x.member ∙ (same_names T m n).1 h ∙ ap (identity_of T) (sym y.member)) in
      (sym x.member ∙ ap member_of e ∙ y.member, sym x.places ∙ ap places_of e ∙ y.places)

  pub named-all : (ps : List ℕ) (m : Member) → MethodSet T t ps m → m.name ≡ blank → ⊥
  named-all ps m a = (set_says T sound (OneStar T) a).1
