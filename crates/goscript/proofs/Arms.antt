-- One turn of `identical_impl` is one step of the rules: each arm of its `match`, read with a test of types in place of the recursion (`arm_b`), is `step_kinds`
-- with that test (`arm_step`); and each arm shows it if the recursion shows what it is asked for (`arm-judged`, for interfaces `methods-judged`).
use mathlib.Core.Path.{◌≡◌, refl, sym, ap, ap₂, ◌∙◌}
use mathlib.Core.Bool.{Bool, true, false, ◌&&◌, beq, and-true, and_assoc}
use mathlib.Core.List.{List, [], ◌∷◌, map, append-nil}
use mathlib.Core.Logic.{inl, inr}
use mathlib.Core.Option.{some}
use Prim.Native.Nat.{ℕ}
use lib.Dec.{eqb}
use lib.ListN.{length}
use Rattle.objects.specs.Lists.{In}
use Rattle.text.specs.Bytes.{same_bytes}
use Rattle.text.proofs.ByteLaws.{same_refl, same_true}
use Rattle.objects.specs.declared.TypeKey.{TypeKey}
use Rattle.objects.specs.Table.{Table, dir_number, bit, Entity, Field, Method, is_embedded, tag_of, Member, Kind, Basic, Array, Slice, Pointer, Map, Chan, Tuple, Func, Struct, Iface, Named, is_iface, refs, members_of}
use Rattle.objects.proofs.ListLaws.{clash, In-append-l, map-In-to}
use Rattle.objects.proofs.BoolLaws.{iff-eq}
use Rattle.rules.specs.Members.{Identity, identity_of, id_bytes, same_id, same_member}
use Rattle.rules.specs.Identity.{real_type, own_number, parts, Pair, alike}
use Rattle.rules.specs.StepIdentity.{pairwise, step_kinds, same_in}
use Rattle.rules.specs.Load.{stands}
use Rattle.rules.proofs.MemberLaws.{same_id-true, same_id-self}
use Rattle.rules.proofs.IdLaws.{Proper, id-injective}
use Rattle.gospec.specs.Go.{SameForm, basics, arrays, slices, pointers, maps, chans, tuples, funcs, structs, ifaces, nameds}
use Rattle.goscript.specs.Identical.{Run, check, ◌and◌, all_same, first, last, identical_impl_o, same_field, same_var, same_method, arm}
use Rattle.goscript.proofs.Runs.{all_b, Sub, Judged, check-judged, and-judged, all-judged, o-judged}

-- ---- Booleans

-- two members compared in goscript's order, and the others after them
turned : (i e t a r p : Bool) → (e && (t && (i && r))) && (a && p) ≡ (((i && e) && t) && a) && (r && p)
turned true true true true r p = refl
turned true true true false true p = refl
turned true true true false false p = refl
turned true true false a r p = refl
turned true false t a r p = refl
turned false true true a r p = refl
turned false true false a r p = refl
turned false false t a r p = refl

-- ---- the arms as tests

module _ (T : Table) (R : TypeKey → TypeKey → Bool) where
  abbrev pub field_b : Member → Member → Bool
  field_b f g =
      beq (is_embedded f.entity) (is_embedded g.entity)
      && (same_bytes (tag_of f.entity) (tag_of g.entity)
      && (same_member T f g && R f.type g.type))

  abbrev pub method_b : Member → Member → Bool
  method_b a b = same_bytes (id_bytes (identity_of T a)) (id_bytes (identity_of T b)) && R a.type b.type

  unfoldable pub arm_b : TypeKey → Kind → TypeKey → Kind → Bool
  arm_b x (Basic k) y l = eqb (real_type k) (own_number y l)
  arm_b x (Array n e) y l = eqb n (own_number y l) && R e (first l)
  arm_b x (Slice e) y l = R e (first l)
  arm_b x (Pointer e) y l = R e (first l)
  arm_b x (Map k e) y l = R k (first l) && R e (last l)
  arm_b x (Chan d e) y l = eqb (dir_number d) (own_number y l) && R e (first l)
  arm_b x (Tuple es) y l = eqb (length es) (own_number y l) && all_b R es (refs l)
  arm_b x (Func v p r) y l = eqb (bit v) (own_number y l) && (R p (first l) && R r (last l))
  arm_b x (Struct fs) y l = eqb (length fs) (own_number y l) && all_b field_b fs (members_of l)
  arm_b x (Iface ms) y l = eqb (length ms) (own_number y l) && all_b method_b ms (members_of l)
  arm_b x (Named u ms) y l = eqb x.0 (own_number y l)

-- a member of an interface: a method, with an identity that its id tells
abbrev pub Listed : Table → List Member → Type 0
Listed T ms = (m : Member) → In m ms → (stands m.entity (Iface ms) ≡ true) × Proper (identity_of T m)

-- `get_id` tells members apart as `same-id` does
id_same : (a b : Identity) → Proper a → Proper b → same_bytes (id_bytes a) (id_bytes b) ≡ same_id a b
id_same a b pa pb =
    iff-eq (same_bytes (id_bytes a) (id_bytes b)) (same_id a b)
    (λ h. rw (id-injective a b pa pb (same_true (id_bytes a) (id_bytes b) h)) (same_id-self b))
    (λ h. rw (same_id-true a b h) (same_refl (id_bytes b)))

-- methods have no tag and are not embedded
bare : (i : Bool) (a b : Entity) (ms ns : List Member) → stands a (Iface ms) ≡ true → stands b (Iface ns) ≡ true
    → (i && true) && true ≡ (i && beq (is_embedded a) (is_embedded b)) && same_bytes (tag_of a) (tag_of b)
bare i (Field emb tag) b ms ns h k = clash h refl
bare i (Method p) (Field emb tag) ms ns h k = clash k refl
bare i (Method p) (Method q) ms ns h k = refl

module _ (T : Table) (R : TypeKey → TypeKey → Bool) where
  vars-step : (xs ys : List TypeKey) → all_b R xs ys ≡ pairwise R xs ys
  vars-step [] [] = refl
  vars-step [] (y ∷ ys) = refl
  vars-step (x ∷ xs) [] = refl
  vars-step (x ∷ xs) (y ∷ ys) = rw (vars-step xs ys)

  abbrev types_of : List Member → List TypeKey
  types_of ms = map (λ m. m.type) ms

  fields-step : (fs gs : List Member) → all_b (field_b T R) fs gs ≡ alike T fs gs && pairwise R (types_of fs) (types_of gs)
  fields-step [] [] = refl
  fields-step [] (g ∷ gs) = refl
  fields-step (f ∷ fs) [] = refl
  fields-step (f ∷ fs) (g ∷ gs) =
      ap (λ b. field_b T R f g && b) (fields-step fs gs)
      ∙ turned (same_member T f g) (beq (is_embedded f.entity) (is_embedded g.entity)) (same_bytes (tag_of f.entity) (tag_of g.entity)) (alike T fs gs) (R f.type g.type) (pairwise R (types_of fs) (types_of gs))

  methods-from : (ks ls ms ns : List Member) → ((m : Member) → In m ms → (stands m.entity (Iface ks) ≡ true) × Proper (identity_of T m))
      → ((m : Member) → In m ns → (stands m.entity (Iface ls) ≡ true) × Proper (identity_of T m)) → all_b (method_b T R) ms ns ≡ alike T ms ns && pairwise R (types_of ms) (types_of ns)
  methods-from ks ls [] [] p q = refl
  methods-from ks ls [] (n ∷ ns) p q = refl
  methods-from ks ls (m ∷ ms) [] p q = refl
  methods-from ks ls (m ∷ ms) (n ∷ ns) p q =
      let a = p m (inl refl) in
      let b = q n (inl refl) in
      ap₂ (λ i c. (i && R m.type n.type) && c) (id_same (identity_of T m) (identity_of T n) a.1 b.1) (methods-from ks ls ms ns (λ z i. p z (inr i)) (λ z i. q z (inr i)))
      ∙ turned (same_member T m n) true true (alike T ms ns) (R m.type n.type) (pairwise R (types_of ms) (types_of ns))
      ∙ ap (λ c. (c && alike T ms ns) && (R m.type n.type && pairwise R (types_of ms) (types_of ns))) (bare (same_member T m n) m.entity n.entity ks ls a.0 b.0)

  -- ONE TURN IS ONE STEP
  pub arm_step : (x y : TypeKey) (k l : Kind) → SameForm k l → eqb x.0 y.0 ≡ false → (is_iface k ≡ true → Listed T (members_of k)) → (is_iface l ≡ true → Listed T (members_of l))
      → arm_b T R x k y l ≡ step_kinds T R x k y l
  unfolding arm_b own_number parts
  arm_step x y k l basics ne p q = simp and-true
  arm_step x y k l arrays ne p q = simp and-true
  arm_step x y k l slices ne p q = simp and-true
  arm_step x y k l pointers ne p q = simp and-true
  arm_step x y k l maps ne p q = simp and-true
  arm_step x y k l chans ne p q = simp and-true
  arm_step x y k l tuples ne p q = simp (and-true, append-nil, vars-step)
  arm_step x y k l funcs ne p q = simp and-true
  arm_step x y k l (structs {fs = fs} {gs = gs}) ne p q = ap (λ b. eqb (length fs) (length gs) && b) (fields-step fs gs) ∙ sym (and_assoc (eqb (length fs) (length gs)) (alike T fs gs) (pairwise R (types_of fs) (types_of gs)))
  arm_step x y k l (ifaces {ms = ms} {ns = ns}) ne p q =
      ap (λ b. eqb (length ms) (length ns) && b) (methods-from ms ns ms ns (p refl) (q refl)) ∙ sym (and_assoc (eqb (length ms) (length ns)) (alike T ms ns) (pairwise R (types_of ms) (types_of ns)))
  arm_step x y k l nameds ne p q = rw ne

-- ---- what the arms show

module _ (T : Table) (R : TypeKey → TypeKey → Run) where
  -- the recursion shows of a and b what it is asked for, wherever it has come to since d
  abbrev pub Shows : List Pair → TypeKey → TypeKey → Type 0
  Shows d a b = (e : List Pair) → Sub d e → Judged T e (λ n. same_in T n a b) (R a b e)

  guarded : (b : Bool) (r : Run) (B : ℕ → Bool) (d : List Pair) → ((e : List Pair) → Sub d e → Judged T e B (r e)) → Judged T d (λ n. b && B n) ((check b and r) d)
  guarded b r B d h = and-judged T (check b) r (λ n. b) B d (check-judged T b d) h

  later : (d e : List Pair) (a b : TypeKey) → Sub d e → Shows d a b → Shows e a b
  later d e a b s h = λ f t. h f (λ p i. t p (s p i))

  abbrev member : Member → Member → Run
  member f g = identical_impl_o T R (some f.type) (some g.type)

  o-shows : (d : List Pair) (a b : TypeKey) → Shows d a b → Judged T d (λ n. same_in T n a b) (identical_impl_o T R (some a) (some b) d)
  o-shows d a b h = o-judged T R a b d (h d (λ p i. i))

  field-judged : (f g : Member) (d : List Pair) → Shows d f.type g.type → Judged T d (λ n. field_b T (same_in T n) f g) (same_field T R f g d)
  field-judged f g d h =
      let tags = same_bytes (tag_of f.entity) (tag_of g.entity) in
      let ids = same_member T f g in
      guarded (beq (is_embedded f.entity) (is_embedded g.entity)) (check tags and check ids and member f g) (λ n. tags && (ids && same_in T n f.type g.type)) d (λ c r.
      guarded tags (check ids and member f g) (λ n. ids && same_in T n f.type g.type) c (λ e s.
      guarded ids (member f g) (λ n. same_in T n f.type g.type) e (λ w t. o-shows w f.type g.type (later d w f.type g.type (λ p i. t p (s p (r p i))) h))))

  method-judged : (a b : Member) (d : List Pair) → Shows d a.type b.type → Judged T d (λ n. method_b T (same_in T n) a b) (same_method T R a b d)
  method-judged a b d h =
      guarded (same_bytes (id_bytes (identity_of T a)) (id_bytes (identity_of T b))) (member a b) (λ n. same_in T n a.type b.type) d (λ e s. o-shows e a.type b.type (later d e a.type b.type s h))

  pub methods-judged : (ms ns : List Member) (d : List Pair) → ((a b : TypeKey) → In a (map (λ m. m.type) ms) → Shows d a b) → Judged T d (λ n. all_b (method_b T (same_in T n)) ms ns) (all_same (same_method T R) ms ns d)
  methods-judged ms ns d rec =
      all-judged T (same_method T R) (λ a b n. method_b T (same_in T n) a b) ms ns d
      (λ a b i e s. method-judged a b e (later d e a.type b.type s (rec a.type b.type (map-In-to (λ (m : Member). m.type) ms a i))))

  -- AN ARM SHOWS WHAT IT SAYS
  pub arm-judged : (x y : TypeKey) (d : List Pair) (k l : Kind) → is_iface k ≡ false → ((a b : TypeKey) → In a (parts k) → Shows d a b) → Judged T d (λ n. arm_b T (same_in T n) x k y l) (arm T R x k y l d)
  unfolding arm arm_b parts
  arm-judged x y d (Basic k) l ni rec = check-judged T (eqb (real_type k) (own_number y l)) d
  arm-judged x y d (Array m e) l ni rec = guarded (eqb m (own_number y l)) (R e (first l)) (λ n. same_in T n e (first l)) d (rec e (first l) (inl refl))
  arm-judged x y d (Slice e) l ni rec = rec e (first l) (inl refl) d (λ p i. i)
  arm-judged x y d (Pointer e) l ni rec = rec e (first l) (inl refl) d (λ p i. i)
  arm-judged x y d (Map k e) l ni rec =
      and-judged T (R k (first l)) (R e (last l)) (λ n. same_in T n k (first l)) (λ n. same_in T n e (last l)) d (rec k (first l) (inl refl) d (λ p i. i)) (rec e (last l) (inr (inl refl)))
  arm-judged x y d (Chan c e) l ni rec = guarded (eqb (dir_number c) (own_number y l)) (R e (first l)) (λ n. same_in T n e (first l)) d (rec e (first l) (inl refl))
  arm-judged x y d (Tuple es) l ni rec =
      guarded (eqb (length es) (own_number y l)) (all_same (same_var T R) es (refs l)) (λ n. all_b (same_in T n) es (refs l)) d (λ e s.
      all-judged T (same_var T R) (λ a b n. same_in T n a b) es (refs l) e (λ a b i w t. o-shows w a b (later d w a b (λ p j. t p (s p j)) (rec a b (In-append-l es [] a i)))))
  arm-judged x y d (Func v p r) l ni rec =
      guarded (eqb (bit v) (own_number y l)) (R p (first l) and R r (last l)) (λ n. same_in T n p (first l) && same_in T n r (last l)) d (λ e s.
      and-judged T (R p (first l)) (R r (last l)) (λ n. same_in T n p (first l)) (λ n. same_in T n r (last l)) e (rec p (first l) (inl refl) e s) (later d e r (last l) s (rec r (last l) (inr (inl refl)))))
  arm-judged x y d (Struct fs) l ni rec =
      guarded (eqb (length fs) (own_number y l)) (all_same (same_field T R) fs (members_of l)) (λ n. all_b (field_b T (same_in T n)) fs (members_of l)) d (λ e s.
      all-judged T (same_field T R) (λ a b n. field_b T (same_in T n) a b) fs (members_of l) e
      (λ a b i w t. field-judged a b w (later d w a.type b.type (λ p j. t p (s p j)) (rec a.type b.type (map-In-to (λ (m : Member). m.type) fs a i)))))
  arm-judged x y d (Iface ms) l ni rec = clash refl ni
  arm-judged x y d (Named u ms) l ni rec = check-judged T (eqb x.0 (own_number y l)) d
