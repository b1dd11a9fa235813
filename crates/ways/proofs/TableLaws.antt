-- What the laws of walks and ways ask of a graph, for the graph of a table that is sound: its steps stay in the table and ascend by place, identical types
-- embed identical types and have alike members, and no type has two members of one identity.
use mathlib.Core.Path.{◌≡◌, refl, sym, ap, ap₂, ◌∙◌, subst}
use mathlib.Core.Bool.{Bool, true, false, cond, not, ◌&&◌, ◌||◌}
use mathlib.Core.List.{List, [], ◌∷◌, ◌++◌, map, append-nil}
use mathlib.Core.Logic.{inl, inr}
use Prim.Native.Nat.{ℕ, suc, ◌+◌, ◌≤◌, ◌<◌}
use native.Mathlib.Omega.{arith}
use lib.ListN.{length}
use Rattle.objects.specs.Lists.{any, keep, In, Sorted}
use Rattle.objects.proofs.ListLaws.{cases, clash, either, any_append, keep_append, keep-none, any_none, some-In, In-keep, In-map, and_r}
use Rattle.objects.proofs.BoolLaws.{iff-eq}
use Rattle.objects.proofs.PairLaws.{AllPairs}
use Rattle.objects.proofs.KeyLaws.{key-eq, same_key, same_self}
use Rattle.objects.proofs.KindLaws.{if-In, pointer_is, struct_is, named-is, fields-or-methods, under-plain, under-named, bare-plain, bare-pointer}
use Rattle.objects.specs.declared.TypeKey.{TypeKey}
use Rattle.objects.specs.Table.{Table, size, same_type, Entity, Field, Method, Member, is_embedded, Kind, Named, Pointer, Struct, kind_number, is_pointer, is_func, is_struct, is_iface, is_named, members_of, fields_of, declared_of, all_methods_of, all_methods, kind_at, under, bare}
use Rattle.text.specs.Bytes.{is_blank}
use Rattle.rules.specs.Members.{Identity, identity_of, same_id, same_member}
use Rattle.rules.specs.Identity.{identical, own_number, parts}
use Rattle.rules.specs.Load.{stands}
use Rattle.rules.specs.Checks.{member_allowed, may_have}
use Rattle.rules.specs.Sound.{Sound, Apart}
use Rattle.rules.specs.Ways.{Place, Walk, Way, places_from, places_of, owned, field_places, embedded, ways, start}
use Rattle.rules.proofs.MemberLaws.{Alike, same_id-true, same_id-self}
use Rattle.rules.proofs.StepLaws.{Agree}
use Rattle.rules.proofs.IdentityLaws.{identical-self, identical-turn, identical-trans, identical-parts}
use Rattle.ways.specs.Graph as over
use Rattle.ways.specs.Graph.{Step, matching}
use Rattle.ways.specs.Levels.{raw, found}
use Rattle.ways.specs.OfTable.{graph, step_of}
use Rattle.ways.proofs.Merge.{Lawful}
use Rattle.ways.proofs.Same.{Keyed, One, has, hits}
use Rattle.ways.proofs.Bound.{Closed}
use Rattle.ways.proofs.Order.{Before, Sooner, Placed, before-snoc, sorted, long}
use Rattle.ways.proofs.Extra.{Pairs, alike-pairs}
use Rattle.ways.proofs.Bridge.{ways-are}

-- ---- places

pub places-from : (n : ℕ) (ms : List Member) (p : Place) → In p (places_from n ms) → (n ≤ p.place) × In p.member ms
places-from n [] p x' = elim x' [ ]
places-from n (m ∷ ms) p (inl e) = rw e (omega arith, inl refl)
places-from n (m ∷ ms) p (inr i) = let r = places-from (suc n) ms p i in let h = r.0 in (omega arith, inr r.1)

abbrev Nearer : Place → Place → Type 0
Nearer p r = p.place < r.place

places-ascend : (n : ℕ) (ms : List Member) → Sorted Nearer (places_from n ms)
places-ascend n [] = tt
places-ascend n (m ∷ ms) = (λ p i. let h = (places-from (suc n) ms p i).0 in omega arith, places-ascend (suc n) ms)

module _ {A B : Type 0} (R : A → A → Type 0) (S : B → B → Type 0) (f : A → B) where
  sorted-keep-map : ((x y : A) → R x y → S (f x) (f y)) → (p : A → Bool) (l : List A) → Sorted R l → Sorted S (map f (keep p l))
  sorted-keep-map h p [] s = tt
  sorted-keep-map h p (x ∷ l) s = cases (p x) (λ e. rw e (λ y i. later y i, sorted-keep-map h p l s.1)) (λ e. rw e (sorted-keep-map h p l s.1))
    where
      later : (y : B) → In y (map f (keep p l)) → S (f x) y
      later y i = let r = In-map f (keep p l) y i in subst (S (f x)) (sym r.2) (h x r.0 (s.0 r.0 (In-keep p l r.0 r.1).0))

pub placed : (T : Table) → Placed (graph T)
placed T t = sorted-keep-map Nearer (λ (a b : Step). a.place < b.place) (step_of T) (λ x y h. h) (λ p. is_embedded p.member.entity) (field_places T t) (places-ascend 0 (fields_of (kind_at T (under T t))))

-- ---- steps stay in the table

module _ (T : Table) (sound : Sound T) where
  fields_in : (t : TypeKey) (f : Member) → In f (fields_of (kind_at T t)) → In f (members_of (kind_at T t))
  fields_in t f i = (if-In (is_struct (kind_at T t)) (members_of (kind_at T t)) f i).1

  pub base-in : (t e : TypeKey) → kind_at T t ≡ Pointer e → e.0 < size T
  base-in t e h = sound.refers t e (rw h (inl refl))

  pub bare-in : (t : TypeKey) → t.0 < size T → (bare T t).0 < size T
  bare-in t h =
      cases (is_pointer (kind_at T t))
      (λ e. let p = pointer_is (kind_at T t) e in rw (bare-pointer T t p.0 p.1) (base-in t p.0 p.1))
      (λ e. rw (bare-plain T t e) h)

  pub closed : Closed (graph T)
  closed t s h i =
      let p = In-map (step_of T) (embedded T t) s i in
      let f = In-keep (λ (x : Place). is_embedded x.member.entity) (field_places T t) p.0 p.1 in
      let m = places-from 0 (fields_of (kind_at T (under T t))) p.0 f.0 in
      rw p.2 (bare-in p.0.member.type (sound.typed (under T t) p.0.member (fields_in (under T t) p.0.member m.1)))

-- ---- one member of an identity

module _ (T : Table) (q : Identity) where
  -- a member that has the identity asked for
  abbrev hit : Place → Bool
  hit p = same_id (identity_of T p.member) q

  abbrev hit_member : Member → Bool
  hit_member m = same_id (identity_of T m) q

  pub named-alike : (m : Member) → hit_member m ≡ true → m.name ≡ q.name
  unfolding Rattle.rules.specs.Members.identity_of Rattle.rules.specs.Members.identity_from
  named-alike m h = ap (λ (i : Identity). i.name) (same_id-true (identity_of T m) q h)

  -- of two that differ one at most has it
  not-both : (m n : Member) → same_member T n m ≡ false → hit_member m ≡ true → hit_member n ≡ false
  not-both m n d h =
      cases (hit_member n)
      (λ e. clash (subst (λ i. same_id (identity_of T n) i ≡ true) (same_id-true (identity_of T n) q e ∙ sym (same_id-true (identity_of T m) q h)) (same_id-self (identity_of T n))) d)
      (λ e. e)

  places-any : (n : ℕ) (ms : List Member) → any hit (places_from n ms) ≡ any hit_member ms
  places-any n [] = refl
  places-any n (m ∷ ms) = ap (λ b. hit_member m || b) (places-any (suc n) ms)

  one-places : is_blank q.name ≡ false → (n : ℕ) (ms : List Member) → Apart T ms → One (keep hit (places_from n ms))
  one-places nb n [] a = tt
  one-places nb n (m ∷ ms) a =
      cases (hit_member m)
      (λ e. rw (e, keep-none hit (places_from (suc n) ms) (places-any (suc n) ms ∙ any_none hit_member ms (others e))) tt)
      (λ e. rw e (one-places nb (suc n) ms a.1))
    where
      others : hit_member m ≡ true → (x : Member) → In x ms → hit_member x ≡ false
      others e x i =
          cases (hit_member x)
          (λ f. either (a.0 x i) (λ b. clash (ap is_blank (sym (named-alike x f)) ∙ b) nb) (λ d. clash f (not-both m x d e)))
          (λ f. f)

  one-append : (l m : List Place) → One (keep hit l) → One (keep hit m) → (any hit l ≡ true → any hit m ≡ false) → One (keep hit (l ++ m))
  one-append l m a b h =
      cases (any hit l)
      (λ e. rw (keep_append hit l m, keep-none hit m (h e), append-nil (keep hit l)) a)
      (λ e. rw (keep_append hit l m, keep-none hit l e) b)

module _ (T : Table) where
  -- some members of a list, or none of it
  apart_if : (b : Bool) (ms : List Member) → Apart T ms → Apart T (cond b ms [])
  apart_if true ms a = a
  apart_if false ms a = tt

module _ (T : Table) (sound : Sound T) where
  -- "with methods it is neither pointer nor iface": what a named type with a method names
  pub names-neither : (t u : TypeKey) (ms : List Member) (m : Member) → kind_at T t ≡ Named u ms → In m ms → (is_pointer (kind_at T u) ≡ false) × (is_iface (kind_at T u) ≡ false)
  names-neither t u ms m k i =
      go m.entity (subst (λ z. stands m.entity z ≡ true) k (sound.standing t m (rw k i))) (subst (λ z. member_allowed T t z m.type m.entity ≡ true) k (sound.allowed_member t m (rw k i)))
    where
      go : (e : Entity) → stands e (Named u ms) ≡ true → member_allowed T t (Named u ms) m.type e ≡ true → (is_pointer (kind_at T u) ≡ false) × (is_iface (kind_at T u) ≡ false)
      go (Field emb tag) s a = clash s refl
      go (Method ptr) s a = neither (is_pointer (kind_at T u)) (is_iface (kind_at T u)) (and_r (is_func (kind_at T m.type)) (may_have T (Named u ms) ptr) a)
        where
          neither : (p b : Bool) → not (p || b) && true ≡ true → (p ≡ false) × (b ≡ false)
          neither false false h = (refl, refl)
          neither true b h = clash h refl
          neither false true h = clash h refl

  declared-alone : (t : TypeKey) (m : Member) → In m (declared_of (kind_at T t)) → all_methods T t ≡ []
  unfolding all_methods
  declared-alone t m i =
      let d = if-In (is_named (kind_at T t)) (members_of (kind_at T t)) m i in
      let n = named-is (kind_at T t) d.0 in
      let no : is_iface (kind_at T (under T t)) ≡ false = rw (under-named T t n.0 n.1 n.2) (names-neither t n.0 n.1 m n.2 (subst (λ k. In m (members_of k)) n.2 d.1)).1 in
      rw no

  module _ (q : Identity) (t : TypeKey) where
    abbrev declared : List Place
    declared = places_from 0 (declared_of (kind_at T t))

    abbrev methods : List Place
    methods = places_from 0 (all_methods T t)

    hits-declared : any (hit T q) declared ≡ true → (m : Member) × In m (declared_of (kind_at T t)) × (hit_member T q m ≡ true)
    hits-declared h = some-In (hit_member T q) (declared_of (kind_at T t)) (sym (places-any T q 0 (declared_of (kind_at T t))) ∙ h)

    -- a named type's method differs from the fields of its struct
    fields-differ : any (hit T q) declared ≡ true → any (hit T q) (field_places T t) ≡ false
    fields-differ h =
        let r = hits-declared h in
        places-any T q 0 (fields_of (kind_at T (under T t))) ∙ any_none (hit_member T q) (fields_of (kind_at T (under T t))) (λ f i. differs r.0 f r.1 i r.2)
      where
        differs : (m f : Member) → In m (declared_of (kind_at T t)) → In f (fields_of (kind_at T (under T t))) → hit_member T q m ≡ true → hit_member T q f ≡ false
        differs m f i j h = cases (hit_member T q f) (λ e. clash h (not-both T q f m (sound.both t m f i j) e)) (λ e. e)

    methods-differ : any (hit T q) (declared ++ field_places T t) ≡ true → any (hit T q) methods ≡ false
    unfolding all_methods
    methods-differ h =
        cases (any (hit T q) declared)
        (λ e. let r = hits-declared e in ap (λ l. any (hit T q) (places_from 0 l)) (declared-alone t r.0 r.1))
        (λ e. alone (rw (any_append (hit T q) declared (field_places T t), e) at h))
      where
        alone : any (hit T q) (field_places T t) ≡ true → any (hit T q) methods ≡ false
        alone h = either (fields-or-methods (kind_at T (under T t))) (λ e. clash h (ap (λ l. any (hit T q) (places_from 0 l)) e)) (λ e. rw e)

    pub one : is_blank q.name ≡ false → One (matching (graph T) q t)
    unfolding owned all_methods
    one nb =
        one-append T q (declared ++ field_places T t) methods
        (one-append T q declared (field_places T t)
        (one-places T q nb 0 (declared_of (kind_at T t)) (apart_if T (is_named (kind_at T t)) (members_of (kind_at T t)) (sound.apart t)))
        (one-places T q nb 0 (fields_of (kind_at T (under T t))) (apart_if T (is_struct (kind_at T (under T t))) (members_of (kind_at T (under T t))) (sound.apart (under T t))))
        fields-differ)
        (one-places T q nb 0 (all_methods T t) (apart_if T (is_iface (kind_at T (under T t))) (members_of (kind_at T (under T t))) (sound.apart (under T t))))
        methods-differ

-- ---- identical types

module _ (T : Table) (sound : Sound T) where
  both-named : (a b : TypeKey) → Agree T (identical T) a b → is_named (kind_at T b) ≡ true → a ≡ b
  unfolding own_number
  both-named a b g h =
      let m = named-is (kind_at T b) h in
      let l = named-is (kind_at T a) (rw g.kinds h) in
      key-eq a b (ap (own_number a) (sym l.2) ∙ g.owns ∙ ap (own_number b) m.2)

  -- "named types are identical only to themselves"
  pub own : (v u : TypeKey) → is_named (kind_at T u) ≡ true → identical T v u ≡ same_type v u
  own v u h =
      iff-eq (identical T v u) (same_type v u)
      (λ e. subst (λ z. same_type v z ≡ true) (both-named v u ((identical-parts T sound v u).0 e) h) (same_self v))
      (λ e. subst (λ z. identical T v z ≡ true) (same_key v u e) (identical-self T sound v))

  bare-same : (a b : TypeKey) → identical T a b ≡ true → identical T (bare T a) (bare T b) ≡ true
  unfolding parts
  bare-same a b h =
      let g = (identical-parts T sound a b).0 h in
      cases (is_pointer (kind_at T b))
      (λ e.
      let p = pointer_is (kind_at T b) e in
      let r = pointer_is (kind_at T a) (rw g.kinds e) in
      rw (bare-pointer T b p.0 p.1, bare-pointer T a r.0 r.1) (bases (kind_at T a) (kind_at T b) r.0 p.0 r.1 p.1 g.related))
      (λ e. rw (bare-plain T b e, bare-plain T a (rw g.kinds e)) h)
    where
      bases : (k l : Kind) (c d : TypeKey) → k ≡ Pointer c → l ≡ Pointer d → AllPairs (λ x y. identical T x y ≡ true) (parts k) (parts l) → identical T c d ≡ true
      bases k l c d e f r = let s : AllPairs (λ x y. identical T x y ≡ true) (c ∷ []) (d ∷ []) = subst (λ z. AllPairs (λ x y. identical T x y ≡ true) (parts z) (d ∷ [])) e (subst (λ z. AllPairs (λ x y. identical T x y ≡ true) (parts k) (parts z)) f r) in s.0

  steps-pairs : (n r : ℕ) (ms ns : List Member) → AllPairs (Alike T) ms ns → AllPairs (λ x y. identical T x y ≡ true) (map (λ m. m.type) ms) (map (λ m. m.type) ns)
      → Pairs (identical T) (map (step_of T) (keep (λ p. is_embedded p.member.entity) (places_from n ms))) (map (step_of T) (keep (λ p. is_embedded p.member.entity) (places_from r ns)))
  steps-pairs n r [] [] a t = tt
  steps-pairs n r [] (y ∷ ns) a t = absurd a
  steps-pairs n r (x ∷ ms) [] a t = absurd a
  steps-pairs n r (x ∷ ms) (y ∷ ns) a t =
      cases (is_embedded y.entity)
      (λ e. rw (a.0.1 ∙ e, e) (bare-same x.type y.type t.0, steps-pairs (suc n) (suc r) ms ns a.1 t.1))
      (λ e. rw (a.0.1 ∙ e, e) (steps-pairs (suc n) (suc r) ms ns a.1 t.1))

  same-right : (u x y : TypeKey) → identical T x y ≡ true → identical T u x ≡ identical T u y
  same-right u x y e = iff-eq (identical T u x) (identical T u y) (λ h. identical-trans T sound u x y h e) (λ h. identical-trans T sound u y x h (identical-turn T sound x y e))

  struct_parts : (ms : List Member) → parts (Struct ms) ≡ map (λ m. m.type) ms
  unfolding parts
  struct_parts ms = refl

  -- the steps of two structs whose fields are alike and of identical types
  steps_alike : (u : TypeKey) (k l : Kind) → kind_number k ≡ kind_number l → AllPairs (Alike T) (members_of k) (members_of l) → AllPairs (λ x y. identical T x y ≡ true) (parts k) (parts l)
      → any (λ s. identical T u s.target) (map (step_of T) (keep (λ p. is_embedded p.member.entity) (places_from 0 (fields_of k))))
      ≡ any (λ s. identical T u s.target) (map (step_of T) (keep (λ p. is_embedded p.member.entity) (places_from 0 (fields_of l))))
  steps_alike u k l n a r =
      cases (is_struct l)
      (λ e. structs (struct_is k (rw n e)).0 (struct_is l e).0 (struct_is k (rw n e)).1 (struct_is l e).1)
      (λ e. let f : is_struct k ≡ false = rw n e in rw (e, f))
    where
      structs : (ms ns : List Member) → k ≡ Struct ms → l ≡ Struct ns
          → any (λ s. identical T u s.target) (map (step_of T) (keep (λ p. is_embedded p.member.entity) (places_from 0 (fields_of k))))
          ≡ any (λ s. identical T u s.target) (map (step_of T) (keep (λ p. is_embedded p.member.entity) (places_from 0 (fields_of l))))
      structs ms ns e f =
          let b : AllPairs (Alike T) ms ns = rw (e, f) at a in
          let s : AllPairs (λ x y. identical T x y ≡ true) (map (λ m. m.type) ms) (map (λ m. m.type) ns) = rw (e, f, struct_parts ms, struct_parts ns) at r in
          rw (e, f) (alike-pairs (identical T) same-right u (map (step_of T) (keep (λ p. is_embedded p.member.entity) (places_from 0 ms))) (map (step_of T) (keep (λ p. is_embedded p.member.entity) (places_from 0 ns))) (steps-pairs 0 0 ms ns b s))

  pub lawful : Lawful (graph T)
  lawful = record {
    self = identical-self T sound;
    turn = λ a b. iff-eq (identical T a b) (identical T b a) (identical-turn T sound a b) (identical-turn T sound b a);
    chain = λ a b c e. iff-eq (identical T a c) (identical T b c) (λ h. identical-trans T sound b a c (identical-turn T sound a b e) h) (λ h. identical-trans T sound a b c e h);
    alike = λ a b u e. embeds a b u ((identical-parts T sound a b).0 e);
  }
    where
      embeds : (a b u : TypeKey) → Agree T (identical T) a b → any (λ s. identical T u s.target) ((graph T).steps a) ≡ any (λ s. identical T u s.target) ((graph T).steps b)
      embeds a b u g =
          cases (is_named (kind_at T b))
          (λ e. rw (both-named a b g e))
          (λ e. rw (under-plain T a (rw g.kinds e), under-plain T b e) (steps_alike u (kind_at T a) (kind_at T b) g.kinds g.members g.related))

  module _ (q : Identity) where
    alike-any : (ms ns : List Member) → AllPairs (Alike T) ms ns → any (hit_member T q) ms ≡ any (hit_member T q) ns
    alike-any [] [] a = refl
    alike-any [] (n ∷ ns) a = absurd a
    alike-any (m ∷ ms) [] a = absurd a
    alike-any (m ∷ ms) (n ∷ ns) a = ap₂ (λ x y. x || y) (ap (λ i. same_id i q) a.0.0) (alike-any ms ns a.1)

    alike-if : (b : Bool) (ms ns : List Member) → AllPairs (Alike T) ms ns → any (hit_member T q) (cond b ms []) ≡ any (hit_member T q) (cond b ns [])
    alike-if true ms ns a = alike-any ms ns a
    alike-if false ms ns a = refl

    owns : (t : TypeKey) → has (graph T) q t
        ≡ (any (hit_member T q) (declared_of (kind_at T t)) || any (hit_member T q) (fields_of (kind_at T (under T t)))) || any (hit_member T q) (all_methods_of (kind_at T (under T t)))
    unfolding owned all_methods
    owns t =
        rw (
          any_append (hit T q) (places_from 0 (declared_of (kind_at T t)) ++ field_places T t) (places_from 0 (all_methods T t)),
          any_append (hit T q) (places_from 0 (declared_of (kind_at T t))) (field_places T t),
          places-any T q 0 (declared_of (kind_at T t)),
          places-any T q 0 (fields_of (kind_at T (under T t))),
          places-any T q 0 (all_methods_of (kind_at T (under T t))),
        )

    has-alike : (a b : TypeKey) → Agree T (identical T) a b → has (graph T) q a ≡ has (graph T) q b
    has-alike a b g =
        cases (is_named (kind_at T b))
        (λ e. rw (both-named a b g e))
        (λ e. owns a ∙ rw (under-plain T a (rw g.kinds e), under-plain T b e, g.kinds)
        (ap₂ (λ x y. x || y)
        (ap₂ (λ x y. x || y) (alike-if (is_named (kind_at T b)) (members_of (kind_at T a)) (members_of (kind_at T b)) g.members) (alike-if (is_struct (kind_at T b)) (members_of (kind_at T a)) (members_of (kind_at T b)) g.members))
        (alike-if (is_iface (kind_at T b)) (members_of (kind_at T a)) (members_of (kind_at T b)) g.members)) ∙ sym (owns b))

-- ---- what the laws of ways ask for

-- the order of places
abbrev pub Earlier : Way → Way → Type 0
Earlier v w = Before (places_of v) (places_of w)

module _ (T : Table) (sound : Sound T) (q : Identity) (nb : is_blank q.name ≡ false) where
  pub keyed : Keyed (graph T) q
  keyed = record { alike = λ a b e. has-alike T sound q a b ((identical-parts T sound a b).0 e); one = λ t. one T sound q t nb }

  sorted-found : (n : ℕ) (W : List Walk) → ((w : Walk) → In w W → length w.places ≡ n) → Sorted Sooner W
      → Sorted Earlier (map (λ w. found (graph T) q (raw w)) (keep (λ w. has (graph T) q w.at) W))
  sorted-found n [] h s = tt
  sorted-found n (w ∷ W) h s =
      cases (has (graph T) q w.at)
      (λ e. rw e (λ y i. later y i, sorted-found n W (λ v i. h v (inr i)) s.1))
      (λ e. rw e (sorted-found n W (λ v i. h v (inr i)) s.1))
    where
      later : (y : Way) → In y (map (λ w. found (graph T) q (raw w)) (keep (λ w. has (graph T) q w.at) W)) → Earlier (found (graph T) q (raw w)) y
      later y i =
          let r = In-map (λ w. found (graph T) q (raw w)) (keep (λ w. has (graph T) q w.at) W) y i in
          let j = (In-keep (λ w. has (graph T) q w.at) W r.0 r.1).0 in
          rw r.2 (before-snoc w.places r.0.places (found (graph T) q (raw w)).last.place (found (graph T) q (raw r.0)).last.place (h w (inl refl) ∙ sym (h r.0 (inr j))) (s.0 r.0 j))

  -- ways come in the order of their places, no two of the same, from any walk on
  pub ways-ascend : (r0 : Walk) (d : ℕ) → Sorted Earlier (over.ways (graph T) q r0 d)
  ways-ascend r0 d =
      rw (hits (graph T) q (over.walks (graph T) r0 d) keyed)
      (sorted-found (length r0.places + d) (over.walks (graph T) r0 d) (long (graph T) r0 d) (sorted (graph T) (placed T) r0 d))

  -- so does the rules' list
  pub ways-sorted : (t : TypeKey) (d : ℕ) → Sorted Earlier (ways T q t d)
  ways-sorted t d = rw (ways-are T q t d) (ways-ascend (start T t) d)
