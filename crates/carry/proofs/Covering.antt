-- A table whose every type comes from a sound table by a map of tables is sound, if its counts, numbers and packages are in order: refusals 4, 5 and 7 to 10 of its lines are those
-- of the old ones.
use mathlib.Core.Path.{◌≡◌, refl, sym, ap, ap₂, ◌∙◌}
use mathlib.Core.Bool.{Bool, true, false, cond, not, ◌&&◌, ◌||◌}
use mathlib.Core.List.{List, [], ◌∷◌, map}
use mathlib.Core.Logic.{◌⊎◌, inl, inr}
use Prim.Native.Nat.{ℕ, ◌≤◌, ◌<◌}
use lib.Dec.{eqb, ltb}
use lib.ListN.{length}
use borrow.Author.Tests.{eqb-true, ltb-true, lt-ltb}
use Rattle.objects.specs.Bounds.{max_per_type}
use Rattle.objects.specs.Lists.{any, every, head_or, last_of, In, Sorted}
use Rattle.objects.proofs.ListLaws.{cases, either, and_l, and_r, In-map, any-map, any-In-ext}
use Rattle.objects.proofs.BoolLaws.{and_i, and_yes}
use Rattle.objects.proofs.PairLaws.{AllPairs, pairs-left, pairs-long}
use Rattle.objects.specs.declared.TypeKey.{TypeKey}
use Rattle.objects.specs.declared.PackageKey.{PackageKey}
use Rattle.objects.specs.Table.{Table, size, bit, Entity, Field, Method, Member, is_method, tag_of, Kind, Basic, Array, Slice, Pointer, Map, Chan, Tuple, Func, Struct, Iface, Named}
use Rattle.objects.specs.Table.{kind_number, is_slice, is_pointer, is_tuple, is_func, is_iface, is_named, refs, members_of, fields_of, declared_of, all_methods_of, kind_at, under, bare}
use Rattle.text.specs.Bytes.{is_name, is_blank, is_tag, below_bytes}
use Rattle.rules.specs.Members.{Identity, identity_of, identity_from, id_bytes, same_id, same_member}
use Rattle.rules.specs.Identity.{own_number}
use Rattle.rules.specs.Load.{stands}
use Rattle.rules.specs.Checks.{may_refer, smaller_tuple, ends_in_slice, may_name, type_allowed, may_embed, may_have, member_allowed}
use Rattle.rules.specs.Sound.{Sound, MemberOf, Apart, Lower}
use Rattle.carry.specs.Maps.{CarriedMember, Likeness, Maps}
use Rattle.carry.proofs.Pairing.{graph-pairs}
use Rattle.carry.proofs.Lines.{own-kept, kind-kept, members_kept, under-kept, bare-kept, pointer-kept, iface-kept, named-pointer-kept, fields-kept}
use Rattle.carry.proofs.Carried.{Becomes, map-likens}

-- u of U is what a type of a sound table becomes, and what came before that type comes before u
pub record Comes (U : Table) (u : TypeKey) : Type 0 where
  pub old : Table
  pub types : TypeKey → TypeKey
  pub packages : PackageKey → PackageKey
  pub sound : Sound old
  pub maps : Maps types packages old U
  pub at : TypeKey
  pub inside : at.0 < size old
  pub is : types at ≡ u
  pub order : (e : TypeKey) → e.0 < at.0 → (types e).0 < u.0

-- ---- what refusal 8 asks of a T line, by what is kept of it

module _ (T : Table) (t : TypeKey) where
  abbrev allowed_by : (kind own : ℕ) → List TypeKey → Bool
  allowed_by kind own refers =
      cond (eqb kind 7) (every (smaller_tuple T t) refers && (not (eqb own 1) || ends_in_slice T (head_or t refers)))
      (cond (eqb kind 10) (every (may_name T) refers)
      (every (may_refer T t) refers))

  allowed-by : (k : Kind) → type_allowed T t k ≡ allowed_by (kind_number k) (own_number t k) (refs k)
  unfolding own_number
  allowed-by (Basic k) = refl
  allowed-by (Array n e) = sym (and_yes (may_refer T t e))
  allowed-by (Slice e) = sym (and_yes (may_refer T t e))
  allowed-by (Pointer e) = sym (and_yes (may_refer T t e))
  allowed-by (Map k e) = ap (λ b. may_refer T t k && b) (sym (and_yes (may_refer T t e)))
  allowed-by (Chan d e) = sym (and_yes (may_refer T t e))
  allowed-by (Tuple es) = refl
  allowed-by (Func v p r) = ap₂ (λ a b. (smaller_tuple T t p && a) && (not b || ends_in_slice T p)) (sym (and_yes (smaller_tuple T t r))) (bit-one v)
    where
      bit-one : (b : Bool) → b ≡ eqb (bit b) 1
      bit-one true = refl
      bit-one false = refl
  allowed-by (Struct ms) = refl
  allowed-by (Iface ms) = refl
  allowed-by (Named u ms) = sym (and_yes (may_name T u))

-- ---- lists

every-on : {A B : Type 0} (f : A → B) (p : A → Bool) (q : B → Bool) (l : List A) → ((x : A) → In x l → p x ≡ true → q (f x) ≡ true) → every p l ≡ true → every q (map f l) ≡ true
every-on f p q [] h e = refl
every-on f p q (x ∷ l) h e = and_i (h x (inl refl) (and_l (p x) (every p l) e)) (every-on f p q l (λ y i. h y (inr i)) (and_r (p x) (every p l) e))

last-map : {A B : Type 0} (f : A → B) (l : List A) → last_of (map f l) ≡ map f (last_of l)
last-map f [] = refl
last-map f (x ∷ []) = refl
last-map f (x ∷ y ∷ l) = last-map f (y ∷ l)

last-In : {A : Type 0} (l : List A) (x : A) → In x (last_of l) → In x l
last-In {A = A} [] x i = elim i [ ]
last-In (y ∷ []) x i = i
last-In (y ∷ z ∷ l) x i = inr (last-In (z ∷ l) x i)

head-In : {A : Type 0} (P : A → Type 0) (d : A) (l : List A) → P d → ((x : A) → In x l → P x) → P (head_or d l)
head-In P d [] pd h = pd
head-In P d (x ∷ l) pd h = h x (inl refl)

head-map : {A B : Type 0} (f : A → B) (d : A) (l : List A) → head_or (f d) (map f l) ≡ f (head_or d l)
head-map f d [] = refl
head-map f d (x ∷ l) = refl

-- an order that is kept place by place
sorted-on : {A : Type 0} (P : A → A → Type 0) (R S : A → A → Type 0) → ((x y z w : A) → P x y → P z w → R x z → S y w) → (l m : List A) → AllPairs P l m → Sorted R l → Sorted S m
sorted-on P R S h [] [] a s = tt
sorted-on P R S h [] (y ∷ m) a s = absurd a
sorted-on P R S h (x ∷ l) [] a s = absurd a
sorted-on P R S h (x ∷ l) (y ∷ m) a s = (λ w i. let r = pairs-left P l m a.1 w i in h x y r.0 w a.0 r.2 (s.0 r.0 r.1), sorted-on P R S h l m a.1 s.1)

-- ---- one type

module _ (f : TypeKey → TypeKey) (p : PackageKey → PackageKey) (T U : Table) (sound : Sound T) (g : Maps f p T U) (t : TypeKey) (h : t.0 < size T)
    (order : (e : TypeKey) → e.0 < t.0 → (f e).0 < (f t).0) where
  abbrev R : TypeKey → TypeKey → Type 0
  R = Becomes f p T U sound g

  alike : Likeness R T U
  alike = map-likens f p T U sound g

  at : R t (f t)
  at = (h, refl)

  refs-kept : (e : TypeKey) → e.0 < size T → refs (kind_at U (f e)) ≡ map f (refs (kind_at T e))
  refs-kept e he = graph-pairs f (refs (kind_at T e)) (refs (kind_at U (f e))) (g.line e he).refers

  -- the member that n was, and what it says
  was : (n : Member) → MemberOf U (f t) n → (m : Member) × MemberOf T t m × CarriedMember R T U m n
  was n i = pairs-left (CarriedMember R T U) (members_of (kind_at T t)) (members_of (kind_at U (f t))) (members_kept R T U alike t (f t) at) n i

  name-same : (m n : Member) → CarriedMember R T U m n → n.name ≡ m.name
  unfolding identity_of identity_from
  name-same m n c = ap (λ (i : Identity). i.name) c.identity

  sort-kept : (i : ℕ) (e : TypeKey) → e.0 < size T → eqb (kind_number (kind_at U (f e))) i ≡ eqb (kind_number (kind_at T e)) i
  sort-kept i e he = ap (λ z. eqb z i) (kind-kept R T U alike e (f e) (he, refl))

  refer-kept : (e : TypeKey) → e.0 < size T → may_refer T t e ≡ true → may_refer U (f t) (f e) ≡ true
  refer-kept e he r =
      and_i (ap not (sort-kept 6 e he) ∙ and_l (not (is_tuple (kind_at T e))) (ltb e.0 t.0 || is_named (kind_at T e) || is_iface (kind_at T e)) r)
      (cases (ltb e.0 t.0)
      (λ z. rw (lt-ltb (f e).0 (f t).0 (order e (ltb-true e.0 t.0 z))))
      (λ z. rw (sort-kept 10 e he, sort-kept 9 e he)
      (more (ltb (f e).0 (f t).0) (is_named (kind_at T e)) (is_iface (kind_at T e))
      (rw z at (and_r (not (is_tuple (kind_at T e))) (ltb e.0 t.0 || is_named (kind_at T e) || is_iface (kind_at T e)) r)))))
    where
      more : (a b c : Bool) → b || c ≡ true → a || b || c ≡ true
      more true b c z = refl
      more false b c z = z

  tuple-kept : (e : TypeKey) → e.0 < size T → smaller_tuple T t e ≡ true → smaller_tuple U (f t) (f e) ≡ true
  tuple-kept e he r =
      and_i (sort-kept 6 e he ∙ and_l (is_tuple (kind_at T e)) (ltb e.0 t.0) r) (lt-ltb (f e).0 (f t).0 (order e (ltb-true e.0 t.0 (and_r (is_tuple (kind_at T e)) (ltb e.0 t.0) r))))

  name-kept : (e : TypeKey) → e.0 < size T → may_name U (f e) ≡ may_name T e
  name-kept e he = ap₂ (λ a b. not (a || b)) (sort-kept 10 e he) (sort-kept 6 e he)

  slice_kept : (e : TypeKey) → e.0 < size T → ends_in_slice U (f e) ≡ ends_in_slice T e
  slice_kept e he =
      ap (λ l. any (λ x. is_slice (kind_at U x)) (last_of l)) (refs-kept e he)
      ∙ ap (any (λ x. is_slice (kind_at U x))) (last-map f (refs (kind_at T e)))
      ∙ any-map (λ x. is_slice (kind_at U x)) f (last_of (refs (kind_at T e)))
      ∙ any-In-ext (λ x. is_slice (kind_at U (f x))) (λ x. is_slice (kind_at T x)) (last_of (refs (kind_at T e))) (λ x i. sort-kept 2 x (sound.refers e x (last-In (refs (kind_at T e)) x i)))

  pub allowed-kept : type_allowed U (f t) (kind_at U (f t)) ≡ true
  allowed-kept = allowed-by U (f t) (kind_at U (f t)) ∙ rw ((g.line t h).kind, refs-kept t h) (go (sym (allowed-by T t (kind_at T t)) ∙ sound.allowed t))
    where
      go : allowed_by T t (kind_number (kind_at T t)) (own_number t (kind_at T t)) (refs (kind_at T t)) ≡ true
          → allowed_by U (f t) (kind_number (kind_at T t)) (own_number (f t) (kind_at U (f t))) (map f (refs (kind_at T t))) ≡ true
      go a =
          cases (eqb (kind_number (kind_at T t)) 7)
          (λ e. let b : every (smaller_tuple T t) (refs (kind_at T t)) && (not (eqb (own_number t (kind_at T t)) 1) || ends_in_slice T (head_or t (refs (kind_at T t)))) ≡ true = rw e at a in
          rw e
          (and_i
          (every-on f (smaller_tuple T t) (smaller_tuple U (f t)) (refs (kind_at T t)) (λ x i z. tuple-kept x (sound.refers t x i) z)
          (and_l (every (smaller_tuple T t) (refs (kind_at T t))) _ b))
          (ap₂ (λ n x. not (eqb n 1) || x) (own-kept R T U alike t (f t) at (ap (λ z. eqb z 10) (eqb-true (kind_number (kind_at T t)) 7 e)))
          (ap (ends_in_slice U) (head-map f t (refs (kind_at T t)))
          ∙ slice_kept (head_or t (refs (kind_at T t))) (head-In (λ x. x.0 < size T) t (refs (kind_at T t)) h (sound.refers t)))
          ∙ and_r (every (smaller_tuple T t) (refs (kind_at T t))) _ b)))
          (λ e. cases (eqb (kind_number (kind_at T t)) 10)
          (λ n. rw (e, n) (every-on f (may_name T) (may_name U) (refs (kind_at T t)) (λ x i z. name-kept x (sound.refers t x i) ∙ z) (rw (e, n) at a)))
          (λ n. rw (e, n) (every-on f (may_refer T t) (may_refer U (f t)) (refs (kind_at T t)) (λ x i z. refer-kept x (sound.refers t x i) z) (rw (e, n) at a))))

  embed-kept : (e : TypeKey) → e.0 < size T → may_embed U (f e) ≡ may_embed T e
  embed-kept e he =
      let r : R e (f e) = (he, refl) in
      let b = bare-kept R T U alike e (f e) r in
      ap₂ (λ a z. not a && not z) (named-pointer-kept R T U alike e (f e) r) (ap₂ (λ a z. a && z) (pointer-kept R T U alike e (f e) r)
      (ap₂ (λ a z. a || z) (pointer-kept R T U alike (under T (bare T e)) (under U (bare U (f e))) (under-kept R T U alike (bare T e) (bare U (f e)) b))
      (iface-kept R T U alike (bare T e) (bare U (f e)) b)))

  have-kept : (ptr : Bool) → may_have T (kind_at T t) ptr ≡ true → may_have U (kind_at U (f t)) ptr ≡ true
  have-kept ptr a =
      cases (is_iface (kind_at T t))
      (λ e. rw (sort-kept 9 t h, e) (rw e at a))
      (λ e. rw (sort-kept 9 t h, e, refs-kept t h)
      (every-on f (λ u. not (is_pointer (kind_at T u) || is_iface (kind_at T u))) (λ u. not (is_pointer (kind_at U u) || is_iface (kind_at U u))) (refs (kind_at T t))
      (λ x i z. ap₂ (λ a b. not (a || b)) (sort-kept 3 x (sound.refers t x i)) (sort-kept 9 x (sound.refers t x i)) ∙ z) (rw e at a)))

  member-allowed : (m n : Member) → MemberOf T t m → CarriedMember R T U m n → member_allowed U (f t) (kind_at U (f t)) n.type n.entity ≡ true
  member-allowed m n i c = rw (c.type.1, c.entity) (go m.entity (sound.allowed_member t m i))
    where
      he : m.type.0 < size T
      he = sound.typed t m i

      go : (x : Entity) → member_allowed T t (kind_at T t) m.type x ≡ true → member_allowed U (f t) (kind_at U (f t)) (f m.type) x ≡ true
      go (Field emb tag) a =
          and_i (refer-kept m.type he (and_l (may_refer T t m.type) (not emb || may_embed T m.type) a))
          (ap (λ z. not emb || z) (embed-kept m.type he) ∙ and_r (may_refer T t m.type) (not emb || may_embed T m.type) a)
      go (Method ptr) a =
          and_i (sort-kept 7 m.type he ∙ and_l (is_func (kind_at T m.type)) (may_have T (kind_at T t) ptr) a) (have-kept ptr (and_r (is_func (kind_at T m.type)) (may_have T (kind_at T t) ptr) a))

  stands-kept : (x : Entity) → stands x (kind_at U (f t)) ≡ stands x (kind_at T t)
  stands-kept (Field emb tag) = sort-kept 8 t h
  stands-kept (Method ptr) = ap₂ (λ a b. a || b) (sort-kept 10 t h) (sort-kept 9 t h)

  -- members of one identity
  same_kept : (m n o r : Member) → CarriedMember R T U m n → CarriedMember R T U o r → same_member U n r ≡ same_member T m o
  same_kept m n o r c d = ap₂ same_id c.identity d.identity

  pub apart-kept : Apart U (members_of (kind_at U (f t)))
  apart-kept =
      sorted-on (CarriedMember R T U) (λ m o. (is_blank o.name ≡ true) ⊎ (same_member T o m ≡ false)) (λ n r. (is_blank r.name ≡ true) ⊎ (same_member U r n ≡ false))
      (λ m n o r c d z. either z (λ b. inl (ap is_blank (name-same o r d) ∙ b)) (λ b. inr (same_kept o r m n d c ∙ b))) (members_of (kind_at T t))
      (members_of (kind_at U (f t))) (members_kept R T U alike t (f t) at) (sound.apart t)

  pub ascend-kept : Sorted (Lower U) (all_methods_of (kind_at U (f t)))
  ascend-kept =
      sorted-on (CarriedMember R T U) (Lower T) (Lower U) (λ m n o r c d z. ap₂ (λ a b. below_bytes (id_bytes a) (id_bytes b)) c.identity d.identity ∙ z)
      (all_methods_of (kind_at T t)) (all_methods_of (kind_at U (f t))) (alike.line t (f t) at).methods (sound.ascend t)

  pub both-kept : (n r : Member) → In n (declared_of (kind_at U (f t))) → In r (fields_of (kind_at U (under U (f t)))) → same_member U n r ≡ false
  both-kept n r i j =
      let m = pairs-left (CarriedMember R T U) (declared_of (kind_at T t)) (declared_of (kind_at U (f t))) (alike.line t (f t) at).declared n i in
      let o = pairs-left (CarriedMember R T U) (fields_of (kind_at T (under T t))) (fields_of (kind_at U (under U (f t)))) (fields-kept R T U alike t (f t) at) r j in
      same_kept m.0 n o.0 r m.2 o.2 ∙ sound.both t m.0 o.0 m.1 o.1

  -- ---- what refusals 4, 5 and 7 ask of its members, and its numbers

  pub record Line (n : Member) : Type 0 where
    pub name : is_name n.name ≡ true
    pub method_named : is_method n.entity ≡ true → is_blank n.name ≡ false
    pub tag : (tag_of n.entity ≡ []) ⊎ (is_tag (tag_of n.entity) ≡ true)
    pub stand : stands n.entity (kind_at U (f t)) ≡ true
    pub typed : n.type.0 < size U
    pub allowed : member_allowed U (f t) (kind_at U (f t)) n.type n.entity ≡ true

  pub line_kept : (n : Member) → MemberOf U (f t) n → Line n
  line_kept n i =
      let w = was n i in
      let m = w.0 in
      let c = w.2 in
      record {
        name = ap is_name (name-same m n c) ∙ sound.names t m w.1;
        method_named = λ e. ap is_blank (name-same m n c) ∙ sound.method_named t m w.1 (sym (ap is_method c.entity) ∙ e);
        tag = rw c.entity (sound.tags t m w.1);
        stand = stands-kept n.entity ∙ ap (λ x. stands x (kind_at T t)) c.entity ∙ sound.standing t m w.1;
        typed = rw c.type.1 (g.type_in m.type (sound.typed t m w.1));
        allowed = member-allowed m n w.1 c;
      }

  pub refers-kept : (e : TypeKey) → In e (refs (kind_at U (f t))) → e.0 < size U
  refers-kept e i = let r = In-map f (refs (kind_at T t)) e (rw (refs-kept t h) at i) in rw r.2 (g.type_in r.0 (sound.refers t r.0 r.1))

  pub few-kept : length (members_of (kind_at U (f t))) ≤ max_per_type
  few-kept = rw (← pairs-long (CarriedMember R T U) (members_of (kind_at T t)) (members_of (kind_at U (f t))) (members_kept R T U alike t (f t) at)) (sound.few_per_type t)
