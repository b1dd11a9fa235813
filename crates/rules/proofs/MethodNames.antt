-- The names of M: `method_names` strictly ascends by the bytes of the id, and has the identities of the table's methods, each once, and nothing else.
use mathlib.Core.Path.{◌≡◌, refl, sym, subst}
use mathlib.Core.Bool.{true, false}
use mathlib.Core.List.{List, [], ◌∷◌, map}
use mathlib.Core.Logic.{◌⊎◌, inl, inr, ◌↔◌}
use Prim.Native.Nat.{ℕ, zero, suc, ◌<◌}
use native.Mathlib.Omega.{arith}
use native.Mathlib.Decide.{dec_lt}
use lib.ListN.{length, get_or, get_or-eq_default}
use Rattle.objects.specs.Lists.{keep, flat, In, Sorted}
use Rattle.objects.proofs.ListLaws.{cases, clash, either, In-keep, In-map, In-flat, map-In-to, flat-In-to, keep-In-to}
use Rattle.objects.proofs.PartLaws.{get_or-In}
use Rattle.objects.specs.declared.TypeKey.{TypeKey}
use Rattle.objects.specs.Table.{Table, type_key, Member, Kind, Basic, is_method, members_of, kind_at}
use Rattle.text.specs.Bytes.{below_bytes}
use Rattle.text.proofs.ByteLaws.{below-trans, below-connex}
use Rattle.rules.specs.Members.{Identity, identity_of, same_id, id_bytes}
use Rattle.rules.specs.MethodSet.{insert, ascending, method_names}
use Rattle.rules.specs.Sound.{Sound, MemberOf}
use Rattle.rules.proofs.MemberLaws.{same_id-true, same_id-self}
use Rattle.rules.proofs.IdLaws.{Proper, id-injective, member-proper}

-- a comes before b
abbrev pub Lower : Identity → Identity → Type 0
Lower a b = below_bytes (id_bytes a) (id_bytes b) ≡ true

module _ (T : Table) where
  -- ---- one more

  insert-below : (q p : Identity) (ps : List Identity) → below_bytes (id_bytes q) (id_bytes p) ≡ true → insert T q (p ∷ ps) ≡ q ∷ p ∷ ps
  insert-below q p ps e = rw (insert, e)

  insert-same : (q p : Identity) (ps : List Identity) → below_bytes (id_bytes q) (id_bytes p) ≡ false → same_id q p ≡ true → insert T q (p ∷ ps) ≡ p ∷ ps
  insert-same q p ps e s = rw (insert, e, s)

  insert-past : (q p : Identity) (ps : List Identity) → below_bytes (id_bytes q) (id_bytes p) ≡ false → same_id q p ≡ false → insert T q (p ∷ ps) ≡ p ∷ insert T q ps
  insert-past q p ps e s = rw (insert, e, s)

  -- the three cases, for a goal about the list
  cases-insert : (P : List Identity → Type 0) (q p : Identity) (ps : List Identity)
      → (below_bytes (id_bytes q) (id_bytes p) ≡ true → P (q ∷ p ∷ ps))
      → (q ≡ p → P (p ∷ ps))
      → (below_bytes (id_bytes q) (id_bytes p) ≡ false → same_id q p ≡ false → P (p ∷ insert T q ps))
      → P (insert T q (p ∷ ps))
  cases-insert P q p ps a b c =
      cases (below_bytes (id_bytes q) (id_bytes p))
      (λ e. subst P (sym (insert-below q p ps e)) (a e))
      (λ e. cases (same_id q p) (λ s. subst P (sym (insert-same q p ps e s)) (b (same_id-true q p s))) (λ s. subst P (sym (insert-past q p ps e s)) (c e s)))

  inserted : (q : Identity) (ps : List Identity) (x : Identity) → In x (insert T q ps) → (x ≡ q) ⊎ In x ps
  inserted q [] x = λ i. i
  inserted q (p ∷ ps) x = cases-insert (λ l. In x l → (x ≡ q) ⊎ In x (p ∷ ps)) q p ps (λ e i. i) (λ e i. inr i) (λ e s i. past i (inserted q ps x))
    where
      past : (x ≡ p) ⊎ In x (insert T q ps) → (In x (insert T q ps) → (x ≡ q) ⊎ In x ps) → (x ≡ q) ⊎ ((x ≡ p) ⊎ In x ps)
      past (inl e) ih = inr (inl e)
      past (inr i) ih = either (ih i) (λ e. inl e) (λ j. inr (inr j))

  insert-has : (q : Identity) (ps : List Identity) → In q (insert T q ps)
  insert-has q [] = inl refl
  insert-has q (p ∷ ps) = cases-insert (In q) q p ps (λ e. inl refl) (λ e. inl e) (λ e s. inr (insert-has q ps))

  insert-keeps : (q : Identity) (ps : List Identity) (x : Identity) → In x ps → In x (insert T q ps)
  insert-keeps q [] x i = elim i [ ]
  insert-keeps q (p ∷ ps) x i = cases-insert (In x) q p ps (λ e. inr i) (λ e. i) (λ e s. past i (insert-keeps q ps x))
    where
      past : (x ≡ p) ⊎ In x ps → (In x ps → In x (insert T q ps)) → (x ≡ p) ⊎ In x (insert T q ps)
      past (inl e) ih = inl e
      past (inr j) ih = inr (ih j)

  -- ---- in order

  insert-sorted : (q : Identity) (ps : List Identity) → Proper q → ((p : Identity) → In p ps → Proper p) → Sorted Lower ps → Sorted Lower (insert T q ps)
  insert-sorted q [] pq pp s = (λ y i. absurd i, tt)
  insert-sorted q (p ∷ ps) pq pp s =
      cases-insert (Sorted Lower) q p ps
      (λ e. (λ y i. either i (λ f. subst (Lower q) (sym f) e) (λ j. below-trans (id_bytes q) (id_bytes p) (id_bytes y) e (s.0 y j)), s))
      (λ e. s)
      (λ e n. (λ y i. either (inserted q ps y i) (λ f. subst (Lower p) (sym f) (above e n)) (λ j. s.0 y j), insert-sorted q ps pq (λ x j. pp x (inr j)) s.1))
    where
      above : below_bytes (id_bytes q) (id_bytes p) ≡ false → same_id q p ≡ false → Lower p q
      above e n = either (below-connex (id_bytes q) (id_bytes p) e) (λ f. clash (subst (λ x. same_id q x ≡ true) (id-injective q p pq (pp p (inl refl)) f) (same_id-self q)) n) (λ f. f)

  pub ascending-In : (qs : List Identity) (x : Identity) → In x (ascending T qs) ↔ In x qs
  ascending-In [] x = (λ i. i, λ i. i)
  ascending-In (q ∷ qs) x = (
    λ i. either (inserted q (ascending T qs) x i) (λ e. inl e) (λ j. inr ((ascending-In qs x).0 j)),
    λ i. either i (λ e. subst (λ y. In y (insert T q (ascending T qs))) (sym e) (insert-has q (ascending T qs))) (λ j. insert-keeps q (ascending T qs) x ((ascending-In qs x).1 j)),
  )

  pub ascending-sorted : (qs : List Identity) → ((q : Identity) → In q qs → Proper q) → Sorted Lower (ascending T qs)
  ascending-sorted [] h = tt
  ascending-sorted (q ∷ qs) h = insert-sorted q (ascending T qs) (h q (inl refl)) (λ p i. h p (inr ((ascending-In qs p).0 i))) (ascending-sorted qs (λ p i. h p (inr i)))

-- ---- the table's methods

In-get_or : {A : Type 0} (l : List A) (x d : A) → In x l → (n : ℕ) × (n < length l) × (get_or l n d ≡ x)
In-get_or {A = A} [] x d x3 = elim x3 [ ]
In-get_or (y ∷ l) x d (inl e) = (zero, omega arith, sym e)
In-get_or (y ∷ l) x d (inr i) = let r = In-get_or l x d i in let h = r.1 in (suc r.0, omega arith, r.2)

-- the identity of a method that stands under the T line of a type
pub record NamesMethod (T : Table) (q : Identity) : Type 0 where
  pub type : TypeKey
  pub method : Member
  pub stands : MemberOf T type method
  pub is_one : is_method method.entity ≡ true
  pub named : q ≡ identity_of T method

module _ (T : Table) where
  abbrev methods_of : Kind → List Member
  methods_of k = keep (λ m. is_method m.entity) (members_of k)

  abbrev all_names : List Identity
  all_names = flat (λ k. map (identity_of T) (methods_of k)) T.types

  named-there : (q : Identity) → In q all_names → NamesMethod T q
  unfolding kind_at
  named-there q i =
      let k = In-flat (λ k. map (identity_of T) (methods_of k)) T.types q i in
      let n = In-get_or T.types k.0 (Basic 0) k.1 in
      let m = In-map (identity_of T) (methods_of k.0) q k.2 in
      let s = In-keep (λ (x : Member). is_method x.entity) (members_of k.0) m.0 m.1 in
      record { type = type_key n.0; method = m.0; stands = subst (λ k. In m.0 (members_of k)) (sym n.2) s.0; is_one = s.1; named = m.2 }

  named_back : (q : Identity) → NamesMethod T q → In q all_names
  unfolding kind_at
  named_back q h = elim (dec_lt h.type.0 (length T.types)) [
    | yes l ↦ flat-In-to (λ k. map (identity_of T) (methods_of k)) T.types (kind_at T h.type) q (get_or-In T.types h.type.0 (Basic 0) l)
        (subst (λ x. In x (map (identity_of T) (methods_of (kind_at T h.type)))) (sym h.named) (map-In-to (identity_of T) (methods_of (kind_at T h.type)) h.method (keep-In-to (λ (x : Member). is_method x.entity) (members_of (kind_at T h.type)) h.method h.stands h.is_one)))
    | no g ↦ absurd (subst (λ k. In h.method (members_of k)) (get_or-eq_default T.types (Basic 0) {n = h.type.0} (omega arith)) h.stands)
  ]

  -- THE NAMES ARE THE METHODS' IDENTITIES
  pub names-listed : (q : Identity) → In q (method_names T) ↔ NamesMethod T q
  unfolding method_names
  names-listed q = (λ i. named-there q ((ascending-In T all_names q).0 i), λ h. (ascending-In T all_names q).1 (named_back q h))

  -- AND ASCEND STRICTLY BY THE BYTES OF THE ID, so each is there once
  pub names-ascend : Sound T → Sorted Lower (method_names T)
  unfolding method_names
  names-ascend sound = ascending-sorted T all_names (λ q i. let h = named-there q i in subst Proper (sym h.named) (member-proper T sound h.type h.method h.stands))
