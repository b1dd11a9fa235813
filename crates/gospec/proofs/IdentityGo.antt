-- IDENTITY IS GO'S: `identical` is false exactly for what the Go specification calls different, and true exactly for what it calls identical.
use mathlib.Core.Path.{◌≡◌, refl, sym, ap, ◌∙◌, subst}
use mathlib.Core.Bool.{true, false}
use mathlib.Core.List.{List, [], append-nil}
use mathlib.Core.Logic.{◌⊎◌, inl, inr, ◌↔◌}
use lib.Dec.{eqb}
use borrow.Author.Tests.{eqb-true, eqb-false, not-true, not-false}
use Rattle.objects.specs.Lists.{In, Sorted}
use Rattle.objects.specs.declared.TypeKey.{TypeKey}
use Rattle.objects.specs.Table.{Table, dir_number, bit, Entity, Field, Method, is_embedded, tag_of, Member, Kind, Struct, Iface, kind_number, members_of, all_methods_of, kind_at}
use Rattle.objects.proofs.ListLaws.{cases, clash, either}
use Rattle.objects.proofs.PairLaws.{AllPairs, pairs-map, pairs-self, pairs-long}
use Rattle.objects.proofs.KeyLaws.{key-eq}
use Rattle.rules.specs.Members.{identity_of, same_member}
use Rattle.rules.specs.Chains.{Chain, here, there}
use Rattle.rules.specs.Identity.{own_number, parts, Pair, corresponding, alike, mismatched, mismatch, pair_parts, identical}
use Rattle.rules.specs.Load.{stands}
use Rattle.rules.specs.Sound.{Sound, Lower}
use Rattle.rules.proofs.MemberLaws.{same_id-true, same_id-eq, Alike, alike-join}
use Rattle.rules.proofs.StepLaws.{matched}
use Rattle.rules.proofs.AscendLaws.{SameIdentity, lacking-or, aligned}
use Rattle.rules.proofs.IdentityLaws.{pair, identical-chain}
use Rattle.gospec.specs.Go.{SameForm, basics, arrays, slices, pointers, maps, chans, tuples, funcs, structs, ifaces, nameds, Different, names, predeclared, forms, array-elements, array-lengths, slice-elements, struct-counts, struct-embedding, struct-names, struct-types, struct-tags, pointer-bases, func-parameters, func-results, func-variadic, tuple-counts, tuple-types, iface-lacks, iface-adds, iface-types, map_keys, map-elements, chan-elements, chan-directions, Identical}
use Rattle.gospec.specs.Fields.{FieldsDiffer, counts, embedded-marks, tags}
use Rattle.gospec.specs.Fields as fields
use Rattle.gospec.proofs.Forms.{form-number, number-form}
use Rattle.gospec.proofs.Names.{names-differ, same_names}
use Rattle.gospec.proofs.Places.{At-In, pairs-at, corr-at, members-at}
use Rattle.gospec.proofs.FieldsGo.{fields-differ}
use Rattle.gospec.proofs.DifferentLaws.{basic-real, different-false}

-- a method is not embedded and has no tag
plain : (e : Entity) (ms : List Member) → stands e (Iface ms) ≡ true → (is_embedded e ≡ false) × (tag_of e ≡ [])
plain (Field emb tag) ms h = clash h refl
plain (Method ptr) ms h = (refl, refl)

module _ (T : Table) (s : Sound T) where
  ascending : (x : TypeKey) (ms : List Member) → kind_at T x ≡ Iface ms → Sorted (Lower T) ms
  ascending x ms p = subst (λ (k : Kind). Sorted (Lower T) (all_methods_of k)) p (s.ascend x)

  -- two interfaces: one has a method that the other lacks, or they stand side by side, alike
  iface-or : (x y : TypeKey) (ms ns : List Member) → kind_at T x ≡ Iface ms → kind_at T y ≡ Iface ns → Different T x y ⊎ AllPairs (Alike T) ms ns
  iface-or x y ms ns p q =
      either (lacking-or T ms ns)
      (λ r. inl (iface-lacks r.0 p q r.1 (λ n i. names-differ T r.0 n (r.2 n i))))
      (λ f. either (lacking-or T ns ms)
      (λ r. inl (iface-adds r.0 p q r.1 (λ m i. names-differ T m r.0 (turn m r.0 (r.2 m i)))))
      (λ g. inr (pairs-map (SameIdentity T) (Alike T) ms ns (λ m n i j e. let a = like m n i j in (e, a.0, a.1)) (aligned T ms ns (ascending x ms p) (ascending y ns q) f g))))
    where
      turn : (m n : Member) → same_member T n m ≡ false → same_member T m n ≡ false
      turn m n h = cases (same_member T m n) (λ e. clash (same_id-eq (identity_of T n) (identity_of T m) (sym (same_id-true (identity_of T m) (identity_of T n) e))) h) (λ e. e)

      like : (m n : Member) → In m ms → In n ns → (is_embedded m.entity ≡ is_embedded n.entity) × (tag_of m.entity ≡ tag_of n.entity)
      like m n i j =
          let a = plain m.entity ms (let h = s.standing x m (rw p i) in rw p at h) in
          let b = plain n.entity ns (let h = s.standing y n (rw q j) in rw q at h) in
          (a.0 ∙ sym b.0, a.1 ∙ sym b.1)

  -- ---- a mismatch is a difference

  owns-differ : (x y : TypeKey) (k l : Kind) → kind_at T x ≡ k → kind_at T y ≡ l → SameForm k l → (own_number x k ≡ own_number y l → ⊥) → Different T x y
  unfolding own_number
  owns-differ x y k l p q (basics {j = i} {k = j}) h = predeclared p q (λ b. h (basic-real i j b))
  owns-differ x y k l p q arrays h = array-lengths p q h
  owns-differ x y k l p q slices h = absurd (h refl)
  owns-differ x y k l p q pointers h = absurd (h refl)
  owns-differ x y k l p q maps h = absurd (h refl)
  owns-differ x y k l p q chans h = chan-directions p q (λ e. h (ap dir_number e))
  owns-differ x y k l p q tuples h = tuple-counts p q h
  owns-differ x y k l p q funcs h = func-variadic p q (λ e. h (ap bit e))
  owns-differ x y k l p q structs h = struct-counts p q h
  owns-differ x y k l p q (ifaces {ms = ms} {ns = ns}) h = either (iface-or x y ms ns p q) (λ d. d) (λ a. absurd (h (pairs-long (Alike T) ms ns a)))
  owns-differ x y k l p q nameds h = names p q (λ e. h (ap (λ (t : TypeKey). t.0) e))

  struct_fields : (x y : TypeKey) (fs gs : List Member) → kind_at T x ≡ Struct fs → kind_at T y ≡ Struct gs → FieldsDiffer T fs gs → Different T x y
  struct_fields x y fs gs p q (counts h) = struct-counts p q h
  struct_fields x y fs gs p q (embedded-marks f g i j h) = struct-embedding f g p q i j h
  struct_fields x y fs gs p q (fields.names f g i j h) = struct-names f g p q i j h
  struct_fields x y fs gs p q (tags f g i j h) = struct-tags f g p q i j h

  members-differ : (x y : TypeKey) (k l : Kind) → kind_at T x ≡ k → kind_at T y ≡ l → SameForm k l → own_number x k ≡ own_number y l → alike T (members_of k) (members_of l) ≡ false → Different T x y
  unfolding own_number
  members-differ x y k l p q basics e h = clash refl h
  members-differ x y k l p q arrays e h = clash refl h
  members-differ x y k l p q slices e h = clash refl h
  members-differ x y k l p q pointers e h = clash refl h
  members-differ x y k l p q maps e h = clash refl h
  members-differ x y k l p q chans e h = clash refl h
  members-differ x y k l p q tuples e h = clash refl h
  members-differ x y k l p q funcs e h = clash refl h
  members-differ x y k l p q (structs {fs = fs} {gs = gs}) e h = struct_fields x y fs gs p q (fields-differ T fs gs e h)
  members-differ x y k l p q (ifaces {ms = ms} {ns = ns}) e h = either (iface-or x y ms ns p q) (λ d. d) (λ a. clash (alike-join T ms ns a) h)
  members-differ x y k l p q (nameds {ms = ms} {ns = ns}) e h =
      let f : ms ≡ ns = ap members_of (sym p ∙ ap (kind_at T) (key-eq x y e) ∙ q) in
      clash (alike-join T ms ns (rw f (pairs-self (Alike T) ns (λ m i. (refl, refl, refl))))) h

  mismatch-kinds : (x y : TypeKey) (k l : Kind) → kind_at T x ≡ k → kind_at T y ≡ l → mismatched T x k y l ≡ true → Different T x y
  mismatch-kinds x y k l p q h =
      cases (eqb (kind_number k) (kind_number l))
      (λ e.
      let f = number-form k l (eqb-true (kind_number k) (kind_number l) e) in
      cases (eqb (own_number x k) (own_number y l))
      (λ o. members-differ x y k l p q f (eqb-true (own_number x k) (own_number y l) o) (not-true (alike T (members_of k) (members_of l)) (rw (e, o) at h)))
      (λ o. owns-differ x y k l p q f (eqb-false (own_number x k) (own_number y l) o)))
      (λ e. forms (λ f. eqb-false (kind_number k) (kind_number l) e (form-number k l (rw (p, q) at f))))

  -- ---- different parts make a difference

  moved : {a b c d : TypeKey} → a ≡ b → c ≡ d → Different T a c → Different T b d
  moved e f h = rw (← e, ← f) h

  parts-differ : (x y : TypeKey) (k l : Kind) (z : Pair) → kind_at T x ≡ k → kind_at T y ≡ l → SameForm k l → AllPairs (Alike T) (members_of k) (members_of l)
      → In z (corresponding (parts k) (parts l)) → Different T z.left z.right → Different T x y
  unfolding parts
  parts-differ x y k l z p q basics a i d = absurd i
  parts-differ x y _ _ z p q (arrays {n = n} {m = m} {e = e} {f = f}) a (inr x7) d = elim x7 [ ]
  parts-differ x y _ _ z p q (slices {e = e} {f = f}) a (inr x8) d = elim x8 [ ]
  parts-differ x y _ _ z p q (pointers {e = e} {f = f}) a (inr x9) d = elim x9 [ ]
  parts-differ x y _ _ z p q (maps {j = j} {e = e} {k = k} {f = f}) a (inr (inr x11)) d = elim x11 [ ]
  parts-differ x y _ _ z p q (chans {c = c} {e = e} {f = f}) a (inr x11) d = elim x11 [ ]
  parts-differ x y _ _ z p q (funcs {v = v} {w = w} {r = r}) a (inr (inr x13)) d = elim x13 [ ]
  parts-differ x y k l z p q arrays a (inl e) d = array-elements p q (rw e at d)
  parts-differ x y k l z p q slices a (inl e) d = slice-elements p q (rw e at d)
  parts-differ x y k l z p q pointers a (inl e) d = pointer-bases p q (rw e at d)
  parts-differ x y k l z p q maps a (inl e) d = map_keys p q (rw e at d)
  parts-differ x y k l z p q maps a (inr (inl e)) d = map-elements p q (rw e at d)
  parts-differ x y k l z p q chans a (inl e) d = chan-elements p q (rw e at d)
  parts-differ x y k l z p q (tuples {es = es} {fs = fs}) a i d = let r = corr-at es fs z (rw (append-nil es, append-nil fs) at i) in tuple-types p q r.1 r.2 d
  parts-differ x y k l z p q funcs a (inl e) d = func-parameters p q (rw e at d)
  parts-differ x y k l z p q funcs a (inr (inl e)) d = func-results p q (rw e at d)
  parts-differ x y k l z p q (structs {fs = fs} {gs = gs}) a i d =
      let r = members-at fs gs z i in
      struct-types r.1 r.2 p q r.3 r.4 (moved r.5 r.6 d)
  parts-differ x y k l z p q (ifaces {ms = ms} {ns = ns}) a i d =
      let r = members-at ms ns z i in
      let same = (same_names T r.1 r.2).0 (pairs-at (Alike T) ms ns r.0 r.1 r.2 a r.3 r.4).0 in
      iface-types r.1 r.2 p q (At-In r.3) (At-In r.4) same (moved r.5 r.6 d)
  parts-differ x y k l z p q nameds a i d = absurd i

  step-kinds : (x y : TypeKey) (k l : Kind) (z : Pair) → kind_at T x ≡ k → kind_at T y ≡ l → In z (corresponding (parts k) (parts l)) → Different T z.left z.right → Different T x y
  step-kinds x y k l z p q i d =
      cases (mismatched T x k y l)
      (λ e. mismatch-kinds x y k l p q e)
      (λ e. let m = matched T x y k l (not-false _ e) in parts-differ x y k l z p q (number-form k l m.0) m.2 i d)

  -- a chain that reaches a mismatch is a derivation of the Go specification's difference
  chain-different : (p : Pair) → Chain (pair_parts T) (mismatch T) p → Different T p.left p.right
  unfolding mismatch pair_parts
  chain-different p (here e) = mismatch-kinds p.left p.right (kind_at T p.left) (kind_at T p.right) refl refl e
  chain-different p (there {y = z} i c) = step-kinds p.left p.right (kind_at T p.left) (kind_at T p.right) z refl refl i (chain-different z c)

  -- IDENTITY IS GO'S
  pub identity-is-go : (x y : TypeKey) → (identical T x y ≡ false) ↔ Different T x y
  identity-is-go x y = (λ e. chain-different (pair x y) ((identical-chain T s x y).0 e), λ d. different-false T s d)

  pub identical-is-go : (x y : TypeKey) → (identical T x y ≡ true) ↔ Identical T x y
  identical-is-go x y =
      (λ e d. clash e (different-false T s d), λ i. cases (identical T x y) (λ e. e) (λ e. absurd (i ((identity-is-go x y).0 e))))
