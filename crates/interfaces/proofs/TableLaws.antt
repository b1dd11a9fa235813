-- A sound table's interfaces, with E lines beside it, are as the laws ask (`sound-fit`); without E lines the full lists are the lists that the rules have, `all_methods`
-- (`old-lists`). That is the one law outside `rules` that goes by how `all_methods` is defined.
use mathlib.Core.Path.{◌≡◌, refl, sym, ap, ◌∙◌, subst}
use mathlib.Core.Bool.{Bool, true, false}
use mathlib.Core.List.{List, [], ◌∷◌, map}
use mathlib.Core.Logic.{◌⊎◌, inl, inr}
use Prim.Native.Nat.{ℕ, ◌<◌}
use lib.ListN.{get_or}
use borrow.Author.Tests.{eqb-true}
use Rattle.objects.specs.Lists.{keep, flat, In, Sorted, up_to}
use Rattle.objects.specs.declared.TypeKey.{TypeKey}
use Rattle.objects.specs.Table.{Table, Entity, Field, Method, Member, Kind, Basic, size, member_count, type_key, kind_number, is_method, is_iface, members_of, all_methods, kind_at, under, iface_under}
use Rattle.objects.proofs.ListLaws.{cases, clash, either, map-map, map-flat, flat_map, flat-In-ext, keep_append, keep-map, keep-yes, keep-none, any_none}
use Rattle.objects.proofs.KindLaws.{if-In}
use Rattle.objects.proofs.SortedLaws.{sorted-keep}
use Rattle.text.specs.Bytes.{is_blank}
use Rattle.rules.specs.Load.{stands}
use Rattle.rules.specs.Members.{identity_of, same_member}
use Rattle.rules.specs.Sound.{Sound, MemberOf}
use Rattle.rules.proofs.MemberLaws.{same_id-eq}
use Rattle.rules.proofs.IdLaws.{member-proper}
use Rattle.rules.proofs.Lacks.{at-type}
use Rattle.interfaces.specs.Interfaces.{Interfaces, types}
use Rattle.interfaces.specs.FullList.{Entry, entry, entries, full_list}
use Rattle.interfaces.specs.Runs.{Earlier}
use Rattle.interfaces.specs.OfTable.{own_methods, interfaces_of, Embedding}
use Rattle.interfaces.proofs.Fit.{Fit}
use Rattle.interfaces.proofs.Lists.{by_place, sorted-two, sorted-unmap, Less, up_to-sorted}
use Rattle.interfaces.proofs.FullLaws.{full-own, full-none}

kind-inside : (T : Table) (t : TypeKey) → is_iface (kind_at T t) ≡ true → t.0 < size T
kind-inside T t = at-type T (λ k. is_iface k ≡ true → t.0 < size T) t (λ h. clash h refl) (λ h f. h)

keep-each : {A B : Type 0} (p : B → Bool) (f g : A → List B) → ((a : A) → keep p (f a) ≡ g a) → (l : List A) → keep p (flat f l) ≡ flat g l
keep-each p f g h [] = refl
keep-each p f g h (a ∷ l) = rw (keep_append p (f a) (flat f l), h a, keep-each p f g h l)

stands-method : (e : Entity) (k : Kind) → stands e k ≡ true → is_iface k ≡ true → is_method e ≡ true
stands-method (Field emb tag) k h f = clash h (rw (eqb-true (kind_number k) 9 f))
stands-method (Method ptr) k h f = refl

module _ (T : Table) (sound : Sound T) (embeds : TypeKey → List TypeKey) where
  abbrev I : Interfaces
  I = interfaces_of T embeds

  own-In : (t : TypeKey) (m : Member) → In m (own_methods T t) → (is_iface (kind_at T t) ≡ true) × MemberOf T t m
  own-In t m i = if-In (is_iface (kind_at T t)) (members_of (kind_at T t)) m i

  -- ---- 9

  alone : (t : TypeKey) (m n : Member) → In m (own_methods T t) → In n (own_methods T t) → identity_of T m ≡ identity_of T n → m ≡ n
  alone t m n i j e =
      let a = own-In t m i in
      let b = own-In t n j in
      either (sorted-two _ (members_of (kind_at T t)) m n (sound.apart t) a.1 b.1) (λ q. q)
      (λ o. either o (λ c. absurd (differ m n a.0 b.1 c e)) (λ c. absurd (differ n m a.0 a.1 c (sym e))))
    where
      differ : (x y : Member) → is_iface (kind_at T t) ≡ true → MemberOf T t y → (is_blank y.name ≡ true) ⊎ (same_member T y x ≡ false) → identity_of T x ≡ identity_of T y → ⊥
      differ x y f k (inl b) q = clash b (sound.method_named t y k (stands-method y.entity (kind_at T t) (sound.standing t y k) f))
      differ x y f k (inr c) q = clash (same_id-eq (identity_of T y) (identity_of T x) (sym q)) c

  -- ---- numbers

  abbrev number : Entry → ℕ
  number x = x.method.key.0

  abbrev numbers_of : List Member → List ℕ
  numbers_of = map (λ m. m.key.0)

  -- the members under the T line of t, whatever its kind
  abbrev under-line : TypeKey → List Entry
  under-line t = map (entry t) (members_of (kind_at T t))

  -- those of all types, by number
  abbrev every_one : List Entry
  every_one = flat under-line (types I)

  numbers : map number every_one ≡ numbers_of (flat members_of T.types)
  unfolding types kind_at
  numbers =
      let of_kind : Kind → List ℕ = λ k. numbers_of (members_of k) in
      map-flat number under-line (types I)
      ∙ flat-In-ext (λ t. map number (under-line t)) (λ t. of_kind (kind_at T t)) (types I) (λ t i. map-map number (entry t) (members_of (kind_at T t)))
      ∙ flat_map (λ t. of_kind (kind_at T t)) type_key (up_to (size T))
      ∙ sym (flat_map of_kind (λ n. get_or T.types n (Basic 0)) (up_to (size T)))
      ∙ ap (flat of_kind) (by_place T.types (Basic 0))
      ∙ sym (map-flat (λ (m : Member). m.key.0) members_of T.types)

  every_one-rising : Sorted Earlier every_one
  every_one-rising = sorted-unmap Less number every_one (subst (Sorted Less) (sym (numbers ∙ sound.numbered)) (up_to-sorted (member_count T)))

  -- the entries are those under interfaces
  abbrev in_iface : Entry → Bool
  in_iface x = is_iface (kind_at T x.owner)

  kept : (t : TypeKey) → keep in_iface (under-line t) ≡ map (entry t) (own_methods T t)
  kept t =
      let ms = members_of (kind_at T t) in
      keep-map in_iface (entry t) ms
      ∙ cases (is_iface (kind_at T t))
      (λ e. rw e (ap (map (entry t)) (keep-yes ms)))
      (λ e. rw e (ap (map (entry t)) (keep-none (λ (m : Member). false) ms (any_none (λ (m : Member). false) ms (λ x i. refl)))))

  rising : Sorted Earlier (entries I)
  unfolding entries
  rising = subst (Sorted Earlier) (keep-each in_iface under-line (λ t. map (entry t) (own_methods T t)) kept (types I)) (sorted-keep Earlier in_iface every_one every_one-rising)

  -- ---- all

  -- A SOUND TABLE'S INTERFACES FIT. Of refusal 9 only the repeats are used, not that methods ascend.
  pub sound-fit : Embedding T embeds → Fit (interfaces_of T embeds)
  unfolding iface_under
  sound-fit e = record {
    linked = record { inside = kind-inside T; embedding = e.standing; allowed = e.allowed };
    owning = λ t m i. (own-In t m i).0;
    proper = λ t m i. member-proper T sound t m (own-In t m i).1;
    apart = alone;
    rising = rising;
  }

-- A TABLE WITHOUT E LINES HAS THE LISTS THAT IT HAD
pub old-lists : (T : Table) → Sound T → (t : TypeKey) → full_list (interfaces_of T (λ i. [])) t ≡ all_methods T t
unfolding all_methods
old-lists T sound t =
    cases (is_iface (kind_at T (under T t)))
    (λ f. full-own (interfaces_of T (λ i. [])) fit t f refl (sound.ascend (under T t)))
    (λ f. full-none (interfaces_of T (λ i. [])) fit t f ∙ rw f)
  where
    fit : Fit (interfaces_of T (λ i. []))
    fit = sound-fit T sound (λ i. []) (record { standing = λ u e i. absurd i; allowed = λ u e i. absurd i })
