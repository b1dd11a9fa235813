-- No two members that a type owns have one number: every member of the table has its own.
use mathlib.Core.Path.{◌≡◌, refl, sym, ap, ◌∙◌, subst}
use mathlib.Core.Bool.{Bool, true, false, not, ◌||◌}
use mathlib.Core.List.{List, [], ◌∷◌, ◌++◌, map, append_assoc}
use mathlib.Core.Logic.{inl, inr}
use Prim.Native.Nat.{ℕ, zero, suc, ◌<◌}
use native.Mathlib.Omega.{arith}
use lib.Dec.{eqb}
use lib.ListN.{length, get_or}
use borrow.Author.Tests.{eqb-true, eq-eqb}
use Rattle.objects.specs.Lists.{In, flat, up_to}
use Rattle.objects.proofs.ListLaws.{cases, clash, either, In-append, In-append-l, In-append-r, flat-In-to, map-flat, map-append, map-In-to}
use Rattle.objects.proofs.BoolLaws.{false_of}
use Rattle.objects.proofs.PairLaws.{AllPairs, pairs-map}
use Rattle.objects.proofs.PartLaws.{get_or-In}
use Rattle.objects.proofs.Numbers.{up_to-below}
use Rattle.objects.proofs.KeyLaws.{key-eq}
use Rattle.objects.proofs.KindLaws.{named-is, under-named, under-plain}
use Rattle.objects.proofs.Pigeons.{Distinct}
use Rattle.objects.specs.declared.TypeKey.{TypeKey}
use Rattle.objects.specs.Table.{Table, size, member_count, Member, Basic, Named, is_named, is_tuple, members_of, fields_of, declared_of, all_methods_of, all_methods, kind_at, under}
use Rattle.rules.specs.Ways.{Place, places_from, owned}
use Rattle.rules.specs.Sound.{Sound}
use Rattle.rules.specs.Checks.{type_allowed}
use Rattle.carry.specs.Carry.{beside}
use Rattle.carry.proofs.Lines.{three-lists}

-- ---- lists of different numbers

-- none of the one is one of the other
abbrev Apart : List ℕ → List ℕ → Type 0
Apart l m = (n : ℕ) → In n l → In n m → ⊥

distinct_append : (l m : List ℕ) → Distinct l → Distinct m → Apart l m → Distinct (l ++ m)
distinct_append [] m d e a = e
distinct_append (x ∷ l) m d e a = (λ i. either (In-append l m x i) d.0 (a x (inl refl)), distinct_append l m d.1 e (λ n i. a n (inr i)))

distinct-parts : (l m : List ℕ) → Distinct (l ++ m) → Distinct l × Distinct m × Apart l m
distinct-parts [] m d = (tt, d, λ n i. absurd i)
distinct-parts (x ∷ l) m d =
    let r = distinct-parts l m d.1 in
    ((λ i. d.0 (In-append-l l m x i), r.0), r.1, λ n i j. either i (λ e. d.0 (In-append-r l m x (subst (λ z. In z m) e j))) (λ k. r.2 n k j))

up_to-distinct : (n : ℕ) → Distinct (up_to n)
up_to-distinct zero = tt
up_to-distinct (suc n) = distinct_append (up_to n) (n ∷ []) (up_to-distinct n) (λ i. i, tt) (λ k i j. either j (λ e. let h = up_to-below n k i in absurd (omega arith)) (λ z. z))

module _ {A : Type 0} (g : A → List ℕ) (d : A) where
  -- one of the lists that are put together
  one-distinct : (l : List A) → Distinct (flat g l) → (i : ℕ) → i < length l → Distinct (g (get_or l i d))
  one-distinct [] s i h = absurd (omega arith)
  one-distinct (x ∷ l) s zero h = (distinct-parts (g x) (flat g l) s).0
  one-distinct (x ∷ l) s (suc i) h = one-distinct l (distinct-parts (g x) (flat g l) s).1 i (omega arith)

  -- two of them
  two-apart : (l : List A) → Distinct (flat g l) → (i j : ℕ) → i < length l → j < length l → (i ≡ j → ⊥) → Apart (g (get_or l i d)) (g (get_or l j d))
  two-apart [] s i j hi hj ne = absurd (omega arith)
  two-apart (x ∷ l) s zero zero hi hj ne = absurd (ne refl)
  two-apart (x ∷ l) s zero (suc j) hi hj ne = λ n p q. (distinct-parts (g x) (flat g l) s).2 n p (flat-In-to g l (get_or l j d) n (get_or-In l j d (omega arith)) q)
  two-apart (x ∷ l) s (suc i) zero hi hj ne = λ n p q. (distinct-parts (g x) (flat g l) s).2 n q (flat-In-to g l (get_or l i d) n (get_or-In l i d (omega arith)) p)
  two-apart (x ∷ l) s (suc i) (suc j) hi hj ne = two-apart l (distinct-parts (g x) (flat g l) s).1 i j (omega arith) (omega arith) (λ e. ne (ap suc e))

-- ---- members

abbrev keys : List Member → List ℕ
keys ms = map (λ (m : Member). m.key.0) ms

module _ (T : Table) (sound : Sound T) where
  all-distinct : Distinct (flat (λ k. keys (members_of k)) T.types)
  all-distinct = subst Distinct (sym sound.numbered ∙ map-flat (λ (m : Member). m.key.0) members_of T.types) (up_to-distinct (member_count T))

  type-distinct : (t : TypeKey) → t.0 < size T → Distinct (keys (members_of (kind_at T t)))
  unfolding kind_at
  type-distinct t h = one-distinct (λ k. keys (members_of k)) (Basic 0) T.types all-distinct t.0 h

  types-apart : (t u : TypeKey) → t.0 < size T → u.0 < size T → (t.0 ≡ u.0 → ⊥) → Apart (keys (members_of (kind_at T t))) (keys (members_of (kind_at T u)))
  unfolding kind_at
  types-apart t u ht hu ne = two-apart (λ k. keys (members_of k)) (Basic 0) T.types all-distinct t.0 u.0 ht hu ne

  -- what a named type names is not named
  names-plain : (t u : TypeKey) (ms : List Member) → kind_at T t ≡ Named u ms → is_named (kind_at T u) ≡ false
  names-plain t u ms k = plain (is_named (kind_at T u)) (is_tuple (kind_at T u)) (subst (λ z. type_allowed T t z ≡ true) k (sound.allowed t))
    where
      plain : (n b : Bool) → not (n || b) ≡ true → n ≡ false
      plain true b h = sym h
      plain false b h = refl

  -- the members that a type owns, in the order of `owned`
  abbrev own_members : TypeKey → List Member
  own_members t = declared_of (kind_at T t) ++ fields_of (kind_at T (under T t)) ++ all_methods T t

  own-distinct : (t : TypeKey) → t.0 < size T → Distinct (keys (own_members t))
  unfolding all_methods
  own-distinct t h =
      cases (is_named (kind_at T t))
      (λ e. let n = named-is (kind_at T t) e in both n.0 n.1 n.2)
      (λ e. rw (under-plain T t e) (subst (λ ms. Distinct (keys ms)) (sym (three-lists (kind_at T t))) (type-distinct t h)))
    where
      both : (u : TypeKey) (ms : List Member) → kind_at T t ≡ Named u ms → Distinct (keys (own_members t))
      both u ms k =
          let plain = names-plain t u ms k in
          let hu = sound.refers t u (rw k (inl refl)) in
          let ne : t.0 ≡ u.0 → ⊥ = λ e. clash (ap (λ x. is_named (kind_at T x)) (sym (key-eq t u e)) ∙ rw k) plain in
          let rest : fields_of (kind_at T u) ++ all_methods_of (kind_at T u) ≡ members_of (kind_at T u) = sym (rw plain) ∙ three-lists (kind_at T u) in
          let own : declared_of (kind_at T t) ≡ members_of (kind_at T t) = rw k in
          rw (
            under-named T t u ms k,
            append_assoc (declared_of (kind_at T t)) (fields_of (kind_at T u)) (all_methods_of (kind_at T u)),
            rest,
            map-append (λ (m : Member). m.key.0) (declared_of (kind_at T t)) (members_of (kind_at T u)),
            own,
          )
          (distinct_append (keys (members_of (kind_at T t))) (keys (members_of (kind_at T u))) (type-distinct t h) (type-distinct u hu) (types-apart t u h hu ne))

-- ---- places

abbrev place_keys : List Place → List ℕ
place_keys ps = map (λ (p : Place). p.member.key.0) ps

place-keys : (n : ℕ) (ms : List Member) → place_keys (places_from n ms) ≡ keys ms
place-keys n [] = refl
place-keys n (m ∷ ms) = ap (λ l. m.key.0 ∷ l) (place-keys (suc n) ms)

-- NO TWO MEMBERS THAT A TYPE OWNS HAVE ONE NUMBER
pub owned-distinct : (T : Table) → Sound T → (t : TypeKey) → t.0 < size T → Distinct (place_keys (owned T t))
unfolding owned
owned-distinct T sound t h =
    let d = declared_of (kind_at T t) in
    let e = fields_of (kind_at T (under T t)) in
    let m = all_methods T t in
    let key : Member → ℕ = λ m. m.key.0 in
    let at : Place → ℕ = λ p. p.member.key.0 in
    rw (map-append at (places_from 0 d ++ places_from 0 e) (places_from 0 m), map-append at (places_from 0 d) (places_from 0 e), place-keys 0 d, place-keys 0 e, place-keys 0 m)
    (rw (map-append key (d ++ e) m, map-append key d e) at (own-distinct T sound t h))

-- so the one that stands where m stands is found by m's number
pub beside-pairs : (P : Place → Place → Type 0) (os ns : List Place) → Distinct (place_keys os) → AllPairs P os ns → AllPairs (λ o n. P o n × (n.member ≡ beside o.member os ns)) os ns
beside-pairs P [] [] d a = tt
beside-pairs P [] (n ∷ ns) d a = absurd a
beside-pairs P (o ∷ os) [] d a = absurd a
beside-pairs P (o ∷ os) (n ∷ ns) d a = (
  (a.0, rw (eq-eqb o.member.key.0 o.member.key.0 refl)),
  pairs-map (λ x y. P x y × (y.member ≡ beside x.member os ns)) (λ x y. P x y × (y.member ≡ beside x.member (o ∷ os) (n ∷ ns))) os ns
      (λ x y i j h. (h.0, rw (other x i) h.1)) (beside-pairs P os ns d.1 a.1),
)
  where
    other : (x : Place) → In x os → eqb o.member.key.0 x.member.key.0 ≡ false
    other x i =
        false_of (eqb o.member.key.0 x.member.key.0)
        (λ e. d.0 (subst (λ z. In z (place_keys os)) (sym (eqb-true o.member.key.0 x.member.key.0 e)) (map-In-to (λ (p : Place). p.member.key.0) os x i)))
