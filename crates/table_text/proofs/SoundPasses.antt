-- What every sound table satisfies is what refusals 14 and 7 to 10 ask for: none of its lines fails their tests (the converse of `sound-of`, rules/proofs/Sounds.antt).
use mathlib.Core.Path.{◌≡◌, refl, sym, ap, subst, ◌∙◌}
use mathlib.Core.Bool.{Bool, true, false, not, ◌&&◌}
use mathlib.Core.List.{List, [], ◌∷◌, ◌++◌, append_assoc, append-nil}
use mathlib.Core.Logic.{inl, inr}
use mathlib.Core.Option.{none}
use Prim.Native.Nat.{ℕ, suc, ◌+◌, ◌<◌}
use native.Mathlib.Omega.{arith}
use lib.ListN.{length, get_or}
use borrow.Author.Tests.{lt-ltb}
use Rattle.objects.specs.Lists.{Bytes, any, last_of, In, Sorted}
use Rattle.objects.specs.declared.TypeKey.{TypeKey}
use Rattle.objects.specs.Table.{Table, size, type_key, same_type, Member, Kind, Basic, Named, is_iface, is_named, refs, members_of, fields_of, has_type, kind_at}
use Rattle.objects.proofs.ListLaws.{cases, clash, either, In-append, In-append-r, any_none}
use Rattle.objects.proofs.BoolLaws.{every-from, false_of}
use Rattle.objects.proofs.KindLaws.{named-is, under-named}
use Rattle.text.specs.Bytes.{below_bytes, is_blank}
use Rattle.rules.specs.Members.{identity_of, same_member, id_bytes}
use Rattle.rules.specs.Checks.{PathItem, paths_behind, path_items, unordered, Item, type_item, member_item, member_items, items_from}
use Rattle.rules.specs.Checks.{items, line_of_item, lacking, forbidden, clashing, containing, ascends, equals_field, contents}
use Rattle.rules.specs.Stages.{first_line}
use Rattle.rules.specs.Load.{loaded, staged, checked}
use Rattle.rules.specs.Sound.{Below, Sound, Lower}
use Rattle.rules.proofs.ChainLaws.{leads-sound}
use Rattle.rules.proofs.CheckLaws.{Passed}
use Rattle.rules.proofs.StageLaws.{first-later}

-- ---- the items of a table are its types and their members

members-are : (P : Item → Type 0) (t : TypeKey) (k : Kind) (above ms : List Member)
    → ((before : List Member) (m : Member) (after : List Member) → ms ≡ before ++ (m ∷ after) → P (member_item t k (above ++ before) m)) → (i : Item) → In i (member_items t k above ms) → P i
members-are P t k above [] h i x'' = elim x'' [ ]
members-are P t k above (m ∷ ms) h i (inl e) = rw (e, ← append-nil above) (h [] m ms refl)
members-are P t k above (m ∷ ms) h i (inr j) =
    members-are P t k (above ++ (m ∷ [])) ms (λ before n after e. rw (append_assoc above (m ∷ []) before) (h (m ∷ before) n after (ap (λ l. m ∷ l) e))) i j

items-are : (P : Item → Type 0) (n : ℕ) (ks : List Kind) → ((j : ℕ) → j < length ks → P (type_item (type_key (n + j)) (get_or ks j (Basic 0))))
    → ((j : ℕ) (before : List Member) (m : Member) (after : List Member) → j < length ks → members_of (get_or ks j (Basic 0)) ≡ before ++ (m ∷ after)
    → P (member_item (type_key (n + j)) (get_or ks j (Basic 0)) before m))
    → (i : Item) → In i (items_from n ks) → P i
unfolding items_from
items-are P n [] h g i j = absurd j
items-are P n (k ∷ ks) h g i (inl e) = let z : n + 0 ≡ n = omega arith in rw e (rw z at (h 0 (omega arith)))
items-are P n (k ∷ ks) h g i (inr j) =
    let z : n + 0 ≡ n = omega arith in
    let next : (m : ℕ) → n + suc m ≡ suc n + m = λ m. omega arith in
    either (In-append (member_items (type_key n) k [] (members_of k)) (items_from (suc n) ks) i j)
    (λ x. members-are P (type_key n) k [] (members_of k) (λ before m after e. rw z at (g 0 before m after (omega arith) e)) i x)
    (λ x. items-are P (suc n) ks (λ m l. rw (next m) at (h (suc m) (omega arith))) (λ m before o after l e. rw (next m) at (g (suc m) before o after (omega arith) e)) i x)

-- ---- lists in order

sorted_before : {A : Type 0} (R : A → A → Type 0) (l : List A) (before : List A) (x : A) (after : List A) → l ≡ before ++ (x ∷ after) → Sorted R l → (y : A) → In y before → R y x
sorted_before R l before x after e s y i = go before (subst (Sorted R) e s) i
  where
    go : (b : List _) → Sorted R (b ++ (x ∷ after)) → In y b → R y x
    go [] s x3 = elim x3 [ ]
    go (z ∷ b) s (inl q) = subst (λ w. R w x) (sym q) (s.0 x (In-append-r b (x ∷ after) x (inl refl)))
    go (z ∷ b) s (inr j) = go b s.1 j

last-In : {A : Type 0} (l : List A) (x : A) → In x (last_of l) → In x l
last-In {A = A} [] x i = elim i [ ]
last-In (y ∷ []) x i = i
last-In (y ∷ z ∷ l) x i = inr (last-In (z ∷ l) x i)

-- ---- the five tests

-- paths that ascend: each P line behind another is above it
paths-pass : (line : ℕ) (path : Bytes) (rest : List Bytes) → Sorted Below (path ∷ rest) → (i : PathItem) → In i (paths_behind line path rest) → unordered i ≡ false
unfolding unordered
paths-pass line path [] s i x'' = elim x'' [ ]
paths-pass line path (next ∷ rest) s i (inl e) = rw (e, s.0 next (inl refl))
paths-pass line path (next ∷ rest) s i (inr j) = paths-pass (suc line) next rest s.1 i j

orders-pass : (paths : List Bytes) → Sorted Below paths → (i : PathItem) → In i (path_items paths) → unordered i ≡ false
unfolding path_items
orders-pass [] s i j = elim j [ ]
orders-pass (path ∷ rest) s i j = paths-pass 2 path rest s i j

module _ (T : Table) (s : Sound T) where
  type-lacks : (t : TypeKey) → lacking T (type_item t (kind_at T t)) ≡ false
  unfolding lacking
  type-lacks t = rw (every-from (has_type T) (refs (kind_at T t)) (λ e i. lt-ltb e.0 (size T) (s.refers t e i)))

  type-contains : (t : TypeKey) → containing T (type_item t (kind_at T t)) ≡ false
  unfolding containing
  type-contains t = false_of _ (λ e. let r = leads-sound same_type (contents T) (same_type t) (size T) [] (contents T t) e in s.well_founded t r.0 r.1 r.2)

  -- a member with those before it
  module _ (t : TypeKey) (before : List Member) (m : Member) (after : List Member) (e : members_of (kind_at T t) ≡ before ++ (m ∷ after)) where
    it-is : In m (members_of (kind_at T t))
    it-is = rw e (In-append-r before (m ∷ after) m (inl refl))

    member-lacks : lacking T (member_item t (kind_at T t) before m) ≡ false
    unfolding lacking
    member-lacks = rw (lt-ltb m.type.0 (size T) (s.typed t m it-is), s.packaged t m it-is)

    other : not (is_blank m.name) && any (same_member T m) before ≡ false
    other =
        cases (is_blank m.name)
        (λ b. rw b)
        (λ b. rw b (any_none (same_member T m) before (λ y i. either (sorted_before _ (members_of (kind_at T t)) before m after e (s.apart t) y i) (λ x. clash x b) (λ x. x))))

    rises : is_iface (kind_at T t) && not (ascends T before m) ≡ false
    rises =
        cases (is_iface (kind_at T t))
        (λ b. rw (
          b,
          every-from (λ y. below_bytes (id_bytes (identity_of T y)) (id_bytes (identity_of T m))) (last_of before)
              (λ y i. sorted_before (Lower T) (members_of (kind_at T t)) before m after e (rw b at (s.ascend t)) y (last-In before y i)),
        ))
        (λ b. rw b)

    free : equals_field T (kind_at T t) m ≡ false
    free = cases (is_named (kind_at T t)) (λ b. let r = named-is (kind_at T t) b in none_of b r.0 r.1 r.2) (λ b. rw b)
      where
        none_of : is_named (kind_at T t) ≡ true → (u : TypeKey) (ms : List Member) → kind_at T t ≡ Named u ms → equals_field T (kind_at T t) m ≡ false
        none_of b u ms q =
            let h : any (same_member T m) (fields_of (kind_at T u)) ≡ false =
            any_none (same_member T m) (fields_of (kind_at T u)) (λ f i. s.both t m f (rw b it-is) (rw (under-named T t u ms q) i)) in
            rw (q, h)

    member-clashes : clashing T (member_item t (kind_at T t) before m) ≡ false
    unfolding clashing
    member-clashes = rw (other, rises, free)

    member-forbids : forbidden T (member_item t (kind_at T t) before m) ≡ false
    unfolding forbidden
    member-forbids = rw (s.allowed_member t m it-is)

  -- what holds of every T line, and of every member with those before it, holds of every line
  all-items : (bad : Item → Bool) → ((t : TypeKey) → bad (type_item t (kind_at T t)) ≡ false)
      → ((t : TypeKey) (before : List Member) (m : Member) (after : List Member) → members_of (kind_at T t) ≡ before ++ (m ∷ after) → bad (member_item t (kind_at T t) before m) ≡ false)
      → (i : Item) → In i (items T) → bad i ≡ false
  unfolding kind_at
  all-items bad h g =
      let z : (j : ℕ) → 0 + j ≡ j = λ j. omega arith in
      items-are (λ i. bad i ≡ false) 0 T.types (λ j l. rw (z j) (h (type_key j))) (λ j before m after l e. rw (z j) (g (type_key j) before m after e))

  -- EVERY SOUND TABLE PASSES
  sound-passes : Passed T
  unfolding forbidden clashing containing
  sound-passes = record {
    orders = orders-pass T.packages s.ordered;
    lacks = all-items (lacking T) type-lacks member-lacks;
    forbids = all-items (forbidden T) (λ t. rw (s.allowed t)) member-forbids;
    clashes = all-items (clashing T) (λ t. refl) member-clashes;
    contains = all-items (containing T) type-contains (λ t before m after e. refl);
  }

-- so that the checks change nothing
none_found : {A : Type 0} (line : A → ℕ) (bad : A → Bool) (is : List A) → ((i : A) → In i is → bad i ≡ false) → first_line line bad is ≡ none
unfolding first_line
none_found line bad [] h = refl
none_found line bad (i ∷ is) h = first-later line bad i is (h i (inl refl)) ∙ none_found line bad is (λ j k. h j (inr k))

pub sound-checked : (T : Table) → Sound T → checked T ≡ loaded T
unfolding checked staged
sound-checked T s =
    let p = sound-passes T s in
    rw (
      none_found (λ (i : PathItem). i.line) unordered (path_items T.packages) p.orders,
      none_found (line_of_item T) (lacking T) (items T) p.lacks,
      none_found (line_of_item T) (forbidden T) (items T) p.forbids,
      none_found (line_of_item T) (clashing T) (items T) p.clashes,
      none_found (line_of_item T) (containing T) (items T) p.contains,
    )
