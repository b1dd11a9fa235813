-- Members by their numbers: each number below the count is that of a member under a T line, and each member under one has such a number.
use mathlib.Core.Path.{◌≡◌, sym, ap, ◌∙◌, subst}
use mathlib.Core.Bool.{true}
use mathlib.Core.List.{List, ◌∷◌, map}
use mathlib.Core.Logic.{inl, inr}
use Prim.Native.Nat.{ℕ, zero, suc, ◌<◌}
use native.Mathlib.Omega.{arith}
use native.Mathlib.Decide.{dec_lt}
use lib.ListN.{length, get_or}
use Rattle.objects.specs.Lists.{Bytes, In, flat, up_to}
use Rattle.objects.proofs.ListLaws.{In-map, In-flat}
use Rattle.objects.proofs.Numbers.{up_to-has}
use Rattle.objects.specs.declared.TypeKey.{TypeKey}
use Rattle.objects.specs.Table.{Member, Basic, type_key, obj_key, members_of, has_package, kind_at}
use Rattle.objects.specs.Rows.{Words, type_count, member_count_of, member_at, members_from, kind_of, kind_read, table_of}
use Rattle.objects.proofs.RowLaws.{by_kind, named-kind, members-In, member-key, member-count-read, kind-beyond, kind-read}
use Rattle.rules.specs.Library.{Library}
use Rattle.rules.specs.Sound.{MemberOf}
use Rattle.rules.proofs.Sounds.{library-sound}
use Rattle.rules.proofs.IdLaws.{Proper, member-proper}
use Rattle.first_hits.specs.Names.{identity_at}

-- ---- a member under a T line is the one of its key

module _ (text : Bytes) (rows : Words) (a b c first count : ℕ) where
  members_run : (k : ℕ) (m : Member) → In m (members_of (kind_of text rows k a b c first count)) → In m (members_from text rows first count)
  unfolding kind_of
  members_run =
      by_kind _ (λ m i. absurd i) (λ m i. absurd i) (λ m i. absurd i) (λ m i. absurd i) (λ m i. absurd i) (λ m i. absurd i) (λ m i. absurd i) (λ m i. absurd i) (λ m i. i) (λ m i. i)
      (λ k h m i. subst (λ K. In m (members_of K)) (named-kind text rows a b c first count k h) i)

module _ (text : Bytes) (rows : Words) where
  row-member : (t : TypeKey) (m : Member) → In m (members_of (kind_read text rows t)) → m ≡ member_at text rows m.key
  unfolding kind_read
  row-member t m i =
      let r = members-In text rows _ _ m (members_run text rows _ _ _ _ _ _ m i) in
      let e : m.key ≡ obj_key r.0 = ap (λ (x : Member). x.key) r.3 ∙ member-key text rows (obj_key r.0) in
      r.3 ∙ ap (member_at text rows) (sym e)

  member_is : (t : TypeKey) (m : Member) → MemberOf (table_of text rows) t m → m ≡ member_at text rows m.key
  member_is t m i = elim (dec_lt t.0 (type_count rows)) [
    | yes h ↦ row-member t m (subst (λ K. In m (members_of K)) (kind-read text rows t h) i)
    | no g ↦ absurd (subst (λ K. In m (members_of K)) (kind-beyond text rows t (omega arith)) i)
  ]

-- ---- the place of one in a list

place : {A : Type 0} (l : List A) (x d : A) → In x l → (n : ℕ) × (n < length l) × (get_or l n d ≡ x)
place {A = A} mathlib.Core.List.[] x d x3 = elim x3 [ ]
place (y ∷ l) x d (inl e) = (zero, omega arith, sym e)
place (y ∷ l) x d (inr i) = let r = place l x d i in let h = r.1 in (suc r.0, omega arith, r.2)

-- ---- the numbers of a table's members

module _ (text : Bytes) (rows : Words) (lib : Library text rows) where
  numbers : map (λ m. m.key.0) (flat members_of (table_of text rows).types) ≡ up_to (member_count_of rows)
  numbers = (library-sound lib).numbered ∙ ap up_to (member-count-read text rows)

  -- the type whose T line the member of this number stands under
  stands-at : (k : ℕ) → k < member_count_of rows → (t : TypeKey) × MemberOf (table_of text rows) t (member_at text rows (obj_key k))
  unfolding kind_at
  stands-at k h =
      let ms = flat members_of (table_of text rows).types in
      let r = In-map (λ (x : Member). x.key.0) ms k (subst (In k) (sym numbers) (up_to-has (member_count_of rows) k h)) in
      let q = In-flat members_of (table_of text rows).types r.0 r.1 in
      let n = place (table_of text rows).types q.0 (Basic 0) q.1 in
      let i : MemberOf (table_of text rows) (type_key n.0) r.0 = subst (λ K. In r.0 (members_of K)) (sym n.2) q.2 in
      let e : r.0.key ≡ obj_key k = ap obj_key (sym r.2) in
      (type_key n.0, subst (MemberOf (table_of text rows) (type_key n.0)) (member_is text rows (type_key n.0) r.0 i ∙ ap (member_at text rows) e) i)

  module _ (k : ℕ) (h : k < member_count_of rows) where
    pub packaged-at : has_package (table_of text rows) (member_at text rows (obj_key k)).pkg ≡ true
    packaged-at = let s = stands-at k h in (library-sound lib).packaged s.0 (member_at text rows (obj_key k)) s.1

    pub proper-at : Proper (identity_at text rows k)
    unfolding identity_at
    proper-at = let s = stands-at k h in member-proper (table_of text rows) (library-sound lib) s.0 (member_at text rows (obj_key k)) s.1
