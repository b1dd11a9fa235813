-- The search through the members of one list: what is left of it after each member, and what it gives of a type's row.
use mathlib.Core.Path.{◌≡◌, refl, sym, ap, ◌∙◌}
use mathlib.Core.Bool.{Bool, true, false}
use mathlib.Core.List.{[], ◌∷◌, ◌++◌}
use Prim.Native.Nat.{ℕ, zero, suc, ◌+◌, ◌-◌, ◌<◌, ◌≤◌}
use native.Mathlib.Nat.{add-zero, add-suc, suc-add}
use native.Mathlib.Numerals.{add-one}
use native.Mathlib.Omega.{arith}
use lib.ListN.{get_or, take, drop}
use lib.Seq.{get_or-take, get_or-drop}
use borrow.Author.Tests.{lt-ltb, le-ltb}
use Rattle.objects.specs.Lists.{Bytes}
use Rattle.objects.specs.Table.{obj_key}
use Rattle.objects.specs.Rows.{Words, word_at, member_count_of, signs_at, sign_at, bytes_at, member_at, members_from, table_of}
use Rattle.objects.proofs.BoolLaws.{false_of}
use Rattle.objects.proofs.RowLaws.{members-more}
use Rattle.text.specs.Hash.{hash_from}
use Rattle.rules.specs.Members.{identity_from, identity_of, same_id}
use Rattle.rules.proofs.MemberLaws.{same_id-true}
use Rattle.obj.specs.Ids.{asked_id}
use Rattle.selection.specs.declared.Name.{Name}
use Rattle.selection.specs.Results.{name_meant}
use Rattle.selection.specs.Finds.{first_from, place_at, SignsAre, FoundAt}

module _ (text : Bytes) (rows : Words) where
  pub members-cons : (from n : ℕ) → members_from text rows from (suc n) ≡ member_at text rows (obj_key from) ∷ members_from text rows (suc from) n
  unfolding members_from
  members-cons from zero = ap (λ k. member_at text rows (obj_key k) ∷ []) (add-zero from)
  members-cons from (suc n) =
      members-more text rows from (suc n)
      ∙ ap (λ l. l ++ (member_at text rows (obj_key (from + suc n)) ∷ [])) (members-cons from n)
      ∙ ap (λ k. member_at text rows (obj_key from) ∷ (members_from text rows (suc from) n ++ (member_at text rows (obj_key k) ∷ []))) (add-suc from n ∙ sym (suc-add from n))
      ∙ ap (λ l. member_at text rows (obj_key from) ∷ l) (sym (members-more text rows (suc from) n))

  -- member i and those behind it
  pub members-left : (from count i : ℕ) → i < count
      → members_from text rows (from + i) (count - i) ≡ member_at text rows (obj_key (from + i)) ∷ members_from text rows (from + (i + 1)) (count - (i + 1))
  members-left from count i h =
      let z : count - i ≡ suc (count - (i + 1)) = omega arith in
      let y : suc (from + i) ≡ from + (i + 1) = omega arith in
      ap (members_from text rows (from + i)) z ∙ members-cons (from + i) (count - (i + 1)) ∙ ap (λ k. member_at text rows (obj_key (from + i)) ∷ members_from text rows k (count - (i + 1))) y

  module _ (names : Bytes) (q : Name) (from count : ℕ) where
    -- what the whole list gives, the members from place i on give
    abbrev pub Left : ℕ → Type 0
    Left i = first_from (table_of text rows) (name_meant text rows names q) 0 (members_from text rows from count)
        ≡ first_from (table_of text rows) (name_meant text rows names q) i (members_from text rows (from + i) (count - i))

    module _ (i : ℕ) (h : i < count) (left : Left i) {r : Bool}
        (p : r ≡ same_id (identity_of (table_of text rows) (member_at text rows (obj_key (from + i)))) (asked_id text rows names q.at q.len q.pkg)) where
      pub find-here : r ≡ true → FoundAt text rows from count names q i
      unfolding first_from place_at name_meant
      find-here e = rw (left, members-left from count i h, lt-ltb i count h, sym p ∙ e)

      pub find-next : r ≡ false → Left (i + 1)
      unfolding first_from name_meant
      find-next e = left ∙ rw (members-left from count i h, sym p ∙ e, add-one i)

    pub find-end : (i : ℕ) → i ≤ count → count ≤ i → Left i → FoundAt text rows from count names q count
    unfolding first_from place_at members_from
    find-end i h k left = let z : count - i ≡ 0 = omega arith in let y : count ≤ count = omega arith in sym (left ∙ rw (z, le-ltb count count y))

-- ---- by signs

-- the sign of the name that is asked for
pub asked-sign : (names : Bytes) (q : Name) {s : Bytes} → s ≡ take q.len (drop q.at names) → {sign : ℕ} → sign ≡ hash_from 0 s → sign ≡ hash_from 0 (bytes_at names q.at q.len)
unfolding bytes_at
asked-sign names q es er = er ∙ ap (hash_from 0) es

module _ (text : Bytes) (rows : Words) (from count : ℕ) (names : Bytes) (q : Name) {signs : Words} {sign : ℕ} (s : SignsAre text rows from count names q signs sign) (i : ℕ) (h : i < count) where
  sign-is : get_or signs i 0 ≡ sign_at rows (obj_key (from + i))
  unfolding sign_at word_at
  sign-is =
      let z : signs_at rows + from + i ≡ signs_at rows + (from + i) = omega arith in
      rw s.members (get_or-take count (drop (signs_at rows + from) rows) i 0 h ∙ get_or-drop (signs_at rows + from) rows i 0 ∙ ap (λ k. get_or rows k 0) z)

  -- a member of another sign than the name's has another name
  module _ (ne : get_or signs i 0 ≡ sign → ⊥) where
    other_name : false ≡ same_id (identity_of (table_of text rows) (member_at text rows (obj_key (from + i)))) (asked_id text rows names q.at q.len q.pkg)
    unfolding identity_of identity_from asked_id
    other_name =
        let here : from + i < member_count_of rows = let w = s.within in omega arith in
        sym (false_of _ (λ e.
        let z : (member_at text rows (obj_key (from + i))).name ≡ bytes_at names q.at q.len = ap (λ a. a.name) (same_id-true _ _ e) in
        ne (sign-is ∙ s.signed.signs (obj_key (from + i)) here ∙ ap (hash_from 0) z ∙ sym s.asked)))

    pub find-skip : Left text rows names q from count i → Left text rows names q from count (i + 1)
    find-skip left = find-next text rows names q from count i h left other_name refl
