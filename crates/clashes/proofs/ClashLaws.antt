-- Refusal 9 of one line by the kind of the type above it, over the rows of a table; and the walk over the lines.
use mathlib.Core.Path.{◌≡◌, refl, sym, ap, ◌∙◌}
use mathlib.Core.Bool.{Bool, true, false, not, ◌&&◌, ◌||◌}
use mathlib.Core.List.{List}
use mathlib.Core.Option.{Option, none, some}
use Prim.Native.Nat.{ℕ, ◌+◌, ◌≤◌, ◌<◌}
use native.Mathlib.Numerals.{add-one}
use native.Mathlib.Omega.{arith}
use lib.ListN.{length, take}
use borrow.Author.Tests.{eq-eqb, ne_eqb, not-false}
use Rattle.objects.specs.declared.TypeKey.{TypeKey}
use Rattle.std.specs.Prelude.{Some}
use Rattle.objects.specs.Lists.{Bytes, any, In, Sorted}
use Rattle.objects.specs.Table.{Table, Member, Kind, Named, type_key, obj_key, size, kind_number, is_iface, members_of, fields_of, has_type, has_package, kind_at}
use Rattle.objects.specs.Rows.{Words, type_count, type_word, member_word, member_at, members_from, table_of}
use Rattle.objects.specs.Types.{number_read, first_read, total_read, found}
use Rattle.objects.specs.Laid.{Laid}
use Rattle.objects.proofs.ListLaws.{cases, or-false, or-true, or_l, or_r, and_r}
use Rattle.objects.proofs.PartLaws.{parted}
use Rattle.objects.proofs.RowLaws.{size-read, number-read, fields_read, kind-beyond, members-have, members-more}
use Rattle.text.specs.Bytes.{is_blank}
use Rattle.rules.specs.Members.{same_member}
use Rattle.rules.specs.Checks.{Item, member_item, items, line_of_item, lacking, ascends, equals_field, clashing}
use Rattle.rules.specs.Stages.{first_unordered, first_item, lines_under, lines_of}
use Rattle.rules.specs.Sound.{Lower}
use Rattle.rules.proofs.StageLaws.{none-fails}
use Rattle.rules.proofs.PathLaws.{found-ordered}
use Rattle.rules.proofs.CheckLaws.{member-item}
use Rattle.rules.proofs.ItemLaws.{lines-on, members_left, members-on, members-stop}
use Rattle.references.specs.Lines.{lines_read}
use Rattle.references.proofs.RowKinds.{named-row, some-under, members-row, members-count, members-get, member-there}
use Rattle.references.proofs.Walking.{member-line}
use Rattle.clashes.specs.Known.{PackagedFrom, Packaged, Rising}
use Rattle.clashes.proofs.MemberRuns.{members-take}
use Rattle.clashes.proofs.RisingLaws.{none-same, rising-more}

-- ---- one line, by the kind of the type above it

and_none : (a : Bool) → a && false ≡ false
and_none true = refl
and_none false = refl

module _ (T : Table) (t : TypeKey) (before : List Member) (m : Member) where
  -- not blank, and one of those before has its identity
  abbrev again : Bool
  again = not (is_blank m.name) && any (same_member T m) before

  clash-iface : (k : Kind) → kind_number k ≡ 9 → {a b : Bool} → a ≡ again → b ≡ not (ascends T before m) → a || b ≡ clashing T (member_item t k before m)
  unfolding clashing
  clash-iface k e pa pb = rw (pa, pb, e) (sym (or-false (again || not (ascends T before m))))

  -- the methods before ascend
  clash-rising : (k : Kind) → kind_number k ≡ 9 → Sorted (Lower T) before → {b : Bool} → b ≡ not (ascends T before m) → b ≡ clashing T (member_item t k before m)
  clash-rising k e s {b = b} pb =
      cases (ascends T before m)
      (λ up. let z : again ≡ false = rw (none-same T before m s up) (and_none (not (is_blank m.name))) in clash-iface k e (sym z) pb)
      (λ down. let q : b ≡ true = pb ∙ ap not down in q ∙ sym (or-true again) ∙ ap (λ x. again || x) (sym q) ∙ clash-iface k e refl pb)

  -- a method that passes comes after them
  clash-passes : (k : Kind) → kind_number k ≡ 9 → clashing T (member_item t k before m) ≡ false → ascends T before m ≡ true
  unfolding clashing
  clash-passes k e h =
      let z : is_iface k && not (ascends T before m) ≡ false = or_r again (is_iface k && not (ascends T before m)) (or_l (again || (is_iface k && not (ascends T before m))) (equals_field T k m) h) in
      not-false (ascends T before m) (rw e at z)

  clash-named : (u : TypeKey) (ms : List Member) {a b : Bool} → a ≡ again → b ≡ any (same_member T m) (fields_of (kind_at T u)) → a || b ≡ clashing T (member_item t (Named u ms) before m)
  unfolding clashing
  clash-named u ms pa pb = rw (pa, pb, or-false again, or-false (any (same_member T m) (fields_of (kind_at T u))))

  clash-other : (k : Kind) → (kind_number k ≡ 9 → ⊥) → (kind_number k ≡ 10 → ⊥) → {a : Bool} → a ≡ again → a ≡ clashing T (member_item t k before m)
  unfolding clashing
  clash-other k n l pa = rw (pa, ne_eqb (kind_number k) 9 n, ne_eqb (kind_number k) 10 l, or-false again, or-false again)

-- ---- "Blank fields `_` may repeat"

module _ (name : Bytes) {blank : Bool} where
  pub blank-repeats : (x : Bool) → blank ≡ is_blank name → blank ≡ true → false ≡ not (is_blank name) && x
  blank-repeats x p e = rw (sym p ∙ e)

  pub others-repeat : {r x : Bool} → blank ≡ is_blank name → blank ≡ false → r ≡ x → r ≡ not (is_blank name) && x
  others-repeat p e q = rw (sym p ∙ e) q

-- ---- packages of the members under t

module _ {text : Bytes} {rows : Words} (s : Packaged text rows) (t : TypeKey) (h : t.0 < type_count rows) (i : ℕ) (l : i < lines_read rows t)
    {first : ℕ} (pf : first ≡ first_read rows t) where
  pub packaged-at : has_package (table_of text rows) (member_at text rows (obj_key (first + i))).pkg ≡ true
  packaged-at = rw pf (s.under t h i l)

  -- those before i, and i with them
  pub packaged-before : PackagedFrom text rows first i
  packaged-before j k = rw pf (s.under t h j (omega arith))

  pub packaged-with : PackagedFrom text rows first (i + 1)
  packaged-with j k = rw pf (s.under t h j (omega arith))

-- ---- the member i under t

module _ (text : Bytes) (rows : Words) (t : TypeKey) (h : t.0 < type_count rows) (i : ℕ) (l : i < lines_read rows t) where
  above : take i (members_of (kind_at (table_of text rows) t)) ≡ members_from text rows (first_read rows t) i
  above = ap (take i) (members-row text rows t h) ∙ members-take text rows (first_read rows t) i (lines_read rows t) (omega arith)

  -- the line that is judged
  abbrev line : Kind → List Member → Item
  line k before = member_item t k before (member_at text rows (obj_key (first_read rows t + i)))

  pub clashes-iface : Rising text rows t i → {first : ℕ} → first ≡ first_read rows t → {k : ℕ} → k ≡ number_read rows t → k ≡ 9
      → {b : Bool} → b ≡ not (ascends (table_of text rows) (members_from text rows first i) (member_at text rows (obj_key (first + i))))
      → b ≡ clashing (table_of text rows) (line (kind_at (table_of text rows) t) (take i (members_of (kind_at (table_of text rows) t))))
  clashes-iface s pf pk e pb =
      clash-rising (table_of text rows) t (members_from text rows (first_read rows t) i) (member_at text rows (obj_key (first_read rows t + i))) (kind_at (table_of text rows) t)
      (number-read text rows t h ∙ sym pk ∙ e) (s (sym pk ∙ e)) (rw pf at pb)
      ∙ ap (λ bs. clashing (table_of text rows) (line (kind_at (table_of text rows) t) bs)) (sym above)

  module _ {first : ℕ} (pf : first ≡ first_read rows t) {a : Bool}
      (pa : a ≡ not (is_blank (member_at text rows (obj_key (first + i))).name) && any (same_member (table_of text rows) (member_at text rows (obj_key (first + i)))) (members_from text rows first i))
      {k : ℕ} (pk : k ≡ number_read rows t) where
    pub clashes-named : k ≡ 10 → {w : ℕ} → w ≡ type_word rows t 1 → {b : Bool}
        → b ≡ any (same_member (table_of text rows) (member_at text rows (obj_key (first + i)))) (fields_of (kind_at (table_of text rows) (type_key w)))
        → a || b ≡ clashing (table_of text rows) (line (kind_at (table_of text rows) t) (take i (members_of (kind_at (table_of text rows) t))))
    clashes-named e pw pb =
        clash-named (table_of text rows) t (members_from text rows (first_read rows t) i) (member_at text rows (obj_key (first_read rows t + i))) (type_key (type_word rows t 1)) (members_from text rows (first_read rows t) (total_read rows t))
        (rw pf at pa) (rw (pf, pw) at pb)
        ∙ ap (λ K. clashing (table_of text rows) (line K (members_from text rows (first_read rows t) i))) (sym (named-row text rows t h (sym pk ∙ e)))
        ∙ ap (λ bs. clashing (table_of text rows) (line (kind_at (table_of text rows) t) bs)) (sym above)

    pub clashes-other : (k ≡ 9 → ⊥) → (k ≡ 10 → ⊥) → a ≡ clashing (table_of text rows) (line (kind_at (table_of text rows) t) (take i (members_of (kind_at (table_of text rows) t))))
    clashes-other n o =
        clash-other (table_of text rows) t (members_from text rows (first_read rows t) i) (member_at text rows (obj_key (first_read rows t + i))) (kind_at (table_of text rows) t)
        (λ e. n (pk ∙ sym (number-read text rows t h) ∙ e)) (λ e. o (pk ∙ sym (number-read text rows t h) ∙ e)) (rw pf at pa)
        ∙ ap (λ bs. clashing (table_of text rows) (line (kind_at (table_of text rows) t) bs)) (sym above)

  -- ---- from it on

  module _ {b : Bool} (pb : b ≡ clashing (table_of text rows) (line (kind_at (table_of text rows) t) (take i (members_of (kind_at (table_of text rows) t))))) where
    counted : i < length (members_of (kind_at (table_of text rows) t))
    counted = rw (members-count text rows t h) l

    pub clash-on : b ≡ false → first_item (table_of text rows) (clashing (table_of text rows)) (members_left t (kind_at (table_of text rows) t) i)
        ≡ first_item (table_of text rows) (clashing (table_of text rows)) (members_left t (kind_at (table_of text rows) t) (i + 1))
    clash-on e = members-on (table_of text rows) (clashing (table_of text rows)) t _ i (member_at text rows (obj_key (first_read rows t + i))) counted (members-get text rows t h i _ l) (sym pb ∙ e)

    pub clash-stop : Laid rows → b ≡ true → {first : ℕ} → first ≡ first_read rows t → {at : ℕ} → at ≡ member_word rows (obj_key (first + i)) 7
        → first_item (table_of text rows) (clashing (table_of text rows)) (members_left t (kind_at (table_of text rows) t) i) ≡ found (Some at)
    unfolding found
    clash-stop laid e pf p =
        members-stop (table_of text rows) (clashing (table_of text rows)) t _ i (member_at text rows (obj_key (first_read rows t + i))) counted (members-get text rows t h i _ l) (sym pb ∙ e)
        ∙ ap some (member-line text rows t _ _ (obj_key (first_read rows t + i)) (member-there rows laid t h i l) ∙ sym (rw pf at p))

    pub rising-on : b ≡ false → Rising text rows t i → Rising text rows t (i + 1)
    rising-on e s n =
        let T = table_of text rows in
        let m = member_at text rows (obj_key (first_read rows t + i)) in
        let before = members_from text rows (first_read rows t) i in
        let z : clashing T (line (kind_at T t) before) ≡ false = ap (λ bs. clashing T (line (kind_at T t) bs)) (sym above) ∙ sym pb ∙ e in
        rw (add-one i, members-more text rows (first_read rows t) i)
        (rising-more T before m (s n) (clash-passes T t before m (kind_at T t) (number-read text rows t h ∙ n) z))

pub rising-start : (text : Bytes) (rows : Words) (t : TypeKey) → Rising text rows t 0
unfolding members_from
rising-start text rows t e = tt

-- a T line does not clash
pub lines-clash : (T : Table) (t : TypeKey) (k : Kind) {r : Option ℕ} → r ≡ first_item T (clashing T) (lines_under t k) → r ≡ first_item T (clashing T) (lines_of t k)
unfolding clashing
lines-clash T t k p = p ∙ sym (lines-on T (clashing T) t k refl)

-- ---- the fields of u's struct

module _ (text : Bytes) (rows : Words) (u : TypeKey) (p : Member → Bool) where
  pub fields_out : {n : ℕ} → n ≡ type_count rows → n ≤ u.0 → false ≡ any p (fields_of (kind_at (table_of text rows) u))
  fields_out e h = rw (kind-beyond text rows u (rw e at h))

  module _ {n : ℕ} (e : n ≡ type_count rows) (h : u.0 < n) {k : ℕ} (pk : k ≡ number_read rows u) where
    there : u.0 < type_count rows
    there = rw e at h

    pub fields-none : (k ≡ 8 → ⊥) → false ≡ any p (fields_of (kind_at (table_of text rows) u))
    fields-none o = rw (fields_read text rows u there, ne_eqb (number_read rows u) 8 (λ q. o (pk ∙ q)))

    pub fields-some : k ≡ 8 → {first c : ℕ} → first ≡ first_read rows u → c ≡ total_read rows u → any p (members_from text rows first c) ≡ any p (fields_of (kind_at (table_of text rows) u))
    fields-some q pf pc = rw (fields_read text rows u there, eq-eqb (number_read rows u) 8 (sym pk ∙ q), pf, pc)

    pub fields-packaged : Packaged text rows → k ≡ 8 → {first c : ℕ} → first ≡ first_read rows u → c ≡ total_read rows u → PackagedFrom text rows first c
    fields-packaged s q pf pc i l = rw pf (s.under u there i (rw (some-under rows u pk (omega arith) pc) at l))

-- ---- 14 and 7 passed

-- a line that 7 passes has its package in the table
lacking-none : (T : Table) (t : TypeKey) (k : Kind) (before : List Member) (m : Member) → lacking T (member_item t k before m) ≡ false → has_package T m.pkg ≡ true
unfolding lacking
lacking-none T t k before m z = and_r (has_type T m.type) (has_package T m.pkg) (not-false (has_type T m.type && has_package T m.pkg) z)

pub packaged-of : (text : Bytes) (rows : Words) → first_unordered (table_of text rows).packages ≡ none → first_item (table_of text rows) (lacking (table_of text rows)) (items (table_of text rows)) ≡ none → Packaged text rows
packaged-of text rows o e = record { ordered = found-ordered (table_of text rows).packages o; under = here }
  where
    here : (t : TypeKey) → t.0 < type_count rows → PackagedFrom text rows (first_read rows t) (lines_read rows t)
    here t h i l =
        let T = table_of text rows in
        let m = member_at text rows (obj_key (first_read rows t + i)) in
        let j : In m (members_of (kind_at T t)) = rw (members-row text rows t h) (members-have text rows (first_read rows t) (lines_read rows t) i l) in
        let r = parted (members_of (kind_at T t)) m j in
        let s : t.0 < size T = rw (size-read text rows) h in
        lacking-none T t (kind_at T t) r.0 m (none-fails (line_of_item T) (lacking T) (items T) e _ (member-item T t r.0 m r.1 s r.2))
