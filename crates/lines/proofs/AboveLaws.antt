-- The type above (5, 6): what the rows tell of the last type of the table that they hold.
use mathlib.Core.Path.{◌≡◌, refl, sym, ap, ◌∙◌}
use mathlib.Core.Bool.{true, false, ◌&&◌}
use mathlib.Core.List.{List, [], ◌∷◌, ◌++◌, map}
use mathlib.Core.Logic.{◌≢◌}
use Prim.Native.Nat.{ℕ, zero, suc, ◌-◌, ◌≤◌, ◌<◌}
use native.Mathlib.Omega.{arith}
use lib.Dec.{eqb, ltb}
use lib.ListN.{length}
use borrow.Author.Tests.{eq-eqb, ne_eqb, eqb-true, lt-ltb, le-ltb, ltb-true}
use Rattle.objects.specs.declared.TypeKey.{TypeKey}
use Rattle.objects.specs.Bounds.{max_members, max_per_type}
use Rattle.objects.specs.Lists.{Bytes, empty, last_or, up_to}
use Rattle.objects.specs.Table.{Kind, Basic, type_key, kind_number, members_of, member_count}
use Rattle.objects.specs.Rows.{Words, type_count, member_count_of, type_word, entity_of, kind_read, table_of}
use Rattle.objects.specs.Types.{number_of, number_read, first_read, total_read}
use Rattle.objects.specs.Laid.{last_type}
use Rattle.objects.proofs.ListLaws.{cases, clash, and_l}
use Rattle.objects.proofs.Numbers.{each_more}
use Rattle.objects.proofs.RowLaws.{number-meant, members-meant, members-length, size-read, member-count-read}
use Rattle.rules.specs.Load.{last_kind, stands}
use Rattle.lines.specs.Adding.{stands_at, member_room}

-- ---- lists

pub last_or-snoc : {A : Type 0} (d : A) (l : List A) (x : A) → last_or d (l ++ (x ∷ [])) ≡ x
last_or-snoc d [] x = refl
last_or-snoc d (y ∷ l) x = last_or-snoc y l x

empty-length : {A : Type 0} (l : List A) → empty l ≡ eqb (length l) 0
empty-length [] = refl
empty-length (x ∷ l) = sym (ne_eqb (length (x ∷ l)) 0 (λ e. omega arith))

each_last : {A : Type 0} (f : ℕ → A) (d : A) (n : ℕ) → 0 < n → last_or d (map f (up_to n)) ≡ f (n - 1)
each_last f d zero h = absurd (omega arith)
each_last f d (suc n) h = let z : suc n - 1 ≡ n = omega arith in ap (last_or d) (each_more f n) ∙ last_or-snoc d (map f (up_to n)) (f n) ∙ ap f (sym z)

-- ---- a tuple's word

number_word : (rows : Words) (t : TypeKey) → number_read rows t ≡ number_of (type_word rows t 0)
unfolding number_read
number_word rows t = refl

six-word : (k : ℕ) → number_of k ≡ 6 → k ≡ 6
unfolding number_of
six-word k q = cases (ltb k 10) (λ t. rw t at q) (λ t. let z : 10 ≡ 6 = rw t at q in absurd (omega arith))

word-six : (k : ℕ) → k ≡ 6 → number_of k ≡ 6
unfolding number_of
word-six k q = rw q

-- ---- the last type

module _ (text : Bytes) (rows : Words) where
  pub no-types : empty (table_of text rows).types ≡ eqb (type_count rows) 0
  no-types = empty-length (table_of text rows).types ∙ ap (λ n. eqb n 0) (size-read text rows)

  pub none_above : {n : ℕ} → n ≡ type_count rows → n ≡ 0 → 0 ≡ kind_number (last_kind (table_of text rows))
  unfolding table_of
  none_above p e = let z : type_count rows ≡ 0 = omega arith in rw z

  last-kind : 0 < type_count rows → last_kind (table_of text rows) ≡ kind_read text rows (last_type rows)
  unfolding table_of
  last-kind h = each_last (λ t. kind_read text rows (type_key t)) (Basic 0) (type_count rows) h

  last-number : 0 < type_count rows → kind_number (last_kind (table_of text rows)) ≡ number_read rows (last_type rows)
  last-number h = ap kind_number (last-kind h) ∙ number-meant text rows (last_type rows)

  pub kind-above : {n r : ℕ} {t : TypeKey} → n ≡ type_count rows → (n ≡ 0 → ⊥) → t ≡ last_type rows → r ≡ number_read rows t → r ≡ kind_number (last_kind (table_of text rows))
  kind-above p ne q e = let h : 0 < type_count rows = omega (arith, ne) in e ∙ ap (number_read rows) q ∙ sym (last-number h)

  -- a kind but the first means that there is a type
  some-type : 0 < kind_number (last_kind (table_of text rows)) → 0 < type_count rows
  some-type h =
      cases (eqb (type_count rows) 0)
      (λ e. let z = none_above refl (eqb-true (type_count rows) 0 e) in absurd (omega arith))
      (λ e. let ne : type_count rows ≡ 0 → ⊥ = (λ i. clash (eq-eqb (type_count rows) 0 i) e) in omega (arith, ne))

  -- the last type is a tuple
  pub tuple-last : kind_number (last_kind (table_of text rows)) ≡ 6 → (0 < type_count rows) × (type_word rows (last_type rows) 0 ≡ 6)
  tuple-last e =
      let h = some-type (omega arith) in
      (h, six-word (type_word rows (last_type rows) 0) (sym (number_word rows (last_type rows)) ∙ sym (last-number h) ∙ e))

  module _ (g : 8 ≤ kind_number (last_kind (table_of text rows))) where
    pub members-above : length (members_of (last_kind (table_of text rows))) ≡ total_read rows (last_type rows)
    members-above =
        let h = some-type (omega arith) in
        let e = last-number h in
        let m = members-meant text rows (last_type rows) (number_read rows (last_type rows)) (omega arith) in
        ap (λ k. length (members_of k)) (last-kind h)
        ∙ ap length (rw (number-meant text rows (last_type rows), eq-eqb (number_read rows (last_type rows)) (number_read rows (last_type rows)) refl) at m)
        ∙ members-length text rows (first_read rows (last_type rows)) (total_read rows (last_type rows))

    pub no-tuple : (0 < type_count rows) × (type_word rows (last_type rows) 0 ≢ 6)
    no-tuple =
        let h = some-type (omega arith) in
        let e = last-number h in
        (h, (λ q. let z : number_read rows (last_type rows) ≡ 6 = number_word rows (last_type rows) ∙ word-six (type_word rows (last_type rows) 0) q in omega arith))

-- ---- 5: where a member stands

pub stands-field : (form kind : ℕ) → form < 2 → eqb kind 8 ≡ stands_at form kind
unfolding stands_at
stands-field form kind h = rw (lt-ltb form 2 h)

pub stands-named : (form kind : ℕ) → 2 ≤ form → kind ≡ 10 → true ≡ stands_at form kind
unfolding stands_at
stands-named form kind h e = rw (le-ltb form 2 h, e)

pub stands-iface : (form kind : ℕ) → 2 ≤ form → (kind ≡ 10 → ⊥) → eqb kind 9 ≡ stands_at form kind
unfolding stands_at
stands-iface form kind h e = rw (le-ltb form 2 h, ne_eqb kind 10 e)

pub stands-at : (form : ℕ) (tag : Bytes) (k : Kind) → stands (entity_of form tag) k ≡ stands_at form (kind_number k)
unfolding entity_of stands_at
stands-at zero tag k = refl
stands-at (suc zero) tag k = refl
stands-at (suc (suc zero)) tag k = refl
stands-at (suc (suc (suc n))) tag k =
    rw (ne_eqb (suc (suc (suc n))) 0 (λ e. omega arith), ne_eqb (suc (suc (suc n))) 1 (λ e. omega arith), ne_eqb (suc (suc (suc n))) 2 (λ e. omega arith), le-ltb (suc (suc (suc n))) 2 (omega arith))

-- only a struct, an interface or a named type has members
pub standing : (form kind : ℕ) → stands_at form kind ≡ true → 8 ≤ kind
unfolding stands_at
standing form kind h =
    cases (eqb kind 8) (λ e. let z = eqb-true kind 8 e in omega arith)
    (λ e. cases (eqb kind 9) (λ i. let z = eqb-true kind 9 i in omega arith)
    (λ i. cases (eqb kind 10) (λ j. let z = eqb-true kind 10 j in omega arith)
    (λ j. clash h (cases (ltb form 2) (λ f. rw (f, e)) (λ f. rw (f, i, j))))))

-- ---- 6: room for a member

module _ (rows : Words) {m : ℕ} (p : m ≡ member_count_of rows) where
  pub room-under : {t : ℕ} {u : TypeKey} → m < max_members → u ≡ last_type rows → t ≡ total_read rows u → ltb t max_per_type ≡ member_room rows
  unfolding member_room
  room-under h q e = rw (e, q, sym p, lt-ltb m max_members h)

  pub room-none : max_members ≤ m → false ≡ member_room rows
  unfolding member_room
  room-none h = rw (sym p, le-ltb m max_members h)

pub room-count : (rows : Words) → member_room rows ≡ true → member_count_of rows < max_members
unfolding member_room
room-count rows h = ltb-true (member_count_of rows) max_members (and_l (ltb (member_count_of rows) max_members) (ltb (total_read rows (last_type rows)) max_per_type) h)

pub room-meant : (text : Bytes) (rows : Words) → 8 ≤ kind_number (last_kind (table_of text rows))
    → ltb (member_count (table_of text rows)) max_members && ltb (length (members_of (last_kind (table_of text rows)))) max_per_type ≡ member_room rows
unfolding member_room
room-meant text rows g = rw (member-count-read text rows, members-above text rows g)
