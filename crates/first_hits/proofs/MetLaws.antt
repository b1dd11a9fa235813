-- The members that are met: the stretches of a row's type, as the rows of the table have them, and those of all rows.
use mathlib.Core.Path.{◌≡◌, refl, sym, ap, ◌∙◌}
use mathlib.Core.Bool.{Bool, true, false}
use mathlib.Core.List.{List, [], ◌∷◌, ◌++◌}
use mathlib.Core.Logic.{◌≢◌}
use Prim.Native.Nat.{ℕ, ◌+◌, ◌<◌, ◌≤◌}
use native.Mathlib.Numerals.{add-one}
use native.Mathlib.Omega.{arith}
use lib.Dec.{eqb}
use borrow.Author.Tests.{eqb-true, eq-eqb, ne_eqb}
use Rattle.objects.specs.declared.TypeKey.{TypeKey}
use Rattle.objects.specs.Lists.{Bytes}
use Rattle.objects.specs.Table.{obj_key}
use Rattle.objects.specs.Rows.{Words, type_word, type_count, member_count_of, table_of}
use Rattle.objects.specs.Laid.{Laid, end_of}
use Rattle.objects.specs.Types.{number_of, named_read, number_read, under_read, first_read, total_read}
use Rattle.objects.proofs.ListLaws.{cases}
use Rattle.objects.proofs.RowLaws.{size-read, under-read}
use Rattle.rules.specs.Library.{Library}
use Rattle.rules.proofs.Sounds.{library-sound}
use Rattle.rules.proofs.RangeLaws.{under-in}
use Rattle.multiples.specs.Records.{Record}
use Rattle.walk_rows.specs.Records.{record_at, row_of}
use Rattle.walk_rows.specs.State.{Walked}
use Rattle.walk_rows.proofs.RecordLaws.{row_type}
use Rattle.walk_rows.proofs.LowerLaws.{row_in}
use Rattle.first_hits.specs.Hits.{struct_kind, iface_kind, stretch_met, declared_met, parts_met, methods_met, fields_met}

-- ---- stretches

pub stretch-none : (row first : ℕ) → stretch_met row first 0 ≡ []
unfolding stretch_met
stretch-none row first = refl

pub stretch-more : (row first k : ℕ) → stretch_met row first (k + 1) ≡ stretch_met row first k ++ (record { row = row; place = k; member = obj_key (first + k) } ∷ [])
unfolding stretch_met
stretch-more row first k = rw (add-one k)

-- ---- the members under a type

-- those of a type that is no tuple are members of the table
members-within : (rows : Words) (v : TypeKey) (n : ℕ) → Laid rows → v.0 < type_count rows → 8 ≤ n → eqb (number_read rows v) n ≡ true → first_read rows v + total_read rows v ≤ member_count_of rows
unfolding first_read total_read number_read number_of end_of
members-within rows v n laid i l e =
    cases (eqb (type_word rows v 0) 6)
    (λ h. let k : type_word rows v 0 ≡ 6 = eqb-true (type_word rows v 0) 6 h in let six : 6 ≡ n = eqb-true 6 n (rw k at e) in absurd (omega (arith, six)))
    (λ h. rw h at (laid.within v i))

under-within : (text : Bytes) (rows : Words) → Library text rows → (u : TypeKey) → u.0 < type_count rows → (under_read rows u).0 < type_count rows
under-within text rows lib u i =
    rw (← under-read text rows u i, ← size-read text rows) (under-in (table_of text rows) (library-sound lib) u (rw (size-read text rows) i))

-- ---- the members of a row's type

pub row_typed : {types : ℕ} {walk : List Record} {n : ℕ} → Walked types walk n → (i : ℕ) → i < n → (row_of walk i).type.0 < types
row_typed {walk = walk} h i l = rw (row_type walk i) (row_in h i l (record_at walk i) refl)

-- the row's type, what the code reads of it and, if it has members there, their first and how many they are
module _ (rows : Words) (walk : List Record) (i : ℕ) {u : TypeKey} (at : u ≡ (row_of walk i).type) where
  module _ {b : Bool} (eb : b ≡ named_read rows u) where
    pub declared-none : b ≡ false → declared_met rows walk i ≡ []
    unfolding declared_met
    declared-none h = let no : named_read rows (row_of walk i).type ≡ false = rw at at (sym eb ∙ h) in rw no

    module _ (h : b ≡ true) {first total : ℕ} (ef : first ≡ first_read rows u) (et : total ≡ total_read rows u) where
      pub declared-some : declared_met rows walk i ≡ stretch_met i first total
      unfolding declared_met
      declared-some = let yes : named_read rows (row_of walk i).type ≡ true = rw at at (sym eb ∙ h) in rw (yes, ef, et, at)

      pub declared-within : Laid rows → (row_of walk i).type.0 < type_count rows → first + total ≤ member_count_of rows
      unfolding named_read
      declared-within laid l = rw (ef, et) (members-within rows u 10 laid (rw at l) (omega arith) (sym eb ∙ h))

  module _ {v : TypeKey} (under : v ≡ under_read rows u) {number : ℕ} (en : number ≡ number_read rows v) (kind : ℕ) where
    below : v ≡ under_read rows (row_of walk i).type
    below = under ∙ ap (under_read rows) at

    read : eqb (number_read rows (under_read rows (row_of walk i).type)) kind ≡ eqb number kind
    read = ap (λ x. eqb x kind) (sym (en ∙ ap (number_read rows) below))

    pub parts_none : number ≢ kind → parts_met rows walk kind i ≡ []
    unfolding parts_met
    parts_none h = rw (read, ne_eqb number kind h)

    module _ (h : number ≡ kind) {first total : ℕ} (ef : first ≡ first_read rows v) (et : total ≡ total_read rows v) where
      pub parts-some : parts_met rows walk kind i ≡ stretch_met i first total
      unfolding parts_met
      parts-some = rw (read, eq-eqb number kind h, ef, et, below)

      pub parts-within : {text : Bytes} → Library text rows → 8 ≤ kind → (row_of walk i).type.0 < type_count rows → first + total ≤ member_count_of rows
      parts-within {text} lib g l =
          let inside : v.0 < type_count rows = rw below (under-within text rows lib (row_of walk i).type l) in
          rw (ef, et) (members-within rows v kind lib.laid inside g (eq-eqb _ _ (sym en ∙ h)))

-- ---- those of all rows

module _ (rows : Words) (walk : List Record) where
  pub methods-none : methods_met rows walk 0 ≡ []
  unfolding methods_met
  methods-none = refl

  pub methods-more : (n : ℕ) → methods_met rows walk (n + 1) ≡ (methods_met rows walk n ++ declared_met rows walk n) ++ parts_met rows walk iface_kind n
  unfolding methods_met
  methods-more n = rw (add-one n)

  pub fields-none : fields_met rows walk 0 ≡ []
  unfolding fields_met
  fields-none = refl

  pub fields-more : (n : ℕ) → fields_met rows walk (n + 1) ≡ fields_met rows walk n ++ parts_met rows walk struct_kind n
  unfolding fields_met
  fields-more n = rw (add-one n)
