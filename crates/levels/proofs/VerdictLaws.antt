-- The first row that has the name, the next one, and the selection that they give.
use mathlib.Core.Path.{◌≡◌, refl, sym, ap, ap₂, ◌∙◌, subst}
use mathlib.Core.Bool.{Bool, true, false, not, ◌&&◌}
use mathlib.Core.List.{List, [], ◌∷◌, ◌++◌}
use Prim.Native.Nat.{ℕ, ◌+◌, ◌*◌, ◌-◌, ◌≤◌, ◌<◌}
use native.Mathlib.Omega.{arith}
use native.Mathlib.Numerals.{add-one}
use lib.ListN.{length, take, drop, take-append-drop}
use lib.Seq.{length-take-le, take-append-le, drop_at}
use borrow.Rule.Slice.PartMut.{mid_of, put_mid, mid_len}
use Rattle.std.specs.declared.option.Option as code
use Rattle.std.specs.Prelude.{Some, None}
use Rattle.objects.specs.Bounds.{max_places}
use Rattle.objects.specs.Lists.{Bytes}
use Rattle.objects.specs.declared.ObjKey.{ObjKey}
use Rattle.objects.specs.Table.{Table, has_ptr}
use Rattle.objects.specs.Rows.{Words, member_at, table_of, type_count}
use Rattle.objects.specs.Types.{ptr_read, method_read, member_type_read}
use Rattle.objects.proofs.RowLaws.{ptr-meant}
use Rattle.text.specs.Bytes.{is_blank}
use Rattle.rules.specs.Members.{Identity}
use Rattle.rules.specs.Ways.{Way, places_of, received, judged, ambiguous}
use Rattle.selection.specs.declared.Entity.{Entity}
use Rattle.selection.specs.declared.LookupResult.{LookupResult}
use Rattle.selection.specs.declared.Selection.{Selection}
use Rattle.selection.specs.Results.{key_of, result_meant, called_right, Typed, Selects, second_of}
use Rattle.multiples.specs.Records.{Record}
use Rattle.walk_rows.specs.Records.{row_of, level_of}
use Rattle.walk_rows.specs.State.{Rowed, Written}
use Rattle.walk_rows.proofs.StateLaws.{rows_at}
use Rattle.walk_rows.proofs.PlaceLaws.{read_walk}
use Rattle.levels.specs.declared.Found.{Found}
use Rattle.levels.specs.Hits.{ways_from, way_to, ways_told, OwnAt, Tells, Beside, Inside, Alone}

-- ---- one way alone

module _ (text : Bytes) (rows : Words) (m : ObjKey) (flag a : Bool) {p : Bool} (ep : p ≡ ptr_read rows m) {b : Bool} (eb : b ≡ p && not flag && not a) where
  tested : has_ptr (member_at text rows m).entity && not flag && not a ≡ b
  tested = rw (ptr-meant text rows m, ← ep) (sym eb)

  pub alone-bad : b ≡ true → Alone text rows m flag a LookupResult.BadMethodReceiver
  unfolding result_meant called_right Typed
  alone-bad e = record { says = λ first second. rw (tested, e); called = refl; typed = λ h. tt }

  pub alone-method : b ≡ false → {t : Bool} → t ≡ method_read rows m → t ≡ true → Alone text rows m flag a (LookupResult.Entry (Entity.Method m) flag)
  unfolding result_meant called_right Typed key_of
  alone-method e et y = record { says = λ first second. rw (tested, e); called = sym et ∙ y; typed = λ h. h }

  pub alone-field : b ≡ false → {t : Bool} → t ≡ method_read rows m → t ≡ false → Alone text rows m flag a (LookupResult.Entry (Entity.Field m) flag)
  unfolding result_meant called_right Typed key_of
  alone-field e et y = record { says = λ first second. rw (tested, e); called = ap not (sym et ∙ y); typed = λ h. h }

-- ---- the first row, and the next

-- the part of a lent row behind the room for one way, and the row with that part changed
abbrev behind : Words → Words
behind places = mid_of max_places (length places - max_places) places

abbrev rejoined : Words → Words → Words
rejoined places others = put_mid max_places (length places - max_places) places others

module _ (text : Bytes) (rows : Words) (walk : List Record) (w : Found) (a : Bool) where
  -- what the verdict has to say, whatever rows there are
  abbrev pub Verdict : code.Option Found → Selection → Words → Type 0
  Verdict next r places = (n : ℕ) → Rowed walk n → w.row < n → Inside n next → Selects text rows r places (judged a (ways_told text rows walk n w next))

  -- a way as it was written
  written-way : (n : ℕ) → Rowed walk n → (v : Found) → v.row < n → {places : Words} {times : ℕ} → Written walk v.row v.place places times → take times places ≡ places_of (way_to text rows walk n v)
  unfolding way_to
  written-way n h v l k = k.read ∙ ap (λ p. p ++ (v.place ∷ [])) (read_walk walk n h v.row l)

  module _ (low : level_of walk w.row < max_places) {places : Words} {times : ℕ} (k : Written walk w.row w.place places times) where
    times-fit : times ≤ max_places
    times-fit = let e = k.long in omega arith

    -- no other row has the name
    module _ (typed : (member_type_read rows w.member).0 < type_count rows) {next : code.Option Found} (none : next ≡ None) {flag : Bool} (read : flag ≡ (row_of walk w.row).flag) where
      single-is : (n : ℕ) → w.row < n → judged a (ways_told text rows walk n w next) ≡ received a (member_at text rows w.member) flag (places_of (way_to text rows walk n w))
      unfolding ways_told way_to
      single-is n l = rw (none, rows_at walk n w.row l, read)

      pub verdict-one : {r : LookupResult} → Alone text rows w.member flag a r → Verdict next (record { result = r; count = times }) places
      verdict-one s n h l i = record {
        says = s.says (take times places) (take times (second_of places))
            ∙ ap (received a (member_at text rows w.member) flag) (written-way n h w l k)
            ∙ sym (single-is n l);
        fits = times-fit;
        called = s.called;
        typed = s.typed typed;
      }

    -- the next row that has it makes another way, as long, written behind the room for the first
    module _ (long : 2 * max_places ≤ length places) {next : code.Option Found} {v : Found} (at : next ≡ Some v) (beside : Beside walk w next) where
      even : level_of walk v.row ≡ level_of walk w.row
      unfolding Beside
      even = subst (Beside walk w) at beside

      pub second_fits : (level_of walk v.row < max_places) × (max_places ≤ length (behind places))
      second_fits = (rw even low, rw (mid_len max_places (length places) places (omega arith)) (omega arith))

      module _ {others : Words} {more : ℕ} (g : Written walk v.row v.place others more) (same : length others ≡ length (behind places)) where
        front : take times (rejoined places others) ≡ take times places
        front =
            let room = length-take-le max_places places (omega arith) in
            let fits = times-fit in
            take-append-le times (take max_places places) _ (omega arith)
            ∙ sym (take-append-le times (take max_places places) (drop max_places places) (omega arith))
            ∙ ap (take times) (take-append-drop max_places places)

        second : take times (second_of (rejoined places others)) ≡ take times others
        second =
            let fits = times-fit in
            let room = second_fits.1 in
            ap (take times) (drop_at (take max_places places) _ max_places (length-take-le max_places places (omega arith)))
            ∙ take-append-le times others _ (omega arith)

        same-times : more ≡ times
        same-times = g.long ∙ ap (λ d. d + 1) even ∙ sym k.long

        pub verdict-two : Verdict next (record { result = LookupResult.Ambiguous; count = times }) (rejoined places others)
        unfolding result_meant called_right Typed ways_told Inside
        verdict-two = rw at (λ n h l i. record {
          says = ap₂ ambiguous (front ∙ written-way n h w l k) (second ∙ ap (λ m. take m others) (sym same-times) ∙ written-way n h v i g);
          fits = times-fit;
          called = refl;
          typed = tt;
        })

-- ---- what the ways of a level give

module _ (text : Bytes) (rows : Words) (q : Identity) (walk : List Record) (n : ℕ) (w : Found) where
  abbrev T : Table
  T = table_of text rows

  pub told-inside : (next : code.Option Found) → Tells text rows q walk n (w.row + 1) next → Inside n next
  unfolding Tells Inside
  told-inside None h = tt
  told-inside (Some v) h = h.here.inside

  -- the first two ways decide
  pub told-judged : (next : code.Option Found) → OwnAt text rows q walk n w → Tells text rows q walk n (w.row + 1) next → is_blank q.name ≡ false
      → (a : Bool) → judged a (ways_told text rows walk n w next) ≡ judged a (ways_from T q walk n w.row)
  unfolding ways_told Tells
  told-judged next own h nb a = by next h
    where
      whole : (l : List Way) → ways_from T q walk n (w.row + 1) ≡ l → ways_from T q walk n w.row ≡ way_to text rows walk n w ∷ l
      whole l e = own.ways nb ∙ ap (λ r. way_to text rows walk n w ∷ r) (ap (ways_from T q walk n) (sym (add-one w.row)) ∙ e)

      by : (x : code.Option Found) → Tells text rows q walk n (w.row + 1) x → judged a (ways_told text rows walk n w x) ≡ judged a (ways_from T q walk n w.row)
      by None k = ap (judged a) (sym (whole [] k))
      by (Some v) k = ap (judged a) (sym (whole _ (k.left ∙ k.here.ways nb)))
