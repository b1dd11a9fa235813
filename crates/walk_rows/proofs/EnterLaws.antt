-- One row more: the first of its type, or the second.
use mathlib.Core.Path.{◌≡◌, refl, sym, ap, ◌∙◌}
use mathlib.Core.Bool.{Bool, true, false, ◌||◌}
use mathlib.Core.List.{List, [], ◌∷◌, ◌++◌}
use mathlib.Core.Logic.{◌≢◌}
use Prim.Native.Nat.{ℕ, zero, suc, ◌+◌, ◌-◌, ◌≤◌, ◌<◌}
use native.Mathlib.Omega.{arith}
use native.Mathlib.Decide.{dec_lt}
use lib.Dec.{eqb, ltb}
use lib.ListN.{length, take, drop}
use borrow.Rule.Slice.PartMut.{put_mid}
use borrow.Author.Tests.{ltb-true, ltb-false, lt-ltb, le-ltb}
use Rattle.objects.specs.declared.TypeKey.{TypeKey}
use Rattle.objects.specs.Table.{same_type}
use Rattle.objects.proofs.ListLaws.{cases, clash, or_l, or_r}
use Rattle.objects.proofs.KeyLaws.{key-eq, same_self}
use Rattle.multiples.specs.Records.{max_records, Record, consolidated}
use Rattle.walks.specs.Rows.{Row, row, entered}
use Rattle.walk_rows.specs.Records.{record_at, row_meant, row_of, rows_of, level_of, mark_of, first_of, record_put, first_put}
use Rattle.walk_rows.specs.State.{HasRoom, times_in, Told, Rowed, Fits, Holds}
use Rattle.walk_rows.proofs.RecordLaws.{row_kept, mark-kept, row-level, level-read, first-length, first-same, first-other, first-here, mark_put, mark-length, mark-row, mark-first, mark-other, mark-here, put-length, put_same, put-here, put-mark, put_first}
use Rattle.walk_rows.proofs.LentLaws.{part-marked}
use Rattle.walk_rows.proofs.ListLaws.{full-none, full-one, full-two, full-earlier, entered-not, entered-last}
use Rattle.walk_rows.proofs.StateLaws.{rows-length, rows_at, rows-most, room, Grows, grown, grown-rows, grown-times}

other-number : (t u : TypeKey) → same_type t u ≡ false → u.0 ≢ t.0
other-number t u e q = clash (rw (key-eq u t q) (same_self t)) e

held_on : {walk after : List Record} {n : ℕ} {x : Row} → Rowed walk n → Grows walk n x after → HasRoom walk x.type → x.parent ≤ n → x.level ≤ n → Told after (suc n) x.type → Holds after (n + 1) (rows_of walk n ++ (x ∷ []))
held_on {n = n} h g t b l k = let s : n + 1 ≡ suc n = omega arith in rw s record { state = grown g h t b l k; rows = grown-rows g }

-- ---- the first row of a type

module _ (walk : List Record) (from n : ℕ) (e : Record) (h : Rowed walk n) (f : Fits walk from n e) where
  abbrev x : Row
  x = row_meant e

  -- whatever level it is of
  pub fits-first : Fits walk 0 n e
  fits-first = record { typed = f.typed; back = f.back; low = f.low; plain = f.plain; order = omega arith; earlier = λ j l. absurd (omega arith) }

  pub type-inside : e.typ.0 < length walk
  type-inside = let t = f.typed in omega arith

  pub first-few : first_of walk e.typ ≤ length walk
  first-few = few (first_of walk e.typ) refl
    where
      few : (k : ℕ) → first_of walk e.typ ≡ k → k ≤ length walk
      few zero q = omega arith
      few (suc j) q = let l = ((h.told e.typ f.typed).first j q).0 in let m = rows-most h in omega arith

  module _ (new : first_of walk e.typ ≡ 0) where
    none_yet : times_in walk n e.typ ≡ 0
    none_yet = (h.told e.typ f.typed).none new

    pub first-room : n < length walk
    unfolding row_meant
    first-room = let z = none_yet in room h x f.typed (omega arith)

    abbrev put : List Record
    put = record_put walk n e

    pub first-long : length put ≡ length walk
    first-long = put-length walk n e first-room

    type_put : e.typ.0 < length put
    type_put = rw first-long type-inside

    abbrev after : List Record
    after = first_put put e.typ n

    first-grows : Grows walk n x after
    unfolding row_meant
    first-grows =
        let r = first-room in
        let t = type_put in
        record {
          long = first-length put e.typ n t ∙ first-long;
          old = λ j l. row_kept put after j (first-same put e.typ n t j) ∙ row_kept walk put j (put_same walk n e r j (λ q. omega arith));
          new = row_kept put after n (first-same put e.typ n t n) ∙ put-here walk n e r;
          firsts = λ u d. first-other put e.typ n t u (other-number e.typ u d) ∙ put_first walk n e r u;
          marks = λ u d j l q. mark-kept put after j (first-same put e.typ n t j) ∙ mark-kept walk put j (put_same walk n e r j (λ p. omega arith));
        }

    first-is : first_of after e.typ ≡ suc n
    first-is = first-here put e.typ n type_put

    first-mark : mark_of after n ≡ false
    first-mark = mark-kept put after n (first-same put e.typ n type_put n) ∙ put-mark walk n e first-room ∙ ap (λ w. eqb w 1) f.plain

    first-told : Told after (suc n) e.typ
    unfolding row_meant
    first-told = record {
      none = λ z. let i = first-is in absurd (omega arith);
      first = λ j z. let i = first-is in let q : j ≡ n = omega arith in (omega arith, rw q (ap (λ (r : Row). r.type) first-grows.new));
      one = λ j z m. grown-times first-grows ∙ ap suc none_yet;
      two = λ j z m. let i = first-is in let q : j ≡ n = omega arith in let m' : mark_of after n ≡ true = rw q at m in clash m' first-mark;
    }

    pub first_holds : {put1 : List Record} → put1 ≡ put → Holds (first_put put1 e.typ n) (n + 1) (rows_of walk n ++ (row_meant e ∷ []))
    unfolding row_meant
    first_holds a = rw a (held_on h first-grows f.typed f.back f.low first-told)

  -- ---- the second

  module _ (i : ℕ) (there : first_of walk e.typ ≡ suc i) where
    pub at_first : (i < n) × ((row_of walk i).type ≡ e.typ)
    at_first = (h.told e.typ f.typed).first i there

    second-in : i < length walk
    second-in = let l = at_first.0 in let m = rows-most h in omega arith

    module _ (plain : mark_of walk i ≡ false) where
      pub one-yet : times_in walk n e.typ ≡ 1
      one-yet = (h.told e.typ f.typed).one i there plain

      second-room : n < length walk
      unfolding row_meant
      second-room = let z = one-yet in room h x f.typed (omega arith)

      abbrev marks : List Record
      marks = mark_put walk i

      pub marks-room : n < length marks
      marks-room = rw (mark-length walk i second-in) second-room

      pub marks-most : length marks ≤ max_records
      marks-most = rw (mark-length walk i second-in) h.most

      -- the level is lent, and its record of the type marked
      pub part-marks : from ≤ i → {part : List Record} → part ≡ consolidated (take (n - from) (drop from walk)) e.typ → put_mid from (n - from) walk part ≡ marks
      part-marks a q = rw q (part-marked walk from n i a at_first.0 (rows-most h) e.typ at_first.1 one-yet)

      abbrev after2 : List Record
      after2 = record_put marks n e

      old2 : (j : ℕ) → j < n → row_of after2 j ≡ row_of walk j
      old2 j l = row_kept marks after2 j (put_same marks n e marks-room j (λ q. omega arith)) ∙ mark-row walk i second-in j

      mark2 : (j : ℕ) → j < n → mark_of after2 j ≡ mark_of marks j
      mark2 j l = mark-kept marks after2 j (put_same marks n e marks-room j (λ q. omega arith))

      first2 : (u : TypeKey) → first_of after2 u ≡ first_of walk u
      first2 u = put_first marks n e marks-room u ∙ mark-first walk i second-in u

      second-grows : Grows walk n x after2
      unfolding row_meant
      second-grows = record {
        long = put-length marks n e marks-room ∙ mark-length walk i second-in;
        old = old2;
        new = put-here marks n e marks-room;
        firsts = λ u d. first2 u;
        marks = λ u d j l q. mark2 j l ∙ mark-other walk i second-in j (λ z. other-number e.typ u d (ap (λ (t : TypeKey). t.0) (sym q ∙ ap (λ k. (row_of walk k).type) z ∙ at_first.1)));
      }

      second-mark : mark_of after2 i ≡ true
      second-mark = mark2 i at_first.0 ∙ mark-here walk i second-in

      second-told : Told after2 (suc n) e.typ
      unfolding row_meant
      second-told =
          let d = first2 e.typ in
          record {
            none = λ z. absurd (omega arith);
            first = λ j z. let q : j ≡ i = omega arith in let l = at_first.0 in (omega arith, rw q (ap (λ (r : Row). r.type) (old2 i l) ∙ at_first.1));
            one = λ j z m. let q : j ≡ i = omega arith in let m' : mark_of after2 i ≡ false = rw q at m in clash second-mark m';
            two = λ j z m. grown-times second-grows ∙ ap suc one-yet;
          }

      pub second_holds : {put1 put2 : List Record} → put1 ≡ marks → put2 ≡ record_put put1 n e → Holds put2 (n + 1) (rows_of walk n ++ (row_meant e ∷ []))
      unfolding row_meant
      second_holds a b = rw (b, a) (held_on h second-grows f.typed f.back f.low second-told)

-- ---- which of them are entered

module _ (walk : List Record) (from n : ℕ) (e : Record) (h : Rowed walk n) (f : Fits walk from n e) where
  pub enters-new : first_of walk e.typ ≡ 0 → rows_of walk n ++ (row_meant e ∷ []) ≡ entered (rows_of walk n) (row_meant e)
  unfolding row_meant times_in
  enters-new z = entered-last (rows_of walk n) (row_meant e) (full-none (rows_of walk n) (row_meant e) ((h.told e.typ f.typed).none z))

  module _ (i : ℕ) (there : first_of walk e.typ ≡ suc i) where
    abbrev known : (i < n) × ((row_of walk i).type ≡ e.typ)
    known = at_first walk from n e h f i there

    inside : i < length (rows_of walk n)
    inside = let l = known.0 in rw (rows-length walk n) (omega arith)

    type-is : (row (rows_of walk n) i).type ≡ e.typ
    type-is = rw (rows_at walk n i known.0) known.1

    level-is : (row (rows_of walk n) i).level ≡ level_of walk i
    level-is = rw (rows_at walk n i known.0) (row-level walk i)

    abbrev out : Bool
    out = ltb (level_of walk i) e.level || mark_of walk i

    pub enters-out : out ≡ true → rows_of walk n ≡ entered (rows_of walk n) (row_meant e)
    unfolding row_meant times_in
    enters-out o =
        entered-not (rows_of walk n) (row_meant e)
        (cases (ltb (level_of walk i) e.level)
        (λ a. full-earlier (rows_of walk n) (row_meant e) i inside type-is (rw level-is (ltb-true (level_of walk i) e.level a)))
        (λ a. let m : mark_of walk i ≡ true = rw a at o in full-two (rows_of walk n) (row_meant e) ((h.told e.typ f.typed).two i there m)))

    module _ (o : out ≡ false) where
      not_earlier : e.level ≤ level_of walk i
      not_earlier = ltb-false (level_of walk i) e.level (or_l (ltb (level_of walk i) e.level) (mark_of walk i) o)

      pub unmarked : mark_of walk i ≡ false
      unmarked = or_r (ltb (level_of walk i) e.level) (mark_of walk i) o

      -- it is of the level itself
      pub on-level : from ≤ i
      on-level = elim (dec_lt i from) [ yes l ↦ let a = f.earlier i l in let b = not_earlier in absurd (omega arith) | no l ↦ omega arith ]

      pub enters-again : rows_of walk n ++ (row_meant e ∷ []) ≡ entered (rows_of walk n) (row_meant e)
      unfolding row_meant times_in
      enters-again = entered-last (rows_of walk n) (row_meant e) (full-one (rows_of walk n) (row_meant e) i ((h.told e.typ f.typed).one i there unmarked) inside type-is (rw level-is not_earlier))

pub holds_as : {walk : List Record} {n : ℕ} {R S : List Row} → R ≡ S → Holds walk n R → Holds walk n S
holds_as e h = record { state = h.state; rows = h.rows ∙ e }

-- ---- what the code tells

module _ (walk : List Record) (i level : ℕ) (r : Record) (read : r ≡ record_at walk i) where
  pub out-earlier : r.level < level → true ≡ ltb (level_of walk i) level || mark_of walk i
  out-earlier h = rw (lt-ltb (level_of walk i) level (rw (level-read walk i r read) at h))

  pub out-marked : level ≤ r.level → eqb r.multiples 1 ≡ ltb (level_of walk i) level || mark_of walk i
  unfolding mark_of
  out-marked h = rw (le-ltb (level_of walk i) level (rw (level-read walk i r read) at h), read)

-- there is a first record
pub first-suc : (k m : ℕ) → k ≡ m → k ≢ 0 → m ≡ suc (k - 1)
first-suc zero m e n = absurd (n refl)
first-suc (suc k) m e n = omega arith

pub holds-now : {walk : List Record} {n : ℕ} → Rowed walk n → Holds walk n (rows_of walk n)
holds-now h = record { state = h; rows = refl }
