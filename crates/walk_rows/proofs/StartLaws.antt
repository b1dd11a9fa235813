-- The start: no type has a row.
use mathlib.Core.Path.{◌≡◌, refl, ap, ◌∙◌}
use mathlib.Core.Bool.{Bool}
use mathlib.Core.List.{List}
use Prim.Native.Nat.{ℕ, ◌+◌, ◌≤◌, ◌<◌}
use native.Mathlib.Omega.{arith}
use lib.Dec.{eqb}
use lib.ListN.{length, set}
use borrow.Author.Tests.{eqb-true, eqb-false}
use Rattle.objects.specs.declared.TypeKey.{TypeKey}
use Rattle.objects.specs.Table.{obj_key}
use Rattle.objects.proofs.ListLaws.{cases}
use Rattle.multiples.specs.Records.{max_records, Record}
use Rattle.walks.specs.Rows.{root_row}
use Rattle.walk_rows.specs.Records.{record_at, firsted, row_meant, rows_of, first_of}
use Rattle.walk_rows.specs.State.{HasRoom, times_in, Empty, Rowed, Fits}
use Rattle.walk_rows.proofs.RecordLaws.{record-put, record-kept}

-- the first i types have no row
abbrev pub Cleared : List Record → ℕ → Type 0
Cleared walk i = (t : TypeKey) → t.0 < i → first_of walk t ≡ 0

pub cleared_more : (walk : List Record) (i : ℕ) → i < length walk → Cleared walk i → Cleared (set walk i (firsted (record_at walk i) 0)) (i + 1)
unfolding first_of
cleared_more walk i l h t b =
    cases (eqb t.0 i)
    (λ e. rw (eqb-true t.0 i e) (ap (λ (r : Record). r.first) (record-put walk i (firsted (record_at walk i) 0) l)))
    (λ e. let ne = eqb-false t.0 i e in ap (λ (r : Record). r.first) (record-kept walk i (firsted (record_at walk i) 0) t.0 ne) ∙ h t (omega arith))

-- no row yet
pub rowed-none : (walk : List Record) → length walk ≤ max_records → Empty walk → Rowed walk 0
unfolding times_in rows_of
rowed-none walk most clear = record {
  most = most;
  typed = λ j l. absurd (omega arith);
  back = λ j l. absurd (omega arith);
  low = λ j l. absurd (omega arith);
  told = λ u l. record { none = λ z. refl; first = λ j z. let c = clear u l in absurd (omega arith); one = λ j z m. let c = clear u l in absurd (omega arith); two = λ j z m. let c = clear u l in absurd (omega arith) };
}

-- ---- the first row

module _ (t : TypeKey) (flag : ℕ) where
  abbrev pub root_record : Record
  root_record = record { typ = t; parent = 0; place = 0; indirect = flag; multiples = 0; key = obj_key 0; level = 0; first = 0 }

  pub root-fits : (walk : List Record) → HasRoom walk t → Fits walk 0 0 root_record
  root-fits walk room = record { typed = room; back = omega arith; low = omega arith; plain = refl; order = omega arith; earlier = λ j l. absurd (omega arith) }

  pub root-meant : (f : Bool) → eqb flag 1 ≡ f → row_meant root_record ≡ root_row t f
  unfolding row_meant
  root-meant f e = ap (root_row t) e
