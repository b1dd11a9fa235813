-- The way to a row: its places as they are read up through the records, and as they are written from the last one back.
use mathlib.Core.Path.{◌≡◌, refl, sym, ap, ap₂, ◌∙◌}
use mathlib.Core.List.{List, [], ◌∷◌, ◌++◌, append_assoc}
use Prim.Native.Nat.{ℕ, zero, suc, ◌+◌, ◌-◌, ◌≤◌, ◌<◌}
use native.Mathlib.Omega.{arith}
use lib.ListN.{length, set, take, drop, length-set}
use lib.Seq.{drop-cons, drop-set-lt, get_or-set_same}
use Rattle.objects.specs.Rows.{Words}
use Rattle.multiples.specs.Records.{Record}
use Rattle.walks.specs.Rows.{Row, row, places_to, walk_at}
use Rattle.walk_rows.specs.Records.{record_at, row_of, rows_of, level_of}
use Rattle.walk_rows.specs.State.{Rowed, places_read, Written}
use Rattle.walk_rows.proofs.RecordLaws.{row-parent, row-place, row-level}
use Rattle.walk_rows.proofs.StateLaws.{rows_at}

module _ (walk : List Record) (n : ℕ) (h : Rowed walk n) where
  read-places : (d i : ℕ) → i < n → places_read walk d i ≡ places_to (rows_of walk n) d i
  unfolding places_read
  read-places zero i l = refl
  read-places (suc d) i l = let b = h.back i l in rw (rows_at walk n i l) (ap (λ p. p ++ ((row_of walk i).place ∷ [])) (read-places d (row_of walk i).parent (omega arith)))

  -- WHAT IS READ IS THE ROW'S WALK.
  pub read_walk : (i : ℕ) → i < n → places_read walk (level_of walk i) i ≡ (walk_at (rows_of walk n) i).places
  read_walk i l =
      let level : (row (rows_of walk n) i).level ≡ level_of walk i = ap (λ (r : Row). r.level) (rows_at walk n i l) ∙ row-level walk i in
      read-places (level_of walk i) i l ∙ ap (λ k. places_to (rows_of walk n) k i) (sym level)

-- the places from one on, up to the last
unfoldable pub written : Words → ℕ → ℕ → List ℕ
written places left d = take (d + 1 - left) (drop left places)

written-more : (places : Words) (left d v : ℕ) → left ≤ d → left < length places → written (set places left v) left d ≡ v ∷ written places (left + 1) d
unfolding written
written-more places left d v h l =
    let z : d + 1 - left ≡ suc (d - left) = omega arith in
    let y : d + 1 - (left + 1) ≡ d - left = omega arith in
    let s : left + 1 ≡ suc left = omega arith in
    rw (z, y, s, drop-cons (set places left v) left 0 (simp length-set l), get_or-set_same places left v 0 l, drop-set-lt (suc left) places left v (omega arith))

-- What is left to do: `left` steps up from row `at`; the places behind them are written.
pub record Climbs (walk : List Record) (d i last : ℕ) (places : Words) (left at : ℕ) : Type 0 where
  pub order : left ≤ d
  pub way : places_read walk d i ++ (last ∷ []) ≡ places_read walk left at ++ written places left d

module _ (walk : List Record) (d i last : ℕ) where
  pub climb-start : (places : Words) → d < length places → Climbs walk d i last (set places d last) d i
  unfolding written
  climb-start places l = record {
    order = omega arith;
    way = let z : d + 1 - (d + 1) ≡ 0 = omega arith in ap (λ r. places_read walk d i ++ r) (sym (written-more places d d last (omega arith) l ∙ rw z));
  }

  module _ {places : Words} {left at : ℕ} (h : Climbs walk d i last places left at) where
    pub climb-more : 0 < left → d < length places → (e : Record) → e ≡ record_at walk at → Climbs walk d i last (set places (left - 1) (e.place)) (left - 1) (e.parent)
    unfolding places_read
    climb-more some l e read =
        let o = h.order in
        let s : left ≡ suc (left - 1) = omega arith in
        let t : left ≡ left - 1 + 1 = omega arith in
        record {
          order = omega arith;
          way = h.way
              ∙ ap₂ (λ n r. places_read walk n at ++ r) s (ap (λ n. written places n d) t)
              ∙ ap₂ (λ p v. (places_read walk (left - 1) p ++ (v ∷ [])) ++ written places (left - 1 + 1) d) (row-parent walk at ∙ ap (λ (r : Record). r.parent) (sym read)) (row-place walk at ∙ ap (λ (r : Record). r.place) (sym read))
              ∙ append_assoc (places_read walk (left - 1) (e.parent)) (e.place ∷ []) (written places (left - 1 + 1) d)
              ∙ ap (λ r. places_read walk (left - 1) (e.parent) ++ r) (sym (written-more places (left - 1) d (e.place) (omega arith) (omega arith)));
        }

    pub climb-end : left ≤ 0 → d ≡ level_of walk i → Written walk i last places (d + 1)
    unfolding places_read written
    climb-end none ed =
        let z : left ≡ 0 = omega arith in
        let y : d + 1 - 0 ≡ d + 1 = omega arith in
        let k : Climbs walk d i last places 0 at = rw z at h in
        record { long = rw ed; read = sym (k.way ∙ rw y) ∙ ap (λ e. places_read walk e i ++ (last ∷ [])) ed }
