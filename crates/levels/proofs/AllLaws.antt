-- All levels: when the last level has no row, the records hold all kept walks.
use mathlib.Core.Path.{◌≡◌, refl, sym, ap, ◌∙◌}
use mathlib.Core.Bool.{Bool, false}
use mathlib.Core.List.{List, [], ◌∷◌}
use Prim.Native.Nat.{ℕ, zero, suc, ◌+◌, ◌-◌, ◌≤◌, ◌<◌}
use native.Mathlib.Omega.{arith}
use native.Mathlib.Decide.{dec_lt}
use lib.ListN.{length, get_or-append}
use Rattle.objects.specs.Lists.{Bytes, flat}
use Rattle.objects.specs.declared.TypeKey.{TypeKey}
use Rattle.objects.specs.Table.{type_key}
use Rattle.objects.specs.Rows.{Words, type_count, table_of}
use Rattle.objects.proofs.PartLaws.{get_or-In}
use Rattle.objects.proofs.RowLaws.{size-read}
use Rattle.rules.specs.Library.{Library}
use Rattle.rules.proofs.Sounds.{library-sound}
use Rattle.ways.specs.Graph.{Graph}
use Rattle.ways.specs.OfTable.{graph}
use Rattle.ways.proofs.Bound.{Closed}
use Rattle.ways.proofs.TableLaws.{closed}
use Rattle.multiples.specs.Records.{Record}
use Rattle.walks.specs.Rows.{Row, root_row, row, level, embeds, stage, kept_rows, range}
use Rattle.walks.proofs.RowsKept.{held}
use Rattle.walks.proofs.Loops.{enter-grows}
use Rattle.walk_rows.specs.Records.{row_of, rows_of}
use Rattle.walk_rows.specs.State.{Holds, Enters}
use Rattle.walk_rows.proofs.StateLaws.{rows_at}
use Rattle.levels.specs.All.{Keeps}
use Rattle.levels.proofs.StageLaws.{range-to, below-still, level-short, Staged, staged-below, stage-length, stage-ends, stage-few, row_is}

-- ---- stages

-- below a level without rows nothing changes any more
stage-still : (G : Graph) (t : TypeKey) (f : Bool) (d : ℕ) → level (stage G t f d) ≡ [] → (k : ℕ) → (level (stage G t f (k + d)) ≡ []) × ((stage G t f (k + d)).rows ≡ (stage G t f d).rows)
stage-still G t f d e zero = let z : 0 + d ≡ d = omega arith in rw z (e, refl)
stage-still G t f d e (suc k) =
    let z : suc k + d ≡ suc (k + d) = omega arith in
    let ih = stage-still G t f d e k in
    let s = below-still G (stage G t f (k + d)) ih.0 in
    rw z (s.0, s.1 ∙ ih.1)

-- every row's level is less deep than there are types
rows_short : (G : Graph) → Closed G → (t : TypeKey) (f : Bool) → t.0 < G.size → (d i : ℕ) → i < length (stage G t f d).rows → (row (stage G t f d).rows i).level < G.size
rows_short G closed t f in0 zero i l = let z : i ≡ 0 = omega arith in rw z (omega arith)
rows_short G closed t f in0 (suc d) i l =
    let R = (stage G t f d).rows in
    let g = enter-grows (flat (embeds G R) (level (stage G t f d))) R in
    elim (dec_lt i (length R)) [
      | yes b ↦ rw (g.1, get_or-append R g.0 (root_row (type_key 0) false) i b) (rows_short G closed t f in0 d i b)
      | no b ↦
          let k = range-to (length R) (length (stage G t f (suc d)).rows - length R) i (omega arith) (omega arith) in
          rw ((held G t f (suc d)).last i k) (level-short G closed t f in0 (suc d) i k)
    ]

-- a row's level is no less deep than that of a row before it
rows-climb : (G : Graph) (t : TypeKey) (f : Bool) (d i j : ℕ) → i ≤ j → j < length (stage G t f d).rows → (row (stage G t f d).rows i).level ≤ (row (stage G t f d).rows j).level
rows-climb G t f zero i j o l = let z : i ≡ 0 = omega arith in let y : j ≡ 0 = omega arith in rw (z, y) (omega arith)
rows-climb G t f (suc d) i j o l =
    let R = (stage G t f d).rows in
    let S = (stage G t f (suc d)).rows in
    let g = enter-grows (flat (embeds G R) (level (stage G t f d))) R in
    let old : (k : ℕ) → k < length R → row S k ≡ row R k = λ k b. rw g.1 (get_or-append R g.0 (root_row (type_key 0) false) k b) in
    elim (dec_lt j (length R)) [
      | yes b ↦ rw (old i (omega arith), old j b) (rows-climb G t f d i j o b)
      | no b ↦
          let k = range-to (length R) (length S - length R) j (omega arith) (omega arith) in
          rw ((held G t f (suc d)).last j k) ((held G t f (suc d)).low (row S i) (get_or-In S i _ (omega arith)))
    ]

-- ---- the code's turns

-- the records say the type that they start at
pub root-type : {t : TypeKey} {f : Bool} {walk : List Record} → Holds walk 1 (root_row t f ∷ []) → (row_of walk 0).type ≡ t
root-type {walk = walk} h = ap (λ (r : Row). r.type) (sym (rows_at walk 1 0 (omega arith)) ∙ ap (λ R. row R 0) h.rows)

module _ (text : Bytes) (rows : Words) (t : TypeKey) (f : Bool) where
  abbrev G : Graph
  G = graph (table_of text rows)

  -- The levels so far, no more of them than there are types.
  pub record Deepens (walk : List Record) (lo n : ℕ) : Type 0 where
    pub depth : ℕ
    pub staged : Staged text rows t f walk lo n depth
    pub few : depth ≤ type_count rows

  pub deepens-first : {walk : List Record} → Staged text rows t f walk 0 1 0 → Deepens walk 0 1
  deepens-first s = record { depth = 0; staged = s; few = omega arith }

  module _ {walk : List Record} {lo n : ℕ} (g : Deepens walk lo n) (lib : Library text rows) (typed : t.0 < type_count rows) where
    pub deepens-on : lo < n → {after : List Record} {end : ℕ} → Enters (type_count rows) walk n (flat (embeds G (rows_of walk n)) (range lo (n - lo))) after end → Deepens after n end
    deepens-on more h = record {
      depth = suc g.depth;
      staged = staged-below g.staged h;
      few = let k = stage-few g.staged lib typed more in omega arith;
    }

    -- no row in the last level: these are all
    pub deepens-all : n ≤ lo → {u : TypeKey} → t ≡ u → Keeps rows walk n (kept_rows G u f)
    deepens-all e same =
        let d = g.depth in
        let k = g.few in
        let size = size-read text rows in
        let left : type_count rows ≡ type_count rows - d + d = omega arith in
        rw (sym same) record {
          state = g.staged.state;
          held = g.staged.held ∙ sym (ap (λ m. (stage G t f m).rows) (size ∙ left) ∙ (stage-still G t f d (stage-ends g.staged e) (type_count rows - d)).1);
          short = λ i l.
              let long = stage-length g.staged in
              let low = rows_short G (closed (table_of text rows) (library-sound lib)) t f (rw size typed) d i (omega arith) in
              let here = row_is g.staged i l in
              let types = lib.laid.types in
              omega arith;
          climbs = λ i j o l.
              let long = stage-length g.staged in
              rw (row_is g.staged i (omega arith), row_is g.staged j l) (rows-climb G t f d i j o (omega arith));
        }
