-- The levels one after the other: the records hold the rows of a stage (crate walks, specs/Rows.antt).
use mathlib.Core.Path.{◌≡◌, refl, sym, ap, ap₂, ◌∙◌}
use mathlib.Core.Bool.{Bool}
use mathlib.Core.List.{List, [], ◌∷◌}
use mathlib.Core.Logic.{inl, inr}
use Prim.Native.Nat.{ℕ, zero, suc, ◌+◌, ◌*◌, ◌-◌, ◌≤◌, ◌<◌}
use native.Mathlib.Omega.{arith}
use native.Mathlib.Decide.{dec_lt}
use lib.ListN.{length}
use Rattle.objects.specs.Lists.{Bytes, flat, In}
use Rattle.objects.specs.declared.TypeKey.{TypeKey}
use Rattle.objects.specs.Rows.{Words, type_count, table_of}
use Rattle.objects.proofs.ListLaws.{either, map-In-to}
use Rattle.objects.proofs.PartLaws.{get_or-In}
use Rattle.objects.proofs.RowLaws.{size-read}
use Rattle.rules.specs.Library.{Library}
use Rattle.rules.proofs.Sounds.{library-sound}
use Rattle.ways.specs.Graph.{Graph, start}
use Rattle.ways.specs.OfTable.{graph}
use Rattle.ways.proofs.Bound.{Closed}
use Rattle.ways.proofs.TableLaws.{closed}
use Rattle.multiples.specs.Records.{Record}
use Rattle.walks.specs.Kept.{kept}
use Rattle.walks.specs.Rows.{Row, root_row, row, walk_at, enter_all, Stage, level, embeds, below, stage, range}
use Rattle.walks.proofs.RowsKept.{held}
use Rattle.walks.proofs.Few.{levels-few}
use Rattle.walk_rows.specs.Records.{rows_of, level_of}
use Rattle.walk_rows.specs.State.{Holds, Walked, Enters, LastFrom}
use Rattle.walk_rows.proofs.RecordLaws.{row-level}
use Rattle.walk_rows.proofs.StateLaws.{rows-length, rows_at}

-- ---- ranges

pub range-to : (lo n j : ℕ) → lo ≤ j → j < lo + n → In j (range lo n)
range-to lo zero j a b = absurd (omega arith)
range-to lo (suc n) j a b = elim (dec_lt lo j) [ yes l ↦ inr (range-to (suc lo) n j (omega arith) (omega arith)) | no l ↦ inl (omega arith) ]

range_none : (lo n : ℕ) → n ≡ 0 → range lo n ≡ []
range_none lo n e = rw e

-- ---- levels

-- a level without rows has none below it, and nothing is entered
pub below-still : (G : Graph) (S : Stage) → level S ≡ [] → (level (below G S) ≡ []) × ((below G S).rows ≡ S.rows)
below-still G S e =
    let same : (below G S).rows ≡ S.rows = ap (λ l. enter_all S.rows (flat (embeds G S.rows) l)) e in
    (range_none (length S.rows) (length (below G S).rows - length S.rows) (let l = ap length same in omega arith), same)

-- a level that has a row is less deep than there are types
pub level-short : (G : Graph) → Closed G → (t : TypeKey) (f : Bool) → t.0 < G.size → (d i : ℕ) → In i (level (stage G t f d)) → d < G.size
level-short G closed t f in0 d i k =
    let R = (stage G t f d).rows in
    let w : In (walk_at R i) (kept G (start t f) d) = rw (held G t f d).here at (map-In-to (walk_at R) (level (stage G t f d)) i k) in
    levels-few G (start t f) closed in0 d (walk_at R i) w

-- ---- the records of a stage

-- The records hold the rows of the levels 0 to d, the last of them from row lo on.
pub record Staged (text : Bytes) (rows : Words) (t : TypeKey) (f : Bool) (walk : List Record) (lo n d : ℕ) : Type 0 where
  pub state : Walked (type_count rows) walk n
  pub held : rows_of walk n ≡ (stage (graph (table_of text rows)) t f d).rows
  pub from : lo ≡ (stage (graph (table_of text rows)) t f d).from

pub staged-first : (text : Bytes) (rows : Words) {t : TypeKey} {f : Bool} {walk : List Record} → Holds walk 1 (root_row t f ∷ []) → 2 * type_count rows ≤ length walk → t.0 < type_count rows → Staged text rows t f walk 0 1 0
staged-first text rows h room l = record {
  state = record { room = room; rowed = h.state; typed = rw h.rows (λ r i. either i (λ e. rw e l) (λ z. absurd z)) };
  held = h.rows;
  from = refl;
}

module _ {text : Bytes} {rows : Words} {t : TypeKey} {f : Bool} {walk : List Record} {lo n d : ℕ} (s : Staged text rows t f walk lo n d) where
  abbrev G : Graph
  G = graph (table_of text rows)

  abbrev S : Stage
  S = stage G t f d

  pub stage-length : length S.rows ≡ n
  stage-length = ap length (sym s.held) ∙ rows-length walk n

  pub stage-begins : lo ≤ n
  stage-begins = let a = (held G t f d).begins in let b = stage-length in let c = s.from in omega arith

  pub stage-level : level S ≡ range lo (n - lo)
  stage-level = ap₂ (λ a b. range a (b - a)) (sym s.from) stage-length

  pub stage-ends : n ≤ lo → level S ≡ []
  stage-ends e = stage-level ∙ range_none lo (n - lo) (omega arith)

  -- the rows of the last level are d steps down,
  pub row_is : (j : ℕ) → j < n → level_of walk j ≡ (row S.rows j).level
  row_is j l = sym (row-level walk j) ∙ ap (λ (r : Row). r.level) (sym (rows_at walk n j l)) ∙ ap (λ R. (row R j).level) s.held

  pub stage-deep : (j : ℕ) → lo ≤ j → j < n → level_of walk j ≡ d
  stage-deep j b l = row_is j l ∙ (held G t f d).last j (rw stage-level (range-to lo (n - lo) j b (omega arith)))

  -- and no row is deeper.
  pub stage-last : LastFrom walk lo n
  stage-last i j b l k =
      let m = stage-length in
      let low = (held G t f d).low (row S.rows j) (get_or-In S.rows j _ (omega arith)) in
      let deep = stage-deep i b l in
      let here = row_is j k in
      omega arith

  -- while a level has a row, there are more types than levels before it
  pub stage-few : Library text rows → t.0 < type_count rows → lo < n → d < type_count rows
  stage-few lib l more =
      let r = size-read text rows in
      let k = level-short G (closed (table_of text rows) (library-sound lib)) t f (rw r l) d lo (rw stage-level (range-to lo (n - lo) lo (omega arith) (omega arith))) in
      rw r at k

  pub staged-below : {after : List Record} {end : ℕ} → Enters (type_count rows) walk n (flat (embeds G (rows_of walk n)) (range lo (n - lo))) after end → Staged text rows t f after n end (suc d)
  staged-below h = record {
    state = h.state;
    held = h.rows ∙ ap₂ (λ R I. enter_all R (flat (embeds G R) I)) s.held (sym stage-level);
    from = sym stage-length;
  }
