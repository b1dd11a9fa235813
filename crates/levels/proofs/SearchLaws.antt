-- The levels one after the other: what is left of the search of crate walks, at each turn of the code's.
use mathlib.Core.Path.{◌≡◌, refl, sym, ap, ap₂, ◌∙◌, subst}
use mathlib.Core.Bool.{Bool}
use mathlib.Core.List.{List, [], ◌∷◌, map}
use Prim.Native.Nat.{ℕ, zero, suc, ◌+◌, ◌-◌, ◌≤◌, ◌<◌}
use native.Mathlib.Omega.{arith}
use Rattle.std.specs.declared.option.Option as code
use Rattle.std.specs.Prelude.{Some, None}
use Rattle.objects.specs.Bounds.{max_places}
use Rattle.objects.specs.Lists.{Bytes, flat}
use Rattle.objects.specs.declared.TypeKey.{TypeKey}
use Rattle.objects.specs.Table.{Table}
use Rattle.objects.specs.Rows.{Words, type_count, table_of}
use Rattle.objects.proofs.RowLaws.{size-read}
use Rattle.rules.specs.Library.{Library}
use Rattle.rules.specs.Members.{Identity}
use Rattle.rules.specs.Ways.{Way, Selected, notfound, judged}
use Rattle.ways.specs.Graph.{Graph, ends, select}
use Rattle.ways.specs.OfTable.{graph}
use Rattle.selection.specs.declared.Selection.{Selection}
use Rattle.selection.specs.Results.{result_meant, called_right, Typed, Selects}
use Rattle.multiples.specs.Records.{Record}
use Rattle.walks.specs.Rows.{walk_at, Stage, level, embeds, below, stage, range}
use Rattle.walks.specs.Reads.{search_rows}
use Rattle.walks.proofs.Loops.{search-kept}
use Rattle.walk_rows.specs.Records.{rows_of, level_of}
use Rattle.walk_rows.specs.State.{Enters}
use Rattle.levels.specs.declared.Found.{Found}
use Rattle.levels.specs.Hits.{ways_from, way_to, HitAt, Tells, Beside, Answers, nothing_found}
use Rattle.levels.proofs.StageLaws.{below-still, Staged, stage-level, stage-ends, stage-deep, stage-few, staged-below}
use Rattle.levels.proofs.VerdictLaws.{Verdict, told-judged, told-inside}

-- ---- one level of the search

module _ (G : Graph) (q : Identity) (a : Bool) where
  -- the ways that the last level makes
  abbrev made : Stage → List Way
  made S = flat (ends G q) (map (walk_at S.rows) (level S))

  search-none : (k : ℕ) (S : Stage) → made S ≡ [] → search_rows G q a (suc k) S ≡ search_rows G q a k (below G S)
  search-none k S e = rw (search_rows, e)

  search-some : (k : ℕ) (S : Stage) (w : Way) (ws : List Way) → made S ≡ w ∷ ws → search_rows G q a (suc k) S ≡ judged a (made S)
  search-some k S w ws e = rw (search_rows, e)

  -- below a level without rows there is nothing
  search-still : (k : ℕ) (S : Stage) → level S ≡ [] → search_rows G q a k S ≡ notfound
  search-still zero S e = refl
  search-still (suc k) S e = search-none k S (ap (λ l. flat (ends G q) (map (walk_at S.rows) l)) e) ∙ search-still k (below G S) (below-still G S e).0

-- ---- the code's turns

module _ (text : Bytes) (rows : Words) (q : Identity) (t : TypeKey) (f a : Bool) where
  abbrev T : Table
  T = table_of text rows

  abbrev G : Graph
  G = graph (table_of text rows)

  abbrev due : Selected
  due = select G q t f a

  -- `left` levels are still to be searched.
  pub record Going (walk : List Record) (lo n : ℕ) : Type 0 where
    pub depth : ℕ
    pub left : ℕ
    pub staged : Staged text rows t f walk lo n depth
    pub total : left + depth ≡ type_count rows
    pub rest : search_rows G q a left (stage G t f depth) ≡ due

  pub going-first : {walk : List Record} → Staged text rows t f walk 0 1 0 → Going walk 0 1
  going-first s = record {
    depth = 0;
    left = type_count rows;
    staged = s;
    total = omega arith;
    rest = subst (λ m. search_rows G q a m (stage G t f 0) ≡ due) (size-read text rows) (search-kept G q t f a);
  }

  module _ {walk : List Record} {lo n : ℕ} (g : Going walk lo n) where
    abbrev S : Stage
    S = stage G t f g.depth

    made-are : made G q a S ≡ ways_from T q walk n lo
    unfolding ways_from
    made-are = ap₂ (λ R I. flat (ends G q) (map (walk_at R) I)) (sym g.staged.held) (stage-level g.staged)

    pub going_end : n ≤ lo → {r : Selection} → r ≡ nothing_found → {places : Words} → Answers text rows q r places due
    unfolding result_meant called_right Typed
    going_end e er nb = rw er record { says = sym (sym g.rest ∙ search-still G q a g.left S (stage-ends g.staged e)); fits = omega arith; called = refl; typed = tt }

    -- the next row of the level that has the name is as deep as the first
    pub going-beside : {w : Found} → HitAt text rows q walk n lo w → (next : code.Option Found) → Tells text rows q walk n (w.row + 1) next → Beside walk w next
    unfolding Tells Beside
    going-beside hit None told = tt
    going-beside {w} hit (Some v) told =
        let o = hit.order in
        let p = told.order in
        stage-deep g.staged v.row (omega arith) told.here.inside ∙ sym (stage-deep g.staged w.row o hit.here.inside)

    module _ (lib : Library text rows) (typed : t.0 < type_count rows) (more : lo < n) where
      some_left : g.left ≡ suc (g.left - 1)
      some_left = let l = stage-few g.staged lib typed more in let m = g.total in omega arith

      opened : search_rows G q a (suc (g.left - 1)) S ≡ due
      opened = ap (λ k. search_rows G q a k S) (sym some_left) ∙ g.rest

      pub going_on : ways_from T q walk n lo ≡ [] → {after : List Record} {end : ℕ} → Enters (type_count rows) walk n (flat (embeds G (rows_of walk n)) (range lo (n - lo))) after end → Going after n end
      going_on none b = record {
        depth = suc g.depth;
        left = g.left - 1;
        staged = staged-below g.staged b;
        total = let s = some_left in let m = g.total in omega arith;
        rest = sym (search-none G q a (g.left - 1) S (made-are ∙ none)) ∙ opened;
      }

      module _ {w : Found} (hit : HitAt text rows q walk n lo w) where
        -- a way has no more places than there may be
        pub going-short : level_of walk w.row < max_places
        going-short =
            let l = stage-few g.staged lib typed more in
            let m = lib.laid.types in
            rw (stage-deep g.staged w.row hit.order hit.here.inside) (omega arith)

        pub going-found : (next : code.Option Found) → Tells text rows q walk n (w.row + 1) next → {r : Selection} {places : Words} → Verdict text rows walk w a next r places → Answers text rows q r places due
        going-found next told {r} {places} s nb =
            let k = s n g.staged.state.rowed hit.here.inside (told-inside text rows q walk n w next told) in
            let all = made-are ∙ hit.left in
            let e = told-judged text rows q walk n w next hit.here told nb a
            ∙ sym (ap (judged a) all)
            ∙ sym (search-some G q a (g.left - 1) S (way_to text rows walk n w) (ways_from T q walk n (suc w.row)) (all ∙ hit.here.ways nb))
            ∙ opened in
            subst (Selects text rows r places) e k
