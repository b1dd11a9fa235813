-- What S and M read off the kept walks.
use Rattle.std.specs.Prelude.{Bool, cond, List, [], ◌∷◌, map, ℕ, zero, suc, eqb, length}
use Rattle.objects.specs.Lists.{keep, flat}
use Rattle.objects.specs.declared.TypeKey.{TypeKey}
use Rattle.objects.specs.Table.{Table, bare, pointer_at}
use Rattle.rules.specs.Members.{Identity, identity_of}
use Rattle.rules.specs.Ways.{Walk, Way, Selected, notfound, owned, judged}
use Rattle.rules.specs.MethodSet.{only_method, ascending, empty_set}
use Rattle.ways.specs.Graph.{Graph, ends}
use Rattle.ways.specs.OfTable.{graph}
use Rattle.walks.specs.Rows.{walk_at, walks_of, Stage, level, below, kept_rows}

-- of some ways those with as many steps as the first
abbrev pub as_short : List Way → List Way
as_short [] = []
as_short (w ∷ ws) = w ∷ keep (λ v. eqb (length v.walk.places) (length w.walk.places)) ws

-- the ways that some walks make to a name, as short as the first
abbrev pub shortest_of : Graph → List Walk → Identity → List Way
shortest_of G W q = as_short (flat (ends G q) W)

-- S for one name may stop: the first level that has the name decides, and only that level is read. k levels more, from S on.
module _ (G : Graph) (q : Identity) (a : Bool) where
  abbrev pub search_rows : ℕ → Stage → Selected
  search_rows zero S = notfound
  search_rows (suc k) S = elim (flat (ends G q) (map (walk_at S.rows) (level S))) [
    | [] ↦ search_rows k (below G S)
    | w ∷ ws ↦ judged a (w ∷ ws)
  ]

module _ (T : Table) where
  -- the kept walks from t, one pointer removed
  abbrev pub kept_from : TypeKey → List Walk
  kept_from t = walks_of (kept_rows (graph T) (bare T t) (pointer_at T t))

  -- the shortest ways to a name that they make
  abbrev pub kept_ways : Identity → TypeKey → List Way
  kept_ways q t = shortest_of (graph T) (kept_from t) q

  -- the identities of the members that the types of the kept walks have, ascending, each once
  abbrev pub names_kept : TypeKey → List Identity
  names_kept t = ascending T (flat (λ w. map (λ p. identity_of T p.member) (owned T w.at)) (kept_from t))

  -- M
  abbrev pub set_kept : TypeKey → List Way
  set_kept t = cond (empty_set T t) [] (flat (λ q. only_method T (kept_ways q t)) (names_kept t))
