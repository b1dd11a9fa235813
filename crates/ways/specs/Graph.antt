-- Walks and ways over a graph of types. The graph of a table (specs/OfTable.antt) makes them the rules' own; other graphs serve proofs.
use Rattle.std.specs.Prelude.{Bool, ◌||◌, List, [], ◌∷◌, ◌++◌, map, ℕ, zero, suc}
use Rattle.objects.specs.Lists.{keep, flat}
use Rattle.objects.specs.declared.TypeKey.{TypeKey}
use Rattle.objects.specs.declared.ObjKey.{ObjKey}
use Rattle.rules.specs.Members.{Identity}
use Rattle.rules.specs.Ways.{Place, Walk, Way, Selected, judged}

-- An embedded field: its place, its member's key, the type that it leads to once one pointer is removed, and whether there was a pointer.
pub record Step : Type 0 where
  pub place : ℕ
  pub key : ObjKey
  pub target : TypeKey
  pub ptr : Bool

-- How many types there are, their own members and their embedded fields in the order of place, which types are identical, and which members have a name.
pub record Graph : Type 0 where
  pub size : ℕ
  pub members : TypeKey → List Place
  pub steps : TypeKey → List Step
  pub same : TypeKey → TypeKey → Bool
  pub hit : Identity → Place → Bool

module _ (G : Graph) where
  -- one step further
  abbrev pub along : Walk → Step → Walk
  along w s = record { places = w.places ++ (s.place ∷ []); used = s.key ∷ w.used; at = s.target; flag = w.flag || s.ptr }

  abbrev pub onward : Walk → List Walk
  onward w = map (along w) (G.steps w.at)

  -- all walks of d steps from the walk r, in the order of their places
  abbrev pub walks : Walk → ℕ → List Walk
  walks r zero = r ∷ []
  walks r (suc d) = flat onward (walks r d)

  -- the members that have the name, in a type
  abbrev pub matching : Identity → TypeKey → List Place
  matching q t = keep (G.hit q) (G.members t)

  abbrev pub ends : Identity → Walk → List Way
  ends q w = map (λ m. record { walk = w; last = m }) (matching q w.at)

  -- all ways of d steps and a member, in the order of their places
  abbrev pub ways : Identity → Walk → ℕ → List Way
  ways q r d = flat (ends q) (walks r d)

  -- the ways of the least length that has any, among the lengths from d on, k of them
  abbrev pub shortest : Identity → Walk → ℕ → ℕ → List Way
  shortest q r d zero = []
  shortest q r d (suc k) = elim (ways q r d) [ [] ↦ shortest q r (suc d) k | w ∷ ws ↦ w ∷ ws ]

abbrev pub start : TypeKey → Bool → Walk
start t f = record { places = []; used = []; at = t; flag = f }

-- The selection of a name in type t, f true if a pointer was removed to come to t.
abbrev pub select : Graph → Identity → TypeKey → Bool → Bool → Selected
select G q t f a = judged a (shortest G q (start t f) 0 G.size)
