-- The search level by level, as goscript's `lookup_field_or_method_impl` makes it: identical types of a level are folded into the first of them, and of several
-- shortest ways one is told.
use Rattle.std.specs.Prelude.{Bool, false, cond, not, ◌||◌, List, [], ◌∷◌, ◌++◌, map, ℕ, zero, suc}
use Rattle.std.proofs.Math.Option.{none}
use Rattle.objects.specs.Table.{Method, type_key, obj_key}
use Rattle.objects.specs.Lists.{any, keep, flat}
use Rattle.objects.specs.declared.TypeKey.{TypeKey}
use Rattle.rules.specs.Members.{Identity}
use Rattle.rules.specs.Ways.{Place, Walk, Way}
use Rattle.ways.specs.Graph.{Graph, along, matching}

-- A type reached at a level: the first walk to it, and whether there is more than one.
pub record EmbeddedType : Type 0 where
  pub walk : Walk
  pub multiples : Bool

abbrev pub at : EmbeddedType → TypeKey
at r = r.walk.at

abbrev pub mark : EmbeddedType → Bool → EmbeddedType
mark r b = record { walk = r.walk; multiples = r.multiples || b }

abbrev pub raw : Walk → EmbeddedType
raw w = record { walk = w; multiples = false }

-- the first member of a list that has one
abbrev pub first_of : List Place → Place
first_of [] = record { place = 0; member = record { key = obj_key 0; name = []; pkg = none; type = type_key 0; entity = Method false } }
first_of (m ∷ ms) = m

-- no way, one shortest way, or several of which this one is told
pub data Verdict : Type 0 where
  nothing : Verdict
  alone tied : Way → Verdict

module _ (G : Graph) where
  -- what is told of the shortest ways: of several the first, if another ends in a type identical to the first's, otherwise the second
  abbrev pub folded : List Way → Verdict
  folded [] = nothing
  folded (w ∷ []) = alone w
  folded (w ∷ v ∷ rest) = tied (cond (any (λ x. G.same w.walk.at x.walk.at) (v ∷ rest)) w v)

  abbrev pub twin : EmbeddedType → EmbeddedType → Bool
  twin r s = G.same (at r) (at s)

  -- identical types become the first of them, marked
  abbrev pub merge : List EmbeddedType → List EmbeddedType
  merge [] = []
  merge (r ∷ rs) = mark r (any (twin r) rs) ∷ keep (λ s. not (twin r s)) (merge rs)

  -- the types that a record's type embeds; what is reached twice reaches them twice
  abbrev pub next : EmbeddedType → List EmbeddedType
  next r = map (λ s. record { walk = along G r.walk s; multiples = r.multiples }) (G.steps (at r))

  abbrev pub hit : Identity → EmbeddedType → Bool
  hit key r = any (G.hit key) (G.members (at r))

  abbrev pub found : Identity → EmbeddedType → Way
  found key r = record { walk = r.walk; last = first_of (matching G key (at r)) }

  -- the records of a level that have the key
  abbrev pub verdict : Identity → List EmbeddedType → Verdict
  verdict key [] = nothing
  verdict key (r ∷ []) = cond r.multiples (tied (found key r)) (alone (found key r))
  verdict key (r ∷ s ∷ rest) = tied (cond r.multiples (found key r) (found key s))

-- A level leaves out what `skip` says was seen. goscript's: a named type, by its number. Any rule will do that skips only what is identical to a type seen.
abbrev pub unseen : (List TypeKey → TypeKey → Bool) → List TypeKey → EmbeddedType → Bool
unseen skip seen r = not (skip seen (at r))

module _ (G : Graph) (skip : List TypeKey → TypeKey → Bool) where
  -- k levels more, from the level L; seen are the types of the levels before
  abbrev pub search-levels : Identity → ℕ → List TypeKey → List EmbeddedType → Verdict
  search-levels key zero seen L = nothing
  search-levels key (suc k) seen L =
      elim (keep (hit G key) (keep (unseen skip seen) L)) [
        | [] ↦ search-levels key k (map at (keep (unseen skip seen) L) ++ seen) (merge G (flat (next G) (keep (unseen skip seen) L)))
        | r ∷ rs ↦ verdict G key (r ∷ rs)
      ]
