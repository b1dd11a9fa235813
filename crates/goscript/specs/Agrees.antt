-- What a `LookupResult` has to do with the rules' answer to S: the same member, flag and places, or the same refusal. Where the selector is ambiguous, goscript
-- gives one way, and it is one of those that the answer shows.
use Rattle.std.specs.Prelude.{◌≡◌, Bool, true, cond, List, ◌∷◌, ℕ}
use Rattle.objects.specs.Lists.{any, In}
use Rattle.objects.specs.Table.{Table, Member}
use Rattle.rules.specs.Identity.{identical}
use Rattle.rules.specs.Ways.{Way, places_of, Selected, notfound, badreceiver, entry, ambiguous, is_ambiguous, given}
use Rattle.ways.specs.Levels.{Verdict, nothing, alone, tied}
use Rattle.goscript.specs.Lookup.{LookupResult, Entry, Ambiguous, BadMethodReceiver, NotFound, potential_match}

pub data Agrees : LookupResult → Selected → Type 0 where
  entries : {m : Member} {indices : List ℕ} {indirect : Bool} → Agrees (Entry m indices indirect) (entry m indirect indices)
  one-shown : {indices : List ℕ} {s : Selected} → is_ambiguous s ≡ true → In indices (given s) → Agrees (Ambiguous indices) s
  bad-receivers : Agrees BadMethodReceiver badreceiver
  not-founds : Agrees NotFound notfound

-- Which of the shortest ways `Ambiguous` gives: the first if another ends in a type identical to the first's, else the second. The answer s shows both.
pub record WhichWay (T : Table) (shortest : List Way) (indices : List ℕ) (s : Selected) : Type 0 where
  pub first : Way
  pub second : Way
  pub others : List Way
  pub ways : shortest ≡ first ∷ second ∷ others
  pub shown : s ≡ ambiguous (places_of first) (places_of second)
  pub tells : indices ≡ cond (any (λ w. identical T first.walk.at w.walk.at) (second ∷ others)) (places_of first) (places_of second)

-- what the search level by level tells, as a `LookupResult`
abbrev pub told : Bool → Verdict → LookupResult
told addressable nothing = NotFound
told addressable (alone w) = potential_match addressable w
told addressable (tied w) = Ambiguous (places_of w)
