-- The rows of specs/Incident.antt, computed from the rules.
use mathlib.Core.Path.{◌≡◌, refl}
use mathlib.Core.List.{map}
use Rattle.objects.specs.Lists.{flat}
use Rattle.rules.specs.Rows.{called, owed}
use Rattle.growth.specs.Incident.{cases_of, rows, no_growth}

-- EACH CASE OF THE PROMISE: number, buffer and work area of both calls
pub growth-answers : map called (flat cases_of rows) ≡ map owed (flat cases_of rows)
unfolding called owed
growth-answers = refl

-- what comes of a field added to a struct that an old line refers to
pub no-growth-answers : map called (cases_of no_growth) ≡ map owed (cases_of no_growth)
unfolding called owed
no-growth-answers = refl
