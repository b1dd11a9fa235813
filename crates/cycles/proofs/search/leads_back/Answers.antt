use Rattle.std.proofs.Common.{rules}
use native.Mathlib.Omega.{arith}
use Rattle.objects.specs.Bounds.{max_types}
use Rattle.cycles.proofs.SearchLaws.{none-queued, search-start}
use Rattle.cycles.proofs.search.leads_back.Goals as goal

pub meet-end-requires : goal.meet-end-requires
meet-end-requires c = (omega arith, omega arith, c.requires.0, c.requires.1, c.requires.2, none-queued max_types _)

pub look-requires : goal.look-requires
look-requires c =
    (search rules, search rules, c.requires.0, c.requires.1, search-start _ _ c.requires.0 c.requires.1 c.requires.2 _ _ _ _ _ c.meet-end.ensures)

pub returns : goal.returns
returns c = c.look.ensures
