-- `levels::search::verdict` meets its contract.
use Rattle.std.proofs.Common.{rules}
use native.Mathlib.Omega.{arith}
use Rattle.levels.proofs.HitLaws.{flag-read}
use Rattle.levels.proofs.VerdictLaws.{second_fits, verdict-one, verdict-two}
use Rattle.levels.proofs.search.verdict.Goals as goal

pub write_places-requires : goal.write_places-requires
write_places-requires c =
    second_fits c.args.text.now c.args.rows.now c.args.walk.now c.args.w c.args.a c.requires.0 c.write_places-count.ensures (omega (arith, c.requires.1)) c.in-Some.is c.requires.2

pub returns-in-Some : goal.returns-in-Some
returns-in-Some c =
    verdict-two _ _ _ _ _ c.requires.0 c.write_places-count.ensures (omega (arith, c.requires.1)) c.in-Some.is c.requires.2 c.write_places.ensures (search rules)

pub returns-in-None : goal.returns-in-None
returns-in-None c =
    let read = flag-read _ _ _ c.record_at-e.ensures in
    verdict-one _ _ _ _ _ c.requires.0 c.write_places-count.ensures c.requires.3 c.in-None.is read c.alone-result.ensures
