-- `put_root`.
use Rattle.std.proofs.Common.{rules}
use mathlib.Core.Path.{◌≡◌, ap, ◌∙◌}
use mathlib.Core.List.{[], ◌∷◌}
use lib.Dec.{eqb}
use Rattle.walk_rows.specs.Records.{rows_of, first_of}
use Rattle.walk_rows.specs.State.{HasRoom}
use Rattle.walk_rows.proofs.RecordLaws.{flag-word}
use Rattle.walk_rows.proofs.StartLaws.{rowed-none, root-fits, root-meant}
use Rattle.walk_rows.proofs.EnterLaws.{holds_as}
use Rattle.walk_rows.proofs.records.put_root.Goals as goal

pub put_first-requires : goal.put_first-requires
unfolding first_of
put_first-requires c =
    let room : HasRoom c.clear_firsts.new.walk c.args.t = rw c.clear_firsts.ensures.0 c.requires.1 in
    (rowed-none c.clear_firsts.new.walk (rw c.clear_firsts.ensures.0 c.requires.0) c.clear_firsts.ensures.1, root-fits c.args.t _ c.clear_firsts.new.walk room, c.clear_firsts.ensures.1 c.args.t room)

pub returns : goal.returns
unfolding rows_of
returns c =
    let said : eqb c.from.result 1 ≡ c.args.f = ap (λ k. eqb k 1) c.from.ensures ∙ flag-word c.args.f in
    (search rules, holds_as (ap (λ r. r ∷ []) (root-meant c.args.t c.from.result c.args.f said)) c.put_first.ensures)
