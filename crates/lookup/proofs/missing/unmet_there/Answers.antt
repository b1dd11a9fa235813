-- `lookup::missing::unmet_there` meets its contract.
use mathlib.Core.Path.{ap, ◌∙◌}
use Rattle.selection.specs.Results.{missing_meant}
use Rattle.selection.proofs.OwnLaws.{under-in}
use Rattle.lookup.proofs.MissingLaws.{own-packaged, there-found, there-typed, there-none}
use Rattle.lookup.proofs.missing.unmet_there.Goals as goal

pub own_member-requires : goal.own_member-requires
own_member-requires c =
    record { library = c.requires.library; t_bound = (under-in _ _ c.requires.library _ c.requires.t_bound.0 c.under-u.ensures, own-packaged _ _ _ c.name_of-q.ensures c.requires.t_bound.1) }

pub compared-requires : goal.compared-requires
compared-requires c =
    record { library = c.requires.library; m_bound = (c.requires.t_bound.1.typed, there-typed _ _ c.requires.library _ c.requires.t_bound.0 c.requires.t_value.0 _ c.under-u.ensures c.name_of-q.ensures _ c.own_member.ensures c.in-Some.is, c.requires.t_value.1); marks_value = c.requires.marks_value }

pub returns-in-Some : goal.returns-in-Some
returns-in-Some c =
    record { result_value = there-found _ _ c.requires.library _ c.requires.t_bound.0 c.requires.t_value.0 _ c.under-u.ensures c.name_of-q.ensures _ c.own_member.ensures c.in-Some.is _ _ c.compared.ensures.result_value; marks_unchanged = c.compared.ensures.marks_unchanged }

pub returns-in-None-clause-result_value : goal.returns-in-None-clause-result_value
returns-in-None-clause-result_value c =
    ap (missing_meant c.args.text.now c.args.rows.now) c.then_some.ensures ∙ there-none _ _ c.requires.library _ c.requires.t_bound.0 c.requires.t_value.0 _ c.under-u.ensures c.name_of-q.ensures _ c.own_member.ensures c.in-None.is c.args.s
