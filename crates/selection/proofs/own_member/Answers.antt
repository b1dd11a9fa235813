-- `selection::own_member` meets its contract.
use mathlib.Core.Path.{◌∙◌, sym}
use Rattle.selection.proofs.OwnLaws.{under-in, named-lists, own-declared, own-under, own-plain}
use Rattle.selection.proofs.own_member.Goals as goal
use Rattle.selection.proofs.own_member.Goals.{then-named_at+else-is_some, else-named_at}

pub listed-own-requires-clause-t_bound : goal.listed-own-requires-clause-t_bound
listed-own-requires-clause-t_bound c =
    (c.requires.t_bound.0, c.requires.t_bound.1, named-lists _ _ c.named_at.ensures c.if-named_at.true)

pub plain_member-requires-clause-u_bound : goal.plain_member-requires-clause-u_bound
plain_member-requires-clause-u_bound c =
    (under-in _ _ c.requires.library _ c.requires.t_bound.0 c.under-u.ensures, c.requires.t_bound.1)

pub returns-then-is_some : goal.returns-then-is_some
returns-then-is_some c =
    own-declared _ _ _ _ c.requires.t_bound.0 c.named_at.ensures c.if-named_at.true _ c.listed-own.ensures (sym c.is_some.ensures ∙ c.if-is_some.true)

pub returns : goal.returns
returns c =
    elim c.if-named_at.branch [
      | then-named_at+else-is_some w ↦ own-under _ _ _ _ c.requires.t_bound.0 c.named_at.ensures c.under-u.ensures w.if-named_at.true _ w.listed-own.ensures (sym w.is_some.ensures ∙ w.if-is_some.false) _ c.plain_member.ensures
      | else-named_at w ↦ own-plain _ _ _ _ c.requires.t_bound.0 c.named_at.ensures c.under-u.ensures w.if-named_at.false _ c.plain_member.ensures
    ]
