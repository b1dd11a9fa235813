-- `obj::is_blank` meets its contract.
use mathlib.Core.Path.{◌∙◌}
use Rattle.obj.proofs.IdentityLaws.{blank-read}
use Rattle.obj.proofs.is_blank.Goals as goal

pub returns : goal.returns
returns c = c.same.ensures ∙ blank-read _ _ _ c.member_word.ensures c.member_word-2.ensures c.span-name.ensures
