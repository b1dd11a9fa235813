-- `obj::exported` meets its contract.
use mathlib.Core.Path.{ap, ◌∙◌}
use Rattle.text.specs.Bytes.{between, exported}
use Rattle.objects.specs.Rows.{bytes_at}
use Rattle.obj.proofs.IdentityLaws.{exported-first}
use Rattle.obj.proofs.exported.Goals as goal

pub returns : goal.returns
unfolding bytes_at
returns c =
    c.within.ensures ∙ ap (between 65 90) c.byte_at.ensures ∙ exported-first _ ∙ ap exported c.span.ensures
