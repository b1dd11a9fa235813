-- `text::compare::starts` meets its contract. The part is what `span` ensures.
use mathlib.Core.Path.{ap, ◌∙◌}
use Rattle.text.specs.Bytes.{same_bytes}
use Rattle.text.proofs.compare.starts.Goals as goal

pub returns : goal.returns
returns c = c.same.ensures ∙ ap (λ x. same_bytes x c.args.w.now) c.span.ensures
