-- `clashes::field_marked` meets its contract.
use mathlib.Core.Path.{◌∙◌}
use Rattle.clashes.proofs.SeenLaws.{field-looked}
use Rattle.clashes.proofs.field_marked.Goals as goal

pub place-requires : goal.place-requires
place-requires c = (c.fields_number.ensures.upper_bound, c.requires)

pub marked-requires : goal.marked-requires
marked-requires c = c.place.ensures.upper_bound

pub returns-then-kind_number-eq-NAMED : goal.returns-then-kind_number-eq-NAMED
returns-then-kind_number-eq-NAMED c =
    field-looked c.args.rows.now c.args.marks.now c.args.t c.args.h c.type_word.ensures c.fields_number.ensures.value c.place.ensures.value c.marked.ensures

pub returns-else-kind_number-eq-NAMED : goal.returns-else-kind_number-eq-NAMED
returns-else-kind_number-eq-NAMED c = λ _ e m. c.if-kind_number-eq-NAMED.false (c.kind_number.ensures ∙ e)
