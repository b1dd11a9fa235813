-- `empty_set` meets its contract.
use mathlib.Core.Path.{◌∙◌}
use Rattle.method_set.proofs.KeepLaws.{empty-named, empty-iface, empty-no}
use Rattle.method_set.proofs.empty_set.Goals as goal

pub returns-then-named_pointer : goal.returns-then-named_pointer
returns-then-named_pointer c = c.if-named_pointer.true ∙ empty-named _ _ c.named_pointer.ensures c.if-named_pointer.true

pub returns-then-pointer_at : goal.returns-then-pointer_at
returns-then-pointer_at c =
    empty-iface _ _ c.named_pointer.ensures c.if-named_pointer.false c.pointer_at.ensures c.if-pointer_at.true c.bare.ensures c.iface_under.ensures

pub returns-else-pointer_at : goal.returns-else-pointer_at
returns-else-pointer_at c =
    c.if-pointer_at.false ∙ empty-no _ _ c.named_pointer.ensures c.if-named_pointer.false c.pointer_at.ensures c.if-pointer_at.false
