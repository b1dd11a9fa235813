-- `lookup::lookup_field_or_method` meets its contract.
use Rattle.selection.proofs.OwnLaws.{under-in}
use Rattle.lookup.proofs.SelectLaws.{select-pointer, select-plain}
use Rattle.lookup.proofs.lookup_field_or_method.Goals as goal

pub lookup_field_or_method_impl-s-requires : goal.lookup_field_or_method_impl-s-requires
lookup_field_or_method_impl-s-requires c =
    record { library = c.requires.library; t_bound = (under-in _ _ c.requires.library _ c.requires.t_bound.0 c.under-u.ensures, c.requires.t_bound.1); scratch = c.requires.scratch }

pub returns-then-named_pointer : goal.returns-then-named_pointer
returns-then-named_pointer c =
    select-pointer _ _ _ c.requires.library _ c.requires.t_bound.0 _ _ c.named_pointer.ensures c.if-named_pointer.true c.under-u.ensures _ c.lookup_field_or_method_impl-s.ensures c.without_method.ensures

pub returns-else-named_pointer : goal.returns-else-named_pointer
returns-else-named_pointer c =
    select-plain _ _ _ c.requires.library _ c.requires.t_bound.0 _ _ c.named_pointer.ensures c.if-named_pointer.false _ c.lookup_field_or_method_impl.ensures
