-- `lookup::missing::unmet` meets its contract.
use Rattle.lookup.proofs.MissingLaws.{own-packaged, selected-unmet}
use Rattle.lookup.proofs.missing.unmet.Goals as goal

pub lookup_field_or_method-found-requires : goal.lookup_field_or_method-found-requires
lookup_field_or_method-found-requires c =
    record { library = c.requires.library; t_bound = (c.requires.t_bound.0, own-packaged _ _ _ c.name_of-q.ensures c.requires.t_bound.1); scratch = c.requires.mark_words_in_bounds.1 }

pub returns : goal.returns
returns c =
    record { result_value = selected-unmet _ _ c.requires.library _ c.requires.t_bound.0 c.iface_under.ensures _ c.if-iface_under.false c.name_of-q.ensures _ _ c.lookup_field_or_method-found.ensures _ _ c.unmet_by.ensures.by_index; marks_unchanged = c.unmet_by.ensures.marks_unchanged }
