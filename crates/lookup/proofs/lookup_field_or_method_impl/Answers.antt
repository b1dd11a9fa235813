-- `lookup::lookup_field_or_method_impl` meets its contract.
use Rattle.lookup.proofs.SelectLaws.{bare-inside, blank-nothing, interface-nothing, search-selects}
use Rattle.lookup.proofs.lookup_field_or_method_impl.Goals as goal
use Rattle.lookup.proofs.lookup_field_or_method_impl.Goals.{then-blank_name-via-then-blank_name, then-blank_name-via-else-blank_name+then-pointer_to_interface}

pub returns-then-blank_name : goal.returns-then-blank_name
returns-then-blank_name c =
    elim c.then-blank_name.branch [
      | then-blank_name-via-then-blank_name w ↦ blank-nothing _ _ c.requires.library _ c.requires.t_bound.0 _ _ c.blank_name.ensures _ w.if-blank_name.true
      | then-blank_name-via-else-blank_name+then-pointer_to_interface w ↦ interface-nothing _ _ c.requires.library _ c.requires.t_bound.0 _ _ c.blank_name.ensures _ w.if-blank_name.false w.pointer_to_interface.ensures w.if-pointer_to_interface.true
    ]

pub search-requires : goal.search-requires
search-requires c =
    record { library = c.requires.library; typ_bound = (bare-inside _ _ c.requires.library _ c.requires.t_bound.0 c.bare-u.ensures, c.requires.t_bound.1); scratch = c.requires.scratch }

pub returns : goal.returns
returns c =
    search-selects _ _ c.requires.library _ c.requires.t_bound.0 _ _ c.blank_name.ensures _ c.if-blank_name.false c.pointer_to_interface.ensures c.if-pointer_to_interface.false c.bare-u.ensures c.pointer_at-f.ensures _ c.search.ensures
