-- `select_behind` meets its contract.
use native.Mathlib.Omega.{arith}
use Rattle.answer.proofs.Answering.{scratch-part, scratch-long, selects-behind}
use Rattle.answer.proofs.asks.select_behind.Goals as goal

pub slice_bounds-lookup_field_or_method-count : goal.slice_bounds-lookup_field_or_method-count
slice_bounds-lookup_field_or_method-count c =
    let long = scratch-long c.args.numbers.now c.requires.t_bound.2 in omega arith

pub slice_bounds-lookup_field_or_method-start : goal.slice_bounds-lookup_field_or_method-start
slice_bounds-lookup_field_or_method-start c =
    let long = scratch-long c.args.numbers.now c.requires.t_bound.2 in omega arith

pub lookup_field_or_method-requires : goal.lookup_field_or_method-requires
lookup_field_or_method-requires c =
    record { library = c.requires.library; t_bound = (c.requires.t_bound.0, c.requires.t_bound.1); scratch = scratch-part c.args.numbers.now c.requires.t_bound.2 }

pub returns : goal.returns
returns c =
    selects-behind c.args.numbers.now (scratch-long c.args.numbers.now c.requires.t_bound.2) c.lookup_field_or_method.ensures
