use Prim.Native.Nat.{◌-◌}
use native.Mathlib.Omega.{arith}
use lib.ListN.{replicate}
use Rattle.objects.specs.Bounds.{max_types}
use Rattle.pair_marks.proofs.Zero.{front_long}
use Rattle.typ.proofs.identical.decide.Goals as goal

pub decide_by-requires : goal.decide_by-requires
decide_by-requires c =
    let n = c.type_count-types.result - 0 in
    record { library = c.requires.library; peers = c.requires.peers; rows_in_bounds = front_long (replicate max_types 0) n _ (omega (arith, c.type_count-types.ensures)) c.requires.library.laid.types; by_index = c.requires.by_index }
