use mathlib.Core.Path.{sym, ap, ◌∙◌}
use Prim.Native.Nat.{ℕ}
use lib.ListN.{replicate}
use Rattle.pair_marks.proofs.Zero.{none-met}
use Rattle.typ.proofs.identical.settle.Goals as goal

pub decide-r-requires : goal.decide-r-requires
decide-r-requires c =
    record { library = c.requires.library; peers = c.requires.peers; by_index = none-met _ c.requires.marks_value }

pub returns : goal.returns
returns c =
    record { value = c.decide-r.ensures; marks_unchanged = c.clear.ensures ∙ ap (λ (n : ℕ). replicate n 0) c.decide-r.auto.marks ∙ sym c.requires.marks_value }
