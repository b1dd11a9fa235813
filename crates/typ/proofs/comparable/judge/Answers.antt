use Rattle.std.proofs.Common.{rules}
use mathlib.Core.Path.{sym, ap, ◌∙◌}
use Prim.Native.Nat.{ℕ}
use lib.ListN.{replicate}
use Rattle.typ.proofs.ContentLaws.{none-comparable}
use Rattle.typ.proofs.comparable.judge.Goals as goal

pub comparable_impl-r-requires : goal.comparable_impl-r-requires
comparable_impl-r-requires c =
    record { library = search rules; t_bound = (search rules, search rules); met_comparable = none-comparable _ _ _ c.requires.met_value }

pub returns : goal.returns
returns c =
    record { value = c.comparable_impl-r.ensures.judged; met_unchanged = c.clear.ensures ∙ ap (λ (n : ℕ). replicate n 0) c.comparable_impl-r.auto.met ∙ sym c.requires.met_value }
