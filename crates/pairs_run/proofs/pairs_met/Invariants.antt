use Rattle.std.proofs.Common.{◌*◌, ◌≤◌}
use Rattle.pairs_run.proofs.pairs_met.Given as goal

-- a word has 32 bits
abbrev pub invariant-loop-word : goal.invariant-loop-word
invariant-loop-word l = l.n ≤ 32 * l.word-index
