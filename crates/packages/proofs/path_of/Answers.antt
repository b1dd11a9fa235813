-- `packages::path_of` meets its contract.
use Rattle.packages.proofs.PathRows.{path-words}
use Rattle.packages.proofs.path_of.Goals as goal

pub returns : goal.returns
returns c = path-words _ _ _ c.package_word.ensures c.package_word-2.ensures c.span.ensures
