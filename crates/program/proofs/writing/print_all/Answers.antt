-- `print_all` meets its contract: arrays of zeros serve every table.
use Rattle.std.proofs.Common.{refl, replicate, arith}
use Rattle.objects.specs.Bounds.{max_members}
use Rattle.multiples.specs.Records.{max_records}
use Rattle.replies.proofs.Lending.{walks-all, rooms-new, lent-new}
use Rattle.program.proofs.writing.print_all.Goals as goal

pub show_all-requires-clause-mark_words_in_bounds : goal.show_all-requires-clause-mark_words_in_bounds
show_all-requires-clause-mark_words_in_bounds g c =
    let library = c.requires.0 in
    let types = library.laid.types in
    let members = library.laid.members in
    let walks = walks-all c.args.rows.now max_records (omega arith) (omega arith) in
    let lent = lent-new (replicate max_members 0) walks (rooms-new c.args.rows.now max_members (omega arith)) (omega arith) (omega arith) in
    (omega arith, lent, refl, c.requires.1)
