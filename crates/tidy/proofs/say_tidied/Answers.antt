-- `say_tidied` meets its contract.
use Rattle.tidy.proofs.Aside.{output-room, output-said}
use Rattle.tidy.proofs.say_tidied.Goals as goal

pub put_tidied-n-requires : goal.put_tidied-n-requires
put_tidied-n-requires c =
    record { library = c.requires.library; twinned = c.requires.twinned; rows_in_bounds = c.requires.rows_in_bounds; rows_in_bounds_2 = output-room c.args.text.now c.args.rows.now c.requires.library c.args.output.now c.if-output-text.false }

pub returns : goal.returns
returns c =
    output-said c.args.text.now c.args.rows.now c.requires.library c.args.output.now c.if-output-text.false c.put_tidied-n.ensures
