-- `say_aside` meets its contract.
use native.Mathlib.Omega.{arith}
use Rattle.print.proofs.WrittenLaws.{wrote-length}
use mathlib.Core.Path.{refl}
use Rattle.edits.specs.Tidy.{tidied}
use Rattle.objects.specs.Rows.{table_of}
use Rattle.edits.specs.TableText.{text_of}
use Rattle.tidy.proofs.Aside.{aside-room, aside-long, aside-said}
use Rattle.tidy.proofs.say_aside.Goals as goal

pub put_tidied-n-requires : goal.put_tidied-n-requires
put_tidied-n-requires c =
    let room = aside-room c.args.text.now c.args.rows.now c.requires.library c.args.aside.now c.requires.max_text_in_bounds in
    record { library = c.requires.library; twinned = c.requires.twinned; rows_in_bounds = c.requires.rows_in_bounds; rows_in_bounds_2 = room }

pub returns-then-output-n : goal.returns-then-output-n
returns-then-output-n c =
    let text = text_of (tidied (table_of c.args.text.now c.args.rows.now)) in
    let room = aside-room c.args.text.now c.args.rows.now c.requires.library c.args.aside.now c.requires.max_text_in_bounds in
    aside-long c.args.aside.now text room c.put_tidied-n.ensures c.args.output.now c.if-output-n.true

pub slice_bounds-put_word-end : goal.slice_bounds-put_word-end
slice_bounds-put_word-end c =
    let room = aside-room c.args.text.now c.args.rows.now c.requires.library c.args.aside.now c.requires.max_text_in_bounds in
    omega (arith, c.put_tidied-n.ensures.past, wrote-length c.put_tidied-n.ensures, room)

pub returns : goal.returns
returns c =
    let text = text_of (tidied (table_of c.args.text.now c.args.rows.now)) in
    let room = aside-room c.args.text.now c.args.rows.now c.requires.library c.args.aside.now c.requires.max_text_in_bounds in
    aside-said c.args.aside.now text room c.put_tidied-n.ensures c.if-output-n.false refl c.put_word-end.ensures
