-- `text::Cursor::tag` meets its contract. The closed run of bytes from the space on.
use Rattle.text.proofs.NameLaws.{tag_is, tag-exact}
use Rattle.text.proofs.Cursor.tag.Goals as goal

pub returns : goal.returns
returns c =
    record {
      result_value = tag_is c.args.s.now c.args.self c.plain_end-stop.ensures c.closed.ensures;
      exact = tag-exact c.args.s.now c.args.self c.plain_end-stop.ensures c.closed.ensures;
    }
