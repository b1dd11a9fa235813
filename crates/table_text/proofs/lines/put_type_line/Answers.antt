-- `put_type_line` meets its contract.
use Rattle.table_text.proofs.Writing.{kind-low, kind_fits, tuple-fits, tuple-wrote, words-fits, words-wrote}
use Rattle.table_text.proofs.lines.put_type_line.Goals as goal

pub put_kind-i-requires : goal.put_kind-i-requires
put_kind-i-requires c =
    kind_fits c.args.numbers.now c.args.rows.now c.args.t c.kind_number-k.ensures _ c.args.out.now c.requires.1

pub put_elements-requires : goal.put_elements-requires
put_elements-requires c =
    tuple-fits c.args.numbers.now c.args.rows.now c.args.t c.kind_number-k.ensures c.if-k-eq-TUPLE.true
    c.first_member-first.ensures c.member_total-count.ensures c.requires.0 c.requires.1 c.put_kind-i.ensures

pub returns-then-k-eq-TUPLE : goal.returns-then-k-eq-TUPLE
returns-then-k-eq-TUPLE c =
    tuple-wrote c.args.numbers.now c.args.rows.now c.args.t c.kind_number-k.ensures c.if-k-eq-TUPLE.true
    c.first_member-first.ensures c.member_total-count.ensures c.put_kind-i.ensures
    c.put_elements.ensures

pub number_count-n-requires : goal.number_count-n-requires
number_count-n-requires c =
    kind-low c.args.numbers.now c.args.rows.now c.args.t c.kind_number-k.ensures

pub put_line-requires : goal.put_line-requires
put_line-requires c =
    words-fits c.args.numbers.now c.args.rows.now c.args.t c.kind_number-k.ensures c.if-k-eq-TUPLE.false
    c.type_word.ensures c.first_number.ensures c.type_word-2.ensures c.carried.ensures
    c.type_word-3.ensures c.carried-2.ensures c.number_count-n.ensures c.requires.1
    c.put_kind-i.ensures

pub returns : goal.returns
returns c =
    words-wrote c.args.numbers.now c.args.rows.now c.args.t c.kind_number-k.ensures c.if-k-eq-TUPLE.false
    c.type_word.ensures c.first_number.ensures c.type_word-2.ensures c.carried.ensures
    c.type_word-3.ensures c.carried-2.ensures c.number_count-n.ensures c.put_kind-i.ensures
    c.put_line.ensures
