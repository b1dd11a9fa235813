use Rattle.std.proofs.Common.{rules}
use Rattle.objects.proofs.Reading.{is-basic, is-array, is_slice, is-pointer, is-map, is-chan, is-tuple, is-func, is-struct, is-iface, is-named}
use Rattle.objects.proofs.rows.type_of.Goals as goal

pub returns-in-0 : goal.returns-in-0
returns-in-0 c =
    is-basic _ _ c.type_word.ensures c.type_word-a.ensures c.type_word-b.ensures c.type_word-first.ensures c.type_word-count.ensures c.in-0.is

pub returns-in-1 : goal.returns-in-1
returns-in-1 c =
    is-array _ _ c.type_word.ensures c.type_word-a.ensures c.type_word-b.ensures c.type_word-first.ensures c.type_word-count.ensures c.in-1.is

pub returns-in-2 : goal.returns-in-2
returns-in-2 c =
    is_slice _ _ c.type_word.ensures c.type_word-a.ensures c.type_word-b.ensures c.type_word-first.ensures c.type_word-count.ensures c.in-2.is

pub returns-in-3 : goal.returns-in-3
returns-in-3 c =
    is-pointer _ _ c.type_word.ensures c.type_word-a.ensures c.type_word-b.ensures c.type_word-first.ensures c.type_word-count.ensures c.in-3.is

pub returns-in-4 : goal.returns-in-4
returns-in-4 c =
    is-map _ _ c.type_word.ensures c.type_word-a.ensures c.type_word-b.ensures c.type_word-first.ensures c.type_word-count.ensures c.in-4.is

pub returns-in-5 : goal.returns-in-5
returns-in-5 c =
    is-chan _ _ c.type_word.ensures c.type_word-a.ensures c.type_word-b.ensures c.type_word-first.ensures c.type_word-count.ensures c.direction.ensures c.in-5.is

pub returns-in-6 : goal.returns-in-6
returns-in-6 c =
    is-tuple _ _ c.type_word.ensures c.type_word-a.ensures c.type_word-b.ensures c.type_word-first.ensures c.type_word-count.ensures c.in-6.is

pub returns-in-7 : goal.returns-in-7
returns-in-7 c =
    is-func _ _ c.type_word.ensures c.type_word-a.ensures c.type_word-b.ensures c.type_word-first.ensures c.type_word-count.ensures c.type_word-in-7.ensures c.in-7.is

pub returns-in-8 : goal.returns-in-8
returns-in-8 c =
    is-struct _ _ c.type_word.ensures c.type_word-a.ensures c.type_word-b.ensures c.type_word-first.ensures c.type_word-count.ensures c.in-8.is

pub returns-in-9 : goal.returns-in-9
returns-in-9 c =
    is-iface _ _ c.type_word.ensures c.type_word-a.ensures c.type_word-b.ensures c.type_word-first.ensures c.type_word-count.ensures c.in-9.is

pub returns-in_default : goal.returns-in_default
returns-in_default c =
    is-named _ _ c.type_word.ensures c.type_word-a.ensures c.type_word-b.ensures c.type_word-first.ensures c.type_word-count.ensures (search rules) (search rules) (search rules) (search rules) (search rules) (search rules) (search rules) (search rules) (search rules) (search rules)
