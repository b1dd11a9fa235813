use mathlib.Core.Path.{◌≡◌}
use Prim.Native.Nat.{◌-◌}
use native.Mathlib.Omega.{arith}
use lib.ListN.{length}
use Rattle.references.proofs.RowKinds.{places-there}
use Rattle.references.proofs.Referring.{words-every}
use Rattle.references.proofs.elements.element_words.Goals as goal

pub overflow_sub-end : goal.overflow_sub-end
overflow_sub-end c = omega (arith, places-there c.args.rows.now c.requires.0 c.args.t c.requires.1, c.first_member.ensures)

pub overflow_sub-from : goal.overflow_sub-from
overflow_sub-from c =
    omega (arith, places-there c.args.rows.now c.requires.0 c.args.t c.requires.1, c.first_member.ensures, c.member_total.ensures)

pub returns : goal.returns
returns c text p =
    let there = places-there c.args.rows.now c.requires.0 c.args.t c.requires.1 in
    let end = length c.args.rows.now - c.first_member.result in
    let count : end - (end - c.member_total.result) ≡ c.member_total.result = omega (arith, there, c.first_member.ensures, c.member_total.ensures) in
    rw (count, ← c.first_member.ensures, ← c.member_total.ensures) (words-every text c.args.rows.now p c.first_member.result c.member_total.result (omega (arith, there, c.first_member.ensures, c.member_total.ensures)))
