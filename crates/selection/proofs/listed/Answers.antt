-- `selection::listed` meets its contract.
use native.Mathlib.Omega.{arith}
use Rattle.selection.proofs.OwnLaws.{list-fits, list-within, list-packaged, listed_found, listed-nothing}
use Rattle.rules.proofs.Sounds.{library-sound}
use Rattle.selection.proofs.listed.Goals as goal

pub place-i-requires : goal.place-i-requires
place-i-requires c = (
  c.requires.library,
  record {
    packaged = list-packaged _ _ _ c.requires.library c.requires.t_bound.0 c.first_member-from.ensures c.member_total-count.ensures c.requires.t_bound.2;
    asked = c.requires.t_bound.1;
    fits = list-fits _ _ _ c.requires.library c.requires.t_bound.0 c.first_member-from.ensures c.member_total-count.ensures;
    ordered = (library-sound c.requires.library).ordered;
  },
  list-within _ _ _ c.requires.library c.requires.t_bound.0 c.first_member-from.ensures c.member_total-count.ensures c.requires.t_bound.2,
)

pub overflow_add-result : goal.overflow_add-result
overflow_add-result c =
    omega (arith, list-fits _ _ _ c.requires.library c.requires.t_bound.0 c.first_member-from.ensures c.member_total-count.ensures)

pub returns-then-i-count : goal.returns-then-i-count
returns-then-i-count c =
    listed_found _ _ _ _ _ c.requires.t_bound.0 c.requires.t_bound.2 c.first_member-from.ensures c.member_total-count.ensures _ c.place-i.ensures c.if-i-count.true

pub returns-else-i-count : goal.returns-else-i-count
returns-else-i-count c =
    listed-nothing _ _ _ _ _ c.requires.t_bound.0 c.requires.t_bound.2 c.first_member-from.ensures c.member_total-count.ensures _ c.place-i.ensures c.if-i-count.false
