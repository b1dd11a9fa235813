-- `lookup::missing::missing_method` meets its contract.
use mathlib.Core.Path.{refl}
use Rattle.lookup.proofs.MissingLaws.{no-methods, methods-known, methods-fit, all-methods}
use Rattle.lookup.proofs.missing.missing_method.Goals as goal

pub first_unmet-requires : goal.first_unmet-requires
first_unmet-requires c =
    let known = methods-known _ _ c.requires.library _ c.requires.t_bound.1 c.iface_under.ensures c.if-iface_under.true c.under-u.ensures c.first_member-first.ensures c.member_total-n.ensures in
    let fits = methods-fit _ _ c.requires.library _ c.requires.t_bound.1 c.iface_under.ensures c.if-iface_under.true c.under-u.ensures c.first_member-first.ensures c.member_total-n.ensures in
    record {
      library = c.requires.library;
      t_bound = (c.requires.t_bound.0, known, fits);
      mark_words_in_bounds = c.requires.mark_words_in_bounds;
      marks_value = c.requires.marks_value;
    }

pub returns-then-iface_under : goal.returns-then-iface_under
returns-then-iface_under c =
    let methods = all-methods _ _ c.requires.library _ c.requires.t_bound.1 c.iface_under.ensures c.if-iface_under.true c.under-u.ensures c.first_member-first.ensures c.member_total-n.ensures in
    record {
      result_value = methods _ _ _ c.first_unmet.ensures.result_value;
      marks_unchanged = c.first_unmet.ensures.marks_unchanged;
    }

pub returns-else-iface_under : goal.returns-else-iface_under
returns-else-iface_under c =
    record { result_value = no-methods _ _ c.requires.library _ c.requires.t_bound.1 c.iface_under.ensures c.if-iface_under.false _ _; marks_unchanged = refl }
