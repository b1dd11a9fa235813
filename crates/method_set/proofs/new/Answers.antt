-- `new` meets its contract: the names of the methods of the kept walks, each settled by its first hit and the fields that hide it.
use Rattle.first_hits.proofs.HeldLaws.{held_fits}
use Rattle.method_set.proofs.SetLaws.{bare-there, set-empty, set-held}
use Rattle.method_set.proofs.new.Goals as goal

pub returns-then-empty_set : goal.returns-then-empty_set
returns-then-empty_set c =
    record { set_held = set-empty _ _ c.requires.library c.args.t c.requires.t_bound.0 c.empty_set.ensures c.if-empty_set.true _ _ _; rooms = c.requires.t_bound.3.room }

pub walk_all-n-requires : goal.walk_all-n-requires
walk_all-n-requires c =
    record { library = c.requires.library; t_bound = (rw c.bare.ensures (bare-there _ _ c.requires.library c.args.t c.requires.t_bound.0), c.requires.t_bound.1, c.requires.t_bound.2) }

pub first_hits-count-requires : goal.first_hits-count-requires
first_hits-count-requires c =
    record { library = c.requires.library; walked = (c.walk_all-n.ensures.state, c.requires.t_bound.3) }

pub keep_methods-requires : goal.keep_methods-requires
keep_methods-requires c =
    record { n_in_bounds = held_fits _ _ c.first_hits-count.ensures.held; room = λ k i. c.first_hits-count.ensures.held.room k (c.first_hits-count.ensures.held.listed.keys k i) }

pub returns : goal.returns
returns c =
    record { set_held = set-held _ _ c.requires.library c.args.t c.requires.t_bound.0 c.empty_set.ensures c.if-empty_set.false c.bare.ensures c.pointer_at.ensures c.walk_all-n.ensures c.first_hits-count.ensures.held c.first_hits-count.ensures.covered c.keep_methods.auto.names c.keep_methods.ensures; rooms = c.first_hits-count.ensures.held.room }
