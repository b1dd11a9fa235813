-- `levels::search::alone` meets its contract.
use Rattle.levels.proofs.VerdictLaws.{alone-bad, alone-method, alone-field}
use Rattle.levels.proofs.search.alone.Goals as goal

pub returns-then-bad_receiver : goal.returns-then-bad_receiver
returns-then-bad_receiver c = alone-bad _ _ _ _ _ c.has_ptr-ptr.ensures c.bad_receiver.ensures c.if-bad_receiver.true

pub returns-then-is_method : goal.returns-then-is_method
returns-then-is_method c =
    alone-method _ _ _ _ _ c.has_ptr-ptr.ensures c.bad_receiver.ensures c.if-bad_receiver.false c.is_method.ensures c.if-is_method.true

pub returns : goal.returns
returns c =
    alone-field _ _ _ _ _ c.has_ptr-ptr.ensures c.bad_receiver.ensures c.if-bad_receiver.false c.is_method.ensures c.if-is_method.false
