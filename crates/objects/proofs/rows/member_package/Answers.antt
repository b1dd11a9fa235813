use Rattle.objects.proofs.Reading.{package-absent, package-is}
use Rattle.objects.proofs.rows.member_package.Goals as goal

pub returns-then-w-eq0 : goal.returns-then-w-eq0
returns-then-w-eq0 c = package-absent _ _ c.member_word-w.ensures c.if-w-eq0.true

pub returns-else-w-eq0 : goal.returns-else-w-eq0
returns-else-w-eq0 c = package-is _ _ c.member_word-w.ensures c.if-w-eq0.false
