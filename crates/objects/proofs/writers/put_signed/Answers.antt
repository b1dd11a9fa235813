use Rattle.objects.proofs.Signs.{signed-put}
use Rattle.objects.proofs.writers.put_signed.Goals as goal

pub returns : goal.returns
returns c = signed-put _ _ c.requires
