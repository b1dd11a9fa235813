use Rattle.objects.proofs.Signs.{sign-puts}
use Rattle.objects.proofs.writers.put_sign.Goals as goal

pub returns : goal.returns
returns c = sign-puts _ _ _ c.requires.0 c.requires.1 c.requires.2 c.signs_at.ensures
