-- REFUSAL 10 from its parts: ranks given until each type without one waits for another, then the least type that contains itself (specs/Contained.antt).
use mathlib.Core.Path.{◌≡◌, subst}
use Rattle.std.specs.declared.option.Option as code
use Rattle.std.specs.Prelude.{ℕ}
use Rattle.objects.specs.Lists.{In}
use Rattle.objects.specs.Rows.{Words}
use Rattle.objects.specs.Types.{found}
use Rattle.rules.specs.Checks.{items, containing}
use Rattle.rules.specs.Stages.{first_item}
use Rattle.cycles.specs.Ranking.{Peeled}
use Rattle.cycles.specs.Contained.{Finds, Contained}
use Rattle.cycles.proofs.ContentLaws.{inside-any}
use Rattle.cycles.proofs.Acyclic.{all-ranked}

pub contained : (rows after : Words) → Peeled rows after → (r : code.Option ℕ) → Finds after r → Contained rows r after
contained rows after p r f = record {
  line = λ text. subst (λ T. found r ≡ first_item T (containing T) (items T)) (p.same.held text) (f.line text);
  holds = p.same;
  ranked = λ q text t e h i.
      (p.ranks.falls t e h (all-ranked after p.ranks p.stuck (f.clear q) t h) (subst (λ es. In e es) (inside-any text after t) i)).1;
}
