-- What M lists, without its flag, of which the Go spec is silent.
use Rattle.std.specs.Prelude.{◌≡◌, List, ℕ}
use Rattle.objects.specs.Lists.{In}
use Rattle.objects.specs.declared.TypeKey.{TypeKey}
use Rattle.objects.specs.Table.{Table, Member}
use Rattle.rules.specs.Ways.{Way, places_of, member_of}
use Rattle.rules.specs.MethodSet.{method_set}

-- M lists the member m at the places ps
pub record Lists (T : Table) (t : TypeKey) (ps : List ℕ) (m : Member) : Type 0 where
  pub way : Way
  pub there : In way (method_set T t)
  pub member : member_of way ≡ m
  pub places : places_of way ≡ ps
