-- The graph of a table: what the rules' walks and ways are over.
use Rattle.std.specs.Prelude.{Bool, map}
use Rattle.objects.specs.declared.TypeKey.{TypeKey}
use Rattle.objects.specs.Table.{Table, size, bare, pointer_at}
use Rattle.rules.specs.Members.{identity_of, same_id}
use Rattle.rules.specs.Identity.{identical}
use Rattle.rules.specs.Ways.{Place, owned, embedded}
use Rattle.ways.specs.Graph.{Graph, Step}

abbrev pub step_of : Table → Place → Step
step_of T p = record { place = p.place; key = p.member.key; target = bare T p.member.type; ptr = pointer_at T p.member.type }

-- the table's members and embedded fields, with the types told apart by `same`
abbrev pub graph_up_to : Table → (TypeKey → TypeKey → Bool) → Graph
graph_up_to T same = record {
  size = size T;
  members = owned T;
  steps = λ t. map (step_of T) (embedded T t);
  same = same;
  hit = λ q p. same_id (identity_of T p.member) q;
}

abbrev pub graph : Table → Graph
graph T = graph_up_to T (identical T)
