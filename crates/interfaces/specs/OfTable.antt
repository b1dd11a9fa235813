-- The interfaces of a table, with E lines that stand beside it: the table itself has none.
use Rattle.std.specs.Prelude.{◌≡◌, true, cond, List, []}
use Rattle.objects.specs.Lists.{In}
use Rattle.objects.specs.declared.TypeKey.{TypeKey}
use Rattle.objects.specs.Table.{Table, Member, size, is_iface, members_of, kind_at, under, iface_under}
use Rattle.interfaces.specs.Interfaces.{Interfaces}

-- the M lines of an interface, of another type none
abbrev pub own_methods : Table → TypeKey → List Member
own_methods T t = cond (is_iface (kind_at T t)) (members_of (kind_at T t)) []

abbrev pub interfaces_of : Table → (TypeKey → List TypeKey) → Interfaces
interfaces_of T embeds = record {
  table = T;
  total = size T;
  iface = λ t. is_iface (kind_at T t);
  under = under T;
  embeds = embeds;
  own = own_methods T;
}

-- "an E line elsewhere is 5"; "15, an E target without an interface under it"
pub record Embedding (T : Table) (embeds : TypeKey → List TypeKey) : Type 0 where
  pub standing : (t e : TypeKey) → In e (embeds t) → is_iface (kind_at T t) ≡ true
  pub allowed : (t e : TypeKey) → In e (embeds t) → iface_under T e ≡ true
