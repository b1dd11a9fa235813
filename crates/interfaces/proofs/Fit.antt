-- What the laws ask of a table's interfaces: what refusals 4 to 9 and 15 leave. That own methods ascend, and that 16 and 17 are not due, is not asked.
use mathlib.Core.Path.{◌≡◌}
use mathlib.Core.Bool.{true}
use Prim.Native.Nat.{◌<◌}
use Rattle.objects.specs.Lists.{In, Sorted}
use Rattle.objects.specs.declared.TypeKey.{TypeKey}
use Rattle.objects.specs.Table.{Member}
use Rattle.rules.specs.Members.{identity_of}
use Rattle.rules.proofs.IdLaws.{Proper}
use Rattle.interfaces.specs.Interfaces.{Interfaces}
use Rattle.interfaces.specs.FullList.{entries}
use Rattle.interfaces.specs.Runs.{Earlier}

-- 7 and 15: E lines lead to interfaces of the table. Refusal 16 asks no more.
pub record Linked (I : Interfaces) : Type 0 where
  pub inside : (t : TypeKey) → I.iface t ≡ true → t.0 < I.total
  pub embedding : (t e : TypeKey) → In e (I.embeds t) → I.iface t ≡ true
  pub allowed : (t e : TypeKey) → In e (I.embeds t) → I.iface (I.under e) ≡ true

pub record Fit (I : Interfaces) : Type 0 where
  pub linked : Linked I
  pub owning : (t : TypeKey) (m : Member) → In m (I.own t) → I.iface t ≡ true
  -- 4: an id tells its identity (rules/proofs/IdLaws.antt, `member-proper`)
  pub proper : (t : TypeKey) (m : Member) → In m (I.own t) → Proper (identity_of I.table m)
  -- 9: "a repeat is still 9"
  pub apart : (t : TypeKey) (m n : Member) → In m (I.own t) → In n (I.own t) → identity_of I.table m ≡ identity_of I.table n → m ≡ n
  -- "members are numbered from 0 as they come"
  pub rising : Sorted Earlier (entries I)
