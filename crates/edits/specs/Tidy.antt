-- Document 02, point 6, on tables: "only the least-numbered type of each set of identical types. The types that remain keep their order and are renumbered, and every
-- reference goes to the remaining twin."
use Rattle.std.specs.Prelude.{List, map, ltb, length}
use Rattle.objects.specs.Lists.{keep, head_or, up_to}
use Rattle.objects.specs.declared.TypeKey.{TypeKey}
use Rattle.objects.specs.Table.{Table, size, type_key, same_type, kind_at}
use Rattle.rules.specs.Identity.{identical}
use Rattle.edits.specs.Carried.{carry_kind}
use Rattle.edits.specs.Assembled.{assembled}

module _ (T : Table) where
  abbrev pub all_types : List TypeKey
  all_types = map type_key (up_to (size T))

  -- the remaining twin: the first type that is identical to t. As a relation: it is identical to t and none before it is (`least-is`, `least-same` of
  -- carry/proofs/Twins.antt)
  unfoldable pub least : TypeKey → TypeKey
  least t = head_or t (keep (λ u. identical T u t) all_types)

  -- the types that remain, in their order
  unfoldable pub remaining : List TypeKey
  remaining = keep (λ t. same_type (least t) t) all_types

  -- the new number of t: how many remain before its twin
  unfoldable pub tidy_type : TypeKey → TypeKey
  tidy_type t = type_key (length (keep (λ u. ltb u.0 (least t).0) remaining))

  unfoldable pub tidied : Table
  tidied = assembled T.packages (map (λ t. carry_kind tidy_type (λ k. k) (kind_at T t)) remaining)
