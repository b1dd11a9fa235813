-- A line fails a test as the rules have it.
use mathlib.Core.Path.{◌≡◌, ap}
use mathlib.Core.Bool.{Bool, not, ◌&&◌}
use mathlib.Core.List.{List}
use Rattle.objects.specs.declared.TypeKey.{TypeKey}
use Rattle.objects.specs.Lists.{every}
use Rattle.objects.specs.Table.{Table, Member, Kind, refs, has_type, has_package}
use Rattle.rules.specs.Checks.{type_item, member_item, lacking, forbidden, type_allowed, member_allowed}

module _ (T : Table) (t : TypeKey) (k : Kind) {a : Bool} where
  pub type-lacking : a ≡ every (has_type T) (refs k) → not a ≡ lacking T (type_item t k)
  unfolding lacking
  type-lacking p = ap not p

  pub type-forbidden : a ≡ type_allowed T t k → not a ≡ forbidden T (type_item t k)
  unfolding forbidden
  type-forbidden p = ap not p

  module _ (above : List Member) (m : Member) where
    pub member-lacking : a ≡ has_type T m.type && has_package T m.pkg → not a ≡ lacking T (member_item t k above m)
    unfolding lacking
    member-lacking p = ap not p

    pub member-forbidden : a ≡ member_allowed T t k m.type m.entity → not a ≡ forbidden T (member_item t k above m)
    unfolding forbidden
    member-forbidden p = ap not p
