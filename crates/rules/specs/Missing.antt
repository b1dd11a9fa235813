-- N: the first method of an interface that a type does not meet.
use Rattle.std.specs.Prelude.{Bool, true, false, cond, not, List, [], ◌∷◌}
use Rattle.std.proofs.Math.Option.{Option, none, some}
use Rattle.objects.specs.Lists.{keep, when}
use Rattle.objects.specs.declared.TypeKey.{TypeKey}
use Rattle.objects.specs.Table.{Table, is_method, Member, iface_under, all_methods}
use Rattle.rules.specs.Members.{identity_of, same_member}
use Rattle.rules.specs.Identity.{identical}
use Rattle.rules.specs.Ways.{Selected, notfound, badreceiver, entry, ambiguous, select}

-- "`missing` member w"
pub record Lack : Type 0 where
  pub member : Member
  pub w : Bool

module _ (T : Table) where
  -- "w is 1 where a method is there with another type": unmet with w, or met
  abbrev pub compared : Member → Member → Option Bool
  compared m found = when (not (identical T m.type found.type)) true

  -- "t with an interface under it: only methods of other type count, and absent ones too if s is 1"
  abbrev pub unmet_there : Bool → Member → List Member → Option Bool
  unmet_there s m [] = when s false
  unmet_there s m (found ∷ rest) = compared m found

  -- "any answer but an `entry` that is a method counts as unmet with w 0"
  abbrev pub unmet_by : Member → Selected → Option Bool
  unmet_by m notfound = some false
  unmet_by m badreceiver = some false
  unmet_by m (entry found flag places) = cond (is_method found.entity) (compared m found) (some false)
  unmet_by m (ambiguous first second) = some false

  -- none: t meets the method m; some w: it does not. "Other t: S with a 0 and the method's own package"
  unfoldable pub unmet : TypeKey → Bool → Member → Option Bool
  unmet t s m =
      cond (iface_under T t) (unmet_there s m (keep (same_member T m) (all_methods T t)))
      (unmet_by m (select T (identity_of T m) t false))

  abbrev pub first_unmet : TypeKey → Bool → List Member → Option Lack
  first_unmet t s [] = none
  first_unmet t s (m ∷ ms) = elim (unmet t s m) [
    | none ↦ first_unmet t s ms
    | some w ↦ some (record { member = m; w = w })
  ]

  -- N: "`satisfied`, or `missing` member w for the first unmet method of i"
  unfoldable pub missing : TypeKey → TypeKey → Bool → Option Lack
  missing t i s = first_unmet t s (all_methods T i)
