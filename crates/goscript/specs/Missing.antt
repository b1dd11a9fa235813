-- `missing_method` on values: its two loops over the methods of the interface, each of which returns at the first method that is not met.
use Rattle.std.specs.Prelude.{Bool, true, false, cond, not, List, [], ◌∷◌, ℕ}
use Rattle.std.proofs.Math.Option.{Option, none, some}
use Rattle.objects.specs.Lists.{empty, when}
use Rattle.objects.specs.declared.TypeKey.{TypeKey}
use Rattle.objects.specs.Table.{Table, is_method, Member, iface_under, all_methods}
use Rattle.rules.specs.Members.{identity_of}
use Rattle.rules.specs.Ways.{Place}
use Rattle.rules.specs.Missing.{Lack}
use Rattle.goscript.specs.Identical.{identical_types}
use Rattle.goscript.specs.Lookup.{LookupResult, Entry, Ambiguous, BadMethodReceiver, NotFound, lookup_method, lookup_field_or_method}

-- a loop over methods, of which `check` says whether the function returns there, and with which bool
abbrev pub first_missing : (Member → Option Bool) → List Member → Option Lack
first_missing check [] = none
first_missing check (f ∷ fs) = elim (check f) [
  | none ↦ first_missing check fs
  | some w ↦ some (record { member = f; w = w })
]

module _ (T : Table) where
  -- `if !identical_o(..) { return Some((*fkey, true)) }`; of two types that are there `identical_o` says what `identical` says
  abbrev pub wrong_type : Member → Member → Option Bool
  wrong_type f g = when (not (identical_types T f.type g.type)) true

  -- t is an interface: "only checks that methods of 'intf' which are also present in 't' have matching types", or all if static
  abbrev pub found : Bool → Member → Option Place → Option Bool
  found static f (some p) = wrong_type f p.member
  found static f none = when static false

  abbrev pub check_there : Bool → List Member → Member → Option Bool
  check_there static all f = found static f (lookup_method T (identity_of T f) all)

  -- "A concrete type implements 'intf' if it implements all methods of 'intf'."
  abbrev pub result : Member → LookupResult → Option Bool
  result f (Entry g indices indirect) = cond (not (is_method g.entity)) (some false) (wrong_type f g)
  result f (Ambiguous indices) = some false
  result f BadMethodReceiver = some false
  result f NotFound = some false

-- k turns at most in each lookup
module _ (T : Table) (out : LookupResult) where
  abbrev pub check_concrete : ℕ → TypeKey → Member → Option Bool
  check_concrete k t f = result T f (lookup_field_or_method T (identity_of T f) out k t false)

  abbrev pub missing_method : ℕ → TypeKey → TypeKey → Bool → Option Lack
  missing_method k t intf static =
      cond (empty (all_methods T intf)) none
      (cond (iface_under T t) (first_missing (check_there T static (all_methods T t)) (all_methods T intf))
      (first_missing (check_concrete k t) (all_methods T intf)))
