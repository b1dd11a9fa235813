-- What the steps of the code answer: a selection of a named pointer type, and a method that is not met.
use Rattle.std.specs.Prelude.{◌≡◌, Bool, true, ◌<◌}
use Rattle.std.proofs.Math.Option.{Option}
use Rattle.objects.specs.declared.ObjKey.{ObjKey}
use Rattle.objects.specs.Lists.{Bytes, mapped}
use Rattle.objects.specs.Table.{Member, has_package}
use Rattle.objects.specs.Rows.{Words, type_count, member_word, member_at, table_of}
use Rattle.objects.specs.Types.{member_type_read, package_read}
use Rattle.rules.specs.Missing.{Lack}
use Rattle.selection.specs.declared.Name.{Name}
use Rattle.selection.specs.declared.Entity.{Entity}
use Rattle.selection.specs.declared.LookupResult.{LookupResult}
use Rattle.selection.specs.declared.Selection.{Selection}
use Rattle.levels.specs.Hits.{nothing_found}

-- "an `entry` that is a method becomes `notfound`": what is left of a result with so many places
unfoldable pub left_of : LookupResult → Selection → Selection
left_of (LookupResult.Entry (Entity.Method m) flag) s = nothing_found
left_of (LookupResult.Entry (Entity.Field m) flag) s = s
left_of LookupResult.Ambiguous s = s
left_of LookupResult.BadMethodReceiver s = s
left_of LookupResult.NotFound s = s

unfoldable pub without_method : Selection → Selection
without_method s = left_of s.result s

-- a member's name, asked for from its own package
unfoldable pub name_read : Words → ObjKey → Name
name_read rows m = record { at = member_word rows m 0; len = member_word rows m 1; pkg = package_read rows m }

-- the package and the type of a member are the table's
pub record InTable (text : Bytes) (rows : Words) (m : ObjKey) : Type 0 where
  pub packaged : has_package (table_of text rows) (member_at text rows m).pkg ≡ true
  pub typed : (member_type_read rows m).0 < type_count rows

-- the method and its w, where it is not met
unfoldable pub lack_of : Member → Option Bool → Option Lack
lack_of m o = mapped (λ w. record { member = m; w = w }) o
