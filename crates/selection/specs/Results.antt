-- What the results of the code stand for: "Where an answer is an enum, a definition sets out this paper's number and values for each of its cases."
use Rattle.std.specs.Prelude.{◌≡◌, Bool, true, not, List, [], ◌∷◌, ℕ, ◌≤◌, ◌<◌, take, drop}
use Rattle.std.proofs.Math.Option.{Option, none, some}
use Rattle.std.specs.declared.option.Option as code
use Rattle.std.specs.Prelude.{Some, None}
use Rattle.objects.specs.Bounds.{max_places}
use Rattle.objects.specs.Lists.{Bytes}
use Rattle.objects.specs.declared.ObjKey.{ObjKey}
use Rattle.objects.specs.Rows.{Words, type_count, member_at}
use Rattle.objects.specs.Types.{method_read, member_type_read}
use Rattle.rules.specs.Members.{Identity}
use Rattle.rules.specs.Missing.{Lack}
use Rattle.obj.specs.Ids.{asked_id}
use Rattle.rules.specs.Ways.{Place, Selected, notfound, badreceiver, entry, ambiguous}
use Rattle.selection.specs.declared.Name.{Name}
use Rattle.selection.specs.declared.Missing.{Missing}
use Rattle.selection.specs.declared.Entity.{Entity}
use Rattle.selection.specs.declared.LookupResult.{LookupResult}
use Rattle.selection.specs.declared.Selection.{Selection}
use Rattle.selection.specs.declared.Own.{Own}

-- the identity that a name asks for
unfoldable pub name_meant : Bytes → Words → Bytes → Name → Identity
name_meant text rows names q = asked_id text rows names q.at q.len q.pkg

-- ---- own members

-- the first of a list of members, if there is one
abbrev pub first : List Place → Option Place
first [] = none
first (p ∷ ps) = some p

unfoldable pub own_meant : Bytes → Words → code.Option Own → Option Place
own_meant text rows None = none
own_meant text rows (Some o) = some (record { place = o.place; member = member_at text rows o.member })

-- ---- results

unfoldable pub key_of : Entity → ObjKey
key_of (Entity.Method m) = m
key_of (Entity.Field m) = m

-- the selection of the rules, with the places of the first way and, where there are two, of the second
unfoldable pub result_meant : Bytes → Words → LookupResult → (first second : List ℕ) → Selected
result_meant text rows (LookupResult.Entry e flag) first second = entry (member_at text rows (key_of e)) flag first
result_meant text rows LookupResult.Ambiguous first second = ambiguous first second
result_meant text rows LookupResult.BadMethodReceiver first second = badreceiver
result_meant text rows LookupResult.NotFound first second = notfound

-- an entry is called a method exactly if its line is an M line
unfoldable pub called_right : Words → LookupResult → Bool
called_right rows (LookupResult.Entry (Entity.Method m) flag) = method_read rows m
called_right rows (LookupResult.Entry (Entity.Field m) flag) = not (method_read rows m)
called_right rows LookupResult.Ambiguous = true
called_right rows LookupResult.BadMethodReceiver = true
called_right rows LookupResult.NotFound = true

-- the type of an entry is the table's
unfoldable pub Typed : Words → LookupResult → Type 0
Typed rows (LookupResult.Entry e flag) = (member_type_read rows (key_of e)).0 < type_count rows
Typed rows LookupResult.Ambiguous = Unit {0}
Typed rows LookupResult.BadMethodReceiver = Unit {0}
Typed rows LookupResult.NotFound = Unit {0}

-- the second way's places, as many as the first's, stand behind the room for the first's
abbrev pub second_of : Words → Words
second_of places = drop max_places places

-- the selection r, with the places of its ways in a lent row, is the one that is due
pub record Selects (text : Bytes) (rows : Words) (r : Selection) (places : Words) (due : Selected) : Type 0 where
  pub says : result_meant text rows r.result (take r.count places) (take r.count (second_of places)) ≡ due
  pub fits : r.count ≤ max_places
  pub called : called_right rows r.result ≡ true
  pub typed : Typed rows r.result

-- ---- missing methods

-- none if every method is met
unfoldable pub missing_meant : Bytes → Words → code.Option Missing → Option Lack
missing_meant text rows None = none
missing_meant text rows (Some l) = some (record { member = member_at text rows l.method; w = l.other_type })
