-- The answers as values, and their bytes.
use Rattle.std.specs.Prelude.{Bool, cond, List, [], ◌∷◌, ◌++◌, map, ℕ, length}
use Rattle.std.proofs.Math.Option.{Option, none, some}
use Rattle.objects.specs.Lists.{Bytes, flat}
use Rattle.text.specs.Bytes.{ascii, decimal}
use Rattle.objects.specs.Table.{Table, size, member_count, Member, bit}
use Rattle.rules.specs.Ways.{Way, Selected, notfound, badreceiver, entry, ambiguous, places_of, member_of, select}
use Rattle.rules.specs.Members.{identity_from}
use Rattle.rules.specs.MethodSet.{method_set, method_flag}
use Rattle.rules.specs.Missing.{Lack, missing}
use Rattle.rules.specs.Identity.{identical}
use Rattle.rules.specs.Comparable.{comparable}
use Rattle.rules.specs.Question.{Question, ask_s, ask_m, ask_n, ask_i, ask_c, ask_v}

-- a line `sel`
pub record Sel : Type 0 where
  pub member : Member
  pub flag : Bool
  pub places : List ℕ

pub data Answer : Type 0 where
  selected : Selected → Answer
  set : List Sel → Answer
  satisfied : Answer
  lacks : (member : Member) (w : Bool) → Answer
  says : Bool → Answer
  counts : (packages types members : ℕ) → Answer

abbrev pub sel_of : Table → Way → Sel
sel_of T w = record { member = member_of w; flag = method_flag T w; places = places_of w }

abbrev pub lack_answer : Option Lack → Answer
lack_answer none = satisfied
lack_answer (some l) = lacks l.member l.w

unfoldable pub answer : Table → Question → Answer
answer T (ask_s t a pkg name) = selected (select T (identity_from T pkg name) t a)
answer T (ask_m t) = set (map (sel_of T) (method_set T t))
answer T (ask_c t) = says (comparable T t)
answer T (ask_n t i s) = lack_answer (missing T t i s)
answer T (ask_i x y) = says (identical T x y)
answer T ask_v = counts (length T.packages) (size T) (member_count T)

-- ---- bytes

-- "Answer fields are parted by one tab and each answer line ends in a newline."
abbrev pub tabbed : List Bytes → Bytes
tabbed [] = []
tabbed (f ∷ fs) = 9 ∷ f ++ tabbed fs

abbrev pub line_bytes : Bytes → List Bytes → Bytes
line_bytes word fs = word ++ tabbed fs ++ (10 ∷ [])

abbrev pub member_bytes : Member → Bytes
member_bytes m = decimal m.key.0

abbrev pub flag_bytes : Bool → Bytes
flag_bytes b = decimal (bit b)

abbrev pub selected_bytes : Selected → Bytes
selected_bytes notfound = line_bytes (ascii "notfound") []
selected_bytes badreceiver = line_bytes (ascii "badreceiver") []
selected_bytes (entry m flag places) = line_bytes (ascii "entry") (member_bytes m ∷ flag_bytes flag ∷ map decimal places)
selected_bytes (ambiguous first second) = line_bytes (ascii "ambiguous") (map decimal first) ++ line_bytes (ascii "and") (map decimal second)

abbrev pub sel_bytes : Sel → Bytes
sel_bytes s = line_bytes (ascii "sel") (member_bytes s.member ∷ flag_bytes s.flag ∷ map decimal s.places)

-- "`set` and the count, then a line `sel` member flag places for each"; "`V`: `ok`, then the counts of packages, types and members"
unfoldable pub answer_bytes : Answer → Bytes
answer_bytes (selected s) = selected_bytes s
answer_bytes (set ss) = line_bytes (ascii "set") (decimal (length ss) ∷ []) ++ flat sel_bytes ss
answer_bytes satisfied = line_bytes (ascii "satisfied") []
answer_bytes (lacks m w) = line_bytes (ascii "missing") (member_bytes m ∷ flag_bytes w ∷ [])
answer_bytes (says b) = line_bytes (cond b (ascii "yes") (ascii "no")) []
answer_bytes (counts p t m) = line_bytes (ascii "ok") (decimal p ∷ decimal t ∷ decimal m ∷ [])
