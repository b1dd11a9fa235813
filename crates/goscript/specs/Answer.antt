-- Demand 2 for a whole question: what goscript's function for it returns, and how that stands to the rules' answer.
use Rattle.std.specs.Prelude.{Bool, List, map, ℕ}
use Rattle.std.proofs.Math.Option.{Option, none, some}
use Rattle.objects.specs.declared.TypeKey.{TypeKey}
use Rattle.objects.specs.Table.{Table, size}
use Rattle.rules.specs.Members.{identity_from}
use Rattle.rules.specs.Ways.{Selected}
use Rattle.rules.specs.Missing.{Lack}
use Rattle.rules.specs.Question.{Question, ask_s, ask_m, ask_n, ask_i, ask_c, ask_v}
use Rattle.rules.specs.Answer.{Answer, Sel, satisfied, counts}
use Rattle.rules.specs.Answer as rules
use Rattle.goscript.specs.Maps.{Map}
use Rattle.goscript.specs.Lookup.{LookupResult, enough_turns, lookup_field_or_method}
use Rattle.goscript.specs.Agrees.{Agrees}
use Rattle.goscript.specs.MethodSets.{Selection, MethodCollision, new_method_set}
use Rattle.goscript.specs.Departures.{less_departed}
use Rattle.goscript.specs.Missing.{missing_method}
use Rattle.goscript.specs.Identical.{enough_calls, identical_answer}
use Rattle.goscript.specs.Comparable.{comparable_impl}

-- What the functions return. `says` none: the recursion was given too few calls. `nothing`: to V goscript has no counterpart.
pub data ReturnValue : Type 0 where
  selected : LookupResult → ReturnValue
  set : List Selection → ReturnValue
  lacks : Option Lack → ReturnValue
  says : Option Bool → ReturnValue
  nothing : ReturnValue

-- What each loop would give that had not ended. It is never given: `answers-are-goscripts` holds whatever this is.
pub record Unended : Type 0 where
  pub lookup : LookupResult
  pub methods : Map MethodCollision

-- `lookup_field_or_method`, `MethodSet::new`, `comparable`, `missing_method`, `identical`
unfoldable pub goscript_answer : Unended → Table → Question → ReturnValue
goscript_answer out T (ask_s t a pkg name) = selected (lookup_field_or_method T (identity_from T pkg name) out.lookup (enough_turns T) t a)
goscript_answer out T (ask_m t) = set (new_method_set T out.methods (enough_turns T) t)
goscript_answer out T (ask_c t) = says (comparable_impl T (size T) t)
goscript_answer out T (ask_n t i s) = lacks (missing_method T out.lookup (enough_turns T) t i s)
goscript_answer out T (ask_i x y) = says (identical_answer T (enough_calls T) x y)
goscript_answer out T ask_v = nothing

-- the line `sel` of a Selection
abbrev pub line_of : Selection → Sel
line_of s = record { member = s.obj; flag = s.indirect; places = s.indices }

-- How the answer to q stands to what goscript returns. S by `Agrees`; M: the same selections in the same order, but for the two departures; N: the same method and
-- bool, or none; I and C: the same bool; V: nothing is asked.
pub data Answers (T : Table) : Question → ReturnValue → Answer → Type 0 where
  agree : {q : Question} {r : LookupResult} {s : Selected} → Agrees r s → Answers T q (selected r) (rules.selected s)
  lines : {t : TypeKey} {l : List Selection} → Answers T (ask_m t) (set l) (rules.set (map line_of (less_departed T t l)))
  none-lacks : {q : Question} → Answers T q (lacks none) satisfied
  one-lacks : {q : Question} {l : Lack} → Answers T q (lacks (some l)) (rules.lacks l.member l.w)
  same_bool : {q : Question} {b : Bool} → Answers T q (says (some b)) (rules.says b)
  unasked : {q : Question} {packages types members : ℕ} → Answers T q nothing (counts packages types members)
