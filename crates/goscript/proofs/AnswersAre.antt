-- The rules' answer to every question of a sound table is goscript's, M's but for the two departures; and which way goscript tells where an answer shows two.
use mathlib.Core.Path.{◌≡◌, sym, ap, ◌∙◌}
use mathlib.Core.Bool.{Bool, true}
use mathlib.Core.List.{List, map}
use mathlib.Core.Option.{Option, none, some}
use Prim.Native.Nat.{ℕ, ◌<◌}
use native.Mathlib.Omega.{arith}
use borrow.Author.Tests.{ltb-true}
use Rattle.objects.specs.Lists.{Bytes}
use Rattle.objects.specs.declared.TypeKey.{TypeKey}
use Rattle.objects.specs.declared.PackageKey.{PackageKey}
use Rattle.objects.specs.Table.{Table, size, has_type, has_package}
use Rattle.objects.proofs.ListLaws.{and_l, map-map}
use Rattle.rules.specs.Members.{identity_from}
use Rattle.rules.specs.Ways.{searched_as, shortest, select}
use Rattle.rules.specs.Missing.{Lack, missing}
use Rattle.rules.specs.MethodSet.{method_set}
use Rattle.rules.specs.Sound.{Sound}
use Rattle.rules.specs.Question.{Question, ask_s, ask_m, ask_n, ask_i, ask_c, ask_v, in_table}
use Rattle.rules.specs.Answer.{sel_of, lack_answer, answer}
use Rattle.goscript.specs.Maps.{Map}
use Rattle.goscript.specs.MethodSets.{MethodCollision, new_method_set}
use Rattle.goscript.specs.Departures.{less_departed}
use Rattle.goscript.specs.Lookup.{Ambiguous, enough_turns}
use Rattle.goscript.specs.Agrees.{WhichWay}
use Rattle.goscript.specs.Identical.{enough_calls}
use Rattle.goscript.specs.Answer.{selected, lacks, Unended, goscript_answer, line_of, Answers, agree, lines, none-lacks, one-lacks, same_bool, unasked}
use Rattle.goscript.proofs.Collisions.{selection_of}
use Rattle.goscript.proofs.LookupIs.{lookup-is-goscript}
use Rattle.goscript.proofs.LookupIs as lookup
use Rattle.goscript.proofs.MethodSetIs.{method-set-is-goscript}
use Rattle.goscript.proofs.Departed.{selections-less}
use Rattle.goscript.proofs.MissingIs.{missing-is-goscript}
use Rattle.goscript.proofs.IdenticalIs.{identical-is-goscript}
use Rattle.goscript.proofs.ComparableIs.{comparable-is-goscript}

-- the lines of M are those of goscript's selections without the two departures
pub lines-less : (T : Table) → Sound T → (t : TypeKey) → t.0 < size T → (out : Map MethodCollision) → map (sel_of T) (method_set T t) ≡ map line_of (less_departed T t (new_method_set T out (enough_turns T) t))
lines-less T sound t in0 out =
    rw (method-set-is-goscript T sound t in0 out (enough_turns T) (omega arith))
    (sym (ap (map line_of) (selections-less T t) ∙ map-map line_of (selection_of T) (method_set T t)))

lack-said : (T : Table) (q : Question) (o : Option Lack) → Answers T q (lacks o) (lack_answer o)
lack-said T q none = none-lacks
lack-said T q (some l) = one-lacks

-- THE ANSWERS ARE GOSCRIPT'S, M's but for the two departures, and its loops and recursions end.
pub answers-are-goscripts : (T : Table) → Sound T → (q : Question) → in_table T q ≡ true → (out : Unended) → Answers T q (goscript_answer out T q) (answer T q)
unfolding goscript_answer answer
answers-are-goscripts T sound (ask_s t a pkg name) h out =
    let in0 = ltb-true t.0 (size T) (and_l (has_type T t) (has_package T pkg) h) in
    agree (lookup-is-goscript T sound (identity_from T pkg name) t in0 a out.lookup (enough_turns T) (omega arith))
answers-are-goscripts T sound (ask_m t) h out = rw (lines-less T sound t (ltb-true t.0 (size T) h) out.methods) lines
answers-are-goscripts T sound (ask_c t) h out = rw (comparable-is-goscript T sound t (ltb-true t.0 (size T) h) (size T) (omega arith)) same_bool
answers-are-goscripts T sound (ask_n t i s) h out =
    let in0 = ltb-true t.0 (size T) (and_l (has_type T t) (has_type T i) h) in
    rw (missing-is-goscript T sound t i in0 s out.lookup (enough_turns T) (omega arith)) (lack-said T (ask_n t i s) (missing T t i s))
answers-are-goscripts T sound (ask_i x y) h out = rw (identical-is-goscript T sound x y (enough_calls T) (omega arith)) same_bool
answers-are-goscripts T sound ask_v h out = unasked

-- Where goscript tells of several ways, the answer shows the two that it tells one of.
pub which-way : (T : Table) → Sound T → (t : TypeKey) (a : Bool) (pkg : Option PackageKey) (name : Bytes) → in_table T (ask_s t a pkg name) ≡ true
    → (out : Unended) (indices : List ℕ) → goscript_answer out T (ask_s t a pkg name) ≡ selected (Ambiguous indices)
    → WhichWay T (shortest T (identity_from T pkg name) (searched_as T t)) indices (select T (identity_from T pkg name) t a)
unfolding goscript_answer
which-way T sound t a pkg name h out indices e =
    let in0 = ltb-true t.0 (size T) (and_l (has_type T t) (has_package T pkg) h) in
    lookup.which-way T sound (identity_from T pkg name) t in0 a out.lookup (enough_turns T) (omega arith) indices (cc)
