-- The program: all that it prints for all that it reads.
use Rattle.std.specs.Prelude.{true, false, cond, List, [], ◌∷◌, ◌++◌, ltb, length}
use Rattle.objects.specs.Bounds.{program_answer, Bounds, bounds}
use Rattle.objects.specs.Lists.{Bytes, flat}
use Rattle.objects.specs.Table.{Table}
use Rattle.text.specs.Bytes.{ascii, same_bytes}
use Rattle.text.specs.Lines.{pieces}
use Rattle.rules.specs.Load.{Loaded, refused, loaded, load_within}
use Rattle.rules.specs.Asked.{fitted, replied}
use Rattle.rules.specs.AskedAll.{questions_of, refused_bytes, printed}

-- table text and questions
pub record Input : Type 0 where
  pub table : Bytes
  pub questions : List Bytes

abbrev pub put_line : Bytes → Input → Input
put_line l i = record { table = l ++ (10 ∷ i.table); questions = i.questions }

-- "table, a line `Q`, questions (without `Q`, one V)"; "a last `Q` without one is table text"
unfoldable pub input_of : List Bytes → Input
input_of [] = record { table = []; questions = ascii "V" ∷ [] }
input_of (last ∷ []) = record { table = last; questions = ascii "V" ∷ [] }
input_of (line ∷ next ∷ rest) = elim (same_bytes line (ascii "Q")) [
  | true ↦ record { table = []; questions = questions_of (next ∷ rest) }
  | false ↦ put_line line (input_of (next ∷ rest))
]

-- "It prints the answers, with a 16,384-byte answer buffer, or `refused` number line"
unfoldable pub printed_one : Table → Bytes → Bytes
printed_one T question = printed (fitted program_answer (replied question T))

-- "once and alone for a refused table, even without questions"
abbrev pub printed_all : Loaded → List Bytes → Bytes
printed_all (refused n line) questions = refused_bytes n line
printed_all (loaded T) questions = flat (printed_one T) questions

abbrev pub answered_all : Bounds → Input → Bytes
answered_all b i = printed_all (load_within b i.table) i.questions

-- "at most 32,768 bytes in all" (65,536 by document 02, point 4), "otherwise it prints refusal 2"
unfoldable pub typeask_within : Bounds → Bytes → Bytes
typeask_within b input = cond (ltb b.bytes (length input)) (refused_bytes 2 0) (answered_all b (input_of (pieces input)))

abbrev pub typeask : Bytes → Bytes
typeask input = typeask_within bounds input
