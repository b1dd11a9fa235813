-- What a question is lent to search with. Nothing is asked of what stood there before: scratch that served one question serves the next.
use Rattle.std.proofs.Math.Option.{Option, none, some}
use Rattle.std.specs.Prelude.{ℕ, ◌+◌, ◌*◌, ◌≤◌, List, length}
use Rattle.objects.specs.Bounds.{max_places}
use Rattle.objects.specs.Rows.{Words, type_count, member_count_of}
use Rattle.rules.specs.Question.{Question, ask_s, ask_m, ask_n, ask_i, ask_c, ask_v}
use Rattle.multiples.specs.Records.{Record, max_records}
use Rattle.first_hits.specs.declared.FirstHit.{FirstHit}
use Rattle.first_hits.specs.Hits.{Rooms}
use Rattle.answer.specs.declared.Need.{Need}

-- the places of two ways, behind two words that are left free for the answer
abbrev pub search_words : ℕ
search_words = 2 + 2 * max_places

-- two records for each type
pub record Walks (rows : Words) (walk : List Record) : Type 0 where
  pub room : 2 * type_count rows ≤ length walk
  pub most : length walk ≤ max_records

-- S and N
pub record Searches (rows : Words) (walk : List Record) (words : Words) : Type 0 where
  pub walks : Walks rows walk
  pub long : search_words ≤ length words

-- M: a word and a first hit for each member
pub record Lists (rows : Words) (walk : List Record) (hits : List FirstHit) (words : Words) : Type 0 where
  pub walks : Walks rows walk
  pub long : member_count_of rows ≤ length words
  pub rooms : Rooms rows hits

-- every question
pub record Lent (rows : Words) (walk : List Record) (hits : List FirstHit) (words : Words) : Type 0 where
  pub searches : Searches rows walk words
  pub lists : Lists rows walk hits words

unfoldable pub need_of : Option Question → Need
need_of none = Need.Nothing
need_of (some (ask_s t a pkg name)) = Need.Walk
need_of (some (ask_m t)) = Need.Set
need_of (some (ask_n t i s)) = Need.Walk
need_of (some (ask_i x y)) = Need.Nothing
need_of (some (ask_c t)) = Need.Nothing
need_of (some ask_v) = Need.Nothing

unfoldable pub Enough : Words → List Record → List FirstHit → Words → Need → Type 0
Enough rows walk hits words Need.Nothing = Unit {0}
Enough rows walk hits words Need.Walk = Searches rows walk words
Enough rows walk hits words Need.Set = Lists rows walk hits words

-- there is a hit for each member, as before
pub record Kept (rows : Words) (hits hits' : List FirstHit) : Type 0 where
  pub rooms : Rooms rows hits → Rooms rows hits'
