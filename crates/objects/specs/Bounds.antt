-- Every number that the papers bound something by, once; src/bounds.rt has the same for the code. Definitions, contracts and proofs use them by name, and what
-- follows from them is an expression of them: a bound is changed here and there, and nowhere else.
use Rattle.std.specs.Prelude.{ℕ, ◌+◌, ◌*◌, ◌-◌, ◌/◌}

-- Document 01: "256 types, 64 packages, 1,024 members, 255 per type, 256 places in a way." Document 02, point 4: "Type numbers run to 511, members to 2,047, and a
-- way may have 512 places".
abbrev pub max_types : ℕ
max_types = 512

abbrev pub max_packages : ℕ
max_packages = 64

abbrev pub max_members : ℕ
max_members = 2_048

abbrev pub max_per_type : ℕ
max_per_type = 255

-- A shortest way is at each type once at most, so that it has no more places than there are types: the papers' number follows from that of types.
abbrev pub max_places : ℕ
max_places = max_types

-- Document 01, 2: "The table has more than 32,768 bytes"; typeask: "at most 32,768 bytes in all". Document 02, point 4: "the table text may have 65,536 bytes and
-- `typeask` reads that much".
abbrev pub max_text : ℕ
max_text = 65_536

-- What bounds a table: the bytes of its text, its types and its members. Loading is defined for any bounds, so that those of two releases can be told of in one
-- theorem.
pub record Bounds : Type 0 where
  pub bytes : ℕ
  pub types : ℕ
  pub members : ℕ

abbrev pub bounds : Bounds
bounds = record { bytes = max_text; types = max_types; members = max_members }

-- Document 01's, in force before document 02's point 4: "An old table loads as before, and its answers agree."
abbrev pub former_bounds : Bounds
former_bounds = record { bytes = 32_768; types = 256; members = 1_024 }

-- 11: "more than 256 bytes"
abbrev pub max_question : ℕ
max_question = 256

-- "A type or package number of more than four digits has a wrong form"
abbrev pub max_reference : ℕ
max_reference = 9999

-- "`T basic k` (0 to 27, the order of `BasicType`)"
abbrev pub max_basic : ℕ
max_basic = 27

-- "`T array n e` (n to 4,294,967,295)"
abbrev pub max_array : ℕ
max_array = 4_294_967_295

-- "Names: 1 to 64"; "`P path`: 1 to 128 bytes"; a tag "of 1 to 128 bytes"
abbrev pub max_name : ℕ
max_name = 64

abbrev pub max_path : ℕ
max_path = 128

abbrev pub max_tag : ℕ
max_tag = 128

-- the greatest number of a refusal. Document 02, point 5: "New numbers: 14, package out of order."
abbrev pub last_refusal : ℕ
last_refusal = 14

-- "minus (refusal × 65,536 + line)"
abbrev pub refusal_unit : ℕ
refusal_unit = 65_536

-- "It prints the answers, with a 16,384-byte answer buffer"
abbrev pub program_answer : ℕ
program_answer = 16_384

-- 1: "fewer words than the number the team fixes in docs/, which is at most 4,194,304"
abbrev pub work_words : ℕ
work_words = 4_096

-- comparing types: a bit for each pair of n types, 32 to a word. The work area has to hold the marks of all types and no more.
abbrev pub pairs_of : ℕ → ℕ
pairs_of n = (n * n - n) / 2

abbrev pub pair_words : ℕ → ℕ
pair_words n = (pairs_of n + 31) / 32

abbrev pub mark_words : ℕ
mark_words = pair_words max_types

-- how many numbers a word of 32 bits can be
abbrev pub word_values : ℕ
word_values = 4_294_967_296

-- ---- the rows of a loaded table (specs/Rows.antt): four counts, the word that says whether members are signed, packages, types, and then members, with their
-- signs behind them, from the front and elements of tuples from the back

abbrev pub signed_at : ℕ
signed_at = 4

-- words of a type's row and of a member's, and of a package's
abbrev pub row_words : ℕ
row_words = 8

abbrev pub package_words : ℕ
package_words = 2

abbrev pub packages_at : ℕ
packages_at = 8

abbrev pub types_at : ℕ
types_at = packages_at + package_words * max_packages

-- where as many types end as there may be
abbrev pub types_end : ℕ
types_end = types_at + row_words * max_types

-- Where the members begin in rows of n words: the types have half of the words behind the packages, and no more than they may need.
unfoldable pub members_at : ℕ → ℕ
members_at n = types_end - (types_end - (n + types_at) / 2)

-- an element of a tuple takes a tab and a digit at least
abbrev pub max_elements : ℕ
max_elements = max_text / 2

-- words of all members and elements
abbrev pub shared_words : ℕ
shared_words = row_words * max_members + max_elements

abbrev pub all_words : ℕ
all_words = types_end + shared_words

-- The words that a text of n bytes asks for. A type and a member take 8 words and at least as many bytes, an element a word and at least 2 bytes: a word for each
-- byte is enough for the types, and another behind them for the rest, and never more than all are used.
abbrev pub room_for : ℕ → ℕ
room_for n = (types_end - (row_words * max_types - n)) + (shared_words - (shared_words - n))

-- a call has an array of its own for texts of at most so many bytes, and one for all others
abbrev pub small_text : ℕ
small_text = 1_024

abbrev pub median_text : ℕ
median_text = 3_072

abbrev pub middle_text : ℕ
middle_text = 6_144

abbrev pub long_text : ℕ
long_text = 16_384

-- S, M and N have an array of their own for at most so many level records, two for each type, and one for all others; M also for so many members
abbrev pub few_records : ℕ
few_records = 64

abbrev pub some_records : ℕ
some_records = 256

abbrev pub some_members : ℕ
some_members = 256
