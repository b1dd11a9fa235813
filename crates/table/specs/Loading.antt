-- What loading answers, and what the rows then hold.
use Rattle.std.specs.Prelude.{◌≡◌, ℕ, Option, Some, None, Result, Ok, Err}
use Rattle.objects.specs.declared.refusals.Reason.{Reason}
use Rattle.objects.specs.declared.refusals.Refusal.{Refusal}
use Rattle.objects.specs.Refusals.{reason_number}
use Rattle.objects.specs.Lists.{Bytes}
use Rattle.objects.specs.Rows.{Words, signed_of, table_of}
use Rattle.objects.specs.Laid.{Laid}
use Rattle.rules.specs.Load.{Loaded, refused, loaded, load}
use Rattle.rules.specs.Library.{Ranked, Library}

-- a refusal with its line, or the table that the rows hold
unfoldable pub loading_meant : Bytes → Words → Result (Unit {0}) Refusal → Loaded
loading_meant text rows (Err r) = refused (reason_number r.reason) r.line
loading_meant text rows (Ok u) = loaded (table_of text rows)

-- a stage that found a line refuses it for its reason
abbrev pub stage_answer : Reason → Option ℕ → Result (Unit {0}) Refusal
stage_answer reason None = Ok tt
stage_answer reason (Some line) = Err (record { reason = reason; line = line })

-- The answer is the one that is due; rows that pass are in order, ranked and without signs.
pub record Passes (text : Bytes) (due : Loaded) (r : Result (Unit {0}) Refusal) (rows : Words) : Type 0 where
  pub says : loading_meant text rows r ≡ due
  pub laid : Laid rows
  pub ranked : r ≡ Ok tt → Ranked text rows
  pub unsigned : r ≡ Ok tt → signed_of rows ≡ 0

-- The answer is the rules' own, and rows that loaded are a library.
pub record Loads (text : Bytes) (r : Result (Unit {0}) Refusal) (rows : Words) : Type 0 where
  pub says : loading_meant text rows r ≡ load text
  pub holds : r ≡ Ok tt → Library text rows
