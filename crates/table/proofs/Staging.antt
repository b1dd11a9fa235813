-- The stages of loading in order: what each return of the code says.
use mathlib.Core.Path.{◌≡◌, refl, sym, ap, subst, ◌∙◌}
use mathlib.Core.Bool.{Bool, true, false, true≢false}
use mathlib.Core.Option.{Option, none}
use Prim.Native.Nat.{ℕ}
use Rattle.objects.specs.Lists.{Bytes}
use Rattle.std.specs.Prelude.{Some, None, Result, Ok, Err}
use Rattle.std.specs.declared.option.Option as code
use Rattle.objects.specs.declared.refusals.Reason.{Reason}
use Rattle.objects.specs.declared.refusals.Refusal.{Refusal}
use Rattle.objects.specs.Refusals.{reason_number}
use Rattle.objects.specs.Types.{found}
use Rattle.objects.specs.Table.{Table}
use Rattle.objects.specs.Rows.{Words, table_of}
use Rattle.objects.specs.Laid.{Laid, SignedPut}
use Rattle.rules.specs.Checks.{Item, items, lacking, forbidden, clashing, containing}
use Rattle.rules.specs.Load.{Loaded, refused, loaded, staged, checked}
use Rattle.rules.specs.Stages.{first_unordered, first_item}
use Rattle.rules.specs.Library.{rank_read}
use Rattle.cycles.specs.Contained.{Contained}
use Rattle.table.specs.Loading.{loading_meant, stage_answer, Passes}

-- what is due behind a stage that passed, and at one that found a line
after-passed : {due : Loaded} {F : Option ℕ} {s : code.Option ℕ} (n : ℕ) (rest : Loaded) → due ≡ staged n F rest → found s ≡ F → s ≡ None → due ≡ rest
unfolding staged found
after-passed n rest e p q = cc

after-bad : {due : Loaded} {line : ℕ} {F : Option ℕ} {s : code.Option ℕ} (n : ℕ) (rest : Loaded) → due ≡ staged n F rest → found s ≡ F → s ≡ Some line → due ≡ refused n line
unfolding staged found
after-bad n rest e p q = cc

-- 7 passed
pub passed_none : {F : Option ℕ} {s : code.Option ℕ} → found s ≡ F → s ≡ None → F ≡ none
unfolding found
passed_none p q = cc

abbrev is_refused : Result (Unit {0}) Refusal → Bool
is_refused (Err r) = true
is_refused (Ok u) = false

pub never-loaded : {r : Refusal} → ◌≡◌ {A = Result (Unit {0}) Refusal} (Err r) (Ok tt) → ⊥
never-loaded h = true≢false (ap is_refused h)

-- what the answer of a stage says of what it found
same-refusal : {a b : Refusal} → ◌≡◌ {A = Result (Unit {0}) Refusal} (Err a) (Err b) → a ≡ b
same-refusal e = cc

pub stage-passed : (reason : Reason) (s : code.Option ℕ) {p : Result (Unit {0}) Refusal} → p ≡ stage_answer reason s → p ≡ Ok tt → s ≡ None
stage-passed reason None a e = refl
stage-passed reason (Some line) a e = absurd (never-loaded (sym a ∙ e))

pub refused-by : {text : Bytes} {due : Loaded} {rows : Words} (reason : Reason) (s : code.Option ℕ) {p r : Result (Unit {0}) Refusal} {e : Refusal}
    → p ≡ stage_answer reason s → p ≡ Err e → r ≡ Err e → ((line : ℕ) → s ≡ Some line → Passes text due (Err (record { reason = reason; line = line })) rows) → Passes text due r rows
refused-by reason None a w q f = absurd (never-loaded (sym w ∙ a))
refused-by {text} {due} {rows} reason (Some line) a w q f = subst (λ x. Passes text due x rows) (sym (q ∙ ap Err (same-refusal (sym w ∙ a)))) (f line refl)

-- a refusal does not look at the rows
refusal-passes : (text : Bytes) (due : Loaded) (rows : Words) (r : Refusal) → due ≡ refused (reason_number r.reason) r.line → Laid rows → Passes text due (Err r) rows
unfolding loading_meant
refusal-passes text due rows r e l = record { says = sym e; laid = l; ranked = λ h. absurd (never-loaded h); unsigned = λ h. absurd (never-loaded h) }

module _ (text : Bytes) (rows : Words) (laid : Laid rows) where
  abbrev T : Table
  T = table_of text rows

  -- what a stage over the T, F and M lines has to find
  abbrev finds : (Table → Item → Bool) → Option ℕ
  finds bad = first_item T (bad T) (items T)

  -- what is due from a stage on
  abbrev from10 : Loaded
  from10 = staged 10 (finds containing) (loaded T)

  abbrev from9 : Loaded
  from9 = staged 9 (finds clashing) from10

  abbrev from8 : Loaded
  from8 = staged 8 (finds forbidden) from9

  abbrev from7 : Loaded
  from7 = staged 7 (finds lacking) from8

  -- the stages that pass, one after the other
  pub to-7 : {s : code.Option ℕ} → found s ≡ first_unordered T.packages → s ≡ None → checked T ≡ from7
  unfolding checked
  to-7 p q = after-passed 14 from7 refl p q

  pub to-8 : checked T ≡ from7 → {s : code.Option ℕ} → found s ≡ finds lacking → s ≡ None → checked T ≡ from8
  to-8 due p q = after-passed 7 from8 due p q

  pub to-9 : checked T ≡ from8 → {s : code.Option ℕ} → found s ≡ finds forbidden → s ≡ None → checked T ≡ from9
  to-9 due p q = after-passed 8 from9 due p q

  pub to-10 : checked T ≡ from9 → {s : code.Option ℕ} → found s ≡ finds clashing → s ≡ None → checked T ≡ from10
  to-10 due p q = after-passed 9 from10 due p q

  -- and the one that finds a line
  pub refused-14 : {s : code.Option ℕ} {line : ℕ} → found s ≡ first_unordered T.packages → s ≡ Some line → Passes text (checked T) (Err (record { reason = Reason.PackageOrder; line = line })) rows
  unfolding checked
  refused-14 p q = refusal-passes text _ rows _ (after-bad 14 from7 refl p q) laid

  pub refused-7 : checked T ≡ from7 → {s : code.Option ℕ} {line : ℕ} → found s ≡ finds lacking → s ≡ Some line → Passes text (checked T) (Err (record { reason = Reason.Lacking; line = line })) rows
  refused-7 due p q = refusal-passes text _ rows _ (after-bad 7 from8 due p q) laid

  pub refused-8 : checked T ≡ from8 → {s : code.Option ℕ} {line : ℕ} → found s ≡ finds forbidden → s ≡ Some line → Passes text (checked T) (Err (record { reason = Reason.Forbidden; line = line })) rows
  refused-8 due p q = refusal-passes text _ rows _ (after-bad 8 from9 due p q) laid

  pub refused-9 : checked T ≡ from9 → {s : code.Option ℕ} {line : ℕ} → found s ≡ finds clashing → s ≡ Some line → Passes text (checked T) (Err (record { reason = Reason.Clash; line = line })) rows
  refused-9 due p q = refusal-passes text _ rows _ (after-bad 9 from10 due p q) laid

  module _ (due : checked T ≡ from10) (after : Words) {s : code.Option ℕ} (p : Contained rows s after) where
    pub refused-10 : {line : ℕ} → s ≡ Some line → Passes text (checked T) (Err (record { reason = Reason.Containing; line = line })) after
    refused-10 q = refusal-passes text _ after _ (after-bad 10 (loaded T) due (p.line text) q) p.holds.laid

    -- the rows say that there are no signs: ranks stay
    pub passes-all : s ≡ None → (last : Words) → SignedPut after 0 last → Passes text (checked T) (Ok tt) last
    unfolding loading_meant rank_read
    passes-all q last u = record {
      says = ap loaded (u.beside.holds.held text ∙ p.holds.held text) ∙ sym (after-passed 10 (loaded T) due (p.line text) q);
      laid = u.beside.holds.laid;
      ranked = λ h t e k i. rw (u.types t 7, u.types e 7) (p.ranked q text t e (rw u.beside.types at k) (rw (u.beside.holds.held text) at i));
      unsigned = λ h. u.here;
    }
