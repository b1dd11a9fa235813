-- From the text read to the table loaded: what the two returns of `load` say.
use mathlib.Core.Path.{◌≡◌, sym, ap, ◌∙◌}
use Rattle.objects.specs.Lists.{Bytes}
use Rattle.objects.specs.Rows.{Words, table_of}
use Rattle.rules.specs.Load.{then_checked, checked, load}
use Rattle.std.specs.Prelude.{Result, Ok, Err}
use Rattle.objects.specs.declared.refusals.Refusal.{Refusal}
use Rattle.lines.specs.Reading.{read_meant}
use Rattle.table.specs.Loading.{loading_meant, Passes, Loads}
use Rattle.table.proofs.Staging.{never-loaded}

-- 2 to 6
pub refused-early : (text : Bytes) (rows : Words) {r : Result (Unit {0}) Refusal} {e : Refusal} → load text ≡ then_checked (read_meant text rows r) → r ≡ Err e → Loads text (Err e) rows
unfolding loading_meant read_meant
refused-early text rows p q = record { says = sym (p ∙ ap (λ z. then_checked (read_meant text rows z)) q); holds = λ h. absurd (never-loaded h) }

-- 7 to 10, or a library
pub loads-after : (text : Bytes) (rows after : Words) {r s : Result (Unit {0}) Refusal} → load text ≡ then_checked (read_meant text rows r) → r ≡ Ok tt → Passes text (checked (table_of text rows)) s after → Loads text s after
unfolding loading_meant read_meant
loads-after text rows after {s = s} e q p = record {
  says = says;
  holds = λ h. record { loads = sym says ∙ ap (loading_meant text after) h; laid = p.laid; ranked = p.ranked h; signed = λ n. absurd (n (p.unsigned h)) };
}
  where
    says : loading_meant text after s ≡ load text
    says = p.says ∙ sym (e ∙ ap (λ z. then_checked (read_meant text rows z)) q)
