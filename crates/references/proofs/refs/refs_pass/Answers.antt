use mathlib.Core.Path.{◌≡◌, ap}
use mathlib.Core.Logic.{inl, inr}
use mathlib.Core.List.{[], ◌∷◌}
use Rattle.objects.specs.Table.{refs, kind_at}
use Rattle.objects.specs.Types.{kind_meant}
use Rattle.objects.specs.Rows.{table_of}
use Rattle.references.proofs.Referring.{meant, no-refs, one-ref, first_ref, second_ref, tuple-refs}
use Rattle.references.proofs.refs.refs_pass.Goals as goal

pub returns-in-Basic : goal.returns-in-Basic
unfolding kind_meant
returns-in-Basic g c text =
    let none : refs (kind_at (table_of text c.args.rows.now) c.args.t) ≡ [] =
    elim c.in-Basic.is [ inl w ↦ ap refs (meant text c.args.rows.now c.args.t (c.requires.1) c.type_of.ensures w.1) | inr (inl w) ↦ ap refs (meant text c.args.rows.now c.args.t (c.requires.1) c.type_of.ensures w.2) | inr (inr w) ↦ ap refs (meant text c.args.rows.now c.args.t (c.requires.1) c.type_of.ensures w.2) ] in
    no-refs (g.R.Reference.passes (table_of text c.args.rows.now) c.args.t) none

pub returns-in-Tuple : goal.returns-in-Tuple
unfolding kind_meant
returns-in-Tuple g c text =
    tuple-refs (g.R.Reference.passes (table_of text c.args.rows.now) c.args.t) text c.args.rows.now c.args.t (c.requires.1) c.type_of.ensures c.in-Tuple.is (c.elements_pass.ensures text)

pub returns-then-ref_passes : goal.returns-then-ref_passes
unfolding kind_meant
returns-then-ref_passes g c text =
    let two : refs (kind_at (table_of text c.args.rows.now) c.args.t) ≡ c.in-Map.d ∷ c.in-Map.e ∷ [] =
    elim c.in-Map.is [ inl q ↦ ap refs (meant text c.args.rows.now c.args.t (c.requires.1) c.type_of.ensures q) | inr w ↦ ap refs (meant text c.args.rows.now c.args.t (c.requires.1) c.type_of.ensures w.1) ] in
    second_ref (g.R.Reference.passes (table_of text c.args.rows.now) c.args.t) two (c.ref_passes.ensures text) c.if-ref_passes.true (c.ref_passes-then-ref_passes.ensures text)

pub returns-else-ref_passes : goal.returns-else-ref_passes
unfolding kind_meant
returns-else-ref_passes g c text =
    let two : refs (kind_at (table_of text c.args.rows.now) c.args.t) ≡ c.in-Map.d ∷ c.in-Map.e ∷ [] =
    elim c.in-Map.is [ inl q ↦ ap refs (meant text c.args.rows.now c.args.t (c.requires.1) c.type_of.ensures q) | inr w ↦ ap refs (meant text c.args.rows.now c.args.t (c.requires.1) c.type_of.ensures w.1) ] in
    first_ref (g.R.Reference.passes (table_of text c.args.rows.now) c.args.t) two (c.ref_passes.ensures text) c.if-ref_passes.false

pub returns-in-Array : goal.returns-in-Array
unfolding kind_meant
returns-in-Array g c text =
    let one : refs (kind_at (table_of text c.args.rows.now) c.args.t) ≡ c.in-Array.e ∷ [] =
    elim c.in-Array.is [
      | inl w ↦ ap refs (meant text c.args.rows.now c.args.t (c.requires.1) c.type_of.ensures w.1)
      | inr (inl q) ↦ ap refs (meant text c.args.rows.now c.args.t (c.requires.1) c.type_of.ensures q)
      | inr (inr (inl q)) ↦ ap refs (meant text c.args.rows.now c.args.t (c.requires.1) c.type_of.ensures q)
      | inr (inr (inr (inl w))) ↦ ap refs (meant text c.args.rows.now c.args.t (c.requires.1) c.type_of.ensures w.1)
      | inr (inr (inr (inr w))) ↦ ap refs (meant text c.args.rows.now c.args.t (c.requires.1) c.type_of.ensures w.2)
    ] in
    one-ref (g.R.Reference.passes (table_of text c.args.rows.now) c.args.t) one (c.ref_passes-in-Array.ensures text)
