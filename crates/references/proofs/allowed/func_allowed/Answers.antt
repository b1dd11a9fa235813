use mathlib.Core.Path.{◌≡◌, sym, ◌∙◌}
use mathlib.Core.Bool.{true, ◌&&◌}
use mathlib.Core.List.{[]}
use borrow.Author.Tests.{eq-eqb, ne_eqb}
use Rattle.objects.specs.Rows.{table_of}
use Rattle.objects.specs.Table.{type_key}
use Rattle.rules.specs.Checks.{smaller_tuple}
use Rattle.references.proofs.Allowing.{tuple-there, func-allowed, by-first, by-second, by-none, both-tried, one-tried}
use Rattle.references.proofs.allowed.func_allowed.Goals.{then-smaller_tuple, else-smaller_tuple}
use Rattle.references.proofs.allowed.func_allowed.Goals as goal

pub ends_in_slice-requires : goal.ends_in_slice-requires
ends_in_slice-requires c =
    let first : c.smaller_tuple.result ≡ true =
    elim c.if-smaller_tuple.branch [ then-smaller_tuple w ↦ w.if-smaller_tuple.true | else-smaller_tuple w ↦ sym w.value-is ∙ c.if-smaller_tuple-2.true ] in
    let r = tuple-there [] c.args.rows.now c.args.t (type_key c.type_word.result) (c.smaller_tuple.ensures []) first in
    (c.requires.0, r.0, r.1)

pub returns-then-not-variadic : goal.returns-then-not-variadic
returns-then-not-variadic c text =
    let smaller : c.if-smaller_tuple.value ≡ smaller_tuple (table_of text c.args.rows.now) c.args.t (type_key c.type_word.result) && smaller_tuple (table_of text c.args.rows.now) c.args.t (type_key c.type_word-2.result) =
    elim c.if-smaller_tuple.branch [
      | then-smaller_tuple w ↦ both-tried (c.smaller_tuple.ensures text) w.if-smaller_tuple.true (w.smaller_tuple-then-smaller_tuple.ensures text) w.value-is
      | else-smaller_tuple w ↦ one-tried _ (c.smaller_tuple.ensures text) w.if-smaller_tuple.false w.value-is
    ] in
    by-first _ c.if-smaller_tuple-2.true (ne_eqb c.type_word-variadic.result 1 c.if-not-variadic.true) ∙ func-allowed text c.args.rows.now c.args.t (c.requires.1) (c.requires.2) c.type_word.ensures c.type_word-2.ensures c.type_word-variadic.ensures smaller

pub returns-else-not-variadic : goal.returns-else-not-variadic
returns-else-not-variadic c text =
    let smaller : c.if-smaller_tuple.value ≡ smaller_tuple (table_of text c.args.rows.now) c.args.t (type_key c.type_word.result) && smaller_tuple (table_of text c.args.rows.now) c.args.t (type_key c.type_word-2.result) =
    elim c.if-smaller_tuple.branch [
      | then-smaller_tuple w ↦ both-tried (c.smaller_tuple.ensures text) w.if-smaller_tuple.true (w.smaller_tuple-then-smaller_tuple.ensures text) w.value-is
      | else-smaller_tuple w ↦ one-tried _ (c.smaller_tuple.ensures text) w.if-smaller_tuple.false w.value-is
    ] in
    c.ends_in_slice.ensures text ∙ by-second _ c.if-smaller_tuple-2.true (eq-eqb c.type_word-variadic.result 1 c.if-not-variadic.false) ∙ func-allowed text c.args.rows.now c.args.t (c.requires.1) (c.requires.2) c.type_word.ensures c.type_word-2.ensures c.type_word-variadic.ensures smaller

pub returns-else-smaller_tuple-2 : goal.returns-else-smaller_tuple-2
returns-else-smaller_tuple-2 c text =
    let smaller : c.if-smaller_tuple.value ≡ smaller_tuple (table_of text c.args.rows.now) c.args.t (type_key c.type_word.result) && smaller_tuple (table_of text c.args.rows.now) c.args.t (type_key c.type_word-2.result) =
    elim c.if-smaller_tuple.branch [
      | then-smaller_tuple w ↦ both-tried (c.smaller_tuple.ensures text) w.if-smaller_tuple.true (w.smaller_tuple-then-smaller_tuple.ensures text) w.value-is
      | else-smaller_tuple w ↦ one-tried _ (c.smaller_tuple.ensures text) w.if-smaller_tuple.false w.value-is
    ] in
    by-none _ c.if-smaller_tuple-2.false ∙ func-allowed text c.args.rows.now c.args.t (c.requires.1) (c.requires.2) c.type_word.ensures c.type_word-2.ensures c.type_word-variadic.ensures smaller
