-- `answered` meets its contract: one way for each letter, 12 before N, 11 for a wrong form.
use mathlib.Core.Path.{refl, ap, ◌∙◌}
use Rattle.std.specs.Prelude.{Some}
use Rattle.answer.proofs.Answering.{s-answered, m-answered, n-answered, n-refused, i-answered, c-answered, v-answered, wrong-form, is-s, is_m, is-n, searches-s, searches-n, lists-m, kept, kept-rooms, s-known, m-known, n-known, i-known, c-known}
use Rattle.answer.proofs.answered.Goals as goal

pub ask_s-requires : goal.ask_s-requires
ask_s-requires c =
    let known = s-known _ c.question-a.ensures.known c.args.text.now (c.in-Some.is ∙ ap Some c.in-S.is) in
    record { library = c.requires.library; typ_bound = (known.0, known.1, searches-s _ _ c.args.hits.now _ c.requires.mark_words_in_bounds.1 (is-s (c.question-a.ensures.reads c.args.text.now) (c.in-Some.is ∙ ap Some c.in-S.is))) }

pub ask_m-requires : goal.ask_m-requires
ask_m-requires c =
    record { library = c.requires.library; t_bound = (m-known _ c.question-a.ensures.known (c.in-Some.is ∙ ap Some c.in-M.is), lists-m _ _ _ _ c.requires.mark_words_in_bounds.1 (is_m (c.question-a.ensures.reads c.args.text.now) (c.in-Some.is ∙ ap Some c.in-M.is))) }

pub wrong_second-requires : goal.wrong_second-requires
wrong_second-requires c = rw c.in-Some.is at c.question-a.ensures.known

pub returns-then-wrong_second : goal.returns-then-wrong_second
returns-then-wrong_second c =
    record { does = n-refused _ _ _ _ (c.question-a.ensures.reads c.args.text.now) (c.in-Some.is ∙ ap Some c.in-N.is) (ap Some c.in-N.is) c.wrong_second.ensures c.if-wrong_second.true; marks_unchanged = refl; kept = kept }

pub ask_n-requires : goal.ask_n-requires
ask_n-requires c =
    let known = n-known _ c.question-a.ensures.known (c.in-Some.is ∙ ap Some c.in-N.is) in
    let lent = searches-n _ _ c.args.hits.now _ c.requires.mark_words_in_bounds.1 (is-n (c.question-a.ensures.reads c.args.text.now) (c.in-Some.is ∙ ap Some c.in-N.is)) in
    record { library = c.requires.library; typ_bound = (known.0, known.1, c.requires.mark_words_in_bounds.0, lent); marks_value = c.requires.marks_value }

pub ask_i-requires : goal.ask_i-requires
ask_i-requires c =
    let known = i-known _ c.question-a.ensures.known (c.in-Some.is ∙ ap Some c.in-I.is) in
    record { library = c.requires.library; x_bound = (known.0, known.1, c.requires.mark_words_in_bounds.0); marks_value = c.requires.marks_value }

pub ask_c-requires : goal.ask_c-requires
ask_c-requires c =
    record { library = c.requires.library; t_bound = (c-known _ c.question-a.ensures.known (c.in-Some.is ∙ ap Some c.in-C.is), c.requires.mark_words_in_bounds.0); marks_value = c.requires.marks_value }

pub returns-in-S : goal.returns-in-S
returns-in-S c =
    record { does = s-answered _ _ _ _ (c.question-a.ensures.reads c.args.text.now) (c.in-Some.is ∙ ap Some c.in-S.is) c.ask_s.ensures; marks_unchanged = refl; kept = kept }

pub returns-in-M : goal.returns-in-M
returns-in-M c =
    record { does = m-answered _ _ _ _ (c.question-a.ensures.reads c.args.text.now) (c.in-Some.is ∙ ap Some c.in-M.is) c.ask_m.ensures.does; marks_unchanged = refl; kept = kept-rooms c.ask_m.ensures.rooms }

pub returns-else-wrong_second : goal.returns-else-wrong_second
returns-else-wrong_second c =
    record { does = n-answered _ _ _ _ (c.question-a.ensures.reads c.args.text.now) (c.in-Some.is ∙ ap Some c.in-N.is) (ap Some c.in-N.is) c.wrong_second.ensures c.if-wrong_second.false c.ask_n.ensures.does; marks_unchanged = c.ask_n.ensures.marks_unchanged; kept = kept }

pub returns-in-I : goal.returns-in-I
returns-in-I c =
    record { does = i-answered _ _ _ _ (c.question-a.ensures.reads c.args.text.now) (c.in-Some.is ∙ ap Some c.in-I.is) c.ask_i.ensures.does; marks_unchanged = c.ask_i.ensures.marks_unchanged; kept = kept }

pub returns-in-C : goal.returns-in-C
returns-in-C c =
    record { does = c-answered _ _ _ _ (c.question-a.ensures.reads c.args.text.now) (c.in-Some.is ∙ ap Some c.in-C.is) c.ask_c.ensures.does; marks_unchanged = c.ask_c.ensures.marks_unchanged; kept = kept }

pub returns-in-V : goal.returns-in-V
returns-in-V c =
    record { does = v-answered _ _ _ _ (c.question-a.ensures.reads c.args.text.now) (c.in-Some.is ∙ ap Some c.in-V.is) c.ask_v.ensures; marks_unchanged = refl; kept = kept }

pub returns-in_default : goal.returns-in_default
returns-in_default c =
    record { does = wrong-form _ _ _ _ (c.question-a.ensures.reads c.args.text.now) c.in_default.is; marks_unchanged = refl; kept = kept }
