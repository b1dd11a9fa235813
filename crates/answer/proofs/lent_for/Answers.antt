-- `lent_for` meets its contract, letter by letter.
use mathlib.Core.Path.{◌≡◌, sym, ap, ◌∙◌}
use mathlib.Core.Logic.{inl, inr}
use mathlib.Core.Option.{Option}
use Rattle.std.specs.declared.option.Option as code
use Rattle.std.specs.Prelude.{Some}
use Rattle.objects.specs.Lists.{Bytes}
use Rattle.rules.specs.Question.{Question}
use Rattle.question.specs.declared.Ask.{Ask}
use Rattle.question.specs.Asks.{asks_meant, Reads}
use Rattle.answer.specs.Lent.{need_of}
use Rattle.answer.proofs.lent_for.Goals as goal

-- what was read is b
as-read : {line : Bytes} {a b : code.Option Ask} {o : Option Question} → Reads line a o → a ≡ b → need_of (asks_meant line b) ≡ need_of o
as-read {line} h e = ap (λ a. need_of (asks_meant line a)) (sym e) ∙ ap need_of h.meant

pub returns-in_default : goal.returns-in_default
unfolding need_of asks_meant
returns-in_default c = λ text. as-read (c.question.ensures.reads text) c.in_default.is

pub returns-in-S : goal.returns-in-S
unfolding need_of asks_meant
returns-in-S c = λ text.
    let read = c.question.ensures.reads text in
    elim c.in-S.is [ inl w ↦ as-read read (c.in-Some.is ∙ ap Some w.5) | inr w ↦ as-read read (c.in-Some.is ∙ ap Some w.3) ]

pub returns-in-M : goal.returns-in-M
unfolding need_of asks_meant
returns-in-M c = λ text. as-read (c.question.ensures.reads text) (c.in-Some.is ∙ ap Some c.in-M.is)

pub returns-in-I : goal.returns-in-I
unfolding need_of asks_meant
returns-in-I c = λ text.
    let read = c.question.ensures.reads text in
    elim c.in-I.is [
      | inl w ↦ as-read read (c.in-Some.is ∙ ap Some w.2)
      | inr w ↦ elim w [ inl v ↦ as-read read (c.in-Some.is ∙ ap Some v.1) | inr e ↦ as-read read (c.in-Some.is ∙ ap Some e) ]
    ]
