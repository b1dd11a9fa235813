-- `question::parse` meets its contract: the letter decides the form.
use mathlib.Core.Path.{◌∙◌}
use Rattle.line_forms.proofs.Chain.{tried-on, tried-out}
use Rattle.question.proofs.FormLaws.{reads_at, wrong-reads, v-reads, v-form}
use Rattle.question.proofs.LetterLaws.{lettered, too-long, form-tried}
use Rattle.question.proofs.parse.Goals as goal

pub returns-then-n-gt-MAX_QUESTION : goal.returns-then-n-gt-MAX_QUESTION
returns-then-n-gt-MAX_QUESTION c = wrong-reads _ (too-long _ c.if-n-gt-MAX_QUESTION.true)

pub returns-in-Some : goal.returns-in-Some
unfolding lettered
returns-in-Some c =
    reads_at (form-tried _ c.if-n-gt-MAX_QUESTION.false c.line-c.ensures ∙ tried-on _ _ _ _ _ c.word.ensures c.in-Some.is) c.ask_s.ensures

pub returns-in-Some-word : goal.returns-in-Some-word
unfolding lettered
returns-in-Some-word c =
    reads_at (form-tried _ c.if-n-gt-MAX_QUESTION.false c.line-c.ensures ∙ tried-out _ _ _ _ _ c.word.ensures c.in_default.is ∙ tried-on _ _ _ _ _ c.word-2.ensures c.in-Some-word.is) c.ask_m.ensures

pub returns-in-Some-word-2 : goal.returns-in-Some-word-2
unfolding lettered
returns-in-Some-word-2 c =
    reads_at (form-tried _ c.if-n-gt-MAX_QUESTION.false c.line-c.ensures ∙ tried-out _ _ _ _ _ c.word.ensures c.in_default.is ∙ tried-out _ _ _ _ _ c.word-2.ensures c.in_default-word.is ∙ tried-on _ _ _ _ _ c.word-3.ensures c.in-Some-word-2.is) c.ask_n.ensures

pub returns-in-Some-word-3 : goal.returns-in-Some-word-3
unfolding lettered
returns-in-Some-word-3 c =
    reads_at (form-tried _ c.if-n-gt-MAX_QUESTION.false c.line-c.ensures ∙ tried-out _ _ _ _ _ c.word.ensures c.in_default.is ∙ tried-out _ _ _ _ _ c.word-2.ensures c.in_default-word.is ∙ tried-out _ _ _ _ _ c.word-3.ensures c.in_default-word-2.is ∙ tried-on _ _ _ _ _ c.word-4.ensures c.in-Some-word-3.is) c.ask_i.ensures

pub returns-in-Some-word-4 : goal.returns-in-Some-word-4
unfolding lettered
returns-in-Some-word-4 c =
    reads_at (form-tried _ c.if-n-gt-MAX_QUESTION.false c.line-c.ensures ∙ tried-out _ _ _ _ _ c.word.ensures c.in_default.is ∙ tried-out _ _ _ _ _ c.word-2.ensures c.in_default-word.is ∙ tried-out _ _ _ _ _ c.word-3.ensures c.in_default-word-2.is ∙ tried-out _ _ _ _ _ c.word-4.ensures c.in_default-word-3.is ∙ tried-on _ _ _ _ _ c.word-5.ensures c.in-Some-word-4.is) c.ask_c.ensures

pub returns-in-Some-word-5 : goal.returns-in-Some-word-5
unfolding lettered
returns-in-Some-word-5 c =
    reads_at (form-tried _ c.if-n-gt-MAX_QUESTION.false c.line-c.ensures ∙ tried-out _ _ _ _ _ c.word.ensures c.in_default.is ∙ tried-out _ _ _ _ _ c.word-2.ensures c.in_default-word.is ∙ tried-out _ _ _ _ _ c.word-3.ensures c.in_default-word-2.is ∙ tried-out _ _ _ _ _ c.word-4.ensures c.in_default-word-3.is ∙ tried-out _ _ _ _ _ c.word-5.ensures c.in_default-word-4.is ∙ tried-on _ _ _ _ _ c.word-6.ensures c.in-Some-word-5.is ∙ v-form _) (c.ended.ensures _ _ (v-reads _))

pub returns : goal.returns
unfolding lettered
returns c =
    wrong-reads _ (form-tried _ c.if-n-gt-MAX_QUESTION.false c.line-c.ensures ∙ tried-out _ _ _ _ _ c.word.ensures c.in_default.is ∙ tried-out _ _ _ _ _ c.word-2.ensures c.in_default-word.is ∙ tried-out _ _ _ _ _ c.word-3.ensures c.in_default-word-2.is ∙ tried-out _ _ _ _ _ c.word-4.ensures c.in_default-word-3.is ∙ tried-out _ _ _ _ _ c.word-5.ensures c.in_default-word-4.is ∙ tried-out _ _ _ _ _ c.word-6.ensures c.in_default-word-5.is)
