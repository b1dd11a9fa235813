-- `kind_word` meets its contract.
use mathlib.Core.Path.{◌≡◌, refl}
use native.Mathlib.Omega.{arith}
use Rattle.objects.specs.Rows.{bytes_at}
use Rattle.table_text.specs.Rows.{kind_word}
use Rattle.table_text.proofs.parts.kind_word.Goals as goal

pub returns-in-0 : goal.returns-in-0
unfolding kind_word bytes_at
returns-in-0 c = rw c.in-0.is refl

pub returns-in-1 : goal.returns-in-1
unfolding kind_word bytes_at
returns-in-1 c = rw c.in-1.is refl

pub returns-in-2 : goal.returns-in-2
unfolding kind_word bytes_at
returns-in-2 c = rw c.in-2.is refl

pub returns-in-3 : goal.returns-in-3
unfolding kind_word bytes_at
returns-in-3 c = rw c.in-3.is refl

pub returns-in-4 : goal.returns-in-4
unfolding kind_word bytes_at
returns-in-4 c = rw c.in-4.is refl

pub returns-in-5 : goal.returns-in-5
unfolding kind_word bytes_at
returns-in-5 c = rw c.in-5.is refl

pub returns-in-6 : goal.returns-in-6
unfolding kind_word bytes_at
returns-in-6 c = rw c.in-6.is refl

pub returns-in-7 : goal.returns-in-7
unfolding kind_word bytes_at
returns-in-7 c = rw c.in-7.is refl

pub returns-in-8 : goal.returns-in-8
unfolding kind_word bytes_at
returns-in-8 c = rw c.in-8.is refl

pub returns-in-9 : goal.returns-in-9
unfolding kind_word bytes_at
returns-in-9 c = rw c.in-9.is refl

pub returns-in_default : goal.returns-in_default
unfolding kind_word bytes_at
returns-in_default c = let last : c.args.k ≡ 10 = omega arith in rw last refl
