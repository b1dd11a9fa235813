-- Every line of an answer (crate rules, specs/Answer.antt, specs/Typeask.antt) is a word and numbers.
use mathlib.Core.Path.{◌≡◌, refl}
use mathlib.Core.Bool.{Bool, true, false}
use mathlib.Core.List.{List, [], ◌∷◌, ◌++◌}
use Prim.Native.Nat.{ℕ}
use lib.ListN.{length}
use Rattle.objects.specs.Lists.{flat}
use Rattle.objects.specs.Table.{Member, bit}
use Rattle.text.specs.Bytes.{ascii}
use Rattle.rules.specs.Ways.{Selected, notfound, badreceiver, entry, ambiguous}
use Rattle.rules.specs.Answer.{Sel, selected, set, satisfied, lacks, says, counts, selected_bytes, sel_bytes, answer_bytes}
use Rattle.rules.specs.AskedAll.{refused_bytes}
use Rattle.print.specs.Written.{number_line}

pub selected-line : (s : Selected) → answer_bytes (selected s) ≡ selected_bytes s
unfolding answer_bytes
selected-line s = refl

pub notfound-line : selected_bytes notfound ≡ number_line (ascii "notfound") []
unfolding number_line
notfound-line = refl

pub badreceiver-line : selected_bytes badreceiver ≡ number_line (ascii "badreceiver") []
unfolding number_line
badreceiver-line = refl

pub entry-line : (m : Member) (flag : Bool) (places : List ℕ)
    → selected_bytes (entry m flag places) ≡ number_line (ascii "entry") (m.key.0 ∷ bit flag ∷ places)
unfolding number_line
entry-line m flag places = refl

pub ambiguous-lines : (first second : List ℕ) → selected_bytes (ambiguous first second) ≡ number_line (ascii "ambiguous") first ++ number_line (ascii "and") second
unfolding number_line
ambiguous-lines first second = refl

pub sel-line : (s : Sel) → sel_bytes s ≡ number_line (ascii "sel") (s.member.key.0 ∷ bit s.flag ∷ s.places)
unfolding number_line
sel-line s = refl

pub set_line : (ss : List Sel) → answer_bytes (set ss) ≡ number_line (ascii "set") (length ss ∷ []) ++ flat sel_bytes ss
unfolding number_line answer_bytes
set_line ss = refl

pub satisfied-line : answer_bytes satisfied ≡ number_line (ascii "satisfied") []
unfolding number_line answer_bytes
satisfied-line = refl

pub missing-line : (m : Member) (w : Bool) → answer_bytes (lacks m w) ≡ number_line (ascii "missing") (m.key.0 ∷ bit w ∷ [])
unfolding number_line answer_bytes
missing-line m w = refl

pub yes-line : answer_bytes (says true) ≡ number_line (ascii "yes") []
unfolding number_line answer_bytes
yes-line = refl

pub no_line : answer_bytes (says false) ≡ number_line (ascii "no") []
unfolding number_line answer_bytes
no_line = refl

pub ok-line : (packages types members : ℕ) → answer_bytes (counts packages types members) ≡ number_line (ascii "ok") (packages ∷ types ∷ members ∷ [])
unfolding number_line answer_bytes
ok-line packages types members = refl

pub refused-line : (n line : ℕ) → refused_bytes n line ≡ number_line (ascii "refused") (n ∷ line ∷ [])
unfolding number_line
refused-line n line = refl
