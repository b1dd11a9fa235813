-- What is promised of the tidied text, for every text that loads: it is no longer, it loads, and tidying it again gives the same bytes. What is asked of it is
-- crate carry's (on tables) and crate promises' (of calls).
use mathlib.Core.Path.{◌≡◌, refl, sym, ap, ◌∙◌}
use Prim.Native.Nat.{ℕ, ◌≤◌}
use native.Mathlib.Omega.{arith}
use lib.Dec.{ltb}
use lib.ListN.{length}
use borrow.Author.Tests.{le-ltb}
use Rattle.objects.specs.Lists.{Bytes}
use Rattle.objects.specs.Table.{Table}
use Rattle.objects.proofs.ListLaws.{cases}
use Rattle.rules.specs.Load.{Loaded, refused, loaded, load}
use Rattle.rules.specs.Asked.{refuse, say, fitted, on_table}
use Rattle.rules.proofs.Sounds.{loads-sound}
use Rattle.edits.specs.Tidy.{tidied}
use Rattle.carry.proofs.TidySound.{tidied-sound}
use Rattle.carry.proofs.TidyTwice.{tidied-again}
use Rattle.edits.specs.TableText.{text_of}
use Rattle.edits.specs.Tidying.{says_tidied, tidy_outcome}
use Rattle.table_text.specs.Numbered.{LinesNumbered}
use Rattle.table_text.proofs.TextBack.{text-back}
use Rattle.table_text.proofs.SoundLoads.{text-loads, loaded-short}
use Rattle.table_text.proofs.AssembledText.{assembled-numbered}
use Rattle.tidy.proofs.Shorter.{text-shorter}

tidied-numbered : (T : Table) → LinesNumbered (tidied T)
unfolding tidied
tidied-numbered T = assembled-numbered T.packages _

module _ (text : Bytes) (T : Table) (h : load text ≡ loaded T) where
  -- "no longer than the old one"
  pub tidied-shorter : length (text_of (tidied T)) ≤ length text
  tidied-shorter = let e = ap length (text-back text T h) in let s = text-shorter T (loads-sound text T h) in omega arith

  -- "The output loads."
  tidied-loads : load (text_of (tidied T)) ≡ loaded (tidied T)
  tidied-loads = text-loads (tidied T) (tidied-sound T (loads-sound text T h)) (tidied-numbered T) (let s = tidied-shorter in let m = loaded-short text T h in omega arith)

-- ---- .. of what was said, whatever the room was

-- the table that what was said is the tidied text of
pub record Tidies (text bytes : Bytes) : Type 0 where
  pub table : Table
  pub loads : load text ≡ loaded table
  pub is : bytes ≡ text_of (tidied table)

fitted-said : (room : ℕ) (s bytes : Bytes) → fitted room (say s) ≡ say bytes → bytes ≡ s
fitted-said room s bytes e =
    cases (ltb room (length s))
    (λ b. let q : refuse 13 0 ≡ say bytes = rw b at e in let z : ◌≡◌ {A = ℕ} 0 1 = cc in absurd (omega arith))
    (λ b. let q : say s ≡ say bytes = rw b at e in cc)

said_of : (text : Bytes) (l : Loaded) (room : ℕ) (bytes : Bytes) → load text ≡ l → fitted room (on_table says_tidied l) ≡ say bytes → Tidies text bytes
unfolding on_table
said_of text (refused n line) room bytes h e = let z : ◌≡◌ {A = ℕ} 0 1 = cc in absurd (omega arith)
said_of text (loaded T) room bytes h e = record { table = T; loads = h; is = fitted-said room (text_of (tidied T)) bytes e }

module _ (text : Bytes) (room : ℕ) (bytes : Bytes) (said : tidy_outcome text room ≡ say bytes) where
  pub tidies : Tidies text bytes
  unfolding tidy_outcome
  tidies = said_of text (load text) room bytes refl said

  pub said-shorter : length bytes ≤ length text
  said-shorter = let t = tidies in rw t.is (tidied-shorter text t.table t.loads)

  pub said-loads : load bytes ≡ loaded (tidied tidies.table)
  said-loads = let t = tidies in ap load t.is ∙ tidied-loads text t.table t.loads

  -- tidying it again gives the same bytes, in any room for them
  pub said-again : (again : ℕ) → length bytes ≤ again → tidy_outcome bytes again ≡ say bytes
  unfolding tidy_outcome on_table
  said-again again h =
      let t = tidies in
      let same : text_of (tidied (tidied t.table)) ≡ bytes = ap text_of (tidied-again t.table (loads-sound text t.table t.loads)) ∙ sym t.is in
      rw (said-loads, on_table, same, le-ltb again (length bytes) h)
