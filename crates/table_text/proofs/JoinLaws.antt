-- Parting and joining: the pieces of a text joined are the text, and the lines and fields that were joined are the pieces again.
use mathlib.Core.Path.{◌≡◌, refl, sym, ap, ◌∙◌}
use mathlib.Core.Bool.{Bool, true, false}
use mathlib.Core.List.{List, [], ◌∷◌, ◌++◌, append_assoc, append-nil}
use mathlib.Core.Logic.{inl, inr}
use Prim.Native.Nat.{ℕ}
use lib.Dec.{eqb}
use borrow.Author.Tests.{eqb-true}
use Rattle.objects.specs.Lists.{Bytes, In}
use Rattle.text.specs.Lines.{before, split}
use Rattle.text.proofs.LineLaws.{Free, split_at, split-end, split-first}
use Rattle.rules.specs.Answer.{tabbed}
use Rattle.edits.specs.TableText.{ended}

-- pieces with the separator between each two
abbrev pub joined : ℕ → List Bytes → Bytes
joined sep [] = []
joined sep (p ∷ []) = p
joined sep (p ∷ q ∷ ps) = p ++ sep ∷ joined sep (q ∷ ps)

joined-byte : (sep b : ℕ) (p : Bytes) (ps : List Bytes) → joined sep ((b ∷ p) ∷ ps) ≡ b ∷ joined sep (p ∷ ps)
joined-byte sep b p [] = refl
joined-byte sep b p (q ∷ ps) = refl

-- a text is its pieces, joined
pub join-split : (sep : ℕ) (s : Bytes) → joined sep (split sep s) ≡ s
unfolding split
join-split sep [] = refl
join-split sep (b ∷ s) = let r = split-first sep s in go (eqb b sep) refl (split sep s) r.2 (join-split sep s)
  where
    go : (t : Bool) → eqb b sep ≡ t → (ps : List Bytes) {x : Bytes} {rest : List Bytes} → ps ≡ x ∷ rest → joined sep ps ≡ s → joined sep (before t b ps) ≡ b ∷ s
    go true e ps {x} {rest} q h = rw (q, eqb-true b sep e) (ap (λ r. sep ∷ r) (rw q at h))
    go false e ps {x} {rest} q h = rw q (joined-byte sep b x rest ∙ ap (λ r. b ∷ r) (rw q at h))

-- ---- fields, parted by tabs

pub joined-tabs : (w : Bytes) (fs : List Bytes) → joined 9 (w ∷ fs) ≡ w ++ tabbed fs
joined-tabs w [] = sym (append-nil w)
joined-tabs w (f ∷ fs) = ap (λ r. w ++ 9 ∷ r) (joined-tabs f fs)

pub split-tabs : (w : Bytes) (fs : List Bytes) → Free 9 w → ((f : Bytes) → In f fs → Free 9 f) → split 9 (w ++ tabbed fs) ≡ w ∷ fs
split-tabs w [] h k = rw (append-nil w) (split-end 9 w h)
split-tabs w (f ∷ fs) h k = split_at 9 w (f ++ tabbed fs) h ∙ ap (λ r. w ∷ r) (split-tabs f fs (k f (inl refl)) (λ g i. k g (inr i)))

-- ---- lines, each with its newline

pub joined-lines : (ls : List Bytes) → joined 10 (ls ++ ([] ∷ [])) ≡ ended ls
joined-lines [] = refl
joined-lines (l ∷ ls) = next l ls ∙ ap (λ r. l ++ 10 ∷ r) (joined-lines ls) ∙ sym (append_assoc l (10 ∷ []) (ended ls))
  where
    next : (l : Bytes) (ls : List Bytes) → joined 10 ((l ∷ ls) ++ ([] ∷ [])) ≡ l ++ 10 ∷ joined 10 (ls ++ ([] ∷ []))
    next l [] = refl
    next l (m ∷ ls) = refl

pub split-lines : (ls : List Bytes) → ((l : Bytes) → In l ls → Free 10 l) → split 10 (ended ls) ≡ ls ++ ([] ∷ [])
unfolding split
split-lines [] h = refl
split-lines (l ∷ ls) h =
    ap (split 10) (append_assoc l (10 ∷ []) (ended ls))
    ∙ split_at 10 l (ended ls) (h l (inl refl))
    ∙ ap (λ r. l ∷ r) (split-lines ls (λ m i. h m (inr i)))
