-- What a cursor needs of `split`: a part without separator, up to a separator or to the end, is the first piece.
use mathlib.Core.Path.{◌≡◌, refl}
use mathlib.Core.Bool.{Bool, true, false}
use mathlib.Core.List.{List, [], ◌∷◌, ◌++◌}
use Prim.Native.Nat.{ℕ}
use lib.Dec.{eqb}
use borrow.Author.Tests.{eq-eqb}
use Rattle.objects.specs.Lists.{Bytes, any}
use Rattle.objects.proofs.ListLaws.{or_l, or_r}
use Rattle.text.specs.Lines.{split, before}

-- the separator is none of the bytes
abbrev pub Free : ℕ → Bytes → Type 0
Free sep a = any (λ b. eqb b sep) a ≡ false

pub split_at : (sep : ℕ) (a b : Bytes) → Free sep a → split sep (a ++ (sep ∷ b)) ≡ a ∷ split sep b
unfolding split
split_at sep [] b h = rw (eq-eqb sep sep refl)
split_at sep (x ∷ a) b h = rw (or_l (eqb x sep) (any (λ c. eqb c sep) a) h, split_at sep a b (or_r (eqb x sep) (any (λ c. eqb c sep) a) h))

pub split-end : (sep : ℕ) (a : Bytes) → Free sep a → split sep a ≡ a ∷ []
unfolding split
split-end sep [] h = refl
split-end sep (x ∷ a) h = rw (or_l (eqb x sep) (any (λ c. eqb c sep) a) h, split-end sep a (or_r (eqb x sep) (any (λ c. eqb c sep) a) h))

-- there is always a first piece
pub split-first : (sep : ℕ) (a : Bytes) → (x : Bytes) × (rest : List Bytes) × (split sep a ≡ x ∷ rest)
unfolding split
split-first sep [] = ([], [], refl)
split-first sep (b ∷ a) = let r = split-first sep a in go (eqb b sep) (split sep a) r.2
  where
    go : (t : Bool) (ps : List Bytes) {y : Bytes} {ys : List Bytes} → ps ≡ y ∷ ys
        → (x : Bytes) × (rest : List Bytes) × (before t b ps ≡ x ∷ rest)
    go true ps q = ([], ps, refl)
    go false ps {y} {ys} q = (b ∷ y, ys, rw q)

-- a byte that is no separator belongs to the first piece
pub split-next : (sep b : ℕ) (a : Bytes) {x : Bytes} {rest : List Bytes} → eqb b sep ≡ false → split sep a ≡ x ∷ rest → split sep (b ∷ a) ≡ (b ∷ x) ∷ rest
unfolding split
split-next sep b a e q = rw (e, q)

-- so the first piece goes on behind bytes without separator
pub split-on : (sep : ℕ) (a : Bytes) (b : ℕ) (c : Bytes) → Free sep a → eqb b sep ≡ false
    → (x : Bytes) × (rest : List Bytes) × (split sep (a ++ (b ∷ c)) ≡ (a ++ (b ∷ x)) ∷ rest)
split-on sep [] b c h e = let r = split-first sep c in (r.0, r.1, split-next sep b c e r.2)
split-on sep (y ∷ a) b c h e =
    let r = split-on sep a b c (or_r (eqb y sep) (any (λ d. eqb d sep) a) h) e in
    (r.0, r.1, split-next sep y (a ++ (b ∷ c)) (or_l (eqb y sep) (any (λ d. eqb d sep) a) h) r.2)
