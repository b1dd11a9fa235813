-- Hashes (specs/Hash.antt) as the code makes them, byte by byte and four bytes a turn, and that of a member's name.
use mathlib.Core.Path.{◌≡◌, refl, sym, ap, ◌∙◌}
use mathlib.Core.List.{[], ◌∷◌}
use Prim.Native.Nat.{ℕ, ◌+◌, ◌-◌, ◌*◌, ◌%◌, ◌<◌, ◌≤◌}
use native.Mathlib.Omega.{arith}
use lib.ListN.{length, get_or, take, drop, drop_of_length-le, length-drop}
use Rattle.objects.specs.declared.ObjKey.{ObjKey}
use Rattle.objects.specs.Lists.{Bytes}
use Rattle.objects.specs.Rows.{Words, member_word, bytes_at, member_at}
use Rattle.text.specs.Compare.{four_of}
use Rattle.text.specs.Hash.{hashes, hash_rest, hash_from}
use Rattle.text.proofs.PartLaws.{drop_at}

hash-short : (h : ℕ) (l : Bytes) → length l < 4 → hash_from h l ≡ hash_rest h l
unfolding hash_from
hash-short h [] k = refl
hash-short h (a ∷ []) k = refl
hash-short h (a ∷ b ∷ []) k = refl
hash-short h (a ∷ b ∷ c ∷ []) k = refl
hash-short h (a ∷ b ∷ c ∷ d ∷ l) k = absurd (omega arith)

module _ (name : Bytes) (h i : ℕ) where
  pub rest-next : i < length name → {b : ℕ} → b ≡ get_or name i 0 → hash_rest h (drop i name) ≡ hash_rest ((h + b) * 1_103_515 % hashes) (drop (i + 1) name)
  unfolding hash_rest
  rest-next l p = rw (p, drop_at name i l)

  pub rest_end : length name ≤ i → hash_rest h (drop i name) ≡ h
  unfolding hash_rest
  rest_end l = rw (drop_of_length-le name l)

  -- four bytes from i on, and what is left
  fours : i + 4 ≤ length name → drop i name ≡ get_or name i 0 ∷ get_or name (i + 1) 0 ∷ get_or name (i + 2) 0 ∷ get_or name (i + 3) 0 ∷ drop (i + 4) name
  fours l =
      let z₂ : i + 1 + 1 ≡ i + 2 = omega arith in
      let z₃ : i + 2 + 1 ≡ i + 3 = omega arith in
      let z₄ : i + 3 + 1 ≡ i + 4 = omega arith in
      let e₁ : drop (i + 1) name ≡ get_or name (i + 1) 0 ∷ drop (i + 2) name = rw z₂ at (drop_at name (i + 1) (omega arith)) in
      let e₂ : drop (i + 2) name ≡ get_or name (i + 2) 0 ∷ drop (i + 3) name = rw z₃ at (drop_at name (i + 2) (omega arith)) in
      let e₃ : drop (i + 3) name ≡ get_or name (i + 3) 0 ∷ drop (i + 4) name = rw z₄ at (drop_at name (i + 3) (omega arith)) in
      drop_at name i (omega arith)
      ∙ ap (λ d. get_or name i 0 ∷ d) (e₁ ∙ ap (λ d. get_or name (i + 1) 0 ∷ d) (e₂ ∙ ap (λ d. get_or name (i + 2) 0 ∷ d) e₃))

  pub hash-next : i + 4 ≤ length name → {x : ℕ} → x ≡ four_of (get_or name i 0) (get_or name (i + 1) 0) (get_or name (i + 2) 0) (get_or name (i + 3) 0)
      → hash_from h (drop i name) ≡ hash_from ((h + x) * 1_103_515 % hashes) (drop (i + 4) name)
  unfolding hash_from
  hash-next l p = ap (hash_from h) (fours l) ∙ ap (λ y. hash_from ((h + y) * 1_103_515 % hashes) (drop (i + 4) name)) (sym p)

  pub hash-end : length name - i < 4 → hash_from h (drop i name) ≡ hash_rest h (drop i name)
  hash-end l = hash-short h (drop i name) (rw length-drop l)

pub hash-read : (text : Bytes) (rows : Words) (m : ObjKey) {a n : ℕ} → a ≡ member_word rows m 0 → n ≡ member_word rows m 1 → {s : Bytes} → s ≡ take n (drop a text)
    → {r : ℕ} → r ≡ hash_from 0 s → r ≡ hash_from 0 (member_at text rows m).name
unfolding member_at bytes_at
hash-read text rows m ea en es er = er ∙ rw (es, ea, en)
