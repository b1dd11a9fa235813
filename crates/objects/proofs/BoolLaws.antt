-- Laws of conjunction, of two and of a list, of negation and of equality of Booleans, beside those of ListLaws and PartLaws.
use mathlib.Core.Path.{◌≡◌, refl, sym}
use mathlib.Core.Bool.{Bool, true, false, not, ◌&&◌, beq}
use mathlib.Core.List.{List, [], ◌∷◌}
use mathlib.Core.Logic.{◌⊎◌, inl, inr}
use Rattle.objects.specs.Lists.{every, In}
use Rattle.objects.proofs.ListLaws.{clash}

pub and_i : {a b : Bool} → a ≡ true → b ≡ true → a && b ≡ true
and_i p q = rw p q

pub and_yes : (a : Bool) → a && true ≡ a
and_yes true = refl
and_yes false = refl

pub and_no : (a b : Bool) → a && b ≡ false → (a ≡ false) ⊎ (b ≡ false)
and_no true b h = inr h
and_no false b h = inl refl

pub every-from : {A : Type 0} (p : A → Bool) (l : List A) → ((x : A) → In x l → p x ≡ true) → every p l ≡ true
every-from p [] h = refl
every-from p (x ∷ xs) h = and_i (h x (inl refl)) (every-from p xs (λ y i. h y (inr i)))

-- two tests that imply each other are one
pub iff-eq : (a b : Bool) → (a ≡ true → b ≡ true) → (b ≡ true → a ≡ true) → a ≡ b
iff-eq true b f g = sym (f refl)
iff-eq false true f g = g refl
iff-eq false false f g = refl

pub not_yes : (b : Bool) → not b ≡ true → b ≡ false
not_yes true h = sym h
not_yes false h = refl

pub false_of : (b : Bool) → (b ≡ true → ⊥) → b ≡ false
false_of true h = absurd (h refl)
false_of false h = refl

pub beq-true : (a b : Bool) → beq a b ≡ true → a ≡ b
beq-true true true h = refl
beq-true true false h = clash h refl
beq-true false true h = clash h refl
beq-true false false h = refl

pub beq-self : (a : Bool) → beq a a ≡ true
beq-self true = refl
beq-self false = refl
