-- The hash of a name. Names with different hashes differ; those with one hash may differ too, and are compared.
use Rattle.std.specs.Prelude.{[], ◌∷◌, ℕ, ◌+◌, ◌*◌, ◌%◌}
use Rattle.objects.specs.Lists.{Bytes}
use Rattle.text.specs.Compare.{four_of}

-- values of a hash
abbrev pub hashes : ℕ
hashes = 4_294_967_296

-- the hash of bytes one at a time, with what those before gave
unfoldable pub hash_rest : ℕ → Bytes → ℕ
hash_rest h [] = h
hash_rest h (b ∷ l) = hash_rest ((h + b) * 1_103_515 % hashes) l

-- the hash of bytes four at a time, and what is left one at a time
unfoldable pub hash_from : ℕ → Bytes → ℕ
hash_from h [] = hash_rest h []
hash_from h (a ∷ []) = hash_rest h (a ∷ [])
hash_from h (a ∷ b ∷ []) = hash_rest h (a ∷ b ∷ [])
hash_from h (a ∷ b ∷ c ∷ []) = hash_rest h (a ∷ b ∷ c ∷ [])
hash_from h (a ∷ b ∷ c ∷ d ∷ l) = hash_from ((h + four_of a b c d) * 1_103_515 % hashes) l
