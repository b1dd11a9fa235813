-- The id of a member (specs/Members.antt) tells its identity: a name has no dot and no path is `_`, so the last dot parts path and name.
use mathlib.Core.Path.{◌≡◌, refl, sym, ap, ap₂, ◌∙◌, subst}
use mathlib.Core.Bool.{Bool, true, false, not, ◌&&◌}
use mathlib.Core.List.{[], ◌∷◌, ◌++◌, append_assoc, tail}
use mathlib.Core.Logic.{inl}
use mathlib.Core.Option.{Option, none, some}
use Prim.Native.Nat.{ℕ}
use lib.ListN.{length, get_or}
use borrow.Author.Tests.{ltb-true}
use Rattle.objects.specs.Lists.{Bytes, every, In, head_or}
use Rattle.objects.proofs.ListLaws.{cases, clash, and_r, In-append-r}
use Rattle.objects.proofs.PartLaws.{every-In, get_or-In}
use Rattle.objects.specs.declared.TypeKey.{TypeKey}
use Rattle.objects.specs.declared.PackageKey.{PackageKey}
use Rattle.objects.specs.Table.{Table, Member, has_package, path_of}
use Rattle.objects.specs.Bounds.{max_name, max_path}
use Rattle.text.specs.Bytes.{ascii, same_bytes, sized, between, first_is, is_digit, is_name_byte, is_name, is_blank, is_path, exported}
use Rattle.text.proofs.ByteLaws.{same_refl}
use Rattle.rules.specs.Members.{Identity, identity_of, identity_from, path_bytes, id_bytes}
use Rattle.rules.specs.Sound.{Sound, MemberOf}

-- an identity that a member of a table can have
pub record Proper (a : Identity) : Type 0 where
  pub named : is_name a.name ≡ true
  pub pathless : exported a.name ≡ true → a.path ≡ none
  pub pathed : (p : Bytes) → a.path ≡ some p → is_path p ≡ true

-- ---- the last dot

abbrev dot : ℕ
dot = 46

name-dotless : (s : Bytes) → is_name s ≡ true → In dot s → ⊥
unfolding is_name
name-dotless s h i = no (every-In is_name_byte s dot (and_r (sized max_name s && not (first_is is_digit s)) (every is_name_byte s) h) i)
  where
    no : is_name_byte dot ≡ true → ⊥
    no e = clash e refl

-- two texts with the same last dot
last-dot : (xs ys zs ws : Bytes) → (In dot ys → ⊥) → (In dot ws → ⊥) → xs ++ (dot ∷ ys) ≡ zs ++ (dot ∷ ws) → (xs ≡ zs) × (ys ≡ ws)
last-dot [] ys [] ws h k e = (refl, ap tail e)
last-dot [] ys (z ∷ zs) ws h k e = absurd (h (subst (In dot) (sym (ap tail e)) (In-append-r zs (dot ∷ ws) dot (inl refl))))
last-dot (x ∷ xs) ys [] ws h k e = absurd (k (subst (In dot) (ap tail e) (In-append-r xs (dot ∷ ys) dot (inl refl))))
last-dot (x ∷ xs) ys (z ∷ zs) ws h k e =
    let r = last-dot xs ys zs ws h k (ap tail e) in (ap₂ (λ a b. a ∷ b) (ap (head_or x) e) r.0, r.1)

-- ---- paths

no-blank-path : (p : Bytes) → is_path p ≡ true → ascii "_" ≡ p → ⊥
unfolding is_path is_blank
no-blank-path p h e = clash (and_r (sized max_path p && every (between 33 126) p) (not (same_bytes p (ascii "_"))) h) (ap not (ap (λ s. same_bytes s (ascii "_")) (sym e) ∙ same_refl (ascii "_")))

paths-same : (p r : Option Bytes) → ((s : Bytes) → p ≡ some s → is_path s ≡ true) → ((s : Bytes) → r ≡ some s → is_path s ≡ true) → path_bytes p ≡ path_bytes r → p ≡ r
paths-same none none h k e = refl
paths-same none (some r) h k e = absurd (no-blank-path r (k r refl) e)
paths-same (some p) none h k e = absurd (no-blank-path p (h p refl) (sym e))
paths-same (some p) (some r) h k e = ap some e

-- ---- the id

module _ (a : Identity) where
  id-exported : exported a.name ≡ true → id_bytes a ≡ a.name
  unfolding id_bytes
  id-exported e = rw e

  id-hidden : exported a.name ≡ false → id_bytes a ≡ path_bytes a.path ++ (dot ∷ a.name)
  unfolding id_bytes
  id-hidden e = rw e (append_assoc (path_bytes a.path) (ascii ".") a.name)

parted : (a b : Identity) → Proper a → exported a.name ≡ true → exported b.name ≡ false → id_bytes a ≡ id_bytes b → ⊥
parted a b pa ea eb h =
    name-dotless a.name pa.named (subst (In dot) (sym (sym (id-exported a ea) ∙ h ∙ id-hidden b eb)) (In-append-r (path_bytes b.path) (dot ∷ b.name) dot (inl refl)))

-- MEMBERS OF ONE ID HAVE ONE IDENTITY.
pub id-injective : (a b : Identity) → Proper a → Proper b → id_bytes a ≡ id_bytes b → a ≡ b
id-injective a b pa pb h =
    cases (exported a.name)
    (λ e. cases (exported b.name)
    (λ f. both (sym (id-exported a e) ∙ h ∙ id-exported b f) (pa.pathless e ∙ sym (pb.pathless f)))
    (λ f. absurd (parted a b pa e f h)))
    (λ e. cases (exported b.name)
    (λ f. absurd (parted b a pb f e (sym h)))
    (λ f.
    let r = last-dot (path_bytes a.path) a.name (path_bytes b.path) b.name (name-dotless a.name pa.named) (name-dotless b.name pb.named) (sym (id-hidden a e) ∙ h ∙ id-hidden b f) in
    both r.1 (paths-same a.path b.path pa.pathed pb.pathed r.0)))
  where
    both : a.name ≡ b.name → a.path ≡ b.path → a ≡ b
    both n p = ap₂ (λ (n : Bytes) (p : Option Bytes). record { name = n; path = p }) n p

-- ---- a table's members

module _ (T : Table) (sound : Sound T) where
  paths-are : (pkg : Option PackageKey) → has_package T pkg ≡ true → (p : Bytes) → path_of T pkg ≡ some p → is_path p ≡ true
  unfolding path_of
  paths-are none h p e = clash (ap is_some e) refl
    where
      is_some : Option Bytes → Bool
      is_some none = false
      is_some (some x) = true
  paths-are (some k) h p e = subst (λ s. is_path s ≡ true) (ap or_else e) (sound.paths (get_or T.packages k.0 []) (get_or-In T.packages k.0 [] (ltb-true k.0 (length T.packages) h)))
    where
      or_else : Option Bytes → Bytes
      or_else none = p
      or_else (some x) = x

  pub member-proper : (t : TypeKey) (m : Member) → MemberOf T t m → Proper (identity_of T m)
  unfolding identity_of identity_from path_of
  member-proper t m i =
      record {
        named = sound.names t m i;
        pathless = λ e. rw e;
        pathed = λ p e. cases (exported m.name) (λ f. paths-are none refl p (rw f at e)) (λ f. paths-are m.pkg (sound.packaged t m i) p (rw f at e));
      }
