-- What is read off a member's row is what the rules say of it: its tag, and whether two members are called alike.
use mathlib.Core.Path.{◌≡◌, refl, sym, ap, ◌∙◌}
use mathlib.Core.Bool.{Bool, true, false, cond, ◌&&◌, beq}
use Prim.Native.Nat.{ℕ, ◌+◌, ◌<◌, ◌≤◌}
use native.Mathlib.Omega.{arith}
use lib.Dec.{ltb}
use lib.ListN.{take, drop}
use borrow.Author.Tests.{lt-ltb}
use Rattle.objects.specs.declared.TypeKey.{TypeKey}
use Rattle.objects.specs.declared.ObjKey.{ObjKey}
use Rattle.objects.specs.Lists.{Bytes}
use mathlib.Core.Logic.{◌≢◌}
use Rattle.objects.specs.Table.{obj_key, has_package, tag_of}
use Rattle.objects.specs.Rows.{Words, type_count, member_word, bytes_at, entity_of, member_at, table_of}
use Rattle.objects.specs.Types.{number_read, first_read, total_read, embedded_read, method_read}
use Rattle.objects.proofs.RowLaws.{by_form, last-form, members-have, embedded-meant}
use Rattle.text.specs.Bytes.{same_bytes}
use Rattle.rules.specs.Members.{same_member}
use Rattle.rules.specs.Identity.{alike_member}
use Rattle.rules.specs.Library.{Library}
use Rattle.rules.proofs.Sounds.{library-sound}
use Rattle.type_parts.specs.Parts.{part_count, tag_length}
use Rattle.type_parts.proofs.StepAt.{named_count, members-read, count-members}

-- parts of the text, given by numbers that were read
module _ (text : Bytes) {a b c d a' b' c' d' : ℕ} {r : Bool} where
  pub spans-same : a ≡ a' → b ≡ b' → c ≡ c' → d ≡ d' → r ≡ same_bytes (take b (drop a text)) (take d (drop c text)) → r ≡ same_bytes (bytes_at text a' b') (bytes_at text c' d')
  unfolding bytes_at
  spans-same p q s t e = rw (← p, ← q, ← s, ← t) e

-- ---- a tag

module _ (rows : Words) (m : ObjKey) (r : Bool) (e : r ≡ method_read rows m) where
  pub tag-method : r ≡ true → 0 ≡ tag_length rows m
  unfolding tag_length
  tag-method h = rw (sym e ∙ h)

  pub tag-field : r ≡ false → {n : ℕ} → n ≡ member_word rows m 6 → n ≡ tag_length rows m
  unfolding tag_length
  tag-field h q = rw (sym e ∙ h) q

tag-form : (text : Bytes) (at len k : ℕ) → tag_of (entity_of k (bytes_at text at len)) ≡ bytes_at text at (cond (ltb 1 k) 0 len)
unfolding entity_of bytes_at
tag-form text at len =
    by_form (λ k. tag_of (entity_of k (bytes_at text at len)) ≡ bytes_at text at (cond (ltb 1 k) 0 len)) refl refl refl
    (λ k h. ap tag_of (last-form (bytes_at text at len) k h) ∙ rw (lt-ltb 1 k (omega arith)))

pub tag_read : (text : Bytes) (rows : Words) (m : ObjKey) → tag_of (member_at text rows m).entity ≡ bytes_at text (member_word rows m 5) (tag_length rows m)
unfolding member_at tag_length method_read
tag_read text rows m = tag-form text (member_word rows m 5) (member_word rows m 6) (member_word rows m 4)

-- ---- called alike

module _ (text : Bytes) (rows : Words) where
  module _ (m n : ObjKey) where
    abbrev tag_at : ObjKey → Bytes
    tag_at k = bytes_at text (member_word rows k 5) (tag_length rows k)

    alike_is : alike_member (table_of text rows) (member_at text rows m) (member_at text rows n)
        ≡ same_member (table_of text rows) (member_at text rows m) (member_at text rows n) && beq (embedded_read rows m) (embedded_read rows n) && same_bytes (tag_at m) (tag_at n)
    alike_is = rw (embedded-meant text rows m, embedded-meant text rows n, tag_read text rows m, tag_read text rows n)

    pub alike-other : (r : Bool) → r ≡ same_member (table_of text rows) (member_at text rows m) (member_at text rows n) → r ≡ false
        → false ≡ alike_member (table_of text rows) (member_at text rows m) (member_at text rows n)
    alike-other r e z = sym (alike_is ∙ rw (sym e ∙ z))

    pub alike-embedded : (r a b : Bool) → r ≡ same_member (table_of text rows) (member_at text rows m) (member_at text rows n) → r ≡ true
        → a ≡ embedded_read rows m → b ≡ embedded_read rows n → beq a b ≡ false → false ≡ alike_member (table_of text rows) (member_at text rows m) (member_at text rows n)
    alike-embedded r a b e z p q d = sym (alike_is ∙ rw (sym e ∙ z, ← p, ← q, d))

    pub alike-tags : (r a b s : Bool) → r ≡ same_member (table_of text rows) (member_at text rows m) (member_at text rows n) → r ≡ true
        → a ≡ embedded_read rows m → b ≡ embedded_read rows n → beq a b ≡ true → s ≡ same_bytes (tag_at m) (tag_at n)
        → s ≡ alike_member (table_of text rows) (member_at text rows m) (member_at text rows n)
    alike-tags r a b s e z p q d f = f ∙ sym (alike_is ∙ rw (sym e ∙ z, ← p, ← q, d))

-- the i-th member of a struct or an interface has a package of the table, or none
pub member-packaged : (text : Bytes) (rows : Words) → Library text rows → (x : TypeKey) → x.0 < type_count rows → (k i a : ℕ) → k ≡ number_read rows x → 8 ≤ k → i < part_count rows x → a ≡ first_read rows x
    → has_package (table_of text rows) (member_at text rows (obj_key (a + i))).pkg ≡ true
member-packaged text rows lib x h k i a e g l f =
    let eight : 8 ≤ number_read rows x = omega arith in
    let n : number_read rows x ≢ 10 = λ z. let w = named_count text rows x h z in omega arith in
    let c = count-members text rows x h eight n in
    rw f ((library-sound lib).packaged x (member_at text rows (obj_key (first_read rows x + i)))
    (rw (members-read text rows x h eight) (members-have text rows (first_read rows x) (total_read rows x) i (omega arith))))
