-- Signs of members, and the word that says whether there are any, stand in words that the table does not show: storing one leaves all else as it was.
use mathlib.Core.Path.{◌≡◌, refl, ◌∙◌}
use mathlib.Core.Logic.{◌≢◌}
use Prim.Native.Nat.{ℕ, ◌+◌, ◌<◌, ◌≤◌}
use native.Mathlib.Omega.{arith}
use lib.ListN.{length, set, length-set}
use Rattle.objects.specs.declared.ObjKey.{ObjKey}
use Rattle.objects.specs.Bounds.{signed_at}
use Rattle.objects.specs.Lists.{Bytes}
use Rattle.objects.specs.Rows.{Words, word_at, package_count, type_count, member_count_of, element_count, signed_of, signs_at, sign_at, member_at}
use Rattle.objects.specs.Laid.{Laid, Beside, SignPut, SignedPut}
use Rattle.objects.proofs.Stores.{word-put, word_kept, type-kept, Kept, Free, kept-none, kept_set}
use Rattle.objects.proofs.Keeping.{same-member, kept-type, kept-member}
use Rattle.objects.proofs.Unshown.{still-holds}

-- ---- rows with the same table

pub beside_none : (rows : Words) → Laid rows → Beside rows rows
beside_none rows laid = record {
  holds = record { laid = laid; held = λ text. refl };
  long = refl;
  packages = refl;
  types = refl;
  members = refl;
  elements = refl;
  type_words = λ t j h l. refl;
  member_words = λ m j h l. refl;
}

module _ {rows after : Words} (b : Beside rows after) where
  pub beside-on : {later : Words} → Beside after later → Beside rows later
  beside-on d = record {
    holds = record { laid = d.holds.laid; held = λ text. d.holds.held text ∙ b.holds.held text };
    long = d.long ∙ b.long;
    packages = d.packages ∙ b.packages;
    types = d.types ∙ b.types;
    members = d.members ∙ b.members;
    elements = d.elements ∙ b.elements;
    type_words = λ t j h l. d.type_words t j (rw b.types h) l ∙ b.type_words t j h l;
    member_words = λ m j h l. d.member_words m j (rw b.members h) l ∙ b.member_words m j h l;
  }

  pub beside-member : (text : Bytes) (m : ObjKey) → m.0 < member_count_of rows → member_at text after m ≡ member_at text rows m
  beside-member text m h = same-member text rows after m (λ j l. b.member_words m j h l)

  -- signs stand where they stood
  pub beside-signs : signs_at after ≡ signs_at rows
  beside-signs = rw (b.long, b.members)

-- ---- a word behind the counts that is none of the table's

module _ (rows : Words) (laid : Laid rows) (at v : ℕ) (behind : 4 ≤ at) (free : Free (type_count rows) rows at) where
  kept : Kept (type_count rows) rows (set rows at v)
  kept = kept_set at v kept-none free

  count : (i : ℕ) → i < 4 → word_at (set rows at v) i ≡ word_at rows i
  count i h = word_kept rows at v i (λ e. omega arith)

  others : Kept 0 rows (set rows at v)
  others = let f = free in kept_set at v kept-none (record { types = λ l h. omega arith; members = f.members; packages = f.packages; elements = f.elements })

  beside : Beside rows (set rows at v)
  unfolding package_count type_count member_count_of element_count
  beside = record {
    holds = still-holds rows (set rows at v) laid others count (λ u j h l. kept-type kept u j h (omega arith));
    long = length-set rows at v;
    packages = count 0 (omega arith);
    types = count 1 (omega arith);
    members = count 2 (omega arith);
    elements = count 3 (omega arith);
    type_words = λ t j h l. kept-type kept t j h l;
    member_words = λ m j h l. kept-member kept m j h l;
  }

  other_sign : (n : ObjKey) → signs_at rows + n.0 ≢ at → sign_at (set rows at v) n ≡ sign_at rows n
  unfolding sign_at
  other_sign n ne = rw (beside-signs beside) (word_kept rows at v (signs_at rows + n.0) ne)

-- ---- the two writers

module _ (rows : Words) (m : ObjKey) (sign : ℕ) (laid : Laid rows) (here : m.0 < member_count_of rows)
    (room : signs_at rows + member_count_of rows + element_count rows ≤ length rows) where
  free-behind : Free (type_count rows) rows (signs_at rows + m.0)
  free-behind = let l = laid in omega arith

  sign-put : SignPut rows m sign (set rows (signs_at rows + m.0) sign)
  unfolding sign_at
  sign-put = let l = laid in record {
    beside = beside rows laid (signs_at rows + m.0) sign (omega arith) free-behind;
    here = rw (beside-signs (beside rows laid (signs_at rows + m.0) sign (omega arith) free-behind)) (word-put rows (signs_at rows + m.0) sign (omega arith));
    elsewhere = λ n ne. other_sign rows laid (signs_at rows + m.0) sign (omega arith) free-behind n (λ e. ne (omega arith));
  }

  -- at the place that the code computes
  pub sign-puts : {at : ℕ} → at ≡ signs_at rows → SignPut rows m sign (set rows (at + m.0) sign)
  sign-puts e = rw e sign-put

pub signed-put : (rows : Words) (flag : ℕ) → Laid rows → SignedPut rows flag (set rows signed_at flag)
unfolding signed_of
signed-put rows flag laid =
    let l = laid in
    let free : Free (type_count rows) rows signed_at = omega arith in
    record {
      beside = beside rows laid signed_at flag (omega arith) free;
      here = word-put rows signed_at flag (omega arith);
      types = λ t j. type-kept rows signed_at flag t j (λ e. omega arith);
      signs = λ m. other_sign rows laid signed_at flag (omega arith) free m (λ e. omega arith);
    }
