-- Signs put one after the other (specs/Signing.antt), and why rows with all of them are a library.
use mathlib.Core.Path.{◌≡◌, sym, ap, subst, ◌∙◌}
use Prim.Native.Nat.{ℕ, ◌+◌, ◌<◌, ◌≤◌}
use native.Mathlib.Omega.{arith}
use lib.Dec.{eqb}
use lib.ListN.{length}
use borrow.Author.Tests.{eqb-true, eqb-false}
use Rattle.objects.specs.declared.ObjKey.{ObjKey}
use Rattle.objects.specs.Lists.{Bytes, In}
use Rattle.objects.specs.Table.{obj_key}
use Rattle.objects.specs.Rows.{Words, type_count, member_count_of, element_count, signs_at, sign_at, member_at, table_of}
use Rattle.objects.specs.Laid.{Beside, SignPut, SignedPut}
use Rattle.objects.proofs.ListLaws.{cases}
use Rattle.objects.proofs.RowLaws.{size-read}
use Rattle.objects.proofs.Signs.{beside-on, beside-member}
use Rattle.text.specs.Hash.{hash_from}
use Rattle.rules.specs.Checks.{contents}
use Rattle.rules.specs.Load.{loaded}
use Rattle.rules.specs.Library.{rank_read, Ranked, Library}
use Rattle.rules.proofs.Sounds.{library-sound}
use Rattle.rules.proofs.RangeLaws.{content-in}
use Rattle.signs.specs.Signing.{Signing}

-- ---- one after the other

module _ (text : Bytes) (rows after : Words) (m : ℕ) (s : Signing text rows m after) (here : m < member_count_of rows) where
  -- the sign of member m is put
  pub signing-on : {sign : ℕ} → sign ≡ hash_from 0 (member_at text after (obj_key m)).name → {later : Words} → SignPut after (obj_key m) sign later → Signing text rows (m + 1) later
  signing-on {sign = sign} e {later = later} p = record { beside = beside-on s.beside p.beside; signs = each }
    where
      last : (n : ObjKey) → n.0 ≡ m → sign_at later n ≡ hash_from 0 (member_at text rows n).name
      last n q = subst (λ (k : ObjKey). sign_at later k ≡ hash_from 0 (member_at text rows k).name) (sym (ap obj_key q))
          (p.here ∙ e ∙ ap (λ x. hash_from 0 x.name) (beside-member s.beside text (obj_key m) here))

      each : (n : ObjKey) → n.0 < m + 1 → sign_at later n ≡ hash_from 0 (member_at text rows n).name
      each n h =
          cases (eqb n.0 m)
          (λ q. last n (eqb-true n.0 m q))
          (λ q. let ne = eqb-false n.0 m q in p.elsewhere n ne ∙ s.signs n (omega arith))

-- ---- all of them

module _ (text : Bytes) (rows between after : Words) (lib : Library text rows) (room : signs_at rows + member_count_of rows + element_count rows ≤ length rows)
    (s : Signing text rows (member_count_of rows) between) {flag : ℕ} (p : SignedPut between flag after) where
  table : Beside rows after
  table = beside-on s.beside p.beside

  same : table_of text after ≡ table_of text rows
  same = table.holds.held text

  -- what a type contains is in the table, and so has its rank still
  ranks : Ranked text after
  unfolding rank_read
  ranks t e h i =
      let g : t.0 < type_count rows = rw table.types at h in
      let j : In e (contents (table_of text rows) t) = rw same at i in
      let l : e.0 < type_count rows = rw (size-read text rows) at (content-in (table_of text rows) (library-sound lib) t e j) in
      rw (table.type_words t 7 g (omega arith), table.type_words e 7 l (omega arith)) (lib.ranked t e g j)

  library : Library text after
  library = record {
    loads = lib.loads ∙ ap loaded (sym same);
    laid = table.holds.laid;
    ranked = ranks;
    signed = λ ne. record {
      room = rw (table.long, table.members) (let r = room in omega arith);
      signs = λ m h. let g : m.0 < member_count_of rows = rw table.members at h in
          p.signs m ∙ s.signs m g ∙ ap (λ x. hash_from 0 x.name) (sym (beside-member table text m g));
    };
  }

  pub signed-members : Library text after × (table_of text after ≡ table_of text rows)
  signed-members = (library, same)
