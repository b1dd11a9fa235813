-- What the checks of a whole table say of each of its lines (14, 7 to 10), and the refusals that loading gives.
use mathlib.Core.Path.{◌≡◌, refl, ap, subst}
use mathlib.Core.Bool.{Bool, true, false}
use mathlib.Core.List.{List, [], ◌∷◌, ◌++◌, append_assoc, append-nil}
use mathlib.Core.Logic.{◌⊎◌, inl, inr}
use Prim.Native.Nat.{ℕ, zero, suc, ◌+◌, ◌≤◌, ◌<◌}
use native.Mathlib.Omega.{arith}
use lib.Dec.{ltb}
use lib.ListN.{length, get_or}
use borrow.Author.Tests.{ltb-false}
use Rattle.objects.specs.Bounds.{refusal_unit, Bounds, bounds}
use Rattle.objects.specs.Lists.{Bytes, In, head_or}
use Rattle.objects.specs.declared.TypeKey.{TypeKey}
use Rattle.objects.specs.Table.{Table, size, type_key, Member, Kind, Basic, members_of, no_table, kind_at}
use Rattle.objects.proofs.ListLaws.{cases, In-append-l, In-append-r}
use Rattle.objects.proofs.PartLaws.{get_or-all}
use Rattle.text.specs.Bytes.{ascii, same_bytes}
use Rattle.text.specs.Lines.{split, pieces}
use Rattle.text.proofs.ByteLaws.{same_true}
use Rattle.text.proofs.PieceLaws.{split-few}
use Rattle.rules.specs.Checks.{PathItem, path_items, unordered, Item, type_item, member_item, member_items, items_from, items, line_of_item, lacking, forbidden, clashing, containing}
use Rattle.rules.specs.Load.{Loaded, refused, loaded, lines_from, staged, checked, then_checked, headed, load_within, load}
use Rattle.rules.specs.Stages.{first_item}
use Rattle.rules.proofs.StageLaws.{stage_is}
use Rattle.rules.proofs.PathLaws.{item-lines}
use Rattle.rules.proofs.LoadLaws.{Built, Read, none-built, read-later, lines-read}

-- ---- the lines of the table are its items

types-from : (n i : ℕ) (ks : List Kind) → i < length ks → In (type_item (type_key (n + i)) (get_or ks i (Basic 0))) (items_from n ks)
unfolding items_from
types-from n i [] h = absurd (omega arith)
types-from n zero (k ∷ ks) h = let e : n + 0 ≡ n = omega arith in inl (rw e)
types-from n (suc i) (k ∷ ks) h =
    let e : n + suc i ≡ suc n + i = omega arith in
    inr (In-append-r (member_items (type_key n) k [] (members_of k)) (items_from (suc n) ks) _ (rw e (types-from (suc n) i ks (omega arith))))

members-items : (t : TypeKey) (k : Kind) (above before : List Member) (m : Member) (after ms : List Member) → ms ≡ before ++ (m ∷ after)
    → In (member_item t k (above ++ before) m) (member_items t k above ms)
members-items t k above before m after ms e = rw e (go above before)
  where
    go : (a b : List Member) → In (member_item t k (a ++ b) m) (member_items t k a (b ++ (m ∷ after)))
    go a [] = inl (rw (append-nil a))
    go a (x ∷ b) =
        inr (subst (λ l. In (member_item t k l m) (member_items t k (a ++ (x ∷ [])) (b ++ (m ∷ after)))) (append_assoc a (x ∷ []) b) (go (a ++ (x ∷ [])) b))

members-from : (n i : ℕ) (ks : List Kind) (before : List Member) (m : Member) (after : List Member) → i < length ks → members_of (get_or ks i (Basic 0)) ≡ before ++ (m ∷ after)
    → In (member_item (type_key (n + i)) (get_or ks i (Basic 0)) before m) (items_from n ks)
unfolding items_from
members-from n i [] b m a h e = absurd (omega arith)
members-from n zero (k ∷ ks) b m a h e =
    let z : n + 0 ≡ n = omega arith in
    inr (In-append-l (member_items (type_key n) k [] (members_of k)) (items_from (suc n) ks) _ (rw z (members-items (type_key n) k [] b m a (members_of k) e)))
members-from n (suc i) (k ∷ ks) b m a h e =
    let z : n + suc i ≡ suc n + i = omega arith in
    inr (In-append-r (member_items (type_key n) k [] (members_of k)) (items_from (suc n) ks) _ (rw z (members-from (suc n) i ks b m a (omega arith) e)))

module _ (T : Table) where
  -- each type is judged
  pub type-item : (t : TypeKey) → t.0 < size T → In (type_item t (kind_at T t)) (items T)
  unfolding kind_at
  type-item t h = let e : 0 + t.0 ≡ t.0 = omega arith in rw e at (types-from 0 t.0 T.types h)

  -- and each member, with those before it
  pub member-item : (t : TypeKey) (before : List Member) (m : Member) (after : List Member) → t.0 < size T → members_of (kind_at T t) ≡ before ++ (m ∷ after)
      → In (member_item t (kind_at T t) before m) (items T)
  unfolding kind_at
  member-item t b m a h e = let z : 0 + t.0 ≡ t.0 = omega arith in rw z at (members-from 0 t.0 T.types b m a h e)

-- ---- the stages

-- no line of the table fails one of the five tests
pub record Passed (T : Table) : Type 0 where
  pub orders : (i : PathItem) → In i (path_items T.packages) → unordered i ≡ false
  pub lacks : (i : Item) → In i (items T) → lacking T i ≡ false
  pub forbids : (i : Item) → In i (items T) → forbidden T i ≡ false
  pub clashes : (i : Item) → In i (items T) → clashing T i ≡ false
  pub contains : (i : Item) → In i (items T) → containing T i ≡ false

-- the refusals of a table: 2 to 10, and 14
abbrev pub OfTable : ℕ → Type 0
OfTable n = ((2 ≤ n) × (n ≤ 10)) ⊎ (n ≡ 14)

module _ (w : Bounds) where
  -- a table that was built from the lines before a line and passed, or a refusal at one of them
  abbrev pub Right : ℕ → Loaded → Type 0
  Right line (refused n at) = OfTable n × (at < line)
  Right line (loaded T) = Built w line T × Passed T

  item-line : (line : ℕ) (T : Table) → 0 < line → Built w line T → (i : Item) → line_of_item T i < line
  unfolding line_of_item
  item-line line T h b (type_item t k) = get_or-all (λ n. n < line) T.type_lines t.0 0 b.types_above h
  item-line line T h b (member_item t k before m) = get_or-all (λ n. n < line) T.member_lines m.key.0 0 b.members_above h

  checked-right : (line : ℕ) (T : Table) → 0 < line → Built w line T → Right line (checked T)
  unfolding checked
  checked-right line T h b =
      stage_is (λ i. i.line) unordered (Right line) 14 (path_items T.packages) _ (λ i j. (inr refl, path-line i j)) (λ order.
      by_lines (lacking T) 7 (omega arith, omega arith) _ (λ lack.
      by_lines (forbidden T) 8 (omega arith, omega arith) _ (λ forbid.
      by_lines (clashing T) 9 (omega arith, omega arith) _ (λ clash.
      by_lines (containing T) 10 (omega arith, omega arith) _ (λ contain.
      (b, record { orders = order; lacks = lack; forbids = forbid; clashes = clash; contains = contain }))))))
    where
      path-line : (i : PathItem) → In i (path_items T.packages) → i.line < line
      path-line i j = let k = item-lines T.packages i j in let l = b.packages_above in omega arith

      by_lines : (bad : Item → Bool) (n : ℕ) → (2 ≤ n) × (n ≤ 10) → (rest : Loaded) → (((i : Item) → In i (items T) → bad i ≡ false) → Right line rest) → Right line (staged n (first_item T bad (items T)) rest)
      by_lines bad n k rest passes = stage_is (line_of_item T) bad (Right line) n (items T) rest (λ i j. (inl k, item-line line T h b i)) passes

  then-right : (line : ℕ) (L : Loaded) → 0 < line → Read w line L → Right line (then_checked L)
  then-right line (refused n at) h r = let a = r.0 in let b = r.1 in (inl (omega arith, omega arith), r.2)
  then-right line (loaded T) h r = checked-right line T h r

  -- ---- the whole

  three : OfTable 3
  three = inl (omega arith, omega arith)

  -- The header's bytes are part of the text: there are so many lines fewer.
  headed-right : (line : ℕ) (ps : List Bytes) → 1 < line → length (head_or [] ps) + length ps ≤ suc line → Right line (headed w ps)
  headed-right line [] l h = (three, omega arith)
  headed-right line (first ∷ []) l h = (three, omega arith)
  headed-right line (first ∷ next ∷ rest) l h =
      cases (same_bytes first (ascii "typetable\t1"))
      (λ e. rw e (then-right line (lines_from w 2 no_table (next ∷ rest)) (omega arith) (body e)))
      (λ e. rw e (three, omega arith))
    where
      body : same_bytes first (ascii "typetable\t1") ≡ true → Read w line (lines_from w 2 no_table (next ∷ rest))
      body e =
          let header : length first ≡ length (ascii "typetable\t1") = ap length (same_true first (ascii "typetable\t1") e) in
          read-later w (2 + length (next ∷ rest)) line (lines_from w 2 no_table (next ∷ rest)) (omega arith) (lines-read w 2 no_table (next ∷ rest) (none-built w 2 (omega arith)))

  -- whatever lines a text of so many bytes may have
  pub right-within : (line : ℕ) → 1 < line → w.bytes ≤ line → (text : Bytes) → Right line (load_within w text)
  unfolding load_within pieces
  right-within line l most text =
      cases (ltb w.bytes (length text))
      (λ e. rw e (inl (omega arith, omega arith), omega arith))
      (λ e. rw e (headed-right line (split 10 text) l (let h = ltb-false w.bytes (length text) e in let k = split-few 10 text in omega arith)))

pub load-right : (text : Bytes) → Right bounds refusal_unit (load text)
load-right = right-within bounds refusal_unit (omega arith) (omega arith)
