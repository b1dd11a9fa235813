-- What falls in the cycle of calls of `identical` (crate typ) beside the pairs not met: a number of the type compared, with those of its parts below it.
-- References go to smaller numbers, but to named types and interfaces; a named type has no parts, and a pair of interfaces is met.
use mathlib.Core.Path.{◌≡◌, refl, sym, ◌∙◌}
use mathlib.Core.Bool.{true, cond, not, ◌&&◌, ◌||◌}
use mathlib.Core.List.{List, [], ◌∷◌, ◌++◌}
use mathlib.Core.Logic.{◌⊎◌, inl, inr, ◌≢◌}
use Prim.Native.Nat.{ℕ, ◌+◌, ◌*◌, ◌<◌, ◌≤◌}
use native.Mathlib.Omega.{arith}
use lib.Dec.{eqb, ltb}
use borrow.Author.Tests.{eqb-true, eqb-false, ne_eqb, ltb-true}
use Rattle.objects.specs.declared.TypeKey.{TypeKey}
use Rattle.objects.specs.Bounds.{max_types}
use Rattle.objects.specs.Lists.{Bytes, In, every, up_to}
use Rattle.objects.specs.Table.{Table, Entity, Field, Method, Member, Kind, Basic, Array, Slice, Pointer, Map, Chan, Tuple, Func, Struct, Iface, Named, kind_number, is_tuple, is_named, is_iface, members_of, kind_at}
use Rattle.objects.specs.Rows.{Words, type_count, table_of}
use Rattle.objects.specs.Types.{number_read}
use Rattle.objects.proofs.ListLaws.{cases, clash, either, and_l, and_r, In-map, In-append, map-In-to}
use Rattle.objects.proofs.BoolLaws.{and_i}
use Rattle.objects.proofs.PartLaws.{every-In}
use Rattle.objects.proofs.Numbers.{up_to-has}
use Rattle.objects.proofs.RowLaws.{number-read, size-read}
use Rattle.rules.specs.Identity.{parts}
use Rattle.rules.specs.Checks.{may_refer, smaller_tuple, type_allowed, member_allowed, ends_in_slice}
use Rattle.rules.specs.Load.{stands}
use Rattle.rules.specs.Library.{Library}
use Rattle.rules.proofs.RangeLaws.{part-in}
use Rattle.rules.proofs.Sounds.{library-sound}
use Rattle.type_parts.specs.Parts.{part_count, part_at}
use Rattle.type_parts.proofs.ReadLaws.{parts-read}
use Rattle.type_parts.proofs.StepAt.{named_count}

-- ---- where references go

module _ (T : Table) (t : TypeKey) where
  abbrev Down : TypeKey → Type 0
  Down e = (e.0 < t.0) ⊎ ((kind_number (kind_at T e) ≡ 10) ⊎ (kind_number (kind_at T e) ≡ 9))

  refer-down : (e : TypeKey) → may_refer T t e ≡ true → Down e
  refer-down e h =
      cases (ltb e.0 t.0)
      (λ p. inl (ltb-true e.0 t.0 p))
      (λ p. cases (is_named (kind_at T e))
      (λ q. inr (inl (eqb-true (kind_number (kind_at T e)) 10 q)))
      (λ q. cases (is_iface (kind_at T e))
      (λ r. inr (inr (eqb-true (kind_number (kind_at T e)) 9 r)))
      (λ r. clash (rest h) (rw (p, q, r)))))
    where
      rest : may_refer T t e ≡ true → ltb e.0 t.0 || is_named (kind_at T e) || is_iface (kind_at T e) ≡ true
      rest h = and_r (not (is_tuple (kind_at T e))) (ltb e.0 t.0 || is_named (kind_at T e) || is_iface (kind_at T e)) h

  refs-down : (l : List TypeKey) → every (may_refer T t) l ≡ true → (e : TypeKey) → In e (l ++ []) → Down e
  refs-down l h e i = either (In-append l [] e i) (λ j. refer-down e (every-In (may_refer T t) l e h j)) (λ j. absurd j)

  tuple-down : (e p : TypeKey) → e ≡ p → smaller_tuple T t p ≡ true → Down e
  tuple-down e p q h = rw q (inl (ltb-true p.0 t.0 (and_r (is_tuple (kind_at T p)) (ltb p.0 t.0) h)))

  field-down : (ms : List Member) (e : TypeKey) (n : Entity) → stands n (Struct ms) ≡ true → member_allowed T t (Struct ms) e n ≡ true → Down e
  field-down ms e (Field emb tag) s h = refer-down e (and_l (may_refer T t e) _ h)
  field-down ms e (Method ptr) s h = clash s refl

  kind-down : (k : Kind) → type_allowed T t k ≡ true → ((m : Member) → In m (members_of k) → (stands m.entity k ≡ true) × (member_allowed T t k m.type m.entity ≡ true))
      → kind_number k ≢ 9 → (e : TypeKey) → In e (parts k) → Down e
  unfolding parts
  kind-down (Basic k) a f n e i = absurd i
  kind-down (Array m x) a f n e i = refs-down (x ∷ []) (and_i a refl) e i
  kind-down (Slice x) a f n e i = refs-down (x ∷ []) (and_i a refl) e i
  kind-down (Pointer x) a f n e i = refs-down (x ∷ []) (and_i a refl) e i
  kind-down (Map k x) a f n e i = refs-down (k ∷ x ∷ []) (and_i (and_l (may_refer T t k) (may_refer T t x) a) (and_i (and_r (may_refer T t k) (may_refer T t x) a) refl)) e i
  kind-down (Chan d x) a f n e i = refs-down (x ∷ []) (and_i a refl) e i
  kind-down (Tuple es) a f n e i = refs-down es a e i
  kind-down (Func v p r) a f n e i =
      let b = and_l (smaller_tuple T t p && smaller_tuple T t r) (not v || ends_in_slice T p) a in
      either i (λ q. tuple-down e p q (and_l (smaller_tuple T t p) (smaller_tuple T t r) b))
      (λ j. either j (λ q. tuple-down e r q (and_r (smaller_tuple T t p) (smaller_tuple T t r) b)) (λ z. absurd z))
  kind-down (Struct ms) a f n e i =
      let r = In-map (λ (m : Member). m.type) ms e i in
      let g = f r.0 r.1 in
      rw r.2 (field-down ms r.0.type r.0.entity g.0 g.1)
  kind-down (Iface ms) a f n e i = absurd (n refl)
  kind-down (Named u ms) a f n e i = absurd i

-- ---- the numbers that fall

-- above both for every type
abbrev pub rank_span : ℕ
rank_span = 2 * max_types + 3

-- of a type that is compared, and of one whose parts are
unfoldable pub rank : Words → TypeKey → ℕ
rank rows x = cond (eqb (number_read rows x) 9) 0 (cond (eqb (number_read rows x) 10) 1 (2 * x.0 + 3))

unfoldable pub high : Words → TypeKey → ℕ
high rows x = cond (eqb (number_read rows x) 9) (2 * max_types + 2) (cond (eqb (number_read rows x) 10) 0 (2 * x.0 + 2))

module _ (rows : Words) (x : TypeKey) where
  rank-9 : number_read rows x ≡ 9 → rank rows x ≡ 0
  unfolding rank
  rank-9 e = rw e

  rank-10 : number_read rows x ≡ 10 → rank rows x ≡ 1
  unfolding rank
  rank-10 e = rw e

  rank-le : rank rows x ≤ 2 * x.0 + 3
  unfolding rank
  rank-le = cases (eqb (number_read rows x) 9) (λ e. rw e (omega arith)) (λ e. rw e (cases (eqb (number_read rows x) 10) (λ f. rw f (omega arith)) (λ f. rw f (omega arith))))

  pub high_le : x.0 < max_types → high rows x < rank_span
  unfolding high
  high_le h = cases (eqb (number_read rows x) 9) (λ e. rw e (omega arith)) (λ e. rw e (cases (eqb (number_read rows x) 10) (λ f. rw f (omega arith)) (λ f. rw f (omega arith))))

  high-9 : number_read rows x ≡ 9 → high rows x ≡ 2 * max_types + 2
  unfolding high
  high-9 e = rw e

  high-rest : number_read rows x ≢ 9 → number_read rows x ≢ 10 → high rows x ≡ 2 * x.0 + 2
  unfolding high
  high-rest h g = rw (ne_eqb (number_read rows x) 9 h, ne_eqb (number_read rows x) 10 g)

module _ (text : Bytes) (rows : Words) (lib : Library text rows) (x : TypeKey) (hx : x.0 < type_count rows) (i : ℕ) (hi : i < part_count rows x) where
  part-has : In (part_at rows x i) (parts (kind_at (table_of text rows) x))
  part-has = rw (parts-read text rows x hx) (map-In-to (part_at rows x) (up_to (part_count rows x)) i (up_to-has (part_count rows x) i hi))

  pub part-inside : (part_at rows x i).0 < type_count rows
  part-inside = let r = part-in (table_of text rows) (library-sound lib) x (part_at rows x i) part-has in rw (size-read text rows) at r

  pub down : number_read rows x ≢ 9 → ((part_at rows x i).0 < x.0) ⊎ ((number_read rows (part_at rows x i) ≡ 10) ⊎ (number_read rows (part_at rows x i) ≡ 9))
  down n =
      let s = library-sound lib in
      let e = number-read text rows (part_at rows x i) part-inside in
      either (kind-down (table_of text rows) x (kind_at (table_of text rows) x) (s.allowed x) (λ m j. (s.standing x m j, s.allowed_member x m j)) (rw (number-read text rows x hx) n) (part_at rows x i) part-has)
      (λ p. inl p) (λ p. either p (λ q. inr (inl (sym e ∙ q))) (λ q. inr (inr (sym e ∙ q))))

  pub rank-part : rank rows (part_at rows x i) < high rows x
  rank-part = cases (eqb (number_read rows x) 9) (λ e. iface (eqb-true (number_read rows x) 9 e)) (λ e. other (eqb-false (number_read rows x) 9 e))
    where
      iface : number_read rows x ≡ 9 → rank rows (part_at rows x i) < high rows x
      iface e = omega (arith, rank-le rows (part_at rows x i), high-9 rows x e, lib.laid.types, part-inside)

      other : number_read rows x ≢ 9 → rank rows (part_at rows x i) < high rows x
      other n =
          let z : high rows x ≡ 2 * x.0 + 2 = high-rest rows x n (λ f. let w = named_count text rows x hx f in omega arith) in
          either (down n) (λ l. omega (arith, rank-le rows (part_at rows x i)))
          (λ d. either d (λ k. omega (arith, rank-10 rows (part_at rows x i) k)) (λ k. omega (arith, rank-9 rows (part_at rows x i) k)))
