-- What the lines of a table build, line by line (4 to 6): an invariant of `lines_from`, and the refusals that it gives.
use mathlib.Core.Path.{◌≡◌, refl, sym, ap, subst, ◌∙◌}
use mathlib.Core.Bool.{Bool, true, ◌||◌}
use mathlib.Core.List.{List, [], ◌∷◌, ◌++◌, map, append-nil}
use mathlib.Core.Option.{Option, none, some}
use Prim.Native.Nat.{ℕ, suc, ◌+◌, ◌≤◌, ◌<◌}
use native.Mathlib.Omega.{arith}
use lib.Dec.{ltb}
use lib.ListN.{length}
use Rattle.objects.specs.Bounds.{max_packages, max_per_type, Bounds}
use Rattle.objects.specs.Lists.{Bytes, In, flat, up_to, empty, on_last}
use Rattle.objects.specs.Table.{Table, size, member_count, obj_key, Entity, Field, Method, Member, Kind, Basic, Array, Slice, Pointer, Map, Chan, Tuple, Func, Struct, Iface, Named, kind_number, is_struct, is_iface, is_named, members_of, with_member, no_table, plus_package, plus_type, plus_member}
use Rattle.objects.proofs.ListLaws.{cases, clash, and_l, and_r, or-true, either, flat_append, map-append}
use Rattle.objects.proofs.PartLaws.{all_snoc, length-snoc, few-snoc, on_last-length, on_last-In, on_last-flat}
use Rattle.text.specs.Bytes.{is_path}
use Rattle.text.specs.Lines.{fields}
use Rattle.rules.specs.Forms.{Line, package_line, type_line, member_line, line_of}
use Rattle.rules.specs.Load.{Loaded, refused, loaded, last_kind, added, stands, in_place, has_room, line_added, lines_from}
use Rattle.rules.proofs.FormLaws.{InRange, Fresh, Says, Formed, line-formed}

-- ---- a kind with its members

pub record WellFormed (k : Kind) : Type 0 where
  pub in_range : InRange k
  pub said : (m : Member) → In m (members_of k) → Says m.name m.pkg m.entity
  pub standing : (m : Member) → In m (members_of k) → stands m.entity k ≡ true
  pub few : length (members_of k) ≤ max_per_type

-- a kind that may have members at all
abbrev pub has_members : Kind → Bool
has_members k = is_struct k || (is_named k || is_iface k)

pub stands-has : (e : Entity) (k : Kind) → stands e k ≡ true → has_members k ≡ true
stands-has (Field emb tag) k h = rw h
stands-has (Method ptr) k h = rw (h, or-true)

with-members : (m : Member) (k : Kind) → has_members k ≡ true → members_of (with_member m k) ≡ members_of k ++ (m ∷ [])
with-members m (Basic k) h = clash h refl
with-members m (Array n e) h = clash h refl
with-members m (Slice e) h = clash h refl
with-members m (Pointer e) h = clash h refl
with-members m (Map k e) h = clash h refl
with-members m (Chan d e) h = clash h refl
with-members m (Tuple es) h = clash h refl
with-members m (Func v p r) h = clash h refl
with-members m (Struct ms) h = refl
with-members m (Iface ms) h = refl
with-members m (Named u ms) h = refl

-- the form of the kind stays
with-form : (m : Member) (k : Kind) → InRange k → InRange (with_member m k) × (kind_number (with_member m k) ≡ kind_number k)
with-form m (Basic k) h = (h, refl)
with-form m (Array n e) h = (h, refl)
with-form m (Slice e) h = (tt, refl)
with-form m (Pointer e) h = (tt, refl)
with-form m (Map k e) h = (tt, refl)
with-form m (Chan d e) h = (tt, refl)
with-form m (Tuple es) h = (tt, refl)
with-form m (Func v p r) h = (tt, refl)
with-form m (Struct ms) h = (tt, refl)
with-form m (Iface ms) h = (tt, refl)
with-form m (Named u ms) h = (tt, refl)

stands-number : (e : Entity) (k l : Kind) → kind_number l ≡ kind_number k → stands e k ≡ true → stands e l ≡ true
stands-number (Field emb tag) k l q h = rw q h
stands-number (Method ptr) k l q h = rw q h

pub fresh : (k : Kind) → Fresh k → WellFormed k
fresh k (r, e) = record {
  in_range = r;
  said = λ m i. absurd (rw e at i);
  standing = λ m i. absurd (rw e at i);
  few = rw e (omega arith);
}

grown : (m : Member) (k : Kind) → Says m.name m.pkg m.entity → stands m.entity k ≡ true → ltb (length (members_of k)) max_per_type ≡ true → WellFormed k → WellFormed (with_member m k)
grown m k says h room w = record {
  in_range = (with-form m k w.in_range).0;
  said = λ n i. all_snoc (λ x. Says x.name x.pkg x.entity) (members_of k) m w.said says n (rw more at i);
  standing = λ n i. stands-number n.entity k (with_member m k) (with-form m k w.in_range).1 (all_snoc (λ x. stands x.entity k ≡ true) (members_of k) m w.standing h n (rw more at i));
  few = rw more (few-snoc (members_of k) m max_per_type room);
}
  where
    more : members_of (with_member m k) ≡ members_of k ++ (m ∷ [])
    more = with-members m k (stands-has m.entity k h)

-- ---- the table so far, within any bounds

module _ (w : Bounds) where
  -- what the lines before a line have built
  pub record Built (line : ℕ) (T : Table) : Type 0 where
    pub paths : (path : Bytes) → In path T.packages → is_path path ≡ true
    pub kinds : (k : Kind) → In k T.types → WellFormed k
    pub few_packages : length T.packages ≤ max_packages
    pub few_types : size T ≤ w.types
    pub few_members : member_count T ≤ w.members
    pub numbered : map (λ m. m.key.0) (flat members_of T.types) ≡ up_to (member_count T)
    pub lined : length T.type_lines ≡ size T
    pub packages_above : 2 + length T.packages ≤ line
    pub types_above : (n : ℕ) → In n T.type_lines → n < line
    pub members_above : (n : ℕ) → In n T.member_lines → n < line

  pub none-built : (line : ℕ) → 2 ≤ line → Built line no_table
  none-built line h = record {
    paths = λ p i. absurd i;
    kinds = λ k i. absurd i;
    few_packages = omega arith;
    few_types = omega arith;
    few_members = omega arith;
    numbered = refl;
    lined = refl;
    packages_above = h;
    types_above = λ n i. absurd i;
    members_above = λ n i. absurd i;
  }

  later : (a b : ℕ) (T : Table) → a ≤ b → Built a T → Built b T
  later a b T le t = record {
    paths = t.paths;
    kinds = t.kinds;
    few_packages = t.few_packages;
    few_types = t.few_types;
    few_members = t.few_members;
    numbered = t.numbered;
    lined = t.lined;
    packages_above = let h = t.packages_above in omega arith;
    types_above = λ n i. let h = t.types_above n i in omega arith;
    members_above = λ n i. let h = t.members_above n i in omega arith;
  }

  -- the lines so far and one more
  above : (line : ℕ) (l : List ℕ) → ((n : ℕ) → In n l → n < line) → (n : ℕ) → In n (l ++ (line ∷ [])) → n < suc line
  above line l h = all_snoc (λ n. n < suc line) l line (λ n i. let b = h n i in omega arith) (omega arith)

  with-package : (line : ℕ) (T : Table) (path : Bytes) → is_path path ≡ true → ltb (length T.packages) max_packages ≡ true → Built line T → Built (suc line) (plus_package T path)
  unfolding plus_package
  with-package line T path ok room b = record {
    paths = all_snoc (λ p. is_path p ≡ true) T.packages path b.paths ok;
    kinds = b.kinds;
    few_packages = few-snoc T.packages path max_packages room;
    few_types = b.few_types;
    few_members = b.few_members;
    numbered = b.numbered;
    lined = b.lined;
    packages_above = let h = b.packages_above in rw (length-snoc T.packages path) (omega arith);
    types_above = (later line (suc line) T (omega arith) b).types_above;
    members_above = (later line (suc line) T (omega arith) b).members_above;
  }

  with-type : (line : ℕ) (T : Table) (k : Kind) → Fresh k → ltb (size T) w.types ≡ true → Built line T → Built (suc line) (plus_type T line k)
  unfolding plus_type
  with-type line T k new room b = record {
    paths = b.paths;
    kinds = all_snoc WellFormed T.types k b.kinds (fresh k new);
    few_packages = b.few_packages;
    few_types = few-snoc T.types k w.types room;
    few_members = b.few_members;
    numbered = rw (flat_append members_of T.types (k ∷ []), new.1, append-nil (flat members_of T.types)) b.numbered;
    lined = length-snoc T.type_lines line ∙ ap suc b.lined ∙ sym (length-snoc T.types k);
    packages_above = (later line (suc line) T (omega arith) b).packages_above;
    types_above = above line T.type_lines b.types_above;
    members_above = (later line (suc line) T (omega arith) b).members_above;
  }

  with-member : (line : ℕ) (T : Table) (m : Member) → m.key ≡ obj_key (member_count T) → Says m.name m.pkg m.entity → stands m.entity (last_kind T) ≡ true
      → ltb (member_count T) w.members ≡ true → ltb (length (members_of (last_kind T))) max_per_type ≡ true → Built line T
      → Built (suc line) (plus_member T line m)
  unfolding plus_member
  with-member line T m key says h room each b = record {
    paths = b.paths;
    kinds = λ k i. either (on_last-In (with_member m) (Basic 0) T.types k i) (b.kinds k)
        (λ r. subst WellFormed (sym r.1) (grown m (last_kind T) says h each (b.kinds (last_kind T) r.0)));
    few_packages = b.few_packages;
    few_types = rw (on_last-length (with_member m) T.types) b.few_types;
    few_members = few-snoc T.member_lines line w.members room;
    numbered = keys;
    lined = b.lined ∙ sym (on_last-length (with_member m) T.types);
    packages_above = (later line (suc line) T (omega arith) b).packages_above;
    types_above = (later line (suc line) T (omega arith) b).types_above;
    members_above = above line T.member_lines b.members_above;
  }
    where
      some-type : T.types ≡ [] → ⊥
      some-type e = clash (stands-has m.entity (last_kind T) h) (rw e)

      keys : map (λ x. x.key.0) (flat members_of (on_last (with_member m) T.types)) ≡ up_to (length (T.member_lines ++ (line ∷ [])))
      keys = rw (
        on_last-flat members_of (with_member m) (Basic 0) (m ∷ []) T.types some-type (with-members m (last_kind T) (stands-has m.entity (last_kind T) h)),
        map-append (λ x. x.key.0) (flat members_of T.types) (m ∷ []),
        length-snoc T.member_lines line,
        key,
        b.numbered,
      )

  built-on : (line : ℕ) (T : Table) (l : Line) → Formed l → in_place T l ≡ true → has_room w T l ≡ true → Built line T → Built (suc line) (added T line l)
  unfolding added
  built-on line T (package_line path) ok place room b = with-package line T path ok room b
  built-on line T (type_line k) ok place room b = with-type line T k ok room b
  built-on line T (member_line name pkg type entity) ok place room b =
      with-member line T (record { key = obj_key (member_count T); name = name; pkg = pkg; type = type; entity = entity }) refl ok place
      (and_l (ltb (member_count T) w.members) (ltb (length (members_of (last_kind T))) max_per_type) room)
      (and_r (ltb (member_count T) w.members) (ltb (length (members_of (last_kind T))) max_per_type) room) b

  -- ---- the lines of the text

  -- the table that the lines before a line have built, or a refusal of one of them
  abbrev pub Read : ℕ → Loaded → Type 0
  Read line (refused n at) = (4 ≤ n) × (n ≤ 6) × (at < line)
  Read line (loaded T) = Built line T

  line_read : (line : ℕ) (T : Table) (o : Option Line) → ((l : Line) → o ≡ some l → Formed l) → Built line T → Read (suc line) (line_added w T line o)
  line_read line T none f b = (omega arith, omega arith, omega arith)
  line_read line T (some l) f b =
      cases (in_place T l)
      (λ p. rw p (cases (has_room w T l) (λ r. rw r (built-on line T l (f l refl) p r b)) (λ r. rw r (omega arith, omega arith, omega arith))))
      (λ p. rw p (omega arith, omega arith, omega arith))

  pub read-later : (a b : ℕ) (L : Loaded) → a ≤ b → Read a L → Read b L
  read-later a b (refused n at) le r = let h = r.2 in (r.0, r.1, omega arith)
  read-later a b (loaded T) le r = later a b T le r

  pub lines-read : (line : ℕ) (T : Table) (ps : List Bytes) → Built line T → Read (line + length ps) (lines_from w line T ps)
  unfolding lines_from
  lines-read line T [] b = later line (line + 0) T (omega arith) b
  lines-read line T (last ∷ []) b = cases (empty last) (λ e. rw e (later line (line + 1) T (omega arith) b)) (λ e. rw e (omega arith, omega arith, omega arith))
  lines-read line T (piece ∷ next ∷ rest) b =
      go (line_added w T line (line_of (fields piece))) (line_read line T (line_of (fields piece)) (line-formed (fields piece)) b) (λ U c. lines-read (suc line) U (next ∷ rest) c)
    where
      go : (L : Loaded) → Read (suc line) L → ((U : Table) → Built (suc line) U → Read (suc line + length (next ∷ rest)) (lines_from w (suc line) U (next ∷ rest)))
          → Read (line + length (piece ∷ next ∷ rest)) (elim L [ refused n at ↦ refused n at | loaded U ↦ lines_from w (suc line) U (next ∷ rest) ])
      go (refused n at) r on = read-later (suc line) (line + length (piece ∷ next ∷ rest)) (refused n at) (omega arith) r
      go (loaded U) r on = read-later (suc line + length (next ∷ rest)) (line + length (piece ∷ next ∷ rest)) (lines_from w (suc line) U (next ∷ rest)) (omega arith) (on U r)
