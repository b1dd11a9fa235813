-- A sound table, written out, loads as itself; what loaded stands on the lines of its text; and one text is one table.
use mathlib.Core.Path.{◌≡◌, refl, sym, ap, subst, ◌∙◌}
use mathlib.Core.Bool.{true}
use mathlib.Core.List.{List, [], ◌∷◌, map}
use mathlib.Core.Logic.{inl, inr}
use mathlib.Core.Option.{Option, none, some}
use Prim.Native.Nat.{ℕ, suc, ◌≤◌}
use native.Mathlib.Omega.{arith}
use lib.Dec.{ltb}
use lib.ListN.{length, get_or, length-map}
use borrow.Author.Tests.{ltb-true, ltb-false}
use Rattle.objects.specs.Bounds.{max_reference, max_text}
use Rattle.objects.specs.Lists.{Bytes, In, flat}
use Rattle.objects.specs.declared.TypeKey.{TypeKey}
use Rattle.objects.specs.declared.PackageKey.{PackageKey}
use Rattle.objects.specs.Table.{Table, Numbered, member_count, type_key, Member, Kind, Basic, Array, Slice, Pointer, Map, Chan, Tuple, Func, Struct}
use Rattle.objects.specs.Table.{Iface, Named, refs, members_of, has_package, kind_at, under, bare, pointer_at, named_pointer, iface_under, path_of}
use Rattle.objects.proofs.ListLaws.{cases, either, In-append, In-map, In-flat}
use Rattle.objects.proofs.Numbers.{up_to-length}
use Rattle.rules.specs.Forms.{Line, package_line}
use Rattle.rules.specs.Load.{refused, loaded, stands, load_within, load}
use Rattle.rules.specs.Members.{identity_from, identity_of}
use Rattle.rules.specs.Sound.{Sound, MemberOf}
use Rattle.rules.proofs.FormLaws.{InRange}
use Rattle.rules.proofs.Sounds.{loads-sound}
use Rattle.edits.specs.TableText.{holding, line_of_type, line_of_member, lines_of_kind, lines_of, text_of}
use Rattle.table_text.specs.Numbered.{numbered, LinesNumbered}
use Rattle.table_text.specs.Shaped.{Sayable, package_number, all_members, Shaped}
use Rattle.table_text.proofs.TextBack.{text-back}
use Rattle.table_text.proofs.TextLoads.{numbered-lined, numbered-count, text-checked}
use Rattle.table_text.proofs.SoundPasses.{sound-checked}

-- ---- a sound table is of the right shape

-- where one of a list stands
place : {A : Type 0} (l : List A) (x d : A) → In x l → (n : ℕ) × (get_or l n d ≡ x)
place {A = A} [] x d x3 = elim x3 [ ]
place (y ∷ l) x d (inl e) = (0, sym e)
place (y ∷ l) x d (inr i) = let r = place l x d i in (suc r.0, r.1)

holding-none : (k : Kind) → (members_of (holding [] k) ≡ []) × (refs (holding [] k) ≡ refs k)
holding-none (Basic k) = (refl, refl)
holding-none (Array n e) = (refl, refl)
holding-none (Slice e) = (refl, refl)
holding-none (Pointer e) = (refl, refl)
holding-none (Map k e) = (refl, refl)
holding-none (Chan d e) = (refl, refl)
holding-none (Tuple es) = (refl, refl)
holding-none (Func v p r) = (refl, refl)
holding-none (Struct ms) = (refl, refl)
holding-none (Iface ms) = (refl, refl)
holding-none (Named u ms) = (refl, refl)

module _ (T : Table) (s : Sound T) where
  -- each kind of the table is that of a type
  type-of : (k : Kind) → In k T.types → (t : TypeKey) × (kind_at T t ≡ k)
  unfolding kind_at
  type-of k i = let r = place T.types k (Basic 0) i in (type_key r.0, r.1)

  in-range : (t : TypeKey) (k : Kind) → kind_at T t ≡ k → InRange (holding [] k)
  in-range t (Basic k) e = s.basics t k e
  in-range t (Array n x) e = s.arrays t n x e
  in-range t (Slice x) e = tt
  in-range t (Pointer x) e = tt
  in-range t (Map k x) e = tt
  in-range t (Chan d x) e = tt
  in-range t (Tuple es) e = tt
  in-range t (Func v p r) e = tt
  in-range t (Struct ms) e = tt
  in-range t (Iface ms) e = tt
  in-range t (Named u ms) e = tt

  type-said : (t : TypeKey) → Sayable (line_of_type (kind_at T t))
  type-said t = record {
    formed = (in-range t (kind_at T t) refl, (holding-none (kind_at T t)).0);
    short = λ n i. few n (In-map (λ e. e.0) (refs (holding [] (kind_at T t))) n i);
  }
    where
      few : (n : ℕ) → (e : TypeKey) × In e (refs (holding [] (kind_at T t))) × (n ≡ e.0) → n ≤ max_reference
      few n r = let h = s.refers t r.0 (rw (holding-none (kind_at T t)).1 at r.1) in let e = r.2 in omega (arith, s.few_types)

  package-numbered : (p : Option PackageKey) → has_package T p ≡ true → Numbered p
  package-numbered none h = tt
  package-numbered (some p) h = let l = ltb-true p.0 (length T.packages) h in omega (arith, s.few_packages)

  package-short : (p : Option PackageKey) → has_package T p ≡ true → (n : ℕ) → In n (package_number p) → n ≤ max_reference
  package-short none h n i = absurd i
  package-short (some p) h n (inr x'') = elim x'' [ ]
  package-short (some p) h n (inl e) = let l = ltb-true p.0 (length T.packages) h in omega (arith, s.few_packages)

  member-said : (t : TypeKey) (m : Member) → MemberOf T t m → Sayable (line_of_member m)
  member-said t m i = record {
    formed = record { named = s.names t m i; numbered = package-numbered m.pkg (s.packaged t m i); not_blank = s.method_named t m i; tagged = s.tags t m i };
    short = short;
  }
    where
      short : (n : ℕ) → In n (m.type.0 ∷ package_number m.pkg) → n ≤ max_reference
      short n (inl e) = let l = s.typed t m i in omega (arith, s.few_types)
      short n (inr j) = package-short m.pkg (s.packaged t m i) n j

  kind-said : (k : Kind) → (t : TypeKey) × (kind_at T t ≡ k) → (l : Line) → In l (lines_of_kind k) → Sayable l
  kind-said k r l i = go (rw r.1 at (type-said r.0)) (λ m j. member-said r.0 m (rw r.1 j)) i
    where
      go : Sayable (line_of_type k) → ((m : Member) → In m (members_of k) → Sayable (line_of_member m)) → In l (lines_of_kind k) → Sayable l
      go h g (inl e) = rw e h
      go h g (inr j) = let q = In-map line_of_member (members_of k) l j in rw q.2 (g q.0 q.1)

  line-said : (l : Line) → In l (lines_of T) → Sayable l
  unfolding lines_of
  line-said l i =
      either (In-append (map package_line T.packages) (flat lines_of_kind T.types) l i)
      (λ j. let r = In-map package_line T.packages l j in rw r.2 (record { formed = s.paths r.0 r.1; short = λ n k. absurd k }))
      (λ j. let r = In-flat lines_of_kind T.types l j in kind-said r.0 (type-of r.0 r.1) l r.2)

  member-total : length (all_members T) ≡ member_count T
  member-total = sym (length-map (all_members T) (λ m. m.key.0)) ∙ ap length s.numbered ∙ up_to-length (member_count T)

  pub sound-shaped : Shaped T
  sound-shaped = record {
    said = line-said;
    standing = λ k m i j. let r = type-of k i in subst (λ x. In m (members_of x) → stands m.entity x ≡ true) r.1 (s.standing r.0 m) j;
    few_packages = s.few_packages;
    few_types = s.few_types;
    few_members = rw member-total s.few_members;
    few_per_type = λ k i. let r = type-of k i in rw r.1 at (s.few_per_type r.0);
    keyed = rw member-total s.numbered;
  }

  -- ---- the line numbers of a sound table may be those of its text

  pub sound-numbered : Sound (numbered T)
  unfolding numbered kind_at under bare pointer_at named_pointer iface_under path_of identity_from identity_of
  sound-numbered = record {
    paths = s.paths;
    names = s.names;
    method_named = s.method_named;
    tags = s.tags;
    basics = s.basics;
    arrays = s.arrays;
    standing = s.standing;
    few_packages = s.few_packages;
    few_types = s.few_types;
    few_members = rw (numbered-count T sound-shaped, member-total) s.few_members;
    few_per_type = s.few_per_type;
    numbered = rw (numbered-count T sound-shaped, member-total) s.numbered;
    lined = numbered-lined T sound-shaped;
    ordered = s.ordered;
    refers = s.refers;
    typed = s.typed;
    packaged = s.packaged;
    allowed = s.allowed;
    allowed_member = s.allowed_member;
    apart = s.apart;
    ascend = s.ascend;
    both = s.both;
    well_founded = s.well_founded;
  }

  -- A SOUND TABLE, WRITTEN OUT, LOADS: as the table that it was, on the lines of the text
  pub text-loads-numbered : length (text_of T) ≤ max_text → load (text_of T) ≡ loaded (numbered T)
  text-loads-numbered short = text-checked T sound-shaped short ∙ sound-checked (numbered T) sound-numbered

  -- and as itself, if it stands on those lines already
  pub text-loads : LinesNumbered T → length (text_of T) ≤ max_text → load (text_of T) ≡ loaded T
  text-loads lines short = text-loads-numbered short ∙ ap loaded lines

-- ---- what loaded

-- no longer than it may be
pub loaded-short : (text : Bytes) (T : Table) → load text ≡ loaded T → length text ≤ max_text
unfolding load_within
loaded-short text T h =
    cases (ltb max_text (length text))
    (λ e. let q : refused 2 0 ≡ loaded T = rw e at h in let z : ◌≡◌ {A = ℕ} 0 1 = cc in absurd (omega arith))
    (λ e. ltb-false max_text (length text) e)

-- WHAT LOADED STANDS ON THE LINES OF ITS TEXT
pub loaded-numbered : (text : Bytes) (T : Table) → load text ≡ loaded T → LinesNumbered T
loaded-numbered text T h =
    let e = text-back text T h in
    let a : load (text_of T) ≡ loaded T = ap load e ∙ h in
    let b : load (text_of T) ≡ loaded (numbered T) = text-loads-numbered T (loads-sound text T h) (rw e (loaded-short text T h)) in
    cc

-- ONE TEXT, ONE TABLE
pub text-injective : (a b : Bytes) (T U : Table) → load a ≡ loaded T → load b ≡ loaded U → text_of T ≡ text_of U → T ≡ U
text-injective a b T U p q e =
    let x = text-back a T p in
    let y = text-back b U q in
    let z : a ≡ b = sym x ∙ e ∙ y in
    let w : loaded T ≡ loaded U = sym p ∙ ap load z ∙ q in
    cc
