-- What is kept of a type by one that is like it: its kind, what it stands for, one pointer removed, its members.
use mathlib.Core.Path.{◌≡◌, refl, ap, ap₂, ◌∙◌, subst}
use mathlib.Core.Bool.{false, cond, ◌&&◌}
use mathlib.Core.List.{List, [], ◌∷◌, ◌++◌, map, append-nil}
use Prim.Native.Nat.{ℕ}
use lib.Dec.{eqb}
use Rattle.objects.specs.Lists.{head_or}
use Rattle.objects.proofs.ListLaws.{cases, clash}
use Rattle.objects.proofs.PairLaws.{AllPairs}
use Rattle.objects.specs.declared.TypeKey.{TypeKey}
use Rattle.objects.specs.Table.{Table, Member, Kind, Basic, Array, Slice, Pointer, Map, Chan, Tuple, Func, Struct, Iface, Named, kind_number, is_named, refs}
use Rattle.objects.specs.Table.{members_of, fields_of, declared_of, all_methods_of, kind_at, under, bare, pointer_at, iface_under, named_pointer, all_methods}
use Rattle.rules.specs.Identity.{own_number}
use Rattle.carry.specs.Maps.{CarriedMember, CarriedMembers, CarriedKind, Likeness}
use Rattle.carry.proofs.Pairing.{pairs-append, pairs-mapped}

-- the own number of a type that is not named is none of its type number
pub own-other : (t u : TypeKey) (k : Kind) → is_named k ≡ false → own_number t k ≡ own_number u k
unfolding own_number
own-other t u (Basic k) e = refl
own-other t u (Array n x) e = refl
own-other t u (Slice x) e = refl
own-other t u (Pointer x) e = refl
own-other t u (Map k x) e = refl
own-other t u (Chan d x) e = refl
own-other t u (Tuple es) e = refl
own-other t u (Func v p r) e = refl
own-other t u (Struct ms) e = refl
own-other t u (Iface ms) e = refl
own-other t u (Named x ms) e = clash refl e

-- a kind's members are in one of its three lists
pub three-lists : (k : Kind) → declared_of k ++ fields_of k ++ all_methods_of k ≡ members_of k
three-lists (Basic k) = refl
three-lists (Array n e) = refl
three-lists (Slice e) = refl
three-lists (Pointer e) = refl
three-lists (Map k e) = refl
three-lists (Chan d e) = refl
three-lists (Tuple es) = refl
three-lists (Func v p r) = refl
three-lists (Struct ms) = append-nil ms
three-lists (Iface ms) = refl
three-lists (Named u ms) = append-nil (ms ++ []) ∙ append-nil ms

module _ (R : TypeKey → TypeKey → Type 0) where
  head-pairs : (d e : TypeKey) (l m : List TypeKey) → R d e → AllPairs R l m → R (head_or d l) (head_or e m)
  head-pairs d e [] [] r a = r
  head-pairs d e [] (y ∷ m) r a = absurd a
  head-pairs d e (x ∷ l) [] r a = absurd a
  head-pairs d e (x ∷ l) (y ∷ m) r a = a.0

  module _ (T U : Table) where
    pub all-members : (t : TypeKey) (k l : Kind) → CarriedKind R T U t k l → CarriedMembers R T U (members_of k) (members_of l)
    all-members t k l c =
        subst (λ ns. CarriedMembers R T U (members_of k) ns) (three-lists l)
        (subst (λ ms. CarriedMembers R T U ms (declared_of l ++ fields_of l ++ all_methods_of l)) (three-lists k)
        (pairs-append (CarriedMember R T U) (declared_of k ++ fields_of k) (all_methods_of k) (declared_of l ++ fields_of l) (all_methods_of l)
        (pairs-append (CarriedMember R T U) (declared_of k) (fields_of k) (declared_of l) (fields_of l) c.declared c.fields)
        c.methods))

    -- the types of members that are carried
    pub types-carried : (ms ns : List Member) → CarriedMembers R T U ms ns → AllPairs R (map (λ (m : Member). m.type) ms) (map (λ (n : Member). n.type) ns)
    types-carried ms ns c = pairs-mapped (CarriedMember R T U) R (λ m. m.type) (λ n. n.type) (λ m n d. d.type) ms ns c

module _ (R : TypeKey → TypeKey → Type 0) (T U : Table) (g : Likeness R T U) where
  pub kind-kept : (t u : TypeKey) → R t u → kind_number (kind_at U u) ≡ kind_number (kind_at T t)
  kind-kept t u r = (g.line t u r).kind

  pub members_kept : (t u : TypeKey) → R t u → CarriedMembers R T U (members_of (kind_at T t)) (members_of (kind_at U u))
  members_kept t u r = all-members R T U t (kind_at T t) (kind_at U u) (g.line t u r)

  -- what `under` and `bare` do: the first reference of a kind of one number
  first-kept : (number : ℕ) (t u : TypeKey) → R t u
      → R (cond (eqb (kind_number (kind_at T t)) number) (head_or t (refs (kind_at T t))) t) (cond (eqb (kind_number (kind_at U u)) number) (head_or u (refs (kind_at U u))) u)
  first-kept number t u r =
      rw (kind-kept t u r)
      (cases (eqb (kind_number (kind_at T t)) number)
      (λ e. rw e (head-pairs R t u (refs (kind_at T t)) (refs (kind_at U u)) r (g.line t u r).refers))
      (λ e. rw e r))

  pub under-kept : (t u : TypeKey) → R t u → R (under T t) (under U u)
  unfolding under
  under-kept = first-kept 10

  pub bare-kept : (t u : TypeKey) → R t u → R (bare T t) (bare U u)
  unfolding bare
  bare-kept = first-kept 3

  pub pointer-kept : (t u : TypeKey) → R t u → pointer_at U u ≡ pointer_at T t
  unfolding pointer_at
  pointer-kept t u r = ap (λ k. eqb k 3) (kind-kept t u r)

  pub named-kept : (t u : TypeKey) → R t u → is_named (kind_at U u) ≡ is_named (kind_at T t)
  named-kept t u r = ap (λ k. eqb k 10) (kind-kept t u r)

  pub own-kept : (t u : TypeKey) → R t u → is_named (kind_at T t) ≡ false → own_number u (kind_at U u) ≡ own_number t (kind_at T t)
  own-kept t u r e = own-other u t (kind_at U u) (named-kept t u r ∙ e) ∙ (g.line t u r).number

  pub iface-kept : (t u : TypeKey) → R t u → iface_under U u ≡ iface_under T t
  unfolding iface_under
  iface-kept t u r = ap (λ k. eqb k 9) (kind-kept (under T t) (under U u) (under-kept t u r))

  pub named-pointer-kept : (t u : TypeKey) → R t u → named_pointer U u ≡ named_pointer T t
  unfolding named_pointer
  named-pointer-kept t u r = ap₂ (λ k u. eqb k 10 && eqb u 3) (kind-kept t u r) (kind-kept (under T t) (under U u) (under-kept t u r))

  pub fields-kept : (t u : TypeKey) → R t u → CarriedMembers R T U (fields_of (kind_at T (under T t))) (fields_of (kind_at U (under U u)))
  fields-kept t u r = (g.line (under T t) (under U u) (under-kept t u r)).fields

  pub methods-kept : (t u : TypeKey) → R t u → CarriedMembers R T U (all_methods T t) (all_methods U u)
  unfolding all_methods
  methods-kept t u r = (g.line (under T t) (under U u) (under-kept t u r)).methods
