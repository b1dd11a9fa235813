-- What the lines of a sound table refer to is in the table; a key that the table lacks counts as `T basic 0`.
use mathlib.Core.Path.{◌≡◌, subst}
use mathlib.Core.Bool.{◌||◌}
use mathlib.Core.List.{[], map}
use Prim.Native.Nat.{◌<◌}
use native.Mathlib.Omega.{arith}
use native.Mathlib.Decide.{dec_lt}
use lib.ListN.{get_or-eq_default}
use Rattle.objects.specs.Lists.{In, head_or, flat}
use Rattle.objects.specs.declared.TypeKey.{TypeKey}
use Rattle.objects.specs.Table.{Table, size, member_count, Member, Kind, Basic, is_array, is_struct, is_named, refs, members_of, by_value, kind_at, under}
use Rattle.objects.proofs.ListLaws.{cases, either, In-append, In-map, map-In-to, flat-In-to}
use Rattle.objects.proofs.PartLaws.{get_or-In}
use Rattle.objects.proofs.KindLaws.{named-ref}
use Rattle.objects.proofs.Numbers.{up_to-below}
use Rattle.rules.specs.Identity.{parts}
use Rattle.rules.specs.Sound.{Sound, MemberOf}

pub kind-out : (T : Table) (x : TypeKey) → (x.0 < size T → ⊥) → kind_at T x ≡ Basic 0
unfolding kind_at
kind-out T x h = get_or-eq_default T.types (Basic 0) {n = x.0} (omega arith)

-- a member's type
member-in : (T : Table) → Sound T → (x e : TypeKey) → In e (map (λ (m : Member). m.type) (members_of (kind_at T x))) → e.0 < size T
member-in T s x e i = let r = In-map (λ (m : Member). m.type) (members_of (kind_at T x)) e i in rw r.2 (s.typed x r.0 r.1)

-- what a type is made of
pub part-in : (T : Table) → Sound T → (x e : TypeKey) → In e (parts (kind_at T x)) → e.0 < size T
unfolding parts
part-in T s x e i =
    cases (is_named (kind_at T x))
    (λ n. let j : In e [] = rw n at i in absurd j)
    (λ n. either (In-append (refs (kind_at T x)) (map (λ (m : Member). m.type) (members_of (kind_at T x))) e (rw n at i)) (λ j. s.refers x e j) (λ j. member-in T s x e j))

-- what it contains by value
pub content-in : (T : Table) → Sound T → (x e : TypeKey) → In e (by_value (kind_at T x)) → e.0 < size T
content-in T s x e i =
    cases (is_array (kind_at T x) || is_named (kind_at T x))
    (λ b. s.refers x e (rw b at i))
    (λ b. cases (is_struct (kind_at T x)) (λ c. member-in T s x e (rw (b, c) at i)) (λ c. let j : In e [] = rw (b, c) at i in absurd j))

-- a named type's u
pub under-in : (T : Table) → Sound T → (x : TypeKey) → x.0 < size T → (under T x).0 < size T
unfolding under
under-in T s x h = cases (is_named (kind_at T x)) (λ e. rw e (s.refers x (head_or x (refs (kind_at T x))) (named-ref x (kind_at T x) e))) (λ e. rw e h)

-- a member's own number
pub member-known : (T : Table) → Sound T → (x : TypeKey) (m : Member) → MemberOf T x m → m.key.0 < member_count T
unfolding kind_at
member-known T s x m i =
    elim (dec_lt x.0 (size T)) [
      | yes h ↦ up_to-below (member_count T) m.key.0
          (subst (In m.key.0) s.numbered (map-In-to (λ (o : Member). o.key.0) (flat members_of T.types) m (flat-In-to members_of T.types (kind_at T x) m (get_or-In T.types x.0 (Basic 0) h) i)))
      | no h ↦ absurd (subst (λ (k : Kind). In m (members_of k)) (kind-out T x h) i)
    ]
