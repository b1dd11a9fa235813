-- The disk incident as a growth: the text in which the catalogue embeds a cartridge too is the text in which it embeds a block writer alone, grown
-- (`disk-grown`).
use mathlib.Core.Path.{◌≡◌, refl, ap}
use mathlib.Core.Bool.{true, false}
use mathlib.Core.List.{[], ◌∷◌}
use mathlib.Core.Logic.{inl, inr}
use mathlib.Core.Option.{some}
use Prim.Native.Nat.{ℕ, zero, suc, ◌+◌, ◌<◌}
use Prim.Native.String.{String}
use native.Mathlib.Omega.{arith}
use Rattle.objects.specs.Lists.{In}
use Rattle.objects.specs.declared.ObjKey.{ObjKey}
use Rattle.objects.specs.Table.{Table, type_key, obj_key, package_key, Entity, Field, Method, Member, Tuple, Func, Struct, Iface, Named, Pointer, kind_at, no_table, with_packages, with_types, with_type_lines, with_member_lines}
use Rattle.text.specs.Bytes.{ascii}
use Rattle.rules.specs.Load.{load, loaded}
use Rattle.rules.specs.Rows.{called}
use Rattle.growth.specs.Grown.{path_at, known_as, Numbers, Grew, grew-tuple, grew-func, grew-iface, grew-pointer, grew-struct, grew-named, Grown, GrownTexts}
use Rattle.growth.specs.Incident.{alone, both}
use Rattle.growth.proofs.Shown.{free-by, shift, shift_in, type-own, of_one}

-- ---- the two tables

-- a member line of package p
abbrev pub line : (key : ℕ) → String → (p type : ℕ) → Entity → Member
line key name p type entity = record { key = obj_key key; name = ascii name; pkg = some (package_key p); type = type_key type; entity = entity }

abbrev pub writer : Table
writer =
    with_packages (ascii "disk" ∷ [])
    (with_types (
    Tuple []
    ∷ Func false (type_key 0) (type_key 0)
    ∷ Struct []
    ∷ Named (type_key 2) (line 0 "Close" 0 1 (Method true) ∷ [])
    ∷ Struct (line 1 "BlockWriter" 0 3 (Field true []) ∷ [])
    ∷ Named (type_key 4) []
    ∷ Pointer (type_key 5)
    ∷ Iface (line 2 "Close" 0 1 (Method false) ∷ [])
    ∷ []
    )
    (with_type_lines (3 ∷ 4 ∷ 5 ∷ 6 ∷ 8 ∷ 10 ∷ 11 ∷ 12 ∷ [])
    (with_member_lines (7 ∷ 9 ∷ 13 ∷ []) no_table)))

abbrev pub catalogue : Table
catalogue =
    with_packages (ascii "disk" ∷ [])
    (with_types (
    Tuple []
    ∷ Func false (type_key 0) (type_key 0)
    ∷ Struct []
    ∷ Named (type_key 2) (line 0 "Close" 0 1 (Method true) ∷ [])
    ∷ Struct []
    ∷ Named (type_key 4) (line 1 "Close" 0 1 (Method true) ∷ [])
    ∷ Struct (line 2 "BlockWriter" 0 3 (Field true []) ∷ line 3 "Cartridge" 0 5 (Field true []) ∷ [])
    ∷ Named (type_key 6) []
    ∷ Pointer (type_key 7)
    ∷ Iface (line 4 "Close" 0 1 (Method false) ∷ [])
    ∷ []
    )
    (with_type_lines (3 ∷ 4 ∷ 5 ∷ 6 ∷ 8 ∷ 9 ∷ 11 ∷ 14 ∷ 15 ∷ 16 ∷ [])
    (with_member_lines (7 ∷ 10 ∷ 12 ∷ 13 ∷ 17 ∷ []) no_table)))

-- two types are put in before type 4, a member before member 1 and one before member 2
abbrev pub numbers : Numbers
numbers = record { pk = λ p. p; ty = λ t. type_key (shift 4 2 t.0); mem = λ m. obj_key (m.0 + m.0) }

grew-at : (t : ℕ) → t < 8 → Grew numbers writer (type_key t) (kind_at writer (type_key t)) (kind_at catalogue (type_key (shift 4 2 t)))
unfolding kind_at
grew-at zero h = grew-tuple
grew-at (suc zero) h = grew-func
grew-at (suc (suc zero)) h = grew-struct [] refl (inl refl)
grew-at (suc (suc (suc zero))) h = grew-named [] refl
grew-at (suc (suc (suc (suc zero)))) h = grew-struct (line 3 "Cartridge" 0 5 (Field true []) ∷ []) refl (inr (free-by numbers writer (type_key 4) 5 refl refl))
grew-at (suc (suc (suc (suc (suc zero))))) h = grew-named [] refl
grew-at (suc (suc (suc (suc (suc (suc zero)))))) h = grew-pointer
grew-at (suc (suc (suc (suc (suc (suc (suc zero))))))) h = grew-iface
grew-at (suc (suc (suc (suc (suc (suc (suc (suc t)))))))) h = absurd (omega arith)

pub disk : Grown numbers writer catalogue
disk = record {
  package_known = λ p h. of_one (λ q. numbers.pk q ≡ known_as writer catalogue q) p h refl;
  type_in = λ t h. shift_in 4 2 8 t.0 h;
  type_own = λ t u h k e. type-own 4 2 t u e;
  member_in = λ m h. omega arith;
  member_own = λ m o h k e. let z : m.0 + m.0 ≡ o.0 + o.0 = ap (λ (x : ObjKey). x.0) e in let same : m.0 ≡ o.0 = omega arith in ap obj_key same;
  paths = λ p h. of_one (λ q. In (path_at writer q) catalogue.packages) p h (inl refl);
  grew = λ t h. grew-at t.0 h;
}

pub writer-loads : load alone ≡ loaded writer
unfolding called
writer-loads = refl

pub catalogue-loads : load both ≡ loaded catalogue
unfolding called
catalogue-loads = refl

-- THE DISK INCIDENT IS A GROWTH
unfoldable pub disk-grown : GrownTexts alone both
disk-grown = record { old = writer; new = catalogue; old_loads = writer-loads; new_loads = catalogue-loads; numbers = numbers; grown = disk }
