-- The other pairs of texts of specs/Incident.antt are growths too.
use mathlib.Core.Path.{◌≡◌, refl, ap}
use mathlib.Core.Bool.{true, false}
use mathlib.Core.List.{[], ◌∷◌}
use mathlib.Core.Logic.{inl, inr}
use Prim.Native.Nat.{ℕ, zero, suc, ◌<◌}
use native.Mathlib.Omega.{arith}
use Rattle.objects.specs.declared.TypeKey.{TypeKey}
use Rattle.objects.specs.Lists.{In}
use Rattle.objects.specs.Table.{Table, type_key, obj_key, package_key, Field, Method, Basic, Tuple, Func, Struct, Iface, Named, Pointer, kind_at, no_table, with_packages, with_types, with_type_lines, with_member_lines}
use Rattle.text.specs.Bytes.{ascii}
use Rattle.rules.specs.Load.{load, loaded}
use Rattle.rules.specs.Rows.{called}
use Rattle.growth.specs.Grown.{path_at, known_as, Numbers, Grew, grew-basic, grew-tuple, grew-func, grew-iface, grew-pointer, grew-struct, grew-named, GrownTexts}
use Rattle.growth.specs.Incident.{alone, both, three, elsewhere, own, apart, between}
use Rattle.growth.proofs.Shown.{free-by, shift, shift_in, member-own, of_one}
use Rattle.growth.proofs.Disk.{line, writer, catalogue, writer-loads, catalogue-loads}

-- ---- a package and a type in front, and a method of the block writer: P, T and M lines

abbrev pub flushing : Table
flushing =
    with_packages (ascii "archive" ∷ ascii "disk" ∷ [])
    (with_types (
    Basic 2
    ∷ Tuple []
    ∷ Func false (type_key 1) (type_key 1)
    ∷ Struct []
    ∷ Named (type_key 3) (line 0 "Close" 1 2 (Method true) ∷ line 1 "Flush" 1 2 (Method true) ∷ [])
    ∷ Struct (line 2 "BlockWriter" 1 4 (Field true []) ∷ [])
    ∷ Named (type_key 5) []
    ∷ Pointer (type_key 6)
    ∷ Iface (line 3 "Close" 1 2 (Method false) ∷ [])
    ∷ []
    )
    (with_type_lines (4 ∷ 5 ∷ 6 ∷ 7 ∷ 8 ∷ 11 ∷ 13 ∷ 14 ∷ 15 ∷ [])
    (with_member_lines (9 ∷ 10 ∷ 12 ∷ 16 ∷ []) no_table)))

abbrev pub moved : Numbers
moved = record { pk = λ p. package_key (suc p.0); ty = λ t. type_key (suc t.0); mem = λ m. obj_key (shift 1 1 m.0) }

pub flushing-grew : (t : ℕ) → t < 8 → Grew moved writer (type_key t) (kind_at writer (type_key t)) (kind_at flushing (type_key (suc t)))
unfolding kind_at
flushing-grew zero h = grew-tuple
flushing-grew (suc zero) h = grew-func
flushing-grew (suc (suc zero)) h = grew-struct [] refl (inl refl)
flushing-grew (suc (suc (suc zero))) h = grew-named (line 1 "Flush" 1 2 (Method true) ∷ []) refl
flushing-grew (suc (suc (suc (suc zero)))) h = grew-struct [] refl (inl refl)
flushing-grew (suc (suc (suc (suc (suc zero))))) h = grew-named [] refl
flushing-grew (suc (suc (suc (suc (suc (suc zero)))))) h = grew-pointer
flushing-grew (suc (suc (suc (suc (suc (suc (suc zero))))))) h = grew-iface
flushing-grew (suc (suc (suc (suc (suc (suc (suc (suc t)))))))) h = absurd (omega arith)

pub flushing-loads : load elsewhere ≡ loaded flushing
unfolding called
flushing-loads = refl

unfoldable pub elsewhere-grown : GrownTexts alone elsewhere
elsewhere-grown = record {
  old = writer;
  new = flushing;
  old_loads = writer-loads;
  new_loads = flushing-loads;
  numbers = moved;
  grown = record {
    package_known = λ p h. of_one (λ q. moved.pk q ≡ known_as writer flushing q) p h refl;
    type_in = λ t h. omega arith;
    type_own = λ t u h k e. let z : suc t.0 ≡ suc u.0 = ap (λ (x : TypeKey). x.0) e in let same : t.0 ≡ u.0 = omega arith in ap type_key same;
    member_in = λ m h. shift_in 1 1 3 m.0 h;
    member_own = λ m o h k e. member-own 1 1 m o e;
    paths = λ p h. of_one (λ q. In (path_at writer q) flushing.packages) p h (inr (inl refl));
    grew = λ t h. flushing-grew t.0 h;
  };
}

-- ---- the catalogue's own `Close`: an M line at the end of a named type

abbrev pub closing : Table
closing =
    with_packages (ascii "disk" ∷ [])
    (with_types (
    Tuple []
    ∷ Func false (type_key 0) (type_key 0)
    ∷ Struct []
    ∷ Named (type_key 2) (line 0 "Close" 0 1 (Method true) ∷ [])
    ∷ Struct (line 1 "BlockWriter" 0 3 (Field true []) ∷ [])
    ∷ Named (type_key 4) (line 2 "Close" 0 1 (Method true) ∷ [])
    ∷ Pointer (type_key 5)
    ∷ Iface (line 3 "Close" 0 1 (Method false) ∷ [])
    ∷ []
    )
    (with_type_lines (3 ∷ 4 ∷ 5 ∷ 6 ∷ 8 ∷ 10 ∷ 12 ∷ 13 ∷ [])
    (with_member_lines (7 ∷ 9 ∷ 11 ∷ 14 ∷ []) no_table)))

-- only members from a number on move up, by one
abbrev pub from : ℕ → Numbers
from k = record { pk = λ p. p; ty = λ t. t; mem = λ m. obj_key (shift k 1 m.0) }

pub closing-grew : (t : ℕ) → t < 8 → Grew (from 2) writer (type_key t) (kind_at writer (type_key t)) (kind_at closing (type_key t))
unfolding kind_at
closing-grew zero h = grew-tuple
closing-grew (suc zero) h = grew-func
closing-grew (suc (suc zero)) h = grew-struct [] refl (inl refl)
closing-grew (suc (suc (suc zero))) h = grew-named [] refl
closing-grew (suc (suc (suc (suc zero)))) h = grew-struct [] refl (inl refl)
closing-grew (suc (suc (suc (suc (suc zero))))) h = grew-named (line 2 "Close" 0 1 (Method true) ∷ []) refl
closing-grew (suc (suc (suc (suc (suc (suc zero)))))) h = grew-pointer
closing-grew (suc (suc (suc (suc (suc (suc (suc zero))))))) h = grew-iface
closing-grew (suc (suc (suc (suc (suc (suc (suc (suc t)))))))) h = absurd (omega arith)

pub closing-loads : load own ≡ loaded closing
unfolding called
closing-loads = refl

unfoldable pub own-grown : GrownTexts alone own
own-grown = record {
  old = writer;
  new = closing;
  old_loads = writer-loads;
  new_loads = closing-loads;
  numbers = from 2;
  grown = record {
    package_known = λ p h. of_one (λ q. (from 2).pk q ≡ known_as writer closing q) p h refl;
    type_in = λ t h. h;
    type_own = λ t u h k e. e;
    member_in = λ m h. shift_in 2 1 3 m.0 h;
    member_own = λ m o h k e. member-own 2 1 m o e;
    paths = λ p h. of_one (λ q. In (path_at writer q) closing.packages) p h (inl refl);
    grew = λ t h. closing-grew t.0 h;
  };
}

-- ---- a third type that the catalogue embeds: T lines with theirs, and an F line

abbrev pub taping : Table
taping =
    with_packages (ascii "disk" ∷ [])
    (with_types (
    Tuple []
    ∷ Func false (type_key 0) (type_key 0)
    ∷ Struct []
    ∷ Named (type_key 2) (line 0 "Close" 0 1 (Method true) ∷ [])
    ∷ Struct []
    ∷ Named (type_key 4) (line 1 "Close" 0 1 (Method true) ∷ [])
    ∷ Struct (line 2 "BlockWriter" 0 3 (Field true []) ∷ line 3 "Cartridge" 0 5 (Field true []) ∷ line 4 "Tape" 0 11 (Field true []) ∷ [])
    ∷ Named (type_key 6) []
    ∷ Pointer (type_key 7)
    ∷ Iface (line 5 "Close" 0 1 (Method false) ∷ [])
    ∷ Struct []
    ∷ Named (type_key 10) (line 6 "Close" 0 1 (Method true) ∷ [])
    ∷ []
    )
    (with_type_lines (3 ∷ 4 ∷ 5 ∷ 6 ∷ 8 ∷ 9 ∷ 11 ∷ 15 ∷ 16 ∷ 17 ∷ 19 ∷ 20 ∷ [])
    (with_member_lines (7 ∷ 10 ∷ 12 ∷ 13 ∷ 14 ∷ 18 ∷ 21 ∷ []) no_table)))

pub taping-grew : (t : ℕ) → t < 10 → Grew (from 4) catalogue (type_key t) (kind_at catalogue (type_key t)) (kind_at taping (type_key t))
unfolding kind_at
taping-grew zero h = grew-tuple
taping-grew (suc zero) h = grew-func
taping-grew (suc (suc zero)) h = grew-struct [] refl (inl refl)
taping-grew (suc (suc (suc zero))) h = grew-named [] refl
taping-grew (suc (suc (suc (suc zero)))) h = grew-struct [] refl (inl refl)
taping-grew (suc (suc (suc (suc (suc zero))))) h = grew-named [] refl
taping-grew (suc (suc (suc (suc (suc (suc zero)))))) h = grew-struct (line 4 "Tape" 0 11 (Field true []) ∷ []) refl (inr (free-by (from 4) catalogue (type_key 6) 7 refl refl))
taping-grew (suc (suc (suc (suc (suc (suc (suc zero))))))) h = grew-named [] refl
taping-grew (suc (suc (suc (suc (suc (suc (suc (suc zero)))))))) h = grew-pointer
taping-grew (suc (suc (suc (suc (suc (suc (suc (suc (suc zero))))))))) h = grew-iface
taping-grew (suc (suc (suc (suc (suc (suc (suc (suc (suc (suc t)))))))))) h = absurd (omega arith)

pub taping-loads : load three ≡ loaded taping
unfolding called
taping-loads = refl

unfoldable pub three-grown : GrownTexts both three
three-grown = record {
  old = catalogue;
  new = taping;
  old_loads = catalogue-loads;
  new_loads = taping-loads;
  numbers = from 4;
  grown = record {
    package_known = λ p h. of_one (λ q. (from 4).pk q ≡ known_as catalogue taping q) p h refl;
    type_in = λ t h. omega arith;
    type_own = λ t u h k e. e;
    member_in = λ m h. let l = shift_in 4 1 5 m.0 h in omega arith;
    member_own = λ m o h k e. member-own 4 1 m o e;
    paths = λ p h. of_one (λ q. In (path_at catalogue q) taping.packages) p h (inl refl);
    grew = λ t h. taping-grew t.0 h;
  };
}

-- ---- a package between two old ones

abbrev pub first_and_last : Table
first_and_last =
    with_packages (ascii "a" ∷ ascii "c" ∷ [])
    (with_types (Basic 2 ∷ Struct (line 0 "x" 1 0 (Field false []) ∷ []) ∷ [])
    (with_type_lines (4 ∷ 5 ∷ [])
    (with_member_lines (6 ∷ []) no_table)))

abbrev pub all_three : Table
all_three =
    with_packages (ascii "a" ∷ ascii "b" ∷ ascii "c" ∷ [])
    (with_types (Basic 2 ∷ Struct (line 0 "x" 2 0 (Field false []) ∷ []) ∷ [])
    (with_type_lines (5 ∷ 6 ∷ [])
    (with_member_lines (7 ∷ []) no_table)))

-- package 1 becomes package 2, as its path says; all other numbers stay
abbrev pub by_path : Numbers
by_path = record { pk = known_as first_and_last all_three; ty = λ t. t; mem = λ m. m }

pub between-grew : (t : ℕ) → t < 2 → Grew by_path first_and_last (type_key t) (kind_at first_and_last (type_key t)) (kind_at all_three (type_key t))
unfolding kind_at
between-grew zero h = grew-basic
between-grew (suc zero) h = grew-struct [] refl (inl refl)
between-grew (suc (suc t)) h = absurd (omega arith)

pub between-paths : (p : ℕ) → p < 2 → In (path_at first_and_last (package_key p)) all_three.packages
between-paths zero h = inl refl
between-paths (suc zero) h = inr (inr (inl refl))
between-paths (suc (suc p)) h = absurd (omega arith)

pub apart-loads : load apart ≡ loaded first_and_last
unfolding called
apart-loads = refl

pub between-loads : load between ≡ loaded all_three
unfolding called
between-loads = refl

unfoldable pub between-grown : GrownTexts apart between
between-grown = record {
  old = first_and_last;
  new = all_three;
  old_loads = apart-loads;
  new_loads = between-loads;
  numbers = by_path;
  grown = record {
    package_known = λ p h. refl;
    type_in = λ t h. h;
    type_own = λ t u h k e. e;
    member_in = λ m h. h;
    member_own = λ m o h k e. e;
    paths = λ p h. between-paths p.0 h;
    grew = λ t h. between-grew t.0 h;
  };
}
