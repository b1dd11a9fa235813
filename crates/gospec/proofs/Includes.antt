-- `HasMethod`, by which a type implements an interface, says that the method set includes the method (`has-method-is-set`).
use mathlib.Core.Path.{◌≡◌, refl, sym, ap, ◌∙◌, subst}
use mathlib.Core.Bool.{Bool, true, false}
use mathlib.Core.List.{List}
use mathlib.Core.Logic.{◌↔◌}
use mathlib.Core.Option.{Option}
use Prim.Native.Nat.{ℕ, ◌<◌}
use Rattle.objects.specs.Lists.{Bytes}
use Rattle.objects.specs.declared.TypeKey.{TypeKey}
use Rattle.objects.specs.declared.PackageKey.{PackageKey}
use Rattle.objects.specs.Table.{Table, size, Member, is_method}
use Rattle.rules.specs.Members.{Identity, identity_of}
use Rattle.rules.specs.Sound.{Sound}
use Rattle.rules.specs.Ways.{Selected, entry, select}
use Rattle.gospec.specs.Go.{SameIds}
use Rattle.gospec.specs.GoSelectors.{Occurs, declared, promoted, OneStar, Denotes, shallowest, dynamic, shorthand, Callable}
use Rattle.gospec.specs.Says.{blank, Says, legal-method}
use Rattle.gospec.specs.GoImplements.{HasMethod}
use Rattle.gospec.proofs.Names.{same_names}
use Rattle.gospec.proofs.SelectGo.{select-is-go, go-is-select, alike-one}
use Rattle.gospec.specs.GoMethodSets.{SetIncludes}
use Rattle.gospec.proofs.Promotion.{set_says, says-set}
use Rattle.gospec.proofs.Implements.{says-method}

module _ (T : Table) where
  occurs-same : {name : Bytes} {pkg : Option PackageKey} {t : TypeKey} {d : ℕ} {ps : List ℕ} {m : Member} {b : Bool} → Occurs T name pkg t d ps m b → SameIds T m.name m.pkg name pkg
  occurs-same (declared m x e) = e
  occurs-same (promoted x y) = occurs-same y

  -- a selector denotes a member of its name
  denotes-same : {R : TypeKey → Type 0} {name : Bytes} {pkg : Option PackageKey} {x : TypeKey} {ps : List ℕ} {m : Member} {b : Bool} → Denotes T R name pkg x ps m b → SameIds T m.name m.pkg name pkg
  denotes-same (shallowest w y n s) = occurs-same y
  denotes-same (dynamic m l a e) = e
  denotes-same (shorthand m k l r d f) = denotes-same d

module _ (T : Table) (sound : Sound T) (t : TypeKey) (in0 : t.0 < size T) where
  -- a call of a method by the name of m is the same by any member's name that is the same
  renamed : (m n found : Member) (ps : List ℕ) (b : Bool) → identity_of T m ≡ identity_of T n → (m.name ≡ blank → ⊥) → Denotes T (OneStar T) m.name m.pkg t ps found b → is_method found.entity ≡ true → Callable T false t ps found
      → (n.name ≡ blank → ⊥) × Denotes T (OneStar T) n.name n.pkg t ps found b × Callable T false t ps found
  unfolding identity_of
  renamed m n found ps b e nb d h c =
      let s : select T (identity_of T m) t false ≡ entry found b ps = alike-one (entry found b ps) (select T (identity_of T m) t false) refl (go-is-select T sound t in0 false m.pkg m.name (entry found b ps) (legal-method found nb d h c)) in
      says-method (subst (λ (r : Selected). Says T (OneStar T) n.name n.pkg t false r) (ap (λ (i : Identity). select T i t false) (sym e) ∙ s) (select-is-go T sound t in0 false n.pkg n.name)) h

  -- "ITS METHOD SET INCLUDES m", as `Implements` has it and by the method set
  pub has-method-is-set : (m : Member) → HasMethod T (OneStar T) t m ↔ SetIncludes T t m
  has-method-is-set m = (to, from)
    where
      to : HasMethod T (OneStar T) t m → SetIncludes T t m
      to h =
          let s = denotes-same T h.denotes in
          let e = (same_names T h.found m).1 s in
          let k = renamed m h.found h.found h.places h.flag (sym e) h.named h.denotes h.method h.callable in
          record {
            places = h.places;
            found = h.found;
            has = says-set T sound (OneStar T) t h.places h.found h.flag k.0 k.1 h.method k.2;
            same_name = (same_names T m h.found).0 (sym e);
            same-type = h.same-type;
          }

      from : SetIncludes T t m → HasMethod T (OneStar T) t m
      from h =
          let s = set_says T sound (OneStar T) h.has in
          let k = renamed h.found m h.found h.places s.0 (sym ((same_names T m h.found).1 h.same_name)) s.1 s.2 s.3 s.4 in
          record { places = h.places; found = h.found; flag = s.0; named = k.0; denotes = k.1; method = s.3; callable = k.2; same-type = h.same-type }
