-- Lines and questions with other numbers: types by f, packages by p.
use Rattle.std.specs.Prelude.{map}
use Rattle.objects.specs.Lists.{mapped}
use Rattle.objects.specs.declared.TypeKey.{TypeKey}
use Rattle.objects.specs.declared.PackageKey.{PackageKey}
use Rattle.objects.specs.Table.{Member, Kind, Basic, Array, Slice, Pointer, Map, Chan, Tuple, Func, Struct, Iface, Named}
use Rattle.rules.specs.Question.{Question, ask_s, ask_m, ask_n, ask_i, ask_c, ask_v}

module _ (f : TypeKey → TypeKey) (p : PackageKey → PackageKey) where
  -- ---- lines

  abbrev pub carry_member : Member → Member
  carry_member m = record { key = m.key; name = m.name; pkg = mapped p m.pkg; type = f m.type; entity = m.entity }

  abbrev pub carry_kind : Kind → Kind
  carry_kind (Basic k) = Basic k
  carry_kind (Array n e) = Array n (f e)
  carry_kind (Slice e) = Slice (f e)
  carry_kind (Pointer e) = Pointer (f e)
  carry_kind (Map k e) = Map (f k) (f e)
  carry_kind (Chan d e) = Chan d (f e)
  carry_kind (Tuple es) = Tuple (map f es)
  carry_kind (Func v a r) = Func v (f a) (f r)
  carry_kind (Struct ms) = Struct (map carry_member ms)
  carry_kind (Iface ms) = Iface (map carry_member ms)
  carry_kind (Named u ms) = Named (f u) (map carry_member ms)

  -- ---- questions: "its type and package numbers carried"

  abbrev pub carry_question : Question → Question
  carry_question (ask_s t a pkg name) = ask_s (f t) a (mapped p pkg) name
  carry_question (ask_m t) = ask_m (f t)
  carry_question (ask_c t) = ask_c (f t)
  carry_question (ask_n t i s) = ask_n (f t) (f i) s
  carry_question (ask_i x y) = ask_i (f x) (f y)
  carry_question ask_v = ask_v
