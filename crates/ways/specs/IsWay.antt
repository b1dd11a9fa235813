-- What a way is, as a relation: the paper's sentence, with no list, no order and no bound on its length.
use Rattle.std.specs.Prelude.{◌≡◌, true, ℕ, zero, suc}
use Rattle.objects.specs.Lists.{In}
use Rattle.objects.specs.declared.TypeKey.{TypeKey}
use Rattle.objects.specs.Table.{Table, is_embedded}
use Rattle.rules.specs.Members.{Identity, identity_of, same_id}
use Rattle.rules.specs.Ways.{Place, Walk, Way, start, along, field_places, owned}

-- "A way starts at t, one pointer removed; each step takes an embedded field by its place in its struct and removes one pointer": d steps
pub data IsWalk (T : Table) (t : TypeKey) : ℕ → Walk → Type 0 where
  starts : IsWalk T t zero (start T t)
  takes : {d : ℕ} {w : Walk} (f : Place) → IsWalk T t d w → In f (field_places T w.at) → is_embedded f.member.entity ≡ true → IsWalk T t (suc d) (along T w f)

-- "the last place is a matching member's in a named type's methods, a struct's fields or an interface's list"
pub record IsWay (T : Table) (q : Identity) (t : TypeKey) (d : ℕ) (w : Way) : Type 0 where
  pub walks : IsWalk T t d w.walk
  pub owns : In w.last (owned T w.walk.at)
  pub matches : same_id (identity_of T w.last.member) q ≡ true
