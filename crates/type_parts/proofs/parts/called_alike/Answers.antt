use mathlib.Core.Path.{◌≡◌, sym, ◌∙◌}
use mathlib.Core.Bool.{true}
use Prim.Native.Nat.{ℕ}
use native.Mathlib.Omega.{arith}
use borrow.Author.Count.{below_more}
use Rattle.rules.proofs.Sounds.{library-sound}
use Rattle.type_parts.proofs.StepAt.{numbers}
use Rattle.type_parts.proofs.MemberRead.{member-packaged}
use Rattle.type_parts.proofs.KinLaws.{left_in, right-in, left-place, right-place, right-part}
use Rattle.type_parts.proofs.MatchLaws.{alike_at, none-called, all-called, not-called}
use Rattle.type_parts.proofs.parts.called_alike.Goals as goal

pub returns-then-kind_number-lt-STRUCT : goal.returns-then-kind_number-lt-STRUCT
returns-then-kind_number-lt-STRUCT c =
    none-called _ _ _ _ c.requires.kin _ c.kind_number.ensures c.if-kind_number-lt-STRUCT.true

pub overflow_add-first : goal.overflow_add-first
overflow_add-first c =
    omega (arith, c.first_member-first.ensures, left-place _ _ c.requires.library _ _ c.requires.kin c.loop-i.i _ c.part_count-n.ensures (omega arith))

pub overflow_add-second : goal.overflow_add-second
overflow_add-second c =
    omega (arith, c.first_member-second.ensures, right-place _ _ c.requires.library _ _ c.requires.kin c.loop-i.i _ c.part_count-n.ensures (omega arith))

pub alike-requires : goal.alike-requires
alike-requires c =
    let i = c.loop-i.i in
    let hx = left_in _ _ _ _ c.requires.kin in
    let hy = right-in _ _ _ _ c.requires.kin in
    let y-kind = c.kind_number.ensures ∙ numbers c.args.text.now _ _ _ hx hy c.requires.kin.kinds c.requires.kin.owns in (
      member-packaged _ _ c.requires.library _ hx _ i _ c.kind_number.ensures c.if-kind_number-lt-STRUCT.false (omega (arith, c.part_count-n.ensures)) c.first_member-first.ensures,
      member-packaged _ _ c.requires.library _ hy _ i _ y-kind c.if-kind_number-lt-STRUCT.false (right-part _ _ _ _ c.requires.kin i _ c.part_count-n.ensures (omega arith)) c.first_member-second.ensures,
      (library-sound c.requires.library).ordered,
    )

pub returns-then-not-alike : goal.returns-then-not-alike
returns-then-not-alike c =
    not-called _ _ _ _ c.requires.kin _ c.kind_number.ensures c.if-kind_number-lt-STRUCT.false _ _ _ c.part_count-n.ensures c.first_member-first.ensures c.first_member-second.ensures
    c.loop-i.i (omega arith) (sym c.alike.ensures ∙ c.if-not-alike.true)

pub loop-i-preserved : goal.loop-i-preserved
loop-i-preserved c =
    let alike-here : alike_at _ _ _ _ c.loop-i.i ≡ true = sym c.alike.ensures ∙ c.if-not-alike.false in
    below_more (λ (i : ℕ). alike_at _ _ _ _ i ≡ true) c.loop-i.i c.loop-i.invariant alike-here

pub returns : goal.returns
returns c =
    all-called _ _ _ _ c.requires.kin _ c.kind_number.ensures c.if-kind_number-lt-STRUCT.false _ _ _ c.part_count-n.ensures c.first_member-first.ensures c.first_member-second.ensures
    (λ i h. c.loop-i.invariant i (omega (arith, c.loop-i-test.false)))
