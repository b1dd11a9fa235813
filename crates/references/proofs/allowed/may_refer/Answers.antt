use Rattle.std.proofs.Common.{rules}
use native.Mathlib.Omega.{arith}
use lib.Dec.{eqb}
use borrow.Author.Tests.{eqb-true, eqb-false}
use Rattle.objects.proofs.ListLaws.{cases}
use Rattle.objects.specs.Rows.{table_of}
use Rattle.references.proofs.Allowing.{refer-tuple, refer-iface, refer-named, refer-other}
use Rattle.references.proofs.allowed.may_refer.Goals as goal

pub returns-in-6 : goal.returns-in-6
returns-in-6 c text = refer-tuple (table_of text c.args.rows.now) c.args.t c.args.e (c.kind_in.ensures text) c.in-6.is

pub returns-in-9 : goal.returns-in-9
returns-in-9 c text =
    cases (eqb c.kind_in.result 9)
    (λ q. refer-iface (table_of text c.args.rows.now) c.args.t c.args.e (c.kind_in.ensures text) (eqb-true c.kind_in.result 9 q))
    (λ q. let other = eqb-false c.kind_in.result 9 q in refer-named (table_of text c.args.rows.now) c.args.t c.args.e (c.kind_in.ensures text) (omega arith))

pub returns-in_default : goal.returns-in_default
returns-in_default c text =
    refer-other (table_of text c.args.rows.now) c.args.t c.args.e (c.kind_in.ensures text) (search rules) (search rules) (search rules)
