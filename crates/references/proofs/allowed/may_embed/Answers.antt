use Rattle.std.proofs.Common.{rules}
use Rattle.objects.specs.Rows.{table_of}
use Rattle.references.proofs.Allowing.{embed-pointer, embed-named, embed-other}
use Rattle.references.proofs.allowed.may_embed.Goals as goal

pub returns-in-3 : goal.returns-in-3
returns-in-3 c text =
    embed-pointer (table_of text c.args.rows.now) c.args.e (c.kind_in.ensures text) c.in-3.is (c.bare_in.ensures text) (c.under_in.ensures text) (c.concrete.ensures text)

pub returns-in-10 : goal.returns-in-10
returns-in-10 c text =
    embed-named (table_of text c.args.rows.now) c.args.e (c.kind_in.ensures text) c.in-10.is (c.under_in-in-10.ensures text) (c.kind_in-in-10.ensures text)

pub returns-in_default : goal.returns-in_default
returns-in_default c text =
    embed-other (table_of text c.args.rows.now) c.args.e (c.kind_in.ensures text) (search rules) (search rules)
