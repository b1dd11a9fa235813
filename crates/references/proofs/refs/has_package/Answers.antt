use Rattle.references.proofs.Referring.{no-package, package-had}
use Rattle.references.proofs.refs.has_package.Goals as goal

pub returns-in-None : goal.returns-in-None
returns-in-None c text =
    no-package text c.args.rows.now c.in-None.is

pub returns-in-Some : goal.returns-in-Some
returns-in-Some c text =
    package-had text c.args.rows.now c.in-Some.is c.package_count.ensures
