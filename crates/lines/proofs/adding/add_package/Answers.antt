-- `lines::adding::add_package` meets its contract.
use Rattle.lines.proofs.AddLaws.{package-late, package-full, package-added}
use Rattle.lines.proofs.adding.add_package.Goals as goal

pub returns-then-type_count-gt0 : goal.returns-then-type_count-gt0
returns-then-type_count-gt0 c = λ text. package-late _ _ _ _ c.requires c.type_count.ensures text c.if-type_count-gt0.true

pub returns : goal.returns
returns c =
    λ text. package-added _ _ _ _ c.requires c.type_count.ensures text c.if-type_count-gt0.false c.package_count.ensures c.if-package_count-ge-PACKAGES.false _ c.put_package.ensures.holds c.put_package.ensures.rows_unchanged

pub returns-then-package_count-ge-PACKAGES : goal.returns-then-package_count-ge-PACKAGES
returns-then-package_count-ge-PACKAGES c =
    λ text. package-full _ _ _ _ c.requires c.type_count.ensures text c.if-type_count-gt0.false c.package_count.ensures c.if-package_count-ge-PACKAGES.true
