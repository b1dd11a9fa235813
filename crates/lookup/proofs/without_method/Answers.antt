-- `lookup::without_method` meets its contract.
use Rattle.lookup.proofs.SelectLaws.{without-entry, without-field, without-other}
use Rattle.lookup.proofs.without_method.Goals as goal

pub returns-in-Method : goal.returns-in-Method
returns-in-Method c = without-entry _ c.in-Entry.is c.in-Method.is

pub returns-in-Field : goal.returns-in-Field
returns-in-Field c = without-field _ c.in-Entry.is c.in-Field.is

pub returns-in_default : goal.returns-in_default
returns-in_default c = without-other _ c.in_default.not-Entry
