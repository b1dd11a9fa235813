-- `lookup::missing::unmet_by` meets its contract.
use mathlib.Core.Path.{refl}
use Rattle.lookup.proofs.MissingLaws.{by-method, by-field, by-other, by-typed}
use Rattle.lookup.proofs.missing.unmet_by.Goals as goal

pub compared-requires : goal.compared-requires
compared-requires c =
    record { library = c.requires.library; m_bound = (c.requires.m_bound.0, by-typed _ c.in-Entry.is c.in-Method.is c.requires.m_bound.1, c.requires.m_bound.3); marks_value = c.requires.marks_value }

pub returns-in-Method : goal.returns-in-Method
returns-in-Method c =
    record { by_index = λ first second. by-method _ _ _ first second c.in-Entry.is c.in-Method.is c.requires.m_bound.2 _ c.compared.ensures.result_value; marks_unchanged = c.compared.ensures.marks_unchanged }

pub returns-in-Field : goal.returns-in-Field
returns-in-Field c =
    record { by_index = λ first second. by-field _ _ _ first second c.in-Entry.is c.in-Field.is c.requires.m_bound.2; marks_unchanged = refl }

pub returns-in_default : goal.returns-in_default
returns-in_default c =
    record { by_index = λ first second. by-other _ _ _ first second c.in_default.not-Entry; marks_unchanged = refl }
