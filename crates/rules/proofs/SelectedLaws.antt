-- What may be said of an answer of S without looking into it.
use mathlib.Core.Path.{◌≡◌, refl}
use Rattle.objects.specs.Table.{is_method}
use Rattle.objects.proofs.ListLaws.{cases}
use Rattle.rules.specs.Ways.{Selected, notfound, badreceiver, entry, ambiguous, is_ambiguous, no_method}

pub no-method-ambiguous : (s : Selected) → is_ambiguous (no_method s) ≡ is_ambiguous s
no-method-ambiguous notfound = refl
no-method-ambiguous badreceiver = refl
no-method-ambiguous (entry m flag places) = cases (is_method m.entity) (λ e. rw e) (λ e. rw e)
no-method-ambiguous (ambiguous first second) = refl
