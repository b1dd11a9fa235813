-- The contracts put together: what `run` writes is `typeask input`. The line of a refusal is written at once, what is due for questions as a trace: the list of the
-- pieces that `show` hands to io::write_all.
use mathlib.Core.Path.{◌≡◌, sym, ap, ◌∙◌}
use mathlib.Core.List.{List, [], ◌∷◌, ◌++◌, append_assoc}
use Prim.Native.Nat.{ℕ, ◌+◌}
use native.Mathlib.Omega.{arith}
use lib.ListN.{length, take, drop, length-append, drop_of_length-le}
use lib.Seq.{drop_at}
use Rattle.std.specs.Prelude.{Option, Result, Err}
use Rattle.objects.specs.declared.refusals.Refusal.{Refusal}
use Rattle.objects.specs.Refusals.{reason_number}
use Rattle.objects.specs.Lists.{Bytes, flat}
use Rattle.objects.specs.Rows.{Words}
use Rattle.rules.specs.AskedAll.{refused_bytes}
use Rattle.rules.specs.Typeask.{typeask}
use Rattle.program.specs.Steps.{Shows, Stands, opening_meant, Opens}

-- each piece stands where the one before ends, from a place up to the end of the whole
abbrev pub Trace : Bytes → ℕ → List Bytes → Type 0
Trace whole at [] = at ≡ length whole
Trace whole at (piece ∷ rest) = Stands whole at piece × Trace whole (at + length piece) rest

-- all bytes that are written
abbrev pub written_bytes : List Bytes → Bytes
written_bytes pieces = flat (λ piece. piece) pieces

module _ (whole : Bytes) where
  trace-from : (at : ℕ) (pieces : List Bytes) → Trace whole at pieces → written_bytes pieces ≡ drop at whole
  trace-from at [] e = sym (drop_of_length-le whole {i = at} (omega (arith, e)))
  trace-from at (piece ∷ rest) h =
      let s = h.0 in
      let here : drop at whole ≡ piece ++ s.behind = ap (drop at) s.parts ∙ drop_at s.before (piece ++ s.behind) at s.place in
      let ends : length (s.before ++ piece) ≡ at + length piece = omega (arith, length-append s.before piece, s.place) in
      let parts : whole ≡ (s.before ++ piece) ++ s.behind = s.parts ∙ sym (append_assoc s.before piece s.behind) in
      let next : drop (at + length piece) whole ≡ s.behind = ap (drop (at + length piece)) parts ∙ drop_at (s.before ++ piece) s.behind (at + length piece) ends in
      ap (λ w. piece ++ w) (trace-from (at + length piece) rest h.1 ∙ next) ∙ sym here

  -- such pieces, one after the other, are the whole
  pub trace-all : (pieces : List Bytes) → Trace whole 0 pieces → written_bytes pieces ≡ whole
  trace-all pieces t = trace-from 0 pieces t

module _ (input : Bytes) (rows : Words) where
  -- what is due for the questions is written piece by piece
  pub run-writes : {r : Result (Option (ℕ × ℕ)) Refusal} (pieces : List Bytes) → Opens input r rows → Trace (opening_meant input rows r) 0 pieces → written_bytes pieces ≡ typeask input
  run-writes {r} pieces o t = trace-all (opening_meant input rows r) pieces t ∙ sym o.says

  -- the line of a refusal at once
  pub refuse-writes : {x : Refusal} {k : ℕ} {out : Bytes} → Opens input (Err x) rows → Shows (refused_bytes (reason_number x.reason) x.line) out k → take k out ≡ typeask input
  unfolding opening_meant
  refuse-writes o s = s.shown ∙ sym o.says
