-- What the answers of the code mean: names, paths and tags are a place and a length in the text, keys and kinds are numbers of a row.
use Rattle.std.specs.Prelude.{List, [], ℕ, ◌+◌}
use Rattle.std.proofs.Math.Option.{Option, none, some}
use Rattle.std.specs.declared.option.Option as code
use Rattle.std.specs.Prelude.{Some, None}
use Rattle.objects.specs.declared.TypeKey.{TypeKey}
use Rattle.objects.specs.declared.PackageKey.{PackageKey}
use Rattle.objects.specs.Lists.{Bytes, mapped}
use Rattle.objects.specs.Table.{type_key}
use Rattle.objects.specs.Rows.{bytes_at, package_meant, entity_of}
use Rattle.text.specs.declared.Cursor.{Cursor}
use Rattle.text.specs.Cursors.{fields_left}
use Rattle.rules.specs.Forms.{Line, package_line, type_line, member_line}
use Rattle.line_forms.specs.declared.Piece.{Piece}
use Rattle.line_forms.specs.declared.Typed.{Typed}
use Rattle.line_forms.specs.declared.Form.{Form}
use Rattle.line_forms.specs.Steps.{bare_kind, tuple_of}
use Rattle.line_forms.specs.Weights.{weight}

module _ (text : Bytes) where
  unfoldable pub small_read : code.Option (ℕ × Cursor) → Option (ℕ × List Bytes)
  small_read (Some r) = some (r.0, fields_left text r.1)
  small_read None = none

  unfoldable pub piece_read : code.Option Piece → Option (Bytes × List Bytes)
  piece_read (Some p) = some (bytes_at text p.at p.len, fields_left text p.rest)
  piece_read None = none

  unfoldable pub packaged_read : code.Option (code.Option PackageKey × Cursor) → Option (Option PackageKey × List Bytes)
  packaged_read (Some r) = some (package_meant r.0, fields_left text r.1)
  packaged_read None = none

  unfoldable pub typed_read : code.Option Typed → Option ((Option PackageKey × TypeKey × ℕ) × List Bytes)
  typed_read (Some r) = some ((package_meant r.pkg, type_key r.t, r.bit), fields_left text r.rest)
  typed_read None = none

  -- THE LINE THAT A FORM STANDS FOR; none for a wrong form (4)
  unfoldable pub form_meant : code.Option Form → Option Line
  form_meant (Some (Form.«Package» at count)) = some (package_line (bytes_at text at count))
  form_meant (Some (Form.«Type» kind a b c)) = some (type_line (bare_kind kind a b c))
  form_meant (Some (Form.Tuple c)) = tuple_of (fields_left text c)
  form_meant (Some (Form.Member name count pkg t form tag width)) =
      some (member_line (bytes_at text name count) (package_meant pkg) (type_key t) (entity_of form (bytes_at text tag width)))
  form_meant None = none

  -- the weight of a tuple's letter and word, and of the fields that its elements are still to be read from
  unfoldable pub unread : code.Option Form → ℕ
  unread (Some (Form.«Package» at count)) = 0
  unread (Some (Form.«Type» kind a b c)) = 0
  unread (Some (Form.Tuple c)) = 8 + weight (fields_left text c)
  unread (Some (Form.Member name count pkg t form tag width)) = 0
  unread None = 0

  -- as a reader gives it: a line that is read leaves no field
  unfoldable pub form_read : code.Option Form → Option (Line × List Bytes)
  form_read f = mapped (λ l. (l, [])) (form_meant f)
