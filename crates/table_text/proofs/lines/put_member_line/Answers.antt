-- `put_member_line` meets its contract.
use Rattle.table_text.proofs.WritingMembers.{letter-room, name-room, package-field-room, type-room, flag-room, tag-room, end-room, member-wrote}
use Rattle.table_text.proofs.lines.put_member_line.Goals as goal

pub put_letter-a-requires : goal.put_letter-a-requires
put_letter-a-requires c =
    letter-room c.args.numbers.now c.args.text.now c.args.rows.now c.args.m c.member_word-name.ensures
    c.member_word-len.ensures c.member_word-pkg.ensures c.member_word-old.ensures
    c.carried-new.ensures c.member_word-form.ensures c.member_word-tag.ensures
    c.member_word-tag_len.ensures c.form_flag-flag.ensures c.args.out.now _ c.requires

pub put_part-b-requires : goal.put_part-b-requires
put_part-b-requires c =
    name-room c.args.numbers.now c.args.text.now c.args.rows.now c.args.m c.member_word-name.ensures
    c.member_word-len.ensures c.member_word-pkg.ensures c.member_word-old.ensures
    c.carried-new.ensures c.member_word-form.ensures c.member_word-tag.ensures
    c.member_word-tag_len.ensures c.form_flag-flag.ensures c.args.out.now _ c.requires
    c.put_letter-a.ensures

pub put_package-c-requires : goal.put_package-c-requires
put_package-c-requires c =
    package-field-room c.args.numbers.now c.args.text.now c.args.rows.now c.args.m
    c.member_word-name.ensures c.member_word-len.ensures c.member_word-pkg.ensures
    c.member_word-old.ensures c.carried-new.ensures c.member_word-form.ensures
    c.member_word-tag.ensures c.member_word-tag_len.ensures c.form_flag-flag.ensures c.args.out.now _
    c.requires c.put_letter-a.ensures c.put_part-b.ensures

pub put_field-d-requires : goal.put_field-d-requires
put_field-d-requires c =
    type-room c.args.numbers.now c.args.text.now c.args.rows.now c.args.m c.member_word-name.ensures
    c.member_word-len.ensures c.member_word-pkg.ensures c.member_word-old.ensures
    c.carried-new.ensures c.member_word-form.ensures c.member_word-tag.ensures
    c.member_word-tag_len.ensures c.form_flag-flag.ensures c.args.out.now _ c.requires
    c.put_letter-a.ensures c.put_part-b.ensures c.put_package-c.ensures

pub put_field-e-requires : goal.put_field-e-requires
put_field-e-requires c =
    flag-room c.args.numbers.now c.args.text.now c.args.rows.now c.args.m c.member_word-name.ensures
    c.member_word-len.ensures c.member_word-pkg.ensures c.member_word-old.ensures
    c.carried-new.ensures c.member_word-form.ensures c.member_word-tag.ensures
    c.member_word-tag_len.ensures c.form_flag-flag.ensures c.args.out.now _ c.requires
    c.put_letter-a.ensures c.put_part-b.ensures c.put_package-c.ensures c.put_field-d.ensures

pub put_tag-f-requires : goal.put_tag-f-requires
put_tag-f-requires c =
    tag-room c.args.numbers.now c.args.text.now c.args.rows.now c.args.m c.member_word-name.ensures
    c.member_word-len.ensures c.member_word-pkg.ensures c.member_word-old.ensures
    c.carried-new.ensures c.member_word-form.ensures c.member_word-tag.ensures
    c.member_word-tag_len.ensures c.form_flag-flag.ensures c.args.out.now _ c.requires
    c.put_letter-a.ensures c.put_part-b.ensures c.put_package-c.ensures c.put_field-d.ensures
    c.put_field-e.ensures

pub put_end-requires : goal.put_end-requires
put_end-requires c =
    end-room c.args.numbers.now c.args.text.now c.args.rows.now c.args.m c.member_word-name.ensures
    c.member_word-len.ensures c.member_word-pkg.ensures c.member_word-old.ensures
    c.carried-new.ensures c.member_word-form.ensures c.member_word-tag.ensures
    c.member_word-tag_len.ensures c.form_flag-flag.ensures c.args.out.now _ c.requires
    c.put_letter-a.ensures c.put_part-b.ensures c.put_package-c.ensures c.put_field-d.ensures
    c.put_field-e.ensures c.put_tag-f.ensures

pub returns : goal.returns
returns c =
    member-wrote c.args.numbers.now c.args.text.now c.args.rows.now c.args.m c.member_word-name.ensures
    c.member_word-len.ensures c.member_word-pkg.ensures c.member_word-old.ensures
    c.carried-new.ensures c.member_word-form.ensures c.member_word-tag.ensures
    c.member_word-tag_len.ensures c.form_flag-flag.ensures c.put_letter-a.ensures c.put_part-b.ensures
    c.put_package-c.ensures c.put_field-d.ensures c.put_field-e.ensures c.put_tag-f.ensures
    c.put_end.ensures
