-- `table::check` meets its contract: the stages in order. What stands at a stage is bound once, and from there back to the start.
use Rattle.std.proofs.Common.{rules}
use Rattle.objects.specs.declared.refusals.Reason.{Reason}
use Rattle.table.proofs.Staging.{passed_none, stage-passed, refused-by, to-7, to-8, to-9, to-10, refused-14, refused-7, refused-8, refused-9, refused-10, passes-all}
use Rattle.table.proofs.check.Goals as goal

pub unordered-requires : goal.unordered-requires
unordered-requires c = c.requires

pub returns-in_err-passed : goal.returns-in_err-passed
returns-in_err-passed c =
    refused-by Reason.PackageOrder _ c.passed.ensures c.in_err-passed.was (search rules) (λ line q. refused-14 c.args.text.now c.args.rows.now c.requires c.unordered.ensures q)

pub lacking-requires : goal.lacking-requires
lacking-requires c = c.requires

pub returns-in_err-passed-2 : goal.returns-in_err-passed-2
returns-in_err-passed-2 c =
    let to7 = to-7 c.args.text.now c.args.rows.now c.requires c.unordered.ensures (stage-passed Reason.PackageOrder _ c.passed.ensures c.in_ok-passed.was) in
    refused-by Reason.Lacking _ c.passed-2.ensures c.in_err-passed-2.was (search rules) (λ line q. refused-7 c.args.text.now c.args.rows.now c.requires to7 (c.lacking.ensures c.args.text.now) q)

pub forbidden-requires : goal.forbidden-requires
forbidden-requires c = c.requires

pub returns-in_err-passed-3 : goal.returns-in_err-passed-3
returns-in_err-passed-3 c =
    let to7 = to-7 c.args.text.now c.args.rows.now c.requires c.unordered.ensures (stage-passed Reason.PackageOrder _ c.passed.ensures c.in_ok-passed.was) in
    let to8 = to-8 c.args.text.now c.args.rows.now c.requires to7 (c.lacking.ensures c.args.text.now) (stage-passed Reason.Lacking _ c.passed-2.ensures c.in_ok-passed-2.was) in
    refused-by Reason.Forbidden _ c.passed-3.ensures c.in_err-passed-3.was (search rules) (λ line q. refused-8 c.args.text.now c.args.rows.now c.requires to8 (c.forbidden.ensures c.args.text.now) q)

pub clashing-requires : goal.clashing-requires
clashing-requires c =
    (c.requires, passed_none c.unordered.ensures (stage-passed Reason.PackageOrder _ c.passed.ensures c.in_ok-passed.was), passed_none (c.lacking.ensures c.args.text.now) (stage-passed Reason.Lacking _ c.passed-2.ensures c.in_ok-passed-2.was))

pub returns-in_err-passed-4 : goal.returns-in_err-passed-4
returns-in_err-passed-4 c =
    let to7 = to-7 c.args.text.now c.args.rows.now c.requires c.unordered.ensures (stage-passed Reason.PackageOrder _ c.passed.ensures c.in_ok-passed.was) in
    let to8 = to-8 c.args.text.now c.args.rows.now c.requires to7 (c.lacking.ensures c.args.text.now) (stage-passed Reason.Lacking _ c.passed-2.ensures c.in_ok-passed-2.was) in
    let to9 = to-9 c.args.text.now c.args.rows.now c.requires to8 (c.forbidden.ensures c.args.text.now) (stage-passed Reason.Forbidden _ c.passed-3.ensures c.in_ok-passed-3.was) in
    refused-by Reason.Clash _ c.passed-4.ensures c.in_err-passed-4.was (search rules) (λ line q. refused-9 c.args.text.now c.args.rows.now c.requires to9 c.clashing.ensures q)

pub containing-requires : goal.containing-requires
containing-requires c = (c.requires, (c.args.text.now, passed_none (c.lacking.ensures c.args.text.now) (stage-passed Reason.Lacking _ c.passed-2.ensures c.in_ok-passed-2.was)))

pub returns-in_err-passed-5 : goal.returns-in_err-passed-5
returns-in_err-passed-5 c =
    let to7 = to-7 c.args.text.now c.args.rows.now c.requires c.unordered.ensures (stage-passed Reason.PackageOrder _ c.passed.ensures c.in_ok-passed.was) in
    let to8 = to-8 c.args.text.now c.args.rows.now c.requires to7 (c.lacking.ensures c.args.text.now) (stage-passed Reason.Lacking _ c.passed-2.ensures c.in_ok-passed-2.was) in
    let to9 = to-9 c.args.text.now c.args.rows.now c.requires to8 (c.forbidden.ensures c.args.text.now) (stage-passed Reason.Forbidden _ c.passed-3.ensures c.in_ok-passed-3.was) in
    let to10 = to-10 c.args.text.now c.args.rows.now c.requires to9 c.clashing.ensures (stage-passed Reason.Clash _ c.passed-4.ensures c.in_ok-passed-4.was) in
    refused-by Reason.Containing _ c.passed-5.ensures c.in_err-passed-5.was (search rules) (λ line q. refused-10 c.args.text.now c.args.rows.now c.requires to10 _ c.containing.ensures q)

pub put_signed-requires : goal.put_signed-requires
put_signed-requires c = c.containing.ensures.holds.laid

pub returns : goal.returns
returns c =
    let to7 = to-7 c.args.text.now c.args.rows.now c.requires c.unordered.ensures (stage-passed Reason.PackageOrder _ c.passed.ensures c.in_ok-passed.was) in
    let to8 = to-8 c.args.text.now c.args.rows.now c.requires to7 (c.lacking.ensures c.args.text.now) (stage-passed Reason.Lacking _ c.passed-2.ensures c.in_ok-passed-2.was) in
    let to9 = to-9 c.args.text.now c.args.rows.now c.requires to8 (c.forbidden.ensures c.args.text.now) (stage-passed Reason.Forbidden _ c.passed-3.ensures c.in_ok-passed-3.was) in
    let to10 = to-10 c.args.text.now c.args.rows.now c.requires to9 c.clashing.ensures (stage-passed Reason.Clash _ c.passed-4.ensures c.in_ok-passed-4.was) in
    passes-all c.args.text.now c.args.rows.now c.requires to10 _ c.containing.ensures (stage-passed Reason.Containing _ c.passed-5.ensures c.in_ok-passed-5.was) _ c.put_signed.ensures
