use Rattle.std.proofs.Common.{◌+◌, ◌-◌, ◌*◌, arith}
use Rattle.std.proofs.lemmas.Result.{err_from_is_err_and}
use Rattle.dict_file.proofs.GroupReading.{group_refused, groups_go_on, unused_refused, groups_right}
use Rattle.dict_file.proofs.group_numbers.read_groups.Goals as goal

pub returns-in_err-group-clause-refused : goal.returns-in_err-group-clause-refused
returns-in_err-group-clause-refused c =
    let p = err_from_is_err_and c.from_residual.result c.from_residual.ensures.1 in
    let l = c.loop-number in
    rw (p.1, p.2)
    (λ _. group_refused c.args.bytes.now l.number l.used (c.args.from + 4 * l.number) c.args.groups l.read c.in_err-group.field-0.0 l.invariant (omega (arith, c.requires.numbers, c.loop-number-test.true)) (omega (arith, c.requires.from)) c.requires.groups
    c.in_err-group.ensures.refused)

pub loop-number-preserved : goal.loop-number-preserved
loop-number-preserved c =
    let l = c.loop-number in
    rw c.in_ok-push.ensures.ok
    (groups_go_on c.args.bytes.now l.number l.used (c.args.from + 4 * l.number) c.args.groups c.in_ok-group.group c.used_with-used.result l.read l.invariant (omega (arith, c.requires.from)) c.requires.groups
    c.in_ok-group.ensures.value c.in_ok-group.ensures.right c.used_with-used.ensures)

pub returns-then-used-groups-clause-refused : goal.returns-then-used-groups-clause-refused
returns-then-used-groups-clause-refused c =
    let l = c.loop-number in
    λ _. unused_refused c.args.bytes.now l.number l.used c.args.groups (c.args.from + 4 * (c.args.numbers - 1)) l.read l.invariant (omega (arith, c.requires.numbers, c.loop-number-test.false, l.auto.number-end))
    c.if-used-groups.true c.requires.groups (omega (arith, c.requires.from, c.requires.numbers))

pub returns-clause-right : goal.returns-clause-right
returns-clause-right c =
    let l = c.loop-number in
    groups_right c.args.bytes.now l.number l.used c.args.groups l.read l.invariant (omega (arith, c.requires.numbers, c.loop-number-test.false, l.auto.number-end)) (omega arith) c.requires.groups
