use Rattle.std.proofs.Common.{◌<◌, length, get_or, subst, arith}
use Rattle.net_model.specs.Rows.{IsWordSet}
use Rattle.compact_tests.proofs.MemberLemmas.{written_none, written_more}
use Rattle.compact_tests.proofs.numbered.write_rows.Goals as goal

pub loop-member-init : goal.loop-member-init
loop-member-init c = written_none c.args.rows.now c.args.members.now c.args.number

pub loop-member-preserved : goal.loop-member-preserved
loop-member-preserved c =
    let members = c.args.members.now in
    let done = c.loop-member.member-index in
    let own = get_or members done 0 in
    let inside : own < length c.args.rows.now = c.requires.within done 0 (omega (arith, c.loop-member-test.true)) in
    written_more c.args.rows.now c.loop-member.rows c.set_word.new.self members done c.args.number (c.requires.widths own inside) c.loop-member.invariant (subst (IsWordSet c.loop-member.rows c.set_word.new.self own 0) c.from.ensures c.set_word.ensures)
