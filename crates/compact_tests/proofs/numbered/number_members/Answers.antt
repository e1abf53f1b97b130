use Rattle.std.proofs.Common.{◌<◌, List, ℕ, length, get_or, sym, subst, arith}
use Rattle.std.specs.Prelude.{All}
use Rattle.class_refine.proofs.Pieces.{members-All}
use Rattle.compact_tests.specs.Numbered.{AreWritten}
use Rattle.compact_tests.proofs.MemberLemmas.{members_none, members_more}
use Rattle.compact_tests.proofs.numbered.number_members.Goals as goal

pub loop-place-init : goal.loop-place-init
loop-place-init c = members_none c.args.numbers.now c.args.lane c.args.classes.now c.args.listed.now c.args.rows.now c.requires.rows

pub write_rows-requires-clause-within : goal.write_rows-requires-clause-within
write_rows-requires-clause-within c =
    let t = c.args.classes.now in
    let own = get_or c.args.listed.now c.loop-place.place 0 in
    subst (λ (ms : List ℕ). All (λ member. member < length c.loop-place.rows) ms) (sym c.members.ensures) (λ k d h. omega (arith, (members-All t own k d h).0, c.loop-place.invariant.rows_are.count_is))

pub loop-place-preserved : goal.loop-place-preserved
loop-place-preserved c =
    let t = c.args.classes.now in
    let listed = c.args.listed.now in
    let place = c.loop-place.place in
    let old = c.loop-place.rows in
    let new = c.write_rows.new.rows in
    let number = c.number-number.result in
    members_more c.args.numbers.now c.args.lane t listed c.requires.ascend old new place number (omega (arith, c.loop-place-test.true)) (omega (arith, c.number-number.type_inv)) c.number-number.ensures
    (subst (λ (ms : List ℕ). AreWritten old new ms (length ms) number) c.members.ensures c.write_rows.ensures) c.loop-place.invariant
