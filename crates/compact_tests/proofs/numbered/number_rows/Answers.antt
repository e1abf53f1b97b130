use Rattle.std.proofs.Common.{◌≡◌, ◌∙◌, ◌+◌, false, get_or, sym, ap, subst, arith}
use Rattle.net_model.specs.Rows.{IsWordSet}
use Rattle.net_model.specs.ClassTable.{class_at}
use Rattle.compact_tests.specs.Sharing.{has_two}
use Rattle.compact_tests.specs.Numbered.{AreNumberRows}
use Rattle.compact_tests.proofs.NumberLemmas.{rows_none, rows_more, rows_passed}
use Rattle.compact_tests.proofs.numbered.number_rows.Goals.{then-is_group, else-is_group}
use Rattle.compact_tests.proofs.numbered.number_rows.Goals as goal

pub loop-place-init : goal.loop-place-init
loop-place-init c = rows_none c.args.numbers.now c.args.lane c.args.groups.now c.args.listed.now c.args.count c.in_ok-rows.rows c.in_ok-rows.ensures

pub loop-place-preserved : goal.loop-place-preserved
loop-place-preserved c =
    let n = c.args.numbers.now in
    let lane = c.args.lane in
    let groups = c.args.groups.now in
    let listed = c.args.listed.now in
    let count = c.args.count in
    let old = c.loop-place.rows in
    let place = c.loop-place.place in
    let own = get_or listed place 0 in
    elim c.if-is_group.branch [
      | then-is_group w ↦
          let new = w.set_word.new.self in
          subst (AreNumberRows n lane groups listed count (place + 1)) (sym w.rows-is)
          (rows_more n lane groups listed count c.requires.within c.requires.ascend old new place w.number-number.result (omega (arith, c.loop-place-test.true)) (omega (arith, w.number-number.type_inv)) w.number-number.ensures
          (subst (IsWordSet old new own 0) w.from.ensures w.set_word.ensures) c.loop-place.invariant)
      | else-is_group w ↦
          let alone : has_two groups (class_at groups own) ≡ false = ap (has_two groups) (sym c.class_of.ensures.value) ∙ (sym c.is_group.ensures ∙ w.if-is_group.false) in
          subst (AreNumberRows n lane groups listed count (place + 1)) (sym w.rows-is) (rows_passed n lane groups listed count old place alone c.loop-place.invariant)
    ]
