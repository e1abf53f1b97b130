use Rattle.std.proofs.Common.{◌≡◌, ◌∙◌, ◌<◌, ◌+◌, Bool, List, [], true, false, length, get_or, drop, sym, ap, subst, arith}
use Rattle.std.specs.Prelude.{Contains}
use Rattle.std.proofs.lemmas.List.{get_or_default}
use Rattle.net_model.specs.Answer.{bit_at}
use Rattle.kept_vectors.specs.Standing.{AreRowsBut}
use Rattle.kept_vectors.proofs.StandingLemmas.{left_row, kept_row, rows_anew}
use Rattle.kept_vectors.proofs.standing.find_rows_anew.Goals as goal
use Rattle.kept_vectors.proofs.standing.find_rows_anew.Goals.{then-get, else-get}

pub loop-number-preserved : goal.loop-number-preserved
loop-number-preserved c =
    let good = c.args.good.now in
    let t = c.args.classes.now in
    let asked = c.args.differences.now.numbers.items in
    let roots = c.args.differences.now.units.roots.now in
    let lane = c.args.lane in
    let items = c.as_slice-number-items.ensures.value in
    let k = c.loop-number.number-index in
    let rows = c.loop-number.rows in
    let m = get_or asked k 0 in
    let are = c.loop-number.invariant in
    let h : k < length asked = omega (arith, c.loop-number-test.true, ap length items) in
    let one = c.requires.asked.mates k 0 h in
    let inside : m < length rows = omega (arith, one.0, are.count) in
    let AreLeft : List (List Bool) → Type 0 = λ now. AreRowsBut good roots t asked (λ n. (bit_at (get_or now n []) lane ≡ true) × Contains (drop (k + 1) asked) n) now in
    elim c.if-get.branch [
      | then-get w ↦
          let own = w.row_of.ensures in
          subst AreLeft (sym w.rows-is) (rw items (left_row good roots t asked k h lane are w.row_of.result inside (rw items at own)))
      | else-get w ↦
          let number = get_or c.as_slice-number-items.result.now k 0 in
          let old = c.index-rows-at.result in
          let row : get_or rows number old ≡ get_or rows number [] = get_or_default rows number old [] (rw items inside) in
          let seen : bit_at (get_or rows number []) lane ≡ false = sym (c.get.ensures.value ∙ ap (λ (bits : List Bool). bit_at bits lane) row) ∙ w.if-get.false in
          let off : bit_at (get_or rows m []) lane ≡ false = rw items at seen in
          subst AreLeft (sym w.rows-is) (kept_row good roots t asked k h lane are off)
    ]

pub returns : goal.returns
returns c =
    let asked = c.args.differences.now.numbers.items in
    rows_anew c.args.good.now c.args.differences.now.units.roots.now c.args.classes.now asked c.args.lane c.loop-number.number-index (omega (arith, c.loop-number-test.false, ap length c.as_slice-number-items.ensures.value)) c.loop-number.invariant
