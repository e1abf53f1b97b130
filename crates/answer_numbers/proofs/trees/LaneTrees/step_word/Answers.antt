use Rattle.std.proofs.Common.{◌≡◌, ◌∙◌, ◌-◌, ◌*◌, ◌%◌, ◌<◌, ◌^◌, ℕ, false, cond, eqb, sym, ap, arith, w64}
use Rattle.std.specs.Prelude.{bit_and}
use Rattle.std.specs.Int.{trailing_zeros}
use Rattle.std.proofs.lemmas.Nat.{and_le_l}
use Rattle.net_model.specs.Rows.{bit_of}
use Rattle.net_model.proofs.SingleWords.{bit-cleared}
use Rattle.answer_numbers.specs.Growing.{in_word}
use Rattle.answer_numbers.proofs.GrownLemmas.{word_done, grown_none, grown_then, grown_as, digit_apart, digit_more, still_among, word_whole, word_none, lowest_small, lowest_is, fewer, none_set}
use Rattle.answer_numbers.proofs.trees.LaneTrees.step_word.Goals as goal

pub loop-left-init : goal.loop-left-init
loop-left-init c = record {
  small = omega (arith, c.ranges.word.fits);
  among = λ k h t. t;
  grown = grown_none c.args.position (word_done c.args.first c.args.word c.args.word) c.args.self.now c.requires.trees (λ cell h. word_none c.args.first c.args.word cell);
}

pub step-requires-clause-cell : goal.step-requires-clause-cell
step-requires-clause-cell c =
    let some : 0 < c.loop-left.left = omega (arith, c.loop-left-test.true) in
    let small = lowest_small c.loop-left.left some c.loop-left.invariant.small in
    let has = lowest_is c.loop-left.left some c.loop-left.invariant.small in
    let digit = trailing_zeros w64 c.loop-left.left in
    omega (arith, c.requires.within digit small (c.loop-left.invariant.among digit small has), c.loop-left.invariant.grown.cells)

pub loop-left-smaller : goal.loop-left-smaller
loop-left-smaller c =
    let some : 0 < c.loop-left.left = omega (arith, c.loop-left-test.true) in
    let small = lowest_small c.loop-left.left some c.loop-left.invariant.small in
    let has = lowest_is c.loop-left.left some c.loop-left.invariant.small in
    fewer c.loop-left.left (trailing_zeros w64 c.loop-left.left) small c.loop-left.invariant.small has

pub loop-left-preserved : goal.loop-left-preserved
loop-left-preserved c =
    let some : 0 < c.loop-left.left = omega (arith, c.loop-left-test.true) in
    let small = lowest_small c.loop-left.left some c.loop-left.invariant.small in
    let has = lowest_is c.loop-left.left some c.loop-left.invariant.small in
    let left = c.loop-left.left in
    let digit = trailing_zeros w64 left in
    let next = bit_and left (2 ^ 64 - 1 - 1 * 2 ^ digit % 2 ^ 64) in
    let cleared : (k : ℕ) → k < 64 → bit_of next k ≡ cond (eqb k digit) false (bit_of left k) = bit-cleared left digit small c.loop-left.invariant.small in
    let among = c.loop-left.invariant.among in
    record {
      small = omega (arith, and_le_l left (2 ^ 64 - 1 - 1 * 2 ^ digit % 2 ^ 64), c.loop-left.invariant.small);
      among = still_among c.args.first c.args.word left digit next small has among cleared;
      grown = grown_then (word_done c.args.first c.args.word next) c.loop-left.invariant.grown c.in_ok-step.ensures (λ cell h. digit_apart c.args.first c.args.word left digit next small has among cleared cell)
          (λ cell h. digit_more c.args.first c.args.word left digit next small has among cleared cell);
    }

pub returns : goal.returns
returns c =
    let none : c.loop-left.left ≡ 0 = omega (arith, c.loop-left-test.false) in
    grown_as (in_word c.args.first c.args.word) c.loop-left.invariant.grown (λ cell h. word_whole c.args.first c.args.word cell none_set ∙ ap (λ l. word_done c.args.first c.args.word l cell) (sym none))
