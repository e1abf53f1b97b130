use Rattle.std.proofs.Common.{◌≡◌, ◌∙◌, ◌+◌, ◌*◌, ◌/◌, ◌<◌, true, sym, arith, inl, inr}
use Rattle.std.proofs.lemmas.Bool.{cases_lt, false≢true, and_right, le-ltb}
use Rattle.net_model.specs.Answer.{bit_at}
use Rattle.word_sim.specs.declared.lanes.TheConstants.{LANES}
use Rattle.answer_numbers.specs.Growing.{in_lanes}
use Rattle.answer_numbers.proofs.GrownLemmas.{lanes_done, grown_none, grown_then, grown_as, bit_in_row, word_apart, word_more, lanes_whole}
use Rattle.answer_numbers.proofs.trees.LaneTrees.step_lanes.Goals as goal

pub loop-at-init : goal.loop-at-init
loop-at-init c =
    let first = c.args.place * c.args.self.now.lanes in
    grown_none c.args.position (lanes_done first c.args.lanes 0) c.args.self.now c.requires.trees (λ cell h. and_right (in_lanes first c.args.lanes cell) _ (le-ltb _ 0 (omega arith)))

pub step_word-requires-clause-within : goal.step_word-requires-clause-within
step_word-requires-clause-within c = λ k h t.
    let first = c.args.place * c.args.self.now.lanes in
    let at = c.loop-at.at in
    let low : at < LANES / 64 = omega arith in
    let on : bit_at c.args.lanes (at * 64 + k) ≡ true = bit_in_row first at c.args.lanes c.word.result low c.word.ensures k h t in
    let lane : at * 64 + k < c.args.self.now.lanes = elim (cases_lt (at * 64 + k) c.args.self.now.lanes) [
      | inl l ↦ l
      | inr past ↦ absurd (false≢true (sym (c.requires.past (at * 64 + k) past (omega (arith, low, h))) ∙ on))
    ] in
    omega (arith, lane, c.requires.place, c.loop-at.invariant.cells)

pub loop-at-preserved : goal.loop-at-preserved
loop-at-preserved c =
    let first = c.args.place * c.args.self.now.lanes in
    let at = c.loop-at.at in
    let low : at < LANES / 64 = omega arith in
    grown_then (lanes_done first c.args.lanes ((at + 1) * 64)) c.loop-at.invariant c.in_ok-step_word.ensures (λ cell h t. word_apart first at c.args.lanes c.word.result low c.word.ensures cell t)
    (λ cell h. word_more first at c.args.lanes c.word.result low c.word.ensures cell)

pub returns : goal.returns
returns c =
    let first = c.args.place * c.args.self.now.lanes in
    grown_as (in_lanes first c.args.lanes) c.loop-at.invariant (λ cell h. lanes_whole first c.args.lanes (c.loop-at.at * 64) cell (omega arith))
