use Rattle.std.proofs.Common.{◌∙◌, ℕ, ◌+◌, ◌*◌, Bool, List, length, subst, ap, ap₂, arith}
use Rattle.std.specs.Prelude.{bit_and, ◌&&◌}
use Rattle.std.specs.Int.Bits.{and_lt}
use Rattle.std.proofs.lemmas.Bool.{false_from_ne_true}
use Rattle.std.proofs.lemmas.List.{take_all}
use Rattle.net_model.specs.Answer.{bit_at}
use Rattle.net_model.specs.Rows.{row_bit}
use Rattle.net_model.proofs.SingleWords.{digit_and}
use Rattle.fault_sim.specs.FaultSim.{lanes_at}
use Rattle.suspect_scores.specs.Columns.{IsBitCount, is_changed_lane}
use Rattle.dict_rows.proofs.WordLemmas.{packed_bit}
use Rattle.suspect_scores.proofs.BitCountLemmas.{counted_none, counted_more, counted_fits, counted_all}
use Rattle.suspect_scores.proofs.BlockScores.{and_false, lane_bit}
use Rattle.suspect_scores.proofs.block_scores.changed_bits.Goals as goal

pub loop-position-init : goal.loop-position-init
loop-position-init c = counted_none (is_changed_lane c.args.rows.now c.args.sim.now c.args.line (c.args.word * 64)) c.new-counted.result c.new-counted.ensures.bits c.new-counted.ensures.some

pub add-requires : goal.add-requires
add-requires c =
    let items = c.differing_positions-position-items in
    counted_fits (is_changed_lane c.args.rows.now c.args.sim.now c.args.line (c.args.word * 64)) items.result.now c.loop-position.position-index c.loop-position.counted c.loop-position.invariant items.ensures.ascending c.loop-position-test.true
    (omega (arith, c.type_inv.position-items c.loop-position.position-index))

pub loop-position-preserved : goal.loop-position-preserved
loop-position-preserved c =
    let items = c.differing_positions-position-items.result.now in
    let bits = c.word_at-bits.result in
    let differing = c.word.result in
    counted_more (is_changed_lane c.args.rows.now c.args.sim.now c.args.line (c.args.word * 64)) items c.loop-position.position-index (bit_and bits differing) c.loop-position.counted c.add.new.self c.loop-position-test.true c.loop-position.invariant
    c.add.ensures.bits c.add.ensures.some (and_lt 64 bits differing c.word_at-bits.type_inv c.word.type_inv)
    (λ k h.
    digit_and bits differing k
    ∙ ap₂ (λ (a b : Bool). a && b) (c.word_at-bits.ensures k h ∙ packed_bit c.row_words.ensures.packed (c.args.line + k))
    (lane_bit differing c.differs.result c.args.word k c.word.ensures c.requires.word h ∙ ap (λ (row : List Bool). bit_at row (c.args.word * 64 + k)) c.differs.ensures))

pub returns : goal.returns
returns c =
    let items = c.differing_positions-position-items in
    let sim = c.args.sim.now in
    let test = is_changed_lane c.args.rows.now sim c.args.line (c.args.word * 64) in
    counted_all test items.result.now (length sim.circuit.positions) c.loop-position.counted
    (subst (λ (xs : List ℕ). IsBitCount test xs c.loop-position.counted) (take_all c.loop-position.position-index items.result.now (omega (arith, c.loop-position-test.false))) c.loop-position.invariant)
    items.ensures.within items.ensures.ascending
    (λ p k hp away hk.
    let lane = c.args.word * 64 + k in
    let bit = row_bit c.args.rows.now p (c.args.line + k) in
    ap (λ (b : Bool). bit && b) (false_from_ne_true (bit_at (lanes_at sim p) lane) (λ yes. away ((items.ensures.exactly p hp).1 (lane, omega (arith, c.requires.word, hk), yes)))) ∙ and_false bit)
