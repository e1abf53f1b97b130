use Rattle.std.proofs.Common.{◌∙◌, ℕ, ◌+◌, ◌*◌, ◌<◌, Bool, not, List, length, subst, sym, ap, ap₂, arith, w64}
use Rattle.std.specs.Prelude.{nat_lt, ◌&&◌, AllPairs}
use Rattle.std.specs.Int.{bit_not}
use Rattle.std.proofs.lemmas.List.{take_all}
use Rattle.net_model.specs.Answer.{bit_at}
use Rattle.net_model.proofs.SingleWords.{digit_and, digit_not}
use Rattle.fault_sim.specs.FaultSim.{lanes_at}
use Rattle.suspect_scores.specs.Columns.{IsBitCount, is_same_lane}
use Rattle.dict_rows.proofs.WordLemmas.{packed_bit}
use Rattle.suspect_scores.proofs.BitCountLemmas.{counted_none, counted_more, counted_fits, counted_all}
use Rattle.suspect_scores.proofs.BlockScores.{and_false, lane_bit}
use Rattle.suspect_scores.proofs.block_scores.unchanged_bits.Goals as goal

pub loop-position-init : goal.loop-position-init
loop-position-init c = counted_none (is_same_lane c.args.columns.now.wrong c.args.sim.now c.args.line (c.args.word * 64) c.args.lanes) c.new-counted.result c.new-counted.ensures.bits c.new-counted.ensures.some

pub add-requires : goal.add-requires
add-requires c =
    let items = c.deref-position-items.result.now in
    counted_fits (is_same_lane c.args.columns.now.wrong c.args.sim.now c.args.line (c.args.word * 64) c.args.lanes) items c.loop-position.position-index c.loop-position.counted c.loop-position.invariant
    (subst (AllPairs ◌<◌) (sym c.deref-position-items.ensures.value) c.requires.columns.wrong_positions.ascending) c.loop-position-test.true (omega (arith, c.type_inv.position-items c.loop-position.position-index))

pub loop-position-preserved : goal.loop-position-preserved
loop-position-preserved c =
    let items = c.deref-position-items.result.now in
    let bits = c.word_at-bits.result in
    let differing = c.word.result in
    counted_more (is_same_lane c.args.columns.now.wrong c.args.sim.now c.args.line (c.args.word * 64) c.args.lanes) items c.loop-position.position-index c.low_bits.result c.loop-position.counted c.add.new.self c.loop-position-test.true
    c.loop-position.invariant c.add.ensures.bits c.add.ensures.some c.low_bits.type_inv
    (λ k h.
    c.low_bits.ensures k h
    ∙ ap (λ (b : Bool). nat_lt k c.args.lanes && b)
    (digit_and bits (bit_not w64 differing) k
    ∙ ap₂ (λ (a b : Bool). a && b) (c.word_at-bits.ensures k h ∙ packed_bit c.row_words.ensures.packed (c.args.line + k))
    (digit_not differing k c.word.type_inv h ∙ ap not (lane_bit differing c.differs.result c.args.word k c.word.ensures c.requires.word h ∙ ap (λ (row : List Bool). bit_at row (c.args.word * 64 + k)) c.differs.ensures))))

pub returns : goal.returns
returns c =
    let items = c.deref-position-items.result.now in
    let wrong_positions = c.requires.columns.wrong_positions in
    let sim = c.args.sim.now in
    let test = is_same_lane c.args.columns.now.wrong sim c.args.line (c.args.word * 64) c.args.lanes in
    counted_all test c.args.columns.now.wrong_positions.items (length sim.circuit.positions) c.loop-position.counted
    (subst (λ (xs : List ℕ). IsBitCount test xs c.loop-position.counted) (take_all c.loop-position.position-index items (omega (arith, c.loop-position-test.false)) ∙ c.deref-position-items.ensures.value) c.loop-position.invariant)
    wrong_positions.within wrong_positions.ascending
    (λ p k hp away hk.
    ap (λ (b : Bool). nat_lt k c.args.lanes && (b && not (bit_at (lanes_at sim p) (c.args.word * 64 + k)))) (wrong_positions.others p (c.args.line + k) hp away) ∙ and_false (nat_lt k c.args.lanes))
