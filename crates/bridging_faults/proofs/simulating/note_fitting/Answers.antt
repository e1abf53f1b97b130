use Rattle.std.proofs.Common.{◌∙◌, ℕ, ◌+◌, ◌*◌, arith}
use Rattle.std.specs.Prelude.{Bool, ◌&&◌}
use Rattle.std.proofs.lemmas.Bool.{lt-ltb}
use Rattle.suspect_scores.specs.Scored.{meets_all}
use Rattle.suspect_scores.specs.Columns.{lane_score}
use Rattle.bridging_faults.proofs.SimulatedLemmas.{words_none, words_more, words_all}
use Rattle.bridging_faults.proofs.simulating.note_fitting.Goals as goal

pub loop-word-init : goal.loop-word-init
loop-word-init c = words_none (λ lane. meets_all (lane_score c.args.columns.now c.args.sim.now c.args.first lane)) c.args.first c.args.count c.args.rows.now c.args.row

pub loop-word-preserved : goal.loop-word-preserved
loop-word-preserved c =
    let word = c.loop-word.word in
    let bits : ℕ → Bool = λ lane. meets_all (lane_score c.args.columns.now c.args.sim.now c.args.first lane) in
    words_more bits c.args.first c.args.count word _ c.fitting_word-fitting.result c.args.row c.args.rows.now c.loop-word.rows c.set_word.new.self c.loop-word.invariant c.set_word.ensures (omega arith) c.requires.aligned c.requires.wide
    (λ k h live. c.fitting_word-fitting.ensures k h ∙ (λ i. lt-ltb (word * 64 + k) c.args.count live i && bits (word * 64 + k)))

pub returns : goal.returns
returns c =
    words_all (λ lane. meets_all (lane_score c.args.columns.now c.args.sim.now c.args.first lane)) c.args.first c.args.count c.loop-word.word c.args.row c.args.rows.now c.loop-word.rows c.loop-word.invariant
    (omega (arith, c.loop-word-test.false, c.loop-word.auto.word-end))
