use Rattle.std.proofs.Common.{◌≡◌, ◌∙◌, ◌<◌, ℕ, List, [], length, get_or, refl, sym, ap, subst, arith}
use Rattle.std.specs.Prelude.{Bool, not, Option, unwrap_or}
use Rattle.net_model.specs.declared.fault.Site.TheVariants.{Stem}
use Rattle.net_model.specs.declared.fault.Fault.TheVariants.{Free, Stuck}
use Rattle.net_model.specs.Circuit.{Circuit, line_count}
use Rattle.net_model.specs.Answer.{bit_at, Agrees}
use Rattle.word_sim.specs.declared.lanes.TheConstants.{LANES}
use Rattle.word_sim.specs.GoodSim.{vectors_of}
use Rattle.fault_heads.specs.declared.head.Head.TheVariants as head
use Rattle.fault_heads.specs.Turned.{turned_if}
use Rattle.fault_sim.specs.FaultSim.{IsDifference, lanes_at}
use Rattle.suspect_scores.specs.Scored.{meets_all}
use Rattle.suspect_scores.specs.Columns.{AreColumnRows, lane_score}
use Rattle.bridging_faults.specs.Simulated.{IsFreeValue, IsTurnedLane, AreLanesNoted}
use Rattle.bridging_faults.proofs.SimulatedLemmas.{line_noted}
use Rattle.bridging_faults.proofs.simulating.note_line.Goals as goal

pub flip-requires-clause-circuit : goal.flip-requires-clause-circuit
flip-requires-clause-circuit c = sym c.requires.run.pattern_sim.sim

pub flip-requires-clause-ran : goal.flip-requires-clause-ran
flip-requires-clause-ran c = rw c.requires.run.ran refl

pub flip-requires-clause-head : goal.flip-requires-clause-head
flip-requires-clause-head c = subst (λ (k : Circuit). c.args.line < line_count k) (sym c.requires.run.pattern_sim.sim) c.requires.line

pub note_lanes-requires-clause-count : goal.note_lanes-requires-clause-count
note_lanes-requires-clause-count c = omega (arith, c.live-count.ensures.value, c.requires.run.few)

pub note_lanes-requires-clause-row : goal.note_lanes-requires-clause-row
note_lanes-requires-clause-row c = omega (arith, c.requires.good.many, c.requires.line)

pub note_lanes-requires-clause-wide : goal.note_lanes-requires-clause-wide
note_lanes-requires-clause-wide c = omega (arith, c.requires.good.wide c.args.line c.requires.line, c.live-count.ensures.value)

pub note_fitting-requires-clause-columns : goal.note_fitting-requires-clause-columns
note_fitting-requires-clause-columns c = subst (λ (k : Circuit). AreColumnRows (length k.positions) c.args.columns.now) (sym (c.flip.ensures.circuit ∙ c.requires.run.pattern_sim.sim)) c.requires.columns

pub note_fitting-requires-clause-count : goal.note_fitting-requires-clause-count
note_fitting-requires-clause-count c = omega (arith, c.live-count.ensures.value, c.requires.run.few)

pub note_fitting-requires-clause-past : goal.note_fitting-requires-clause-past
note_fitting-requires-clause-past c = λ position lane low past live.
    let good = c.args.pattern_sim.now.good in
    let ran : vectors_of good ≡ c.args.pattern_sim.now.block.vectors = ap (λ (ran : Option (List (List Bool))). unwrap_or ran []) c.requires.run.ran in
    c.flip.ensures.differences.past position lane (omega (arith, low, ap (λ (k : Circuit). length k.positions) (c.flip.ensures.circuit ∙ c.requires.run.pattern_sim.sim))) (omega (arith, past, c.live-count.ensures.value, ap length ran)) live

pub note_fitting-requires-clause-row : goal.note_fitting-requires-clause-row
note_fitting-requires-clause-row c = omega (arith, c.requires.turned.many, c.requires.line)

pub note_fitting-requires-clause-wide : goal.note_fitting-requires-clause-wide
note_fitting-requires-clause-wide c = omega (arith, c.requires.turned.wide c.args.line c.requires.line, c.live-count.ensures.value)

pub returns-clause-run : goal.returns-clause-run
returns-clause-run c =
    let run = c.requires.run in
    record {
      pattern_sim = record { circuit = run.pattern_sim.circuit; subject = run.pattern_sim.subject; block = run.pattern_sim.block; good = run.pattern_sim.good; sim = c.flip.ensures.circuit ∙ run.pattern_sim.sim };
      ran = run.ran;
      few = run.few;
    }

pub returns-clause-good : goal.returns-clause-good
returns-clause-good c =
    let pattern_sim = c.args.pattern_sim.now in
    let good = pattern_sim.good in
    let vectors = pattern_sim.block.vectors in
    let old = c.args.good.now in
    let new = c.note_lanes.new.rows in
    let ran : vectors_of good ≡ vectors = ap (λ (ran : Option (List (List Bool))). unwrap_or ran []) c.requires.run.ran in
    let noted = subst (λ (n : ℕ). AreLanesNoted (bit_at c.lanes.result) c.args.first n old new c.args.line) c.live-count.ensures.value c.note_lanes.ensures in
    line_noted (IsFreeValue good.circuit vectors) c.args.first (length vectors) (bit_at c.lanes.result) c.args.line old new noted
    (λ lane bit live is bits agrees.
    let inside : lane < length (vectors_of good) = subst (λ (vs : List (List Bool)). lane < length vs) (sym ran) live in
    is ∙ c.lanes.ensures lane inside bits (subst (λ (vs : List (List Bool)). Agrees good.circuit Free (get_or vs lane []) bits) (sym ran) agrees))

pub returns-clause-turned : goal.returns-clause-turned
returns-clause-turned c =
    let pattern_sim = c.args.pattern_sim.now in
    let good = pattern_sim.good in
    let vectors = pattern_sim.block.vectors in
    let line = c.args.line in
    let columns = c.args.columns.now in
    let sim = c.flip.new.self in
    let old = c.args.turned.now in
    let new = c.note_fitting.new.rows in
    let ran : vectors_of good ≡ vectors = ap (λ (ran : Option (List (List Bool))). unwrap_or ran []) c.requires.run.ran in
    let bits : ℕ → Bool = λ lane. meets_all (lane_score columns sim c.args.first lane) in
    let noted = subst (λ (n : ℕ). AreLanesNoted bits c.args.first n old new line) c.live-count.ensures.value c.note_fitting.ensures in
    line_noted (IsTurnedLane good.circuit vectors columns c.args.first) c.args.first (length vectors) bits line old new noted
    (λ lane bit live is. record {
      sim = sim;
      circuit = c.flip.ensures.circuit ∙ c.requires.run.pattern_sim.sim;
      differ = λ position free h agrees.
          let low : lane < LANES = omega (arith, live, c.requires.run.few) in
          let inside : lane < length (vectors_of good) = subst (λ (vs : List (List Bool)). lane < length vs) (sym ran) live in
          let there = subst (λ (vs : List (List Bool)). Agrees good.circuit Free (get_or vs lane []) free) (sym ran) agrees in
          let own = c.flip.ensures.differences.live position lane free h (record { within = low; live = inside; agrees = there }) in
          let all = subst (λ (b : Bool). IsDifference good.circuit (turned_if good.circuit free (head.Line line) b) (get_or (vectors_of good) lane []) position (bit_at (lanes_at sim position) lane)) (c.all.ensures lane low) own in
          subst (λ (vs : List (List Bool)). IsDifference good.circuit (Stuck (Stem line) (not (bit_at free line))) (get_or vs lane []) position (bit_at (lanes_at sim position) lane)) ran all;
      is = is;
    })
