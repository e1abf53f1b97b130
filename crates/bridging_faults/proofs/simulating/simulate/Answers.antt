use Rattle.std.proofs.Common.{◌≡◌, ◌∙◌, ◌≤◌, List, Bool, length, ap, sym, subst, arith}
use Rattle.std.specs.Prelude.{slice_range}
use Rattle.net_model.specs.Circuit.{Circuit, line_count}
use Rattle.table_dicts.specs.declared.pattern_sim.PatternSim.{PatternSim}
use Rattle.bridging_faults.specs.Simulated.{IsFreeValue, IsTurnedBit, IsTurnedLane, HaveRoom, AreLinesNoted}
use Rattle.bridging_faults.proofs.SimulatedLemmas.{known_room, known_more, last_is, value_moved, turned_moved}
use Rattle.bridging_faults.proofs.simulating.simulate.Goals as goal

pub loop-first-preserved : goal.loop-first-preserved
loop-first-preserved c =
    let so_far = c.loop-first.invariant in
    let s = c.args.setting.now in
    let logged = c.args.logged.now in
    let lines = line_count s.subject.now in
    let patterns = c.as_slice-patterns.result.now in
    let many = length logged.patterns.items in
    let first = c.loop-first.first in
    let end = c.run-end.result in
    let vectors = c.run-end.new.self.block.vectors in
    let same : patterns ≡ logged.patterns.items = c.as_slice-patterns.ensures.value in
    let order : first ≤ end = omega (arith, c.run-end.ensures.end) in
    let within : end ≤ length patterns = omega (arith, c.run-end.ensures.end) in
    let inside : end ≤ many = omega (arith, within, ap length same) in
    let block : vectors ≡ slice_range logged.patterns.items first end = c.run-end.ensures.vectors ∙ ap (λ (ps : List (List Bool)). slice_range ps first end) same in
    let circuit : c.run-end.new.self.good.circuit ≡ s.subject.now = c.run-end.ensures.circuit ∙ so_far.circuit in
    let last = last_is s logged vectors first end block order inside in
    let GoodNoted : Circuit → Type 0 = λ k. AreLinesNoted (IsFreeValue k vectors) first (length vectors) c.loop-first.good c.note_lines.new.good (line_count k) in
    let TurnedNoted : Circuit → Type 0 = λ k. AreLinesNoted (IsTurnedLane k vectors logged.columns first) first (length vectors) c.loop-first.turned c.note_lines.new.turned (line_count k) in
    record {
      pattern_sim = c.note_lines.ensures.run.pattern_sim;
      circuit = ap (λ (b : PatternSim). b.good.circuit) c.note_lines.ensures.pattern_sim ∙ circuit;
      within = within;
      aligned = λ h. omega (arith, h, c.run-end.ensures.end, so_far.aligned c.loop-first-test.true);
      good = known_more (IsFreeValue s.subject.now logged.patterns.items) lines many (IsFreeValue s.subject.now vectors) first end (length vectors) c.loop-first.good c.note_lines.new.good so_far.good
          (subst GoodNoted circuit c.note_lines.ensures.good) last (λ line lane bit live is. value_moved s logged vectors first end block order inside line lane bit live is);
      turned = known_more (IsTurnedBit s logged) lines many (IsTurnedLane s.subject.now vectors logged.columns first) first end (length vectors) c.loop-first.turned c.note_lines.new.turned so_far.turned
          (subst TurnedNoted circuit c.note_lines.ensures.turned) last (λ line lane bit live is. turned_moved s logged vectors first end block order inside line lane bit live is);
    }

pub loop-first-smaller : goal.loop-first-smaller
loop-first-smaller c = omega (arith, c.run-end.ensures.end)

pub note_lines-requires-clause-good : goal.note_lines-requires-clause-good
note_lines-requires-clause-good c =
    let so_far = c.loop-first.invariant in
    let s = c.args.setting.now in
    let logged = c.args.logged.now in
    let first = c.loop-first.first in
    let end = c.run-end.result in
    let vectors = c.run-end.new.self.block.vectors in
    let same : c.as_slice-patterns.result.now ≡ logged.patterns.items = c.as_slice-patterns.ensures.value in
    let order : first ≤ end = omega (arith, c.run-end.ensures.end) in
    let inside : end ≤ length logged.patterns.items = omega (arith, c.run-end.ensures.end, ap length same) in
    let block : vectors ≡ slice_range logged.patterns.items first end = c.run-end.ensures.vectors ∙ ap (λ (ps : List (List Bool)). slice_range ps first end) same in
    let last = last_is s logged vectors first end block order inside in
    let circuit : c.run-end.new.self.good.circuit ≡ s.subject.now = c.run-end.ensures.circuit ∙ so_far.circuit in
    let Room : Circuit → Type 0 = λ k. HaveRoom (line_count k) first (length vectors) c.loop-first.good in
    subst Room (sym circuit) (known_room (IsFreeValue s.subject.now logged.patterns.items) (line_count s.subject.now) (length logged.patterns.items) first first (length vectors) c.loop-first.good so_far.good (omega (arith, last, inside)))

pub note_lines-requires-clause-turned : goal.note_lines-requires-clause-turned
note_lines-requires-clause-turned c =
    let so_far = c.loop-first.invariant in
    let s = c.args.setting.now in
    let logged = c.args.logged.now in
    let first = c.loop-first.first in
    let end = c.run-end.result in
    let vectors = c.run-end.new.self.block.vectors in
    let same : c.as_slice-patterns.result.now ≡ logged.patterns.items = c.as_slice-patterns.ensures.value in
    let order : first ≤ end = omega (arith, c.run-end.ensures.end) in
    let inside : end ≤ length logged.patterns.items = omega (arith, c.run-end.ensures.end, ap length same) in
    let block : vectors ≡ slice_range logged.patterns.items first end = c.run-end.ensures.vectors ∙ ap (λ (ps : List (List Bool)). slice_range ps first end) same in
    let last = last_is s logged vectors first end block order inside in
    let circuit : c.run-end.new.self.good.circuit ≡ s.subject.now = c.run-end.ensures.circuit ∙ so_far.circuit in
    let Room : Circuit → Type 0 = λ k. HaveRoom (line_count k) first (length vectors) c.loop-first.turned in
    subst Room (sym circuit) (known_room (IsTurnedBit s logged) (line_count s.subject.now) (length logged.patterns.items) first first (length vectors) c.loop-first.turned so_far.turned (omega (arith, last, inside)))
