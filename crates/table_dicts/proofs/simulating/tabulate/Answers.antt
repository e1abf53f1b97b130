use Rattle.std.proofs.Common.{◌≡◌, ◌∙◌, ◌<◌, ◌≤◌, ℕ, List, All, length, sym, ap, subst, arith}
use Rattle.std.specs.Prelude.{slice_range}
use Rattle.net_model.specs.Circuit.{Circuit}
use Rattle.net_model.specs.FaultList.{fault_count}
use Rattle.table_dicts.specs.declared.pattern_sim.PatternSim.{PatternSim}
use Rattle.table_dicts.specs.Blocks.{IsListedBit, kept_width, AreNumbersSet, AreRightBits}
use Rattle.table_dicts.proofs.BlockLemmas.{block_length, block_end, listed_moved, right_none, right_more}
use Rattle.table_dicts.proofs.simulating.tabulate.Goals as goal
use Rattle.table_dicts.proofs.simulating.tabulate.Goals.{After-new-in-loop-first}

pub loop-first-init : goal.loop-first-init
loop-first-init c =
    let sizes = c.in_ok-table.ensures.sizes in
    let circuit = c.args.subject.now in
    let patterns = c.args.patterns.now in
    let numbers = c.args.numbers.now in
    record {
      pattern_sim = c.in_ok-pattern_sim.ensures.pattern_sim;
      circuit = c.in_ok-pattern_sim.ensures.circuit;
      within = omega arith;
      aligned = λ h. omega arith;
      right = right_none (IsListedBit c.args.kept circuit patterns numbers) (length patterns) (length numbers) (kept_width c.args.kept (length circuit.positions)) c.in_ok-table.table
          (record { patterns_are = sizes.patterns_are; numbers_are = sizes.numbers_are; positions_are = sizes.positions_are ∙ (c.width_of-width.ensures ∙ ap (λ (ps : List ℕ). kept_width c.args.kept (length ps)) (c.positions-positions.ensures.value ∙ ap (λ (k : Circuit). k.positions) c.circuit.ensures.value)) });
    }

pub run-end-requires-clause-widths : goal.run-end-requires-clause-widths
run-end-requires-clause-widths c = subst (λ (k : Circuit). All (λ v. length v ≡ k.sources) c.args.patterns.now) (sym c.loop-first.invariant.circuit) c.requires.answerable.widths

-- The pattern simulator that has run a block is that of the circuit, and has the patterns of the block.
module _ (c : After-new-in-loop-first) where
  circuit_is : c.new-in-loop-first.new.pattern_sim.good.circuit ≡ c.args.subject.now
  circuit_is = ap (λ (b : PatternSim). b.good.circuit) c.new-in-loop-first.ensures.pattern_sim ∙ (c.run-end.ensures.circuit ∙ c.loop-first.invariant.circuit)

  vectors_are : c.new-in-loop-first.new.pattern_sim.block.vectors ≡ slice_range c.args.patterns.now c.loop-first.first c.run-end.result
  vectors_are = ap (λ (b : PatternSim). b.block.vectors) c.new-in-loop-first.ensures.pattern_sim ∙ c.run-end.ensures.vectors

pub write_block-requires-clause-numbers : goal.write_block-requires-clause-numbers
write_block-requires-clause-numbers c =
    subst (λ (k : Circuit). All (λ number. number < fault_count k) c.args.numbers.now) (sym (circuit_is (goal.at.write_block-requires-clause-numbers c).After-new-in-loop-first)) c.requires.numbers

pub write_block-requires-clause-rows : goal.write_block-requires-clause-rows
write_block-requires-clause-rows c = c.loop-first.invariant.right.sizes.numbers_are

pub write_block-requires-clause-free : goal.write_block-requires-clause-free
write_block-requires-clause-free c =
    omega (arith, c.in_ok-free.ensures.width, c.width_of-width.ensures, ap (λ (ps : List ℕ). kept_width c.args.kept (length ps)) (c.positions-positions.ensures.value ∙ ap (λ (k : Circuit). k.positions) c.circuit.ensures.value), c.loop-first.invariant.right.sizes.positions_are)

pub write_block-requires-clause-fits : goal.write_block-requires-clause-fits
write_block-requires-clause-fits c =
    let at = (goal.at.write_block-requires-clause-fits c).After-new-in-loop-first in
    let sizes = c.loop-first.invariant.right.sizes in
    let order : c.loop-first.first ≤ c.run-end.result = omega (arith, c.run-end.ensures.end) in
    let within : c.run-end.result ≤ length c.args.patterns.now = omega (arith, c.run-end.ensures.end) in
    record {
      width = sizes.positions_are ∙ sym (ap (λ (k : Circuit). kept_width c.args.kept (length k.positions)) (circuit_is at));
      aligned = c.loop-first.invariant.aligned c.loop-first-test.true;
      within = omega (arith, ap length (vectors_are at), block_length c.args.patterns.now c.loop-first.first c.run-end.result order within, order, within, sizes.patterns_are);
    }

pub loop-first-preserved : goal.loop-first-preserved
loop-first-preserved c =
    let so_far = c.loop-first.invariant in
    let patterns = c.args.patterns.now in
    let numbers = c.args.numbers.now in
    let kept = c.args.kept in
    let first = c.loop-first.first in
    let end = c.run-end.result in
    let at = (goal.at.loop-first-preserved c).After-new-in-loop-first in
    let pattern_sim = c.new-in-loop-first.new.pattern_sim in
    let order : first ≤ end = omega (arith, c.run-end.ensures.end) in
    let within : end ≤ length patterns = omega (arith, c.run-end.ensures.end) in
    let circuit = circuit_is at in
    let vectors = pattern_sim.block.vectors in
    let set = subst (λ (k : Circuit). AreNumbersSet (IsListedBit kept k vectors numbers) (length vectors) c.loop-first.table c.write_block.new.table (length numbers) first) circuit c.write_block.ensures.set in
    record {
      pattern_sim = c.write_block.ensures.run.pattern_sim;
      circuit = ap (λ (b : PatternSim). b.good.circuit) c.write_block.ensures.pattern_sim ∙ circuit;
      within = within;
      aligned = λ h. omega (arith, h, c.run-end.ensures.end, so_far.aligned c.loop-first-test.true);
      right = right_more end so_far.right set (listed_moved c.args.subject.now patterns vectors first end (vectors_are at) order within kept numbers)
          (block_end c.args.subject.now patterns vectors first end (vectors_are at) order within) within;
    }

pub loop-first-smaller : goal.loop-first-smaller
loop-first-smaller c = omega (arith, c.run-end.ensures.end)

pub returns : goal.returns
returns c =
    let patterns = c.args.patterns.now in
    let numbers = c.args.numbers.now in
    let all : c.loop-first.first ≡ length patterns = omega (arith, c.loop-first.invariant.within) in
    subst (λ n. AreRightBits (IsListedBit c.args.kept c.args.subject.now patterns numbers) (length patterns) (length numbers) (kept_width c.args.kept (length c.args.subject.now.positions)) n c.loop-first.table) all c.loop-first.invariant.right
