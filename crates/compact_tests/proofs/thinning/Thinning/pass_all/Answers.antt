use Rattle.std.proofs.Common.{◌≡◌, ◌∙◌, ◌+◌, ◌-◌, ◌≤◌, ℕ, Bool, List, length, refl, sym, ap, subst, arith}
use Rattle.std.specs.Prelude.{All, slice_range}
use Rattle.std.specs.Borrow.{Bor}
use Rattle.net_model.specs.ClassTable.{ClassTable}
use Rattle.net_model.specs.FaultList.{fault_count}
use Rattle.net_model.proofs.Listed.{some_number}
use Rattle.word_sim.specs.Block.{Block}
use Rattle.table_dicts.proofs.BlockLemmas.{block_length}
use Rattle.compact_tests.specs.Remaining.{Answered}
use Rattle.compact_tests.specs.Thinning.{IsAnswered, IsThinning, IsThinnedTo, IsBlockOf}
use Rattle.compact_tests.proofs.SimulatedLemmas.{as_many_answered}
use Rattle.compact_tests.proofs.thinning.Thinning.pass_all.Goals as goal

pub loop-end-init : goal.loop-end-init
loop-end-init c = record {
  within = omega arith;
  sources = ap (λ (b : Block). b.sources) c.in_ok-block.ensures ∙ c.sources.ensures.value;
  classes = refl;
  thinning = c.requires.thinning;
  thinned = λ all answered.
      let circuit = c.args.circuit.now in
      let checked = c.args.checked.now in
      let many = as_many_answered circuit checked.patterns checked.classes all answered in
      let end : length all ≡ length c.as_slice-vectors.result.now = many ∙ sym (ap length c.as_slice-vectors.ensures) in
      subst (λ (k : ℕ). IsThinnedTo (fault_count circuit) checked.classes all k c.args.self.now) end (c.requires.begun (fault_count circuit) all (record { some = some_number circuit; is = answered.table }));
}

pub fill_block-requires-clause-widths : goal.fill_block-requires-clause-widths
fill_block-requires-clause-widths c =
    let patterns = c.args.checked.now.patterns in
    subst (λ (vs : List (List Bool)). All (λ v. length v ≡ c.loop-end.block.sources) vs) (sym c.as_slice-vectors.ensures) (subst (λ (n : ℕ). All (λ v. length v ≡ n) patterns) (sym c.loop-end.invariant.sources) c.requires.answered.widths)

pub pass_block-requires-clause-sources : goal.pass_block-requires-clause-sources
pass_block-requires-clause-sources c = c.fill_block.ensures.sources ∙ c.loop-end.invariant.sources

pub pass_block-requires-clause-numbers : goal.pass_block-requires-clause-numbers
pass_block-requires-clause-numbers c = ap (λ (t : ClassTable). length t.class_of) c.loop-end.invariant.thinning.classes ∙ c.requires.numbers

pub pass_block-requires-clause-thinning : goal.pass_block-requires-clause-thinning
pass_block-requires-clause-thinning c = subst (λ (t : ClassTable). IsThinning t c.loop-end.self) (sym c.loop-end.invariant.thinning.classes) c.loop-end.invariant.thinning

pub pass_block-requires-clause-within : goal.pass_block-requires-clause-within
pass_block-requires-clause-within c =
    let vectors = c.as_slice-vectors.result.now in
    let first = c.saturating_sub-first.result in
    omega (arith, ap length c.fill_block.ensures.vectors, block_length vectors first c.loop-end.end (omega (arith, c.saturating_sub-first.ensures)) c.loop-end.invariant.within, c.loop-end.invariant.within)

pub loop-end-preserved : goal.loop-end-preserved
loop-end-preserved c =
    let circuit = c.args.circuit.now in
    let checked = c.args.checked.now in
    let t = checked.classes in
    let patterns = checked.patterns in
    let numbers = fault_count circuit in
    let so_far = c.loop-end.invariant in
    let vectors = c.as_slice-vectors.result.now in
    let first = c.saturating_sub-first.result in
    let end = c.loop-end.end in
    let block = c.fill_block.new.block.vectors in
    let old = c.loop-end.self in
    let new = c.pass_block.new.self in
    let low : first ≤ end = omega (arith, c.saturating_sub-first.ensures) in
    let same = c.as_slice-vectors.ensures in
    let within : end ≤ length patterns = omega (arith, so_far.within, ap length same) in
    let many : length block ≡ end - first = ap length c.fill_block.ensures.vectors ∙ block_length vectors first end low so_far.within in
    let to : first + length block ≡ end = omega (arith, many, low) in
    let classes : new.classes.now ≡ t = ap (λ (b : Bor ClassTable). b.now) c.in_ok-pass_block.ensures.classes ∙ so_far.thinning.classes in
    record {
      within = omega (arith, low, so_far.within);
      sources = c.fill_block.ensures.sources ∙ so_far.sources;
      classes = c.in_ok-pass_block.ensures.classes ∙ so_far.classes;
      thinning = subst (λ (u : ClassTable). IsThinning u new) classes c.in_ok-pass_block.ensures.thinning;
      thinned = λ all answered.
          let is : IsBlockOf patterns first block = record {
            within = omega (arith, to, within);
            are = c.fill_block.ensures.vectors ∙ (ap (λ (vs : List (List Bool)). slice_range vs first end) same ∙ ap (slice_range patterns first) (sym to));
          } in
          let before : IsThinnedTo numbers t all (first + length block) old = subst (λ (k : ℕ). IsThinnedTo numbers t all k old) (sym to) (so_far.thinned all answered) in
          subst (λ (u : ClassTable). (ps : List (List Bool)) (qs : List Answered) → IsAnswered circuit ps u qs → IsBlockOf ps first block → IsThinnedTo numbers u qs (first + length block) old → IsThinnedTo numbers u qs first new) so_far.thinning.classes c.in_ok-pass_block.ensures.passed
          patterns all answered is before;
    }

pub returns-clause-thinned : goal.returns-clause-thinned
returns-clause-thinned c = λ all answered.
    subst (λ (k : ℕ). IsThinnedTo (fault_count c.args.circuit.now) c.args.checked.now.classes all k c.loop-end.self) (omega (arith, c.loop-end-test.false)) (c.loop-end.invariant.thinned all answered)
