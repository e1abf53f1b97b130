use Rattle.std.proofs.Common.{◌≡◌, ◌∙◌, ◌+◌, ◌-◌, ◌≤◌, ℕ, Bool, List, [], length, take, get_or, sym, ap, subst, arith}
use Rattle.std.specs.Prelude.{All, slice_range}
use Rattle.std.specs.Borrow.{Bor}
use Rattle.std.proofs.lemmas.List.{length-map, take_all}
use Rattle.net_model.specs.Circuit.{Circuit}
use Rattle.net_model.specs.ClassTable.{ClassTable, class_table}
use Rattle.net_model.specs.FaultList.{fault_count}
use Rattle.net_model.specs.PatternRows.{AreAnswerRows}
use Rattle.net_model.proofs.Listed.{some_number}
use Rattle.word_sim.specs.Block.{Block}
use Rattle.table_dicts.proofs.BlockLemmas.{block_length}
use Rattle.compact_tests.specs.Remaining.{Answered, answered_rows}
use Rattle.compact_tests.specs.Thinning.{AreAnswersOf, IsBlockOf, patterns_at}
use Rattle.compact_tests.specs.Keeping.{vectors_at, IsKeeping, IsKeptTo, AreNeededOf}
use Rattle.compact_tests.proofs.TableLemmas.{numbers-table}
use Rattle.compact_tests.proofs.SimulatedLemmas.{as_many_rows}
use Rattle.compact_tests.proofs.KeepingLemmas.{place_answers, places_needed}
use Rattle.compact_tests.proofs.keeping.classes_at.Goals as goal

numbers_of : (c : Circuit) (patterns : List (List Bool)) (t : ClassTable) → AreAnswersOf c patterns t → length t.class_of ≡ fault_count c
numbers_of c patterns t are = ap (λ (u : ClassTable). length u.class_of) are.answered.table ∙ numbers-table (fault_count c) (answered_rows are.all)

pub new-requires-clause-some : goal.new-requires-clause-some
new-requires-clause-some c = omega (arith, c.len.ensures.value, ap length c.requires.faults, some_number c.args.circuit.now)

pub new-requires-clause-numbers : goal.new-requires-clause-numbers
new-requires-clause-numbers c = omega (arith, c.len.ensures.value, ap length c.requires.faults, numbers_of c.args.circuit.now c.args.patterns.now c.args.classes.now c.requires.answered)

pub fill_from-requires-clause-widths : goal.fill_from-requires-clause-widths
fill_from-requires-clause-widths c = subst (λ (n : ℕ). All (λ v. length v ≡ n) c.args.patterns.now) (sym c.loop-first.invariant.sources) c.requires.answered.widths

pub keep_block-requires-clause-sources : goal.keep_block-requires-clause-sources
keep_block-requires-clause-sources c = ap (λ (b : Block). b.sources) c.fill_from.ensures ∙ c.loop-first.invariant.sources

pub keep_block-requires-clause-numbers : goal.keep_block-requires-clause-numbers
keep_block-requires-clause-numbers c = ap (λ (t : ClassTable). length t.class_of) c.loop-first.invariant.keeping.classes ∙ numbers_of c.args.circuit.now c.args.patterns.now c.args.classes.now c.requires.answered

pub keep_block-requires-clause-keeping : goal.keep_block-requires-clause-keeping
keep_block-requires-clause-keeping c = subst (λ (t : ClassTable). IsKeeping t c.loop-first.keeping) (sym c.loop-first.invariant.keeping.classes) c.loop-first.invariant.keeping

pub loop-first-preserved : goal.loop-first-preserved
loop-first-preserved c =
    let circuit = c.args.circuit.now in
    let t = c.args.classes.now in
    let patterns = c.args.patterns.now in
    let places = c.args.places.now in
    let so_far = c.loop-first.invariant in
    let old = c.loop-first.keeping in
    let new = c.keep_block.new.self in
    let first = c.loop-first.first in
    let end = first + c.min.result in
    let vectors = vectors_at patterns places in
    let block = c.fill_from.new.block.vectors in
    let long : length vectors ≡ length places = length-map places (λ (place : ℕ). get_or patterns place []) in
    let within : end ≤ length vectors = omega (arith, long, c.min.ensures, c.loop-first-test.true) in
    let block_is : block ≡ slice_range vectors first end = ap (λ (b : Block). b.vectors) c.fill_from.ensures in
    let many : length block ≡ end - first = ap length block_is ∙ block_length vectors first end (omega arith) within in
    let to : first + length block ≡ end = omega (arith, many) in
    let classes : new.classes.now ≡ t = ap (λ (b : Bor ClassTable). b.now) c.in_ok-keep_block.ensures.classes ∙ so_far.keeping.classes in
    record {
      within = omega (arith, within, long);
      sources = ap (λ (b : Block). b.sources) c.fill_from.ensures ∙ so_far.sources;
      keeping = subst (λ (u : ClassTable). IsKeeping u new) classes c.in_ok-keep_block.ensures.keeping;
      kept = λ all answered.
          let kept = patterns_at all places in
          let is : IsBlockOf vectors first block = record { within = omega (arith, to, within); are = block_is ∙ ap (slice_range vectors first) (sym to) } in
          let answers = place_answers circuit patterns all answered.answers places c.requires.places in
          let needed = places_needed circuit c.sources.ensures.circuit patterns t all answered places c.requires.places c.requires.split in
          subst (λ (k : ℕ). IsKeptTo t kept k new) to
          (subst (λ (u : ClassTable). (ps : List (List Bool)) (qs : List Answered) (from : ℕ) → AreAnswerRows circuit ps (answered_rows qs) → AreNeededOf u qs → IsBlockOf ps from block → IsKeptTo u qs from old → IsKeptTo u qs (from + length block) new) so_far.keeping.classes c.in_ok-keep_block.ensures.kept
          vectors kept first answers needed is (so_far.kept all answered));
    }

pub returns : goal.returns
returns c =
    let circuit = c.args.circuit.now in
    let t = c.args.classes.now in
    let patterns = c.args.patterns.now in
    let places = c.args.places.now in
    let vectors = vectors_at patterns places in
    let are = c.requires.answered in
    let kept = patterns_at are.all places in
    let answers = place_answers circuit patterns are.all are.answered.answers places c.requires.places in
    let long : length (answered_rows kept) ≤ c.loop-first.first =
    omega (arith, c.loop-first-test.false, as_many_rows circuit vectors kept answers, length-map kept (λ (p : Answered). p.1), length-map places (λ (place : ℕ). get_or patterns place [])) in
    record {
      rows = answered_rows kept;
      answers = answers;
      table = c.into_kept.ensures ∙ (c.loop-first.invariant.kept are.all are.answered ∙ (ap (λ (count : ℕ). class_table count (take c.loop-first.first (answered_rows kept))) (numbers_of circuit patterns t are) ∙ ap (class_table (fault_count circuit)) (take_all c.loop-first.first (answered_rows kept) long)));
    }

pub loop-first-init : goal.loop-first-init
loop-first-init c = record {
  within = omega arith;
  sources = ap (λ (b : Block). b.sources) c.in_ok-block.ensures ∙ c.sources.ensures.value;
  keeping = c.in_ok-keeping.ensures.keeping;
  kept = λ all answered. c.in_ok-keeping.ensures.begun (patterns_at all c.args.places.now);
}
