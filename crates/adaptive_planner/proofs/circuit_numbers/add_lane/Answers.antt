use Rattle.std.proofs.Common.{◌≡◌, ◌∙◌, ℕ, Bool, List, length, sym, subst, arith}
use Rattle.std.proofs.lemmas.Grind.{get_or_default_zero}
use Rattle.answer_numbers.specs.AnswerNumbers.{vector_in}
use Rattle.adaptive_planner.specs.Numbering.{AreRowNumbers}
use Rattle.adaptive_planner.specs.CircuitNumbers.{AnswerLaneSo, AreFirstPlaces, answer_list}
use Rattle.adaptive_planner.proofs.LaneLemmas.{row_numbers, lead_answers, leads_answer_so}
use Rattle.adaptive_planner.proofs.circuit_numbers.add_lane.Goals as goal
use Rattle.adaptive_planner.proofs.circuit_numbers.add_lane.Goals.{After-as_slice}

rows_are : (c : After-as_slice) (answer : ℕ → List Bool) → AnswerLaneSo c.args.source.now c.args.lane answer → AreRowNumbers answer (length c.args.source.now.leads) c.as_slice.result.now c.loop-place.found.answers.items
rows_are c answer so =
    let n = c.args.source.now in
    let found = c.loop-place.found in
    let end : c.loop-place.place ≡ length n.leads = omega (arith, c.loop-place-test.false, c.loop-place.auto.place-end, c.requires.leads) in
    let are : AreFirstPlaces (answer_list (length n.leads) answer) (length n.leads) found.numbers.items found.answers.items =
    subst (λ k. AreFirstPlaces (answer_list (length n.leads) answer) k found.numbers.items found.answers.items) end (c.loop-place.invariant.places answer so) in
    subst (λ (ns : List ℕ). AreRowNumbers answer (length n.leads) ns found.answers.items) (sym c.as_slice.ensures.value)
    (row_numbers n.circuit n.leads (vector_in n c.args.lane) answer so found.numbers.items found.answers.items (c.loop-place.invariant.count ∙ end) are)

pub add_pattern-requires-clause-within : goal.add_pattern-requires-clause-within
add_pattern-requires-clause-within c = λ k d h.
    let n = c.args.source.now in
    let v = vector_in n c.args.lane in
    let are = rows_are ((goal.at.add_pattern-requires-clause-within c).After-as_slice) (lead_answers n.circuit c.requires.circuit n.leads v) (leads_answer_so n.circuit c.requires.circuit n.leads v) in
    omega (arith, get_or_default_zero c.as_slice.result.now k d h, are.within k (omega (arith, h, are.one_each)))

pub returns : goal.returns
returns c =
    let n = c.args.source.now in
    let adds = c.in_ok-add_pattern.ensures in
    let old = c.args.numbers.now in
    record {
      are = adds.are;
      count = adds.count;
      classes = adds.classes;
      to = λ answer so to. adds.to answer (length n.leads) to (rows_are ((goal.at.returns c).After-as_slice) (answer (length old.firsts.items)) so);
    }
