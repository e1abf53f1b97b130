use Rattle.std.proofs.Common.{◌≡◌, ◌∙◌, Bool, List, None, length, sym, ap, subst, arith, All}
use Rattle.std.specs.Prelude.{◌<◌}
use Rattle.net_model.specs.Circuit.{Circuit}
use Rattle.net_model.specs.FaultList.{fault_count}
use Rattle.answer_numbers.specs.AnswerNumbers.{AnswerNumbers, answer_numbers_with, numbered_vectors}
use Rattle.word_sim.specs.Block.{Block}
use Rattle.sim_listing.specs.LaneAnswers.{AreEqualRoots}
use Rattle.sim_listing.proofs.vector_texts.VectorTexts.new.Goals as goal
use Rattle.sim_listing.proofs.vector_texts.VectorTexts.new.Goals.{In_ok-numbers}

pub new-requires-clause-leads : goal.new-requires-clause-leads
new-requires-clause-leads c = rw c.circuit-circuit.ensures.value (subst (All (λ lead. lead < fault_count c.args.subject.now)) (sym c.as_slice-leads.ensures.value) c.requires.roots.known)

pub new-requires-clause-few : goal.new-requires-clause-few
new-requires-clause-few c = omega (arith, ap length c.as_slice-leads.ensures.value, c.requires.roots.few_roots)

made : (c : In_ok-numbers) → c.in_ok-numbers.numbers ≡ answer_numbers_with c.args.subject.now c.args.roots.now.roots.items None
made c = c.in_ok-numbers.ensures ∙ (λ i. answer_numbers_with (c.circuit-circuit.ensures.value i) (c.as_slice-leads.ensures.value i) None)

pub invariant_of-result : goal.invariant_of-result
invariant_of-result c =
    let circuit = c.args.subject.now in
    let roots = c.args.roots.now.roots.items in
    let places = c.as_slice-places.result.now in
    let is = made (goal.at.invariant_of-result c).In_ok-numbers in
    record {
      roots = subst (λ (n : AnswerNumbers). AreEqualRoots n.circuit n.leads places) (sym is) (subst (AreEqualRoots circuit roots) (sym c.as_slice-places.ensures.value) c.requires.roots);
      widths = subst (λ (n : AnswerNumbers). All (λ (v : List Bool). length v ≡ n.circuit.sources) c.args.vectors.now) (sym is) c.requires.widths;
      sources = ap (λ (b : Block). b.sources) c.in_ok-block.ensures ∙ (c.sources.ensures.value ∙ ap (λ (k : Circuit). k.sources) c.circuit-circuit.ensures.value ∙ ap (λ (n : AnswerNumbers). n.circuit.sources) (sym is));
      within = omega arith;
      long = ap (λ (n : AnswerNumbers). length (numbered_vectors n)) is;
      numbered = ap (λ (n : AnswerNumbers). numbered_vectors n) is;
    }

pub returns : goal.returns
returns c = λ i. record { circuit = (made (goal.at.returns c).In_ok-numbers i).circuit; vectors = c.args.vectors.now; first = 0; count = 0 }
