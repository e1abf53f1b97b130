use Rattle.std.proofs.Common.{◌∙◌, ◌+◌, Bool, List, length, sym, ap, subst, arith}
use Rattle.std.specs.Prelude.{slice_range}
use Rattle.net_model.specs.Circuit.{Circuit, IsCircuit}
use Rattle.run_steps.specs.Ending.{Ending, done}
use Rattle.run_steps.proofs.HandedOn.{handed_on}
use Rattle.run_steps.proofs.Runs.{ends_silent, handed_ends}
use Rattle.listing_commands.proofs.SimLemmas.{PrintsText, none_printed, more_printed, all_printed, broken_off}
use Rattle.sim_listing.proofs.TextLemmas.{one_text}
use Rattle.sim_listing.specs.SimText.{IsSimTextFrom}
use Rattle.sim_listing.specs.VectorTexts.{VectorTexts}
use Rattle.listing_commands.proofs.sim.print_simulation.Goals as goal

pub returns-in_err-subject : goal.returns-in_err-subject
returns-in_err-subject g c =
    let whole = one_text c.args.circuit.now c.stands.ensures 0 c.args.vectors.now in
    (whole.text, whole.is, handed_ends c.from_residual.result c.from_residual.ensures.1 (ends_silent {meant = done} tt))

pub returns-in_err-roots : goal.returns-in_err-roots
returns-in_err-roots g c =
    let whole = one_text c.args.circuit.now c.stands.ensures 0 c.args.vectors.now in
    (whole.text, whole.is, handed_ends c.from_residual-in_err-roots.result c.from_residual-in_err-roots.ensures.1 (ends_silent {meant = done} tt))

pub returns-in_err-texts : goal.returns-in_err-texts
returns-in_err-texts g c =
    let whole = one_text c.args.circuit.now c.stands.ensures 0 c.args.vectors.now in
    (whole.text, whole.is, handed_ends c.from_residual-in_err-texts.result c.from_residual-in_err-texts.ensures.1 (ends_silent {meant = done} tt))

pub loop-number-init : goal.loop-number-init
loop-number-init g c = record {
  printed = none_printed c.args.circuit.now c.args.vectors.now (g.S.Shelf.state c.args.shelf.now);
  circuit_is = ap (λ (t : VectorTexts). t.circuit) c.in_ok-texts.ensures ∙ c.in_ok-subject.ensures;
  vectors_are = ap (λ (t : VectorTexts). t.vectors) c.in_ok-texts.ensures;
}

pub print_vector-requires : goal.print_vector-requires
print_vector-requires g c = record {
  circuit = subst IsCircuit (sym c.loop-number.invariant.circuit_is) c.stands.ensures;
  number = omega (arith, ap (length {A = List Bool}) c.loop-number.invariant.vectors_are);
}

pub returns-in_err-print_vector : goal.returns-in_err-print_vector
returns-in_err-print_vector g c =
    let vectors = c.args.vectors.now in
    let number = c.loop-number.number in
    let said = c.in_err-print_vector.ensures.said in
    let state = g.S.Shelf.state in
    let text =
    subst (λ (k : Circuit). IsSimTextFrom k number (slice_range vectors number (number + 1)) said.0) c.loop-number.invariant.circuit_is
    (subst (λ (vs : List (List Bool)). IsSimTextFrom c.loop-number.texts.circuit number (slice_range vs number (number + 1)) said.0) c.loop-number.invariant.vectors_are said.1) in
    subst (λ (e : Ending). PrintsText c.args.circuit.now vectors e (state c.args.shelf.now) (state c.print_vector.new.shelf))
    (sym (handed_on c.from_residual-in_err-print_vector.result c.from_residual-in_err-print_vector.ensures.1))
    (broken_off c.stands.ensures (omega arith) (omega arith) (λ z. absurd (cc)) c.loop-number.invariant.printed text said.2)

pub loop-number-preserved : goal.loop-number-preserved
loop-number-preserved g c =
    let vectors = c.args.vectors.now in
    let number = c.loop-number.number in
    let said = c.in_ok-print_vector.ensures.said in
    let text =
    subst (λ (k : Circuit). IsSimTextFrom k number (slice_range vectors number (number + 1)) said.0) c.loop-number.invariant.circuit_is
    (subst (λ (vs : List (List Bool)). IsSimTextFrom c.loop-number.texts.circuit number (slice_range vs number (number + 1)) said.0) c.loop-number.invariant.vectors_are said.1) in
    record {
      printed = more_printed (omega arith) (omega arith) c.loop-number.invariant.printed text said.2;
      circuit_is = c.in_ok-print_vector.ensures.same.circuit ∙ c.loop-number.invariant.circuit_is;
      vectors_are = c.in_ok-print_vector.ensures.same.vectors ∙ c.loop-number.invariant.vectors_are;
    }

pub returns : goal.returns
returns g c = all_printed (omega arith) c.loop-number.invariant.printed
