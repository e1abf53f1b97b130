use Rattle.std.proofs.Common.{◌∙◌, ◌+◌, ◌<◌, ◌≤◌, false, length, get_or, arith, ap, sym, subst}
use Rattle.std.proofs.lemmas.List.{length-replicate}
use Rattle.net_model.specs.Circuit.{Circuit, IsCircuit}
use Rattle.net_model.specs.Fault.{IsFaultOf}
use Rattle.net_model.specs.Answer.{Separates, bit_at}
use Rattle.net_model.proofs.Elements.{get_or-replicate_anywhere}
use Rattle.pair_miter.specs.Miter.{vector_of}
use Rattle.pair_miter.specs.MiterView.{Miter}
use Rattle.pair_miter.proofs.Numbers.{line_listed}
use Rattle.pair_miter.proofs.Sound.{model_separates}
use Rattle.pair_miter.proofs.SourceBits.{AreSourceBits, bits_more, all_bits}
use Rattle.pair_miter.proofs.miter.Miter.vector_of.Goals as goal
use Rattle.pair_miter.proofs.miter.Miter.vector_of.Goals.{else-loop-line-test, then-loop-line-test+then-line-sources}

pub loop-line-init : goal.loop-line-init
loop-line-init c = record {
  inside = omega arith;
  whole = ap length c.in_ok-v.ensures ∙ (length-replicate c.sources-sources.result false ∙ (c.sources-sources.ensures.value ∙ ap (λ (circuit : Circuit). circuit.sources) c.circuit.ensures.value));
  each = λ k h. absurd (omega (arith, h));
  others = λ n none. ap (λ v. bit_at v n) c.in_ok-v.ensures ∙ get_or-replicate_anywhere c.sources-sources.result n false;
}

pub source_bit-requires-clause-source : goal.source_bit-requires-clause-source
source_bit-requires-clause-source c = omega (arith, c.if-line-sources.false, c.sources-sources.ensures.value, ap (λ (circuit : Circuit). circuit.sources) c.circuit.ensures.value)

pub source_bit-requires-clause-relevant : goal.source_bit-requires-clause-relevant
source_bit-requires-clause-relevant c =
    let q = c.self.inside.numbering in
    (line_listed q.circuit q.f q.g c.relevant_lines-line-items.result.now c.relevant_lines-line-items.ensures.value c.loop-line.line-index c.loop-line-test.true).1

pub set-requires : goal.set-requires
set-requires c = omega (arith, c.if-line-sources.false, c.sources-sources.ensures.value, ap (λ (circuit : Circuit). circuit.sources) c.circuit.ensures.value, c.loop-line.invariant.whole)

pub loop-line-preserved : goal.loop-line-preserved
loop-line-preserved c =
    let q = c.self.inside.numbering in
    let lines = c.relevant_lines-line-items.result.now in
    let i = c.loop-line.line-index in
    let inside : get_or lines i 0 < q.circuit.sources = omega (arith, c.if-line-sources.false, c.sources-sources.ensures.value, ap (λ (circuit : Circuit). circuit.sources) c.circuit.ensures.value) in
    subst (AreSourceBits q.circuit q.f q.g c.args.model.now lines (i + 1)) (sym c.set.ensures)
    (bits_more q.circuit q.f q.g c.args.model.now lines i c.loop-line.v c.source_bit.result c.loop-line-test.true inside c.source_bit.ensures c.loop-line.invariant)

pub returns-clause-value : goal.returns-clause-value
returns-clause-value c =
    let q = c.self.inside.numbering in
    let lines = c.relevant_lines-line-items.result.now in
    let i = c.loop-line.line-index in
    let last : i < length lines → q.circuit.sources ≤ get_or lines i 0 =
    elim c.loop-line-test.branch [
      | else-loop-line-test w ↦ λ h. absurd (omega (arith, h, w.loop-line-test.false))
      | then-loop-line-test+then-line-sources w ↦ λ h. omega (arith, w.if-line-sources.true, c.sources-sources.ensures.value, ap (λ (circuit : Circuit). circuit.sources) c.circuit.ensures.value)
    ] in
    all_bits q.circuit q.f q.g c.args.model.now lines c.relevant_lines-line-items.ensures.value i c.loop-line.v last c.loop-line.invariant
    ∙ ap (λ (p : Miter). vector_of p.circuit p.f p.g c.args.model.now) c.self.view_is

pub returns-clause-separates : goal.returns-clause-separates
returns-clause-separates c =
    let p = c.args.self.now in
    let same = ap (λ (q : Miter). q.circuit) c.self.view_is in
    let circuit = subst IsCircuit (c.circuit.ensures.value ∙ same) c.sources-sources.ensures.circuit in
    let first = subst (λ (q : Miter). IsFaultOf q.circuit q.f) c.self.view_is c.self.invariant.first in
    let second = subst (λ (q : Miter). IsFaultOf q.circuit q.g) c.self.view_is c.self.invariant.second in
    subst (λ v. Separates p.circuit v p.f p.g) (sym (returns-clause-value c)) (model_separates p.circuit p.f p.g c.args.model.now circuit first second c.requires.satisfies)
