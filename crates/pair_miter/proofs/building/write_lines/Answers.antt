use Rattle.std.proofs.Common.{◌∙◌, refl, arith, sym, subst}
use Rattle.std.specs.Prelude.{flat_map}
use Rattle.std.proofs.lemmas.List.{take_all}
use Rattle.pair_miter.specs.Adds.{Adds}
use Rattle.pair_miter.specs.Miter.{line_clauses, tidy}
use Rattle.pair_miter.specs.Variables.{line_helpers}
use Rattle.pair_miter.proofs.AddSteps.{adds_none, next_fails, writes_err}
use Rattle.pair_miter.proofs.ClauseParts.{sum_taken}
use Rattle.pair_miter.proofs.MiterParts.{part_of_lines, added_more}
use Rattle.pair_miter.proofs.Numbers.{line_listed, helper_at}
use Rattle.pair_miter.proofs.TidyParts.{tidy_none}
use Rattle.pair_miter.proofs.building.write_lines.Goals as goal

pub loop-line-init : goal.loop-line-init
loop-line-init c = record {
  adds = subst (Adds c.args.pool.now c.args.pool.now) (sym tidy_none) (adds_none c.args.pool.now);
  helper = omega (arith, c.requires.helper);
  variables = refl;
}

pub write_line-requires-clause-line : goal.write_line-requires-clause-line
write_line-requires-clause-line c =
    let p = c.args.numbering.now in
    (line_listed p.circuit p.f p.g c.relevant_lines-line-items.result.now c.relevant_lines-line-items.ensures.value c.loop-line.line-index c.loop-line-test.true).0

pub write_line-requires-clause-relevant : goal.write_line-requires-clause-relevant
write_line-requires-clause-relevant c =
    let p = c.args.numbering.now in
    (line_listed p.circuit p.f p.g c.relevant_lines-line-items.result.now c.relevant_lines-line-items.ensures.value c.loop-line.line-index c.loop-line-test.true).1

pub write_line-requires-clause-helper : goal.write_line-requires-clause-helper
write_line-requires-clause-helper c =
    let p = c.args.numbering.now in
    c.loop-line.invariant.helper ∙ sym (helper_at p.circuit p.f p.g c.relevant_lines-line-items.result.now c.relevant_lines-line-items.ensures.value c.loop-line.line-index c.loop-line-test.true)

pub loop-line-preserved : goal.loop-line-preserved
loop-line-preserved c =
    let p = c.args.numbering.now in
    let h = c.loop-line.invariant in
    let lines = c.relevant_lines-line-items.result.now in
    let i = c.loop-line.line-index in
    record {
      adds = added_more (line_clauses p.circuit p.f p.g) lines i c.loop-line-test.true h.adds c.in_ok-write_line.ensures.written;
      helper = omega (arith, c.in_ok-write_line.ensures.helper, h.helper, sum_taken lines i c.loop-line-test.true (line_helpers p.circuit p.f p.g));
      variables = c.in_ok-write_line.ensures.variables ∙ h.variables;
    }

pub returns-clause-written : goal.returns-clause-written
returns-clause-written c =
    let p = c.args.numbering.now in
    let lines = c.relevant_lines-line-items.result.now in
    subst (λ xs. Adds c.args.pool.now c.loop-line.pool (tidy (flat_map (line_clauses p.circuit p.f p.g) xs))) (take_all c.loop-line.line-index lines c.loop-line-test.false ∙ c.relevant_lines-line-items.ensures.value) c.loop-line.invariant.adds

pub returns-in_err-write_line-clause-written : goal.returns-in_err-write_line-clause-written
returns-in_err-write_line-clause-written c =
    let p = c.args.numbering.now in
    let next = part_of_lines p.circuit p.f p.g c.relevant_lines-line-items.result.now c.relevant_lines-line-items.ensures.value c.loop-line.line-index c.loop-line-test.true in
    writes_err c.from_residual.result c.from_residual.ensures.0 (next_fails next c.loop-line.invariant.adds c.in_err-write_line.ensures.written)
