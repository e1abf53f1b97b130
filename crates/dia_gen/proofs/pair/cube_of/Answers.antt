use Rattle.std.proofs.Common.{◌∙◌, ◌+◌, ℕ, List, ap, sym, subst, arith, inl, inr, length, take, get_or}
use Rattle.std.specs.Prelude.{Some}
use Rattle.std.proofs.lemmas.Bool.{cases_lt}
use Rattle.std.proofs.lemmas.List.{length-set, take_all}
use Rattle.net_model.specs.Answer.{bit_at}
use Rattle.net_model.proofs.Elements.{none_in}
use Rattle.dia_gen.proofs.CubeLemmas.{HasLineBits, bits_more, bits_same, relevant_bits}
use Rattle.dia_gen.proofs.pair.cube_of.Goals as goal

pub loop-line-init : goal.loop-line-init
loop-line-init c = record { width = omega (arith, c.in_ok-cube.ensures.len, c.len.ensures); fixed = λ k below m. absurd (none_in k m) }

pub loop-line-preserved : goal.loop-line-preserved
loop-line-preserved c =
    let v = c.args.v.now in
    let lines = c.relevant_lines-relevant.result.now in
    let at = c.loop-line.line-index in
    let cube = c.loop-line.cube.items in
    let so_far = c.loop-line.invariant in
    let line = get_or lines at 0 in
    elim (cases_lt line (length v)) [
      | inl within ↦
          let is = c.fix_source.ensures.source within in record {
            width = ap length is ∙ (length-set cube line (Some (bit_at v line)) ∙ so_far.width);
            fixed = subst (HasLineBits v (take (at + 1) lines)) (sym is) (bits_more v lines at cube c.loop-line-test.true so_far.fixed so_far.width within);
          }
      | inr beyond ↦
          let is = c.fix_source.ensures.others beyond in record {
            width = ap length is ∙ so_far.width;
            fixed = subst (HasLineBits v (take (at + 1) lines)) (sym is) (bits_same v lines at cube c.loop-line-test.true so_far.fixed beyond);
          }
    ]

pub returns-clause-fixed : goal.returns-clause-fixed
returns-clause-fixed c =
    let m = c.args.miter.now in
    let v = c.args.v.now in
    let lines = c.relevant_lines-relevant.result.now in
    let at = c.loop-line.line-index in
    let all = take_all at lines (omega (arith, c.loop-line-test.false, c.loop-line.auto.line-index-end)) in
    relevant_bits m.circuit m.f m.g v lines c.loop-line.cube.items c.relevant_lines-relevant.ensures (omega (arith, c.requires))
    (subst (λ (xs : List ℕ). HasLineBits v xs c.loop-line.cube.items) all c.loop-line.invariant.fixed)
