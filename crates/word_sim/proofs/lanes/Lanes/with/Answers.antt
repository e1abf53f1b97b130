use Rattle.std.proofs.Common.{◌≢◌, ◌/◌, ◌%◌, ◌∙◌, refl, arith, inl, inr}
use Rattle.std.proofs.lemmas.Bool.{cases_eq, eq-eqb, ne_eqb}
use Rattle.word_sim.proofs.lanes.Lanes.with.Goals as goal

pub returns-clause-same : goal.returns-clause-same
returns-clause-same c =
    let at = c.args.lane % 64 in
    c.with_word.ensures.here c.args.lane c.requires refl ∙ (c.with_bit.ensures at (omega arith) ∙ rw (eq-eqb at at refl) refl)

pub returns-clause-others : goal.returns-clause-others
returns-clause-others c = λ other h ne. elim (cases_eq (other / 64) (c.args.lane / 64)) [
  | inl same ↦
      let apart : other % 64 ≢ c.args.lane % 64 = λ e. ne (omega (arith, same, e)) in
      c.with_word.ensures.here other h same
      ∙ (c.with_bit.ensures (other % 64) (omega arith) ∙ (rw (ne_eqb (other % 64) (c.args.lane % 64) apart) refl ∙ c.word.ensures other h same))
  | inr beside ↦ c.with_word.ensures.others other h beside
]
