use Rattle.std.proofs.Common.{◌≡◌, ◌∙◌, eq-eqb, sym, ap}
use Rattle.std.specs.Prelude.{Bool, true, false, not, Some}
use Rattle.std.specs.Bool.{beq}
use Rattle.std.specs.Option.{option_eq}
use Rattle.clause_pool.specs.LiteralCode.{code_of}
use Rattle.solver_trail.proofs.Forced.{not_false}
use Rattle.solver_trail.proofs.propagation.open_other.Goals as goal

pub returns-then-ne-2 : goal.returns-then-ne-2
returns-then-ne-2 c =
    let l = c.lit-item.result in
    record {
      inside = (c.loop-lit.lit-index, c.loop-lit-test.true, sym c.lit-item.is);
      apart = λ e. let wrong : ◌≡◌ {A = Bool} true false = sym c.if-ne.true ∙ (c.ne.ensures ∙ ap not (eq-eqb (code_of l) (code_of c.args.other) (ap code_of e))) in cc;
      not_false = not_false c.args.set.now l c.value_of.result c.requires.trail c.value_of.ensures.value
          (λ e. let wrong : ◌≡◌ {A = Bool} true false = sym c.if-ne-2.true ∙ (c.ne-then-ne.ensures ∙ ap (λ o. not (option_eq beq o (Some false))) e) in cc);
    }
