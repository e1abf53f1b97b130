use Rattle.std.proofs.Common.{◌≡◌, ◌∙◌, ◌++◌, length, ap, sym, subst}
use Rattle.net_model.specs.declared.fault.Fault.{Fault}
use Rattle.net_model.specs.Circuit.{Circuit}
use Rattle.net_model.specs.Fault.{IsFaultOf}
use Rattle.pair_miter.specs.Adds.{Adds, KeepsClauses}
use Rattle.pair_miter.specs.Miter.{miter}
use Rattle.pair_miter.specs.MiterView.{Miter, miter_with}
use Rattle.pair_miter.proofs.AddSteps.{writes_err}
use Rattle.pair_miter.proofs.space.write_miter.Goals as goal

-- the numbering shows the faults of the space's circuit
shown : {circuit space : Circuit} {f g : Fault} {numbering : Miter} → circuit ≡ space → numbering ≡ miter_with circuit f g → numbering ≡ miter_with space f g
shown {f = f} {g = g} same is = is ∙ ap (λ circuit. miter_with circuit f g) same

pub returns-clause-written : goal.returns-clause-written
returns-clause-written c =
    subst (λ (p : Miter). Adds c.args.pool.now c.write_parts.new.pool (miter p.circuit p.f p.g)) (shown c.space.view_is c.show.ensures) c.in_ok-variables.ensures.written

pub invariant_of-result : goal.invariant_of-result
invariant_of-result c =
    let q = c.show.new.self in
    let is = shown c.space.view_is c.show.ensures in
    let all = c.in_ok-variables.ensures.written.written ∙ ap (λ xs. xs ++ miter q.circuit q.f q.g) c.requires.empty in
    record {
      circuit = c.write_parts.ensures.circuit;
      first = subst (λ (p : Miter). IsFaultOf p.circuit p.f) (sym is) c.requires.first;
      second = subst (λ (p : Miter). IsFaultOf p.circuit p.g) (sym is) c.requires.second;
      variables = c.in_ok-variables.ensures.variables;
      clauses = c.len.ensures ∙ ap length all;
    }

pub returns-in_err-variables-clause-written : goal.returns-in_err-variables-clause-written
returns-in_err-variables-clause-written c =
    writes_err c.from_residual.result c.from_residual.ensures.0
    (subst (λ (p : Miter). KeepsClauses c.args.pool.now c.write_parts.new.pool (miter p.circuit p.f p.g)) (shown c.space.view_is c.show.ensures) c.in_err-variables.ensures.written)

pub returns-clause-miter : goal.returns-clause-miter
returns-clause-miter c = shown c.space.view_is c.show.ensures
