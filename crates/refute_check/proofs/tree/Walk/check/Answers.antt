use Rattle.std.proofs.Common.{◌≡◌, List, length, arith, refl, subst}
use Rattle.std.specs.Prelude.{ℕ, IsErrOf, Err}
use Rattle.std.proofs.lemmas.List.{get_or_default}
use Rattle.net_model.specs.declared.fault.Fault.{Fault}
use Rattle.net_model.specs.Circuit.{Circuit}
use Rattle.pair_sets.specs.declared.tree.Token.{Token}
use Rattle.pair_sets.specs.declared.tree.Token.TheVariants.{Split, Rest}
use Rattle.evidence_rules.specs.declared.refusal.EvidenceKind.{EvidenceKind}
use Rattle.evidence_rules.specs.declared.refusal.CheckFault.{CheckFault}
use Rattle.evidence_rules.specs.declared.refusal.CheckFault.TheVariants.{Refused}
use Rattle.evidence_rules.specs.declared.refusal.Refusal.{Refusal}
use Rattle.evidence_rules.specs.TreeRefusal.{TreeRefused}
use Rattle.refute_check.proofs.WalkLemmas.{come_more, token_refused, end_refused, counts_refused, tree_right}
use Rattle.refute_check.proofs.tree.Walk.check.Goals as goal

-- what is returned is the refusal that was made
refused_so : (c : Circuit) (f g : Fault) (kind : EvidenceKind) (limit : ℕ) (tokens : List Token) (fault : CheckFault) (made refusal : Refusal)
    → fault ≡ Refused made → IsErrOf {T = Unit {0}} {E = CheckFault} (Err fault) (Refused refusal) → TreeRefused c f g kind limit tokens made → TreeRefused c f g kind limit tokens refusal
refused_so c f g kind limit tokens fault made refusal is answered refused =
    let e : made ≡ refusal = cc in
    subst (TreeRefused c f g kind limit tokens) e refused

pub loop-step-init : goal.loop-step-init
loop-step-init c = record { walk_is = c.requires.walk; same = refl; waiting = c.requires.root; right = λ k h. absurd (omega (arith, h)) }

pub loop-step-preserved : goal.loop-step-preserved
loop-step-preserved c =
    let sim = c.args.self.now.sim in
    let tokens = c.args.tokens.now in
    let step = c.loop-step.step in
    come_more sim.circuit sim.f sim.g tokens step c.loop-step.self c.loop-step.invariant _ c.go_on.new.self c.loop-step-test.true
    (get_or_default tokens step (Split 0) Rest c.loop-step-test.true) c.in_default.ensures c.in_ok-go_on.ensures

pub returns-in-Some-clause-refused : goal.returns-in-Some-clause-refused
returns-in-Some-clause-refused c refusal answered =
    let sim = c.args.self.now.sim in
    let tokens = c.args.tokens.now in
    let step = c.loop-step.step in
    refused_so sim.circuit sim.f sim.g c.args.kind c.args.cubes tokens c.refused.result _ refusal c.refused.ensures answered
    (token_refused sim.circuit sim.f sim.g tokens step c.loop-step.self c.loop-step.invariant c.args.kind c.args.cubes _ c.in-Some.rule c.loop-step-test.true
    (get_or_default tokens step (Split 0) Rest c.loop-step-test.true) c.in-Some.ensures)

pub returns-then-not-self-clause-refused : goal.returns-then-not-self-clause-refused
returns-then-not-self-clause-refused c refusal answered =
    let sim = c.args.self.now.sim in
    let tokens = c.args.tokens.now in
    let all : c.loop-step.step ≡ length tokens = omega (arith, c.loop-step-test.false, c.loop-step.auto.step-end) in
    refused_so sim.circuit sim.f sim.g c.args.kind c.args.cubes tokens c.refused-then-not-self.result _ refusal c.refused-then-not-self.ensures answered
    (end_refused sim.circuit sim.f sim.g tokens c.loop-step.step c.loop-step.self c.loop-step.invariant all c.args.kind c.args.cubes c.if-not-self.true)

pub returns-then-not-has_right_counts-clause-refused : goal.returns-then-not-has_right_counts-clause-refused
returns-then-not-has_right_counts-clause-refused c refusal answered =
    let sim = c.args.self.now.sim in
    let tokens = c.args.tokens.now in
    let all : c.loop-step.step ≡ length tokens = omega (arith, c.loop-step-test.false, c.loop-step.auto.step-end) in
    refused_so sim.circuit sim.f sim.g c.args.kind c.args.cubes tokens c.refused-then-not-has_right_counts.result _ refusal c.refused-then-not-has_right_counts.ensures answered
    (counts_refused sim.circuit sim.f sim.g tokens c.loop-step.step c.loop-step.self c.loop-step.invariant all c.args.kind c.args.cubes c.if-not-self.false
    (λ right. let e = c.has_right_counts.ensures.1 right in let t = c.if-not-has_right_counts.true in cc))

pub returns-clause-right : goal.returns-clause-right
returns-clause-right c =
    let sim = c.args.self.now.sim in
    let tokens = c.args.tokens.now in
    let all : c.loop-step.step ≡ length tokens = omega (arith, c.loop-step-test.false, c.loop-step.auto.step-end) in
    tree_right sim.circuit sim.f sim.g tokens c.loop-step.step c.loop-step.self c.loop-step.invariant all c.args.kind c.args.cubes c.if-not-self.false
    (c.has_right_counts.ensures.0 c.if-not-has_right_counts.false)
