use Rattle.std.proofs.Common.{◌≡◌, ◌<◌, ◌∙◌, ℕ, get_or, sym, ap, arith, subst}
use Rattle.net_model.specs.Circuit.{Circuit, line_count}
use Rattle.net_model.specs.Scope.{reached_positions}
use Rattle.distinguish_search.specs.Open.{IsLineOpen}
use Rattle.distinguish_search.proofs.Walks.{open_is_free}
use Rattle.distinguish_search.proofs.walk.choose.Goals as goal

-- a source of the circuit
source_in : (circuit other : Circuit) (line sources : ℕ) → other ≡ circuit → sources ≡ other.sources → line < sources → line < circuit.sources
source_in circuit other line sources same e h = subst (λ n. line < n) (e ∙ ap (λ (c : Circuit). c.sources) same) h

pub loop-step-init : goal.loop-step-init
loop-step-init c =
    let sim = c.args.sim.now in
    let positions : c.positions.result.now ≡ sim.circuit.positions = c.positions.ensures.value ∙ ap (λ (circuit : Circuit). circuit.positions) c.circuit-circuit.ensures.value in
    let line : get_or c.positions.result.now (get_or c.reached.result.now c.open_place-place.result 0) 0 ≡ get_or sim.circuit.positions (get_or (reached_positions sim.circuit sim.f sim.g) c.open_place-place.result 0) 0 =
    λ i. get_or (positions i) (get_or (c.reached.ensures.value i) c.open_place-place.result 0) 0 in (
      subst (IsLineOpen sim.circuit sim.f sim.g sim.cube) (sym line) c.open_place-place.ensures.shows,
      λ w. omega (arith, w.acyclic.bounded (get_or c.positions.result.now (get_or c.reached.result.now c.open_place-place.result 0) 0)),
    )

pub pairs-requires : goal.pairs-requires
pairs-requires c = c.loop-step.invariant.0.inside

pub returns-then-line-sources : goal.returns-then-line-sources
returns-then-line-sources c =
    let sim = c.args.sim.now in
    let here = c.loop-step.invariant.0 in
    let inside = source_in sim.circuit c.circuit-circuit.result.now c.loop-step.here.line c.sources.result c.circuit-circuit.ensures.value c.sources.ensures.value c.if-line-sources.true in
    (inside, here.relevant, open_is_free sim.circuit sim.f sim.g sim.cube c.loop-step.here.line here inside, c.requires)

pub step_back-here-requires-clause-open : goal.step_back-here-requires-clause-open
step_back-here-requires-clause-open c = c.loop-step.invariant.0

pub loop-step-preserved : goal.loop-step-preserved
loop-step-preserved c = (
  c.step_back-here.ensures.«open»,
  λ w. omega (arith, w.acyclic.rises c.step_back-here.result.line c.loop-step.here.line c.step_back-here.ensures.feeds, c.loop-step.invariant.1 w),
)

pub unreachable-requires : goal.unreachable-requires
unreachable-requires c =
    let sim = c.args.sim.now in
    omega (arith, c.loop-step.invariant.1 c.circuit-circuit.ensures.circuit, c.loop-step-test.false, c.loop-step.auto._step-end, c.lines-step-end.ensures.value, ap line_count c.circuit-circuit.ensures.value)
