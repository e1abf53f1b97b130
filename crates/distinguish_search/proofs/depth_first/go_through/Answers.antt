use Rattle.std.proofs.Common.{◌≡◌, ◌∙◌, ◌+◌, sym, ap, subst}
use Rattle.std.specs.Prelude.{◌==◌, if◌then◌else◌}
use Rattle.net_model.specs.Circuit.{Circuit}
use Rattle.pair_sets.specs.Cube.{FixesOnce}
use Rattle.distinguish_search.specs.End.{IsSearchEnd}
use Rattle.distinguish_search.specs.Searched.{IsSearched}
use Rattle.distinguish_search.specs.Frames.{tried_cube, IsClimbed}
use Rattle.distinguish_search.proofs.SearchSteps.{more_then, more_else, once_here, cube_found, leaf_here, tree_found, goes_on}
use Rattle.distinguish_search.proofs.depth_first.go_through.Goals as goal
use Rattle.distinguish_search.proofs.depth_first.go_through.Goals.{After-climb, then-not-full, else-not-full}

pub cube-requires : goal.cube-requires
cube-requires c =
    let loop = c.loop-stack in
    subst (λ n. FixesOnce n (tried_cube c.descend.new.stack)) (sym (c.sources.ensures.value ∙ ap (λ (k : Circuit). k.sources) c.circuit-circuit.ensures.value))
    (once_here c.args.sim.now.circuit c.args.sim.now.f c.args.sim.now.g c.args.leaves loop.closed loop.sim loop.stack loop.invariant c.descend.new.sim c.descend.new.stack c.in_ok-descend.ensures.under_way)

pub returns-in-Apart-clause-found : goal.returns-in-Apart-clause-found
returns-in-Apart-clause-found c =
    let loop = c.loop-stack in
    let new = c.descend.new.sim in
    let full = loop.closed == c.args.leaves in
    cube_found c.args.sim.now.circuit c.args.sim.now.f c.args.sim.now.g c.args.leaves loop.closed loop.sim loop.stack loop.invariant new c.descend.new.stack c.in_ok-descend.ensures.under_way full
    c.in_ok-cube-in-Apart.field-0.items c.circuit-circuit.ensures.circuit (subst (IsSearchEnd loop.sim.circuit loop.sim.f loop.sim.g new.cube full) c.in-Apart.is c.in_ok-descend.ensures.ends)
    (c.in_ok-cube-in-Apart.ensures.width ∙ c.sources.ensures.value ∙ ap (λ (k : Circuit). k.sources) c.circuit-circuit.ensures.value) c.in_ok-cube-in-Apart.ensures.bits

pub climb-requires-clause-tree : goal.climb-requires-clause-tree
climb-requires-clause-tree c =
    let loop = c.loop-stack in
    let new = c.descend.new.sim in
    let full = loop.closed == c.args.leaves in
    leaf_here c.args.sim.now.circuit c.args.sim.now.f c.args.sim.now.g c.args.leaves loop.closed loop.sim loop.stack loop.invariant new c.descend.new.stack c.in_ok-descend.ensures.under_way full
    c.in_ok-tree.tree (subst (IsSearchEnd loop.sim.circuit loop.sim.f loop.sim.g new.cube full) c.in-Leaf.is c.in_ok-descend.ensures.ends) c.in_ok-tree.ensures

-- one more leaf is closed, if the limit allows one
closed_now : (c : After-climb) → c.if-not-full.closed ≡ (if c.loop-stack.closed == c.args.leaves then c.loop-stack.closed else c.loop-stack.closed + 1)
closed_now c = elim c.if-not-full.branch [
  | then-not-full w ↦ more_then c.loop-stack.closed c.args.leaves c.if-not-full.closed w.if-not-full.true w.closed-is
  | else-not-full w ↦ more_else c.loop-stack.closed c.args.leaves c.if-not-full.closed w.if-not-full.false w.closed-is
]

pub returns-in-Some-clause-found : goal.returns-in-Some-clause-found
returns-in-Some-clause-found c =
    let loop = c.loop-stack in
    let new = c.descend.new.sim in
    let stack = c.descend.new.stack in
    subst (IsSearched c.args.sim.now.circuit c.args.sim.now.f c.args.sim.now.g c.args.leaves) (sym c.finished.ensures)
    (tree_found c.args.sim.now.circuit c.args.sim.now.f c.args.sim.now.g c.args.leaves loop.closed loop.sim loop.stack loop.invariant new stack c.in_ok-descend.ensures.under_way c.in_ok-descend.ensures.splits
    c.if-not-full.closed (closed_now (goal.at.returns-in-Some-clause-found c).After-climb) c.in_ok-tree.tree c.in_ok-tree.ensures c.climb.new.sim c.climb.new.stack c.in-Some.tree
    (subst (IsClimbed new.circuit new.f new.g c.in_ok-tree.tree stack c.climb.new.sim c.climb.new.stack) c.in-Some.is c.in_ok-tree-2.ensures.climbed))

pub loop-stack-preserved : goal.loop-stack-preserved
loop-stack-preserved c =
    let loop = c.loop-stack in
    let new = c.descend.new.sim in
    let stack = c.descend.new.stack in
    goes_on c.args.sim.now.circuit c.args.sim.now.f c.args.sim.now.g c.args.leaves loop.closed loop.sim loop.stack loop.invariant new stack c.in_ok-descend.ensures.under_way c.in_ok-descend.ensures.splits
    c.if-not-full.closed (closed_now (goal.at.loop-stack-preserved c).After-climb) c.in_ok-tree.tree c.in_ok-tree.ensures c.climb.new.sim c.climb.new.stack
    (subst (IsClimbed new.circuit new.f new.g c.in_ok-tree.tree stack c.climb.new.sim c.climb.new.stack) c.in-None.is c.in_ok-tree-2.ensures.climbed)
