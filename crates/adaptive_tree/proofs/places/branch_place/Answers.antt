use Rattle.std.proofs.Common.{◌≡◌, ◌∙◌, ◌+◌, ◌<◌, ℕ, length, sym, subst, arith, rules}
use Rattle.text_fields.specs.Fields.{digit_bits}
use Rattle.adaptive_tree.proofs.PlaceLemmas.{AreLeft, left_low, found_left, fewer_left, none_left}
use Rattle.adaptive_tree.proofs.places.branch_place.Goals as goal

pub offset_bounds-steps-at : goal.offset_bounds-steps-at
offset_bounds-steps-at c =
    let low : c.loop-left.at + 1 < length c.args.steps.now = left_low c.args.steps.now c.loop-left.at c.loop-left.left (digit_bits c.args.digits.now) c.requires.branches c.loop-left-test.true (c.loop-left.invariant c.requires) in
    let here : c.loop-left.at < length c.args.steps.now = omega (arith, low) in
    search rules

pub bounds-steps-at : goal.bounds-steps-at
bounds-steps-at c =
    omega (arith, left_low c.args.steps.now c.loop-left.at c.loop-left.left (digit_bits c.args.digits.now) c.requires.branches c.loop-left-test.true (c.loop-left.invariant c.requires))

pub overflow_add-result : goal.overflow_add-result
overflow_add-result c =
    let low : c.loop-left.at + 1 < length c.args.steps.now = left_low c.args.steps.now c.loop-left.at c.loop-left.left (digit_bits c.args.digits.now) c.requires.branches c.loop-left-test.true (c.loop-left.invariant c.requires) in
    search rules

pub returns-then-is_branch_for : goal.returns-then-is_branch_for
returns-then-is_branch_for c = λ given.
    found_left c.args.steps.now c.loop-left.at c.loop-left.left (digit_bits c.args.digits.now) given.branches c.loop-left-test.true (c.loop-left.invariant given) c.index-steps-at.result c.index-steps-at.is
    (λ answer e. sym c.if-is_branch_for.true ∙ c.is_branch_for.ensures answer e)

pub overflow_add-at : goal.overflow_add-at
overflow_add-at c =
    let low : c.loop-left.at + 1 < length c.args.steps.now = left_low c.args.steps.now c.loop-left.at c.loop-left.left (digit_bits c.args.digits.now) c.requires.branches c.loop-left-test.true (c.loop-left.invariant c.requires) in
    search rules

pub behind_node-at-requires : goal.behind_node-at-requires
behind_node-at-requires c =
    omega (arith, left_low c.args.steps.now c.loop-left.at c.loop-left.left (digit_bits c.args.digits.now) c.requires.branches c.loop-left-test.true (c.loop-left.invariant c.requires))

pub loop-left-preserved : goal.loop-left-preserved
loop-left-preserved c = λ given.
    fewer_left c.args.steps.now c.loop-left.at c.loop-left.left (digit_bits c.args.digits.now) given.branches c.loop-left-test.true (c.loop-left.invariant given) c.index-steps-at.result c.index-steps-at.is
    (λ answer e. sym c.if-is_branch_for.false ∙ c.is_branch_for.ensures answer e) c.behind_node-at.result c.behind_node-at.ensures _ (omega (arith, c.loop-left-test.true))

pub returns : goal.returns
returns c = λ given.
    let none : c.loop-left.left ≡ 0 = omega (arith, c.loop-left-test.false) in
    none_left c.args.steps.now c.loop-left.at (digit_bits c.args.digits.now) given.branches (subst (λ (k : ℕ). AreLeft c.args.steps.now c.loop-left.at k (digit_bits c.args.digits.now) given.branches) none (c.loop-left.invariant given))
