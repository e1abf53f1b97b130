use Rattle.std.proofs.Common.{◌+◌, ◌*◌, ◌<◌, ◌≤◌, ℕ, length, get_or, sym, subst, arith}
use Rattle.answer_numbers.specs.Growing.{in_lanes, differs_in_cell}
use Rattle.answer_numbers.specs.Trees.{AreGrown}
use Rattle.answer_numbers.proofs.GrownLemmas.{grown_none, grown_then, grown_as}
use Rattle.answer_numbers.proofs.ListedLemmas.{IsRest, list_done, none_done, all_done, item_apart, item_more, lanes_past, next_lower, place_known, rest_more}
use Rattle.answer_numbers.proofs.trees.LaneTrees.grow.Goals as goal

pub loop-item-init : goal.loop-item-init
loop-item-init c =
    let lists = c.args.lists.now in
    let position = c.args.position in
    let old = c.args.self.now in
    let first = get_or lists.firsts.items position 0 in
    let rest : IsRest lists position first = record { within = c.requires.lists.linked.inside position c.requires.position; own = λ place row e. e } in
    record {
      rest = subst (IsRest lists position) (sym c.first-number.ensures) rest;
      grown = subst (λ n. AreGrown position (list_done lists old.lanes position n) old old) (sym c.first-number.ensures)
          (grown_none position (list_done lists old.lanes position first) old c.requires.trees (λ cell h. none_done lists old.lanes position cell));
    }

pub step_lanes-requires-clause-place : goal.step_lanes-requires-clause-place
step_lanes-requires-clause-place c =
    let old = c.args.self.now in
    let item = c.in-Some.item in
    let now = c.loop-item.self in
    let so_far = c.loop-item.invariant in
    let known = place_known c.args.lists.now old.lanes (length old.stands.items) c.args.position c.loop-item.number item c.requires.lists c.requires.position c.requires.few so_far.rest c.in-Some.ensures in
    subst (λ l. item.place * l + l ≤ length now.stands.items) (sym so_far.grown.lanes) (omega (arith, known, so_far.grown.cells))

pub step_lanes-requires-clause-past : goal.step_lanes-requires-clause-past
step_lanes-requires-clause-past c = λ lane h l.
    let old = c.args.self.now in
    let so_far = c.loop-item.invariant in
    lanes_past c.args.lists.now old.lanes (length old.stands.items) c.args.position c.loop-item.number c.in-Some.item c.requires.lists c.requires.position c.requires.few so_far.rest c.in-Some.ensures lane
    (omega (arith, h, so_far.grown.lanes)) l

pub loop-item-smaller : goal.loop-item-smaller
loop-item-smaller c =
    let old = c.args.self.now in
    next_lower c.args.lists.now old.lanes (length old.stands.items) c.args.position c.loop-item.number c.in-Some.item c.requires.lists c.requires.position c.requires.few c.loop-item.invariant.rest c.in-Some.ensures

pub loop-item-preserved : goal.loop-item-preserved
loop-item-preserved c =
    let lists = c.args.lists.now in
    let position = c.args.position in
    let number = c.loop-item.number in
    let old = c.args.self.now in
    let now = c.loop-item.self in
    let item = c.in-Some.item in
    let so_far = c.loop-item.invariant in
    let cells = length old.stands.items in
    let step = subst (λ l. AreGrown position (in_lanes (item.place * l) item.lanes) now c.step_lanes.new.self) so_far.grown.lanes c.in_ok-step_lanes.ensures in
    let some : (cell : ℕ) → cell < cells → 0 < old.lanes = λ cell h. c.requires.some (omega (arith, h)) in
    record {
      rest = rest_more lists old.lanes cells position number item c.requires.lists c.requires.position c.requires.few so_far.rest c.in-Some.ensures;
      grown = grown_then (list_done lists old.lanes position item.next) so_far.grown step
          (λ cell h t. item_apart lists old.lanes cells position number item c.requires.lists c.requires.position c.requires.few so_far.rest c.in-Some.ensures cell (some cell h) t)
          (λ cell h. item_more lists old.lanes cells position number item c.requires.lists c.requires.position c.requires.few so_far.rest c.in-Some.ensures cell (some cell h));
    }

pub returns : goal.returns
returns c =
    let lists = c.args.lists.now in
    let old = c.args.self.now in
    let low : c.loop-item.number < length lists.firsts.items = c.in_default.ensures in
    grown_as (differs_in_cell lists old.lanes c.args.position) c.loop-item.invariant.grown (λ cell h. all_done lists old.lanes c.args.position c.loop-item.number cell low)
