use Rattle.std.proofs.Common.{◌≡◌, ◌∙◌, ◌<◌, List, not, length, set, sym, ap, subst, arith, All}
use Rattle.std.proofs.lemmas.List.{get_or_read, length-set}
use Rattle.net_model.specs.Answer.{bit_at}
use Rattle.answer_numbers.specs.declared.trees.Node.{Node}
use Rattle.answer_numbers.specs.Trees.{Way, no_node, node_at, way_of, turned}
use Rattle.answer_numbers.proofs.WayLemmas.{way-root}
use Rattle.answer_numbers.proofs.RootLemmas.{above_lower, position_within, rest_within, turned_up}
use Rattle.answer_numbers.proofs.trees.LaneTrees.turn_bits.Goals as goal
use Rattle.answer_numbers.proofs.trees.LaneTrees.turn_bits.Goals.{After-index-own}

module _ (c : After-index-own) where
  nodes : List Node
  nodes = c.args.self.now.nodes.items

  own : c.index-own.result.now ≡ node_at c.args.self.now.nodes.items c.loop-at.at
  own = get_or_read c.args.self.now.nodes.items c.loop-at.at c.index-own.result.now c.loop-at.invariant.node c.index-own.ensures no_node

  here : c.index-own.result.now.position < length c.loop-at.bits
  here = position_within c.args.self.now.lanes c.args.self.now.nodes.items c.requires.lower c.loop-at.at c.loop-at-test.true c.loop-at.invariant.node c.index-own.result.now own (length c.loop-at.bits) c.loop-at.invariant.within

  lower : c.index-own.result.now.above < c.loop-at.at
  lower = above_lower c.args.self.now.lanes c.args.self.now.nodes.items c.requires.lower c.loop-at.at c.loop-at-test.true c.loop-at.invariant.node c.index-own.result.now own

pub get-requires : goal.get-requires
get-requires c = here (goal.at.get-requires c).After-index-own

pub set-requires : goal.set-requires
set-requires c = here (goal.at.set-requires c).After-index-own

pub loop-at-smaller : goal.loop-at-smaller
loop-at-smaller c = lower (goal.at.loop-at-smaller c).After-index-own

pub loop-at-preserved : goal.loop-at-preserved
loop-at-preserved c =
    let at = (goal.at.loop-at-preserved c).After-index-own in
    let trees = c.args.self.now in
    let bits = c.loop-at.bits in
    let mine = c.index-own.result.now in
    let set_is : c.set.new.self ≡ set bits mine.position (not (bit_at bits mine.position)) = c.set.ensures ∙ ap (λ b. set bits mine.position (not b)) c.get.ensures in
    let long : length c.set.new.self ≡ length bits = ap length set_is ∙ length-set bits mine.position (not (bit_at bits mine.position)) in
    record {
      node = omega (arith, lower at, c.loop-at.invariant.node);
      within = subst (λ n. All (λ position. position < n) (way_of trees.lanes trees.nodes.items mine.above).positions) (sym long)
          (rest_within trees.lanes trees.nodes.items c.requires.lower c.loop-at.at c.loop-at-test.true c.loop-at.invariant.node mine (own at) (length bits) c.loop-at.invariant.within);
      bits = ap (turned (way_of trees.lanes trees.nodes.items mine.above).positions) set_is
          ∙ (turned_up trees.lanes trees.nodes.items c.requires.lower c.loop-at.at c.loop-at-test.true c.loop-at.invariant.node mine (own at) bits ∙ c.loop-at.invariant.bits);
    }

pub returns : goal.returns
returns c =
    let trees = c.args.self.now in
    sym (ap (λ (way : Way). turned way.positions c.loop-at.bits) (way-root trees.lanes trees.nodes.items c.loop-at.at (omega (arith, c.loop-at-test.false)))) ∙ c.loop-at.invariant.bits
