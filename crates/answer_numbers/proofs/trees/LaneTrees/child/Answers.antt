use Rattle.std.proofs.Common.{◌≡◌, ◌≢◌, ◌∙◌, ℕ, ◌+◌, length, set, refl, ap, arith}
use Rattle.std.proofs.lemmas.List.{get_or_read}
use Rattle.answer_numbers.specs.declared.trees.Node.{Node}
use Rattle.answer_numbers.specs.Trees.{no_node, node_at}
use Rattle.answer_numbers.proofs.ChildLemmas.{grown_nodes, child_there, child_made}
use Rattle.answer_numbers.proofs.trees.LaneTrees.child.Goals as goal

pub returns-then-above-position : goal.returns-then-above-position
returns-then-above-position c =
    let nodes = c.args.self.now.nodes.items in
    let own : c.index-above.result.now ≡ node_at nodes c.args.node = get_or_read nodes c.args.node c.index-above.result.now c.requires.node c.index-above.ensures no_node in
    child_there c.args.self.now _ c.args.node c.args.position c.index-above.result.now c.requires.forest c.requires.node own c.if-above-position.true refl refl refl

pub returns : goal.returns
returns c =
    let nodes = c.args.self.now.nodes.items in
    let node = c.args.node in
    let position = c.args.position in
    let own : c.index-above.result.now ≡ node_at nodes node = get_or_read nodes node c.index-above.result.now c.requires.node c.index-above.ensures no_node in
    let last : c.len-child.result ≡ length nodes = omega (arith, c.len-child.ensures, c.args.self.now.nodes.ok.0) in
    let turn : (node_at nodes node).turn ≢ position + 1 = λ e. c.if-above-position.false (ap (λ (x : Node). x.turn) own ∙ e) in
    let made : Node → ℕ → Node = λ x k. record { above = x.above; position = x.position; turn = position + 1; child = k } in
    let items : set c.push.new.self.items node (made c.index-above.result.now c.len-child.result) ≡ grown_nodes c.args.self.now.lanes nodes node position c.requires.forest c.requires.node =
    λ i. set (c.in_ok-push.ensures.items i) node (made (own i) (last i)) in
    child_made c.args.self.now _ node position c.len-child.result c.requires.forest c.requires.node turn (omega (arith, last, c.if-child.false)) refl refl items last
