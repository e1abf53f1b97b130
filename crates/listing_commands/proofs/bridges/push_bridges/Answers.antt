use Rattle.std.proofs.Common.{◌≡◌, ◌+◌, ◌<◌, ◌++◌, ◌∷◌, [], ℕ, List, take, get_or, length, ap, sym, subst, ◌∙◌, arith}
use Rattle.std.specs.List.{flat_map}
use Rattle.std.proofs.lemmas.List.{take_more, append_assoc, append-nil, take_all}
use Rattle.std.proofs.lemmas.Grind.{flat_map-append}
use Rattle.std.proofs.lemmas.Option.{get_or_from_slice_get}
use Rattle.bridging_faults.specs.declared.scored.ScoredBridge.{ScoredBridge}
use Rattle.bridging_faults.specs.Texts.{bridge_line}
use Rattle.listing_commands.proofs.bridges.push_bridges.Goals as goal

pub loop-at-init : goal.loop-at-init
loop-at-init c = sym (append-nil c.args.text.now.items)

pub push_bridge-requires-clause-first : goal.push_bridge-requires-clause-first
push_bridge-requires-clause-first c =
    let listed = c.args.listed.now.listed in
    let k = c.loop-at.at in
    let one : ScoredBridge = c.get.result in
    let inside : k < length listed = omega (arith, c.loop-at-test.true, c.len-at-end.ensures) in
    subst (λ (s : ScoredBridge). s.bridge.first < length c.args.names.now) (get_or_from_slice_get listed k one one c.get.ensures) (c.requires.first k one inside)

pub push_bridge-requires-clause-second : goal.push_bridge-requires-clause-second
push_bridge-requires-clause-second c =
    let listed = c.args.listed.now.listed in
    let k = c.loop-at.at in
    let one : ScoredBridge = c.get.result in
    let inside : k < length listed = omega (arith, c.loop-at-test.true, c.len-at-end.ensures) in
    subst (λ (s : ScoredBridge). s.bridge.second < length c.args.names.now) (get_or_from_slice_get listed k one one c.get.ensures) (c.requires.second k one inside)

pub loop-at-preserved : goal.loop-at-preserved
loop-at-preserved c =
    let listed = c.args.listed.now.listed in
    let line = bridge_line c.args.names.now in
    let k = c.loop-at.at in
    let one : ScoredBridge = c.get.result in
    let so_far = flat_map line (take k listed) in
    let init = c.args.text.now.items in
    let here : get_or listed k one ≡ one = get_or_from_slice_get listed k one one c.get.ensures in
    let more : flat_map line (take (k + 1) listed) ≡ so_far ++ line one =
    ap (flat_map line) (take_more listed k one (omega arith)) ∙ flat_map-append line (take k listed) (get_or listed k one ∷ []) ∙ ap (λ (xs : List ℕ). so_far ++ xs) (append-nil (line (get_or listed k one)) ∙ ap line here) in
    c.in_ok-push_bridge.ensures
    ∙ ap (λ (xs : List ℕ). xs ++ line one) c.loop-at.invariant
    ∙ append_assoc init so_far (line one)
    ∙ ap (λ (xs : List ℕ). init ++ xs) (sym more)

pub returns : goal.returns
returns c = rw (sym (take_all c.loop-at.at c.args.listed.now.listed (omega arith))) c.loop-at.invariant
