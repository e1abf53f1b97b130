use Rattle.std.proofs.Common.{◌≡◌, ◌∙◌, ◌<◌, ℕ, Bool, List, [], ◌∷◌, ◌++◌, length, get_or, sym, ap, arith}
use Rattle.std.proofs.lemmas.List.{get_or-map, get_or_default, length-map}
use Rattle.word_sim.specs.Block.{Block, block_with}
use Rattle.table_dicts.proofs.BlockLemmas.{range_none, range_more, block_length}
use Rattle.compact_tests.specs.Keeping.{vectors_at}
use Rattle.compact_tests.proofs.keeping.fill_from.Goals as goal

pub loop-at-init : goal.loop-at-init
loop-at-init c = c.clear.ensures ∙ ap (block_with c.args.block.now.sources) (sym (range_none (vectors_at c.args.patterns.now c.args.places.now) c.args.first))

pub push-requires-clause-room : goal.push-requires-clause-room
push-requires-clause-room c =
    let vectors = vectors_at c.args.patterns.now c.args.places.now in
    let many : length vectors ≡ length c.args.places.now = length-map c.args.places.now (λ (place : ℕ). get_or c.args.patterns.now place []) in
    omega (arith, ap (λ (b : Block). length b.vectors) c.loop-at.invariant, block_length vectors c.args.first c.loop-at.at (omega arith) (omega (arith, c.requires.end, many)), c.requires.few)

pub loop-at-preserved : goal.loop-at-preserved
loop-at-preserved c =
    let patterns = c.args.patterns.now in
    let places = c.args.places.now in
    let at = c.loop-at.at in
    let own : ℕ → List Bool = λ place. get_or patterns place [] in
    let place = get_or places at 0 in
    let h : at < length places = omega (arith, c.loop-at-test.true, c.requires.end) in
    let inside : place < length patterns = c.requires.places at 0 h in
    let so_far = c.loop-at.invariant in
    let sources = ap (λ (b : Block). b.sources) so_far in
    let vectors = ap (λ (b : Block). b.vectors) so_far in
    let v = c.index-patterns-places.result in
    let is : v ≡ own place = c.index-patterns-places.is ∙ get_or_default patterns place v [] inside in
    let here : v ≡ get_or (vectors_at patterns places) at v = is ∙ sym (get_or-map own places at 0 v h) in
    c.push.ensures
    ∙ ((λ i. block_with (sources i) (vectors i ++ v ∷ []))
    ∙ ap (block_with c.args.block.now.sources) (sym (range_more (vectors_at patterns places) c.args.first at v (omega arith) (omega (arith, h, length-map places own)) here)))
