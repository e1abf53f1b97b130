use Rattle.std.proofs.Common.{◌≡◌, ◌∙◌, ◌<◌, ℕ, Bool, List, [], length, get_or, sym, arith}
use Rattle.std.proofs.lemmas.List.{get_or-map, get_or_default, length-map}
use Rattle.std.specs.String.{string_bytes}
use Rattle.compact_tests.specs.Keeping.{vectors_at}
use Rattle.compact_tests.proofs.TextLemmas.{pattern_more}
use Rattle.compact_tests.proofs.text.first_lines.Goals as goal

pub loop-place-preserved : goal.loop-place-preserved
loop-place-preserved c =
    let patterns = c.args.patterns.now in
    let places = c.args.places.now in
    let at = c.loop-place.place-index in
    let own : ℕ → List Bool = λ place. get_or patterns place [] in
    let place = get_or places at 0 in
    let h : at < length places = omega (arith, c.loop-place-test.true) in
    let inside : place < length patterns = c.requires at 0 h in
    let v = c.index-patterns-place.result in
    let is : v ≡ get_or (vectors_at patterns places) at [] = c.index-patterns-place.is ∙ (get_or_default patterns place v [] inside ∙ sym (get_or-map own places at 0 [] h)) in
    pattern_more (vectors_at patterns places) at v (omega (arith, h, length-map places own)) is (string_bytes c.push_head.new.text) c.loop-place.invariant c.in_ok-push_pattern.ensures.ok
