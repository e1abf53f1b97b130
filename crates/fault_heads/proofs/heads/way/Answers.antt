use Rattle.std.proofs.Common.{◌≡◌, ◌∙◌, ℕ, List, ◌<◌, length, refl, ap, subst, arith}
use Rattle.std.specs.Prelude.{Bool, not}
use Rattle.std.proofs.lemmas.Option.{slice_get_read}
use Rattle.net_model.specs.Answer.{bit_at}
use Rattle.fault_heads.specs.Turned.{vector_at, IsFreeLane, bits_differ}
use Rattle.fault_heads.specs.Laws.{value_with_pin}
use Rattle.fault_heads.specs.HeadsFields.{IsDestination}
use Rattle.fault_heads.proofs.WayLemmas.{longer_way, destination_is_gate}
use Rattle.fault_heads.proofs.heads.way.Goals as goal

pub returns : goal.returns
returns c =
    let good = c.args.good.now in
    let at = c.in-Some.at in
    let next = c.index-ways-at.result in
    let only = subst (IsDestination good.circuit c.args.line) c.in-Some.is c.requires.destination in
    let inside : at.gate < length c.args.ways.now = omega (arith, (destination_is_gate good.circuit c.args.line at.gate at.pin only).1, c.requires.whole) in
    let there = slice_get_read c.args.ways.now (length c.args.ways.now) at.gate next refl inside c.index-ways-at.is in
    let passes : (lane : ℕ) (free : List Bool) → IsFreeLane good lane free → bit_at c.difference.result lane ≡ bits_differ (value_with_pin good.circuit (vector_at good lane) free at.gate at.pin (not (bit_at free c.args.line))) (bit_at free at.gate) =
    λ lane free is.
    let turned = c.not.ensures lane is.within ∙ ap not (c.lanes.ensures lane is.live free is.agrees) in
    c.difference.ensures.live lane free is
    ∙ ap (λ b. bits_differ b (bit_at free at.gate)) (c.value_with_pin-turned.ensures.value lane free is ∙ ap (value_with_pin good.circuit (vector_at good lane) free at.gate at.pin) turned) in
    longer_way good c.value_with_pin-turned.ensures.circuit c.args.line at.gate at.pin _ next c.difference.result c.and.result only (c.requires.onward at next c.in-Some.is there) refl refl passes c.difference.ensures.past c.and.ensures
