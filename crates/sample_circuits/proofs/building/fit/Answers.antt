use Rattle.std.proofs.Common.{◌≡◌, ◌∙◌, ◌<◌, ◌+◌, ◌++◌, ◌∷◌, [], true, length, take, ap, sym, subst, arith}
use Rattle.std.specs.Prelude.{All, IsTrue}
use Rattle.std.proofs.lemmas.List.{take_more}
use Rattle.std.proofs.lemmas.List.Elements.{All-push}
use Rattle.std.proofs.lemmas.List.Sums.{sum_by_more}
use Rattle.net_model.specs.declared.gate.Gate.{Gate}
use Rattle.net_model.specs.Gate.{takes_pins}
use Rattle.sample_circuits.proofs.building.fit.Goals as goal

pub loop-gate-preserved : goal.loop-gate-preserved
loop-gate-preserved c =
    let gates = c.args.gates.now in
    let i = c.loop-gate.gate-index in
    let gate = c.gate-item.result in
    let lines = c.args.sources + length gates in
    let more : take (i + 1) gates ≡ take i gates ++ gate ∷ [] = take_more gates i gate c.loop-gate-test.true ∙ ap (λ g. take i gates ++ g ∷ []) (sym c.gate-item.is) in
    let pins : c.as_slice-pins.result.now ≡ gate.pins = c.as_slice-pins.ensures in
    let takes : takes_pins gate.kind (length gate.pins) ≡ true = sym (c.if-not-takes.ensures ∙ ap (λ ps. takes_pins gate.kind (length ps)) pins) in
    let below : All (λ pin. pin < lines) gate.pins = subst (All (λ pin. pin < lines)) pins (c.all_below.ensures.0 c.if-not-all_below.false) in
    record {
      items =
          omega (arith, ap length pins, c.loop-gate.invariant.items, sum_by_more (λ (g : Gate). length g.pins) gates i gate c.loop-gate-test.true, ap (λ (g : Gate). length g.pins) c.gate-item.is);
      pins = subst (All (λ (g : Gate). All (λ pin. pin < lines) g.pins)) (sym more) (All-push (λ (g : Gate). All (λ pin. pin < lines) g.pins) (take i gates) gate c.loop-gate.invariant.pins below);
      arities = subst (All (λ (g : Gate). IsTrue (takes_pins g.kind (length g.pins)))) (sym more) (All-push (λ (g : Gate). IsTrue (takes_pins g.kind (length g.pins))) (take i gates) gate c.loop-gate.invariant.arities takes);
    }
