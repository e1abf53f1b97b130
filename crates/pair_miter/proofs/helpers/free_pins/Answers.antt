use Rattle.std.proofs.Common.{◌≡◌, ◌∙◌, ◌<◌, Bool, false, length, get_or, arith, ap, sym}
use Rattle.std.specs.Prelude.{not, count_by, is_none}
use Rattle.std.proofs.lemmas.List.{take_all}
use Rattle.std.proofs.lemmas.List.Sums.{count_by_more_yes, count_by_more_no}
use Rattle.net_model.specs.Fault.{stuck_pin, readings}
use Rattle.fault_list.proofs.Pair.{at_reading}
use Rattle.pair_miter.proofs.CopyClauses.{length-readings}
use Rattle.pair_miter.proofs.helpers.free_pins.Goals as goal
use Rattle.pair_miter.proofs.helpers.free_pins.Goals.{then-is_none, else-is_none}

pub loop-pin-preserved : goal.loop-pin-preserved
loop-pin-preserved c =
    let at = c.loop-pin.pin in
    let free = readings {A = Bool} (λ pin read. is_none (stuck_pin c.args.fault c.args.line pin)) c.args.pins.now in
    let inside : at < length free = omega (arith, length-readings {A = Bool} (λ pin read. is_none (stuck_pin c.args.fault c.args.line pin)) c.args.pins.now) in
    let here : get_or free at false ≡ is_none (stuck_pin c.args.fault c.args.line at) = at_reading (λ pin read. is_none (stuck_pin c.args.fault c.args.line pin)) c.args.pins.now at c.loop-pin-test.true in
    let known = here ∙ ap is_none (sym c.stuck_pin.ensures) ∙ ap not c.is_none.ensures in
    elim c.if-is_none.branch [
      | then-is_none w ↦
          let yes = count_by_more_yes (λ b. b) free at false inside (known ∙ ap (λ b. not (not b)) w.if-is_none.true) in
          (omega (arith, yes, c.loop-pin.invariant.0, w.count-is), omega (arith, w.count-is, c.loop-pin.invariant.1))
      | else-is_none w ↦
          let no = count_by_more_no (λ b. b) free at false inside (known ∙ ap (λ b. not (not b)) w.if-is_none.false) in
          (omega (arith, no, c.loop-pin.invariant.0, w.count-is), omega (arith, w.count-is, c.loop-pin.invariant.1))
    ]

pub returns : goal.returns
returns c =
    let free = readings {A = Bool} (λ pin read. is_none (stuck_pin c.args.fault c.args.line pin)) c.args.pins.now in
    let whole = take_all c.loop-pin.pin free (omega (arith, length-readings {A = Bool} (λ pin read. is_none (stuck_pin c.args.fault c.args.line pin)) c.args.pins.now)) in
    c.loop-pin.invariant.0 ∙ ap (count_by (λ b. b)) whole
