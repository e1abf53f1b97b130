use Rattle.std.proofs.Common.{◌≡◌, ◌+◌, ◌<◌, ◌++◌, ◌∷◌, [], ℕ, List, get_or, ap, sym, subst, ◌∙◌, arith, length}
use Rattle.std.specs.List.{flat_map, range_with_len}
use Rattle.std.proofs.lemmas.List.{append_assoc, append-nil}
use Rattle.std.proofs.lemmas.Grind.{flat_map-append}
use Rattle.std.proofs.lemmas.Option.{get_or_from_slice_get}
use Rattle.net_model.proofs.Orders.{range_with_len_more}
use Rattle.net_model.specs.declared.fault.Fault.{Fault}
use Rattle.net_model.specs.declared.fault.Fault.TheVariants.{Free}
use Rattle.net_model.specs.Fault.{IsFaultOf}
use Rattle.net_model.specs.FaultList.{fault_numbered}
use Rattle.listing_commands.specs.Faults.{fault_line}
use Rattle.listing_commands.proofs.faults.push_faults.Goals as goal

pub loop-number-init : goal.loop-number-init
loop-number-init c = sym (append-nil c.args.text.now.items)

pub push_fault-requires-clause-fault : goal.push_fault-requires-clause-fault
push_fault-requires-clause-fault c =
    let k = c.loop-number.number in
    let inside : k < length c.args.listed.now = omega (arith, c.loop-number-test.true, c.len-number-end.ensures.value) in
    subst (IsFaultOf c.args.design.now.circuit) (get_or_from_slice_get c.args.listed.now k c.get.result Free c.get.ensures.value) (c.requires.stand k Free inside)

pub loop-number-preserved : goal.loop-number-preserved
loop-number-preserved c =
    let design = c.args.design.now in
    let forest = c.args.forest.now in
    let k = c.loop-number.number in
    let line = fault_line design forest in
    let circuit = design.circuit in
    let fault : fault_numbered circuit k ≡ c.get.result = ap (λ (fs : List Fault). get_or fs k Free) (sym c.requires.listed) ∙ get_or_from_slice_get c.args.listed.now k c.get.result Free c.get.ensures.value in
    let so_far = flat_map line (range_with_len 0 k) in
    let pushed : c.push_fault.new.text.items ≡ c.loop-number.text.items ++ line k = rw fault (rw c.root.ensures.value at c.in_ok-push_fault.ensures) in
    let more : flat_map line (range_with_len 0 (k + 1)) ≡ so_far ++ line k =
    ap (flat_map line) (range_with_len_more 0 (k + 1) k k (omega arith) (omega arith)) ∙ flat_map-append line (range_with_len 0 k) (k ∷ []) ∙ ap (λ (xs : List ℕ). so_far ++ xs) (append-nil (line k)) in
    pushed ∙ ap (λ (xs : List ℕ). xs ++ line k) c.loop-number.invariant ∙ append_assoc c.args.text.now.items so_far (line k) ∙ ap (λ (xs : List ℕ). c.args.text.now.items ++ xs) (sym more)

pub returns : goal.returns
returns c =
    let end : c.loop-number.number ≡ length c.args.forest.now.roots = omega (arith, c.requires.forest, c.len-number-end.ensures.value) in
    rw end at c.loop-number.invariant
