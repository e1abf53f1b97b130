use Rattle.std.proofs.Common.{◌≡◌, ◌∙◌, false, length, replicate, refl, sym, ap, subst}
use Rattle.std.proofs.lemmas.List.{length-replicate}
use Rattle.bench_reader.specs.Netlist.{Netlist}
use Rattle.bench_reader.specs.Drivers.{driver_fault, AreNumbered}
use Rattle.bench_reader.proofs.Positions.{length_mapped}
use Rattle.bench_reader.proofs.drivers.check_drivers.Goals as goal

pub fault_of-requires-clause-clear : goal.fault_of-requires-clause-clear
fault_of-requires-clause-clear c =
    let made : c.in_ok-marks.marks.items ≡ replicate c.len.result false = c.in_ok-marks.ensures.items_if_clones_equal (λ y e. e) in
    rw (c.as_mut_slice.ensures.value, made, length-replicate) refl

pub fault_of-requires-clause-driven : goal.fault_of-requires-clause-driven
fault_of-requires-clause-driven c = c.as_slice.ensures.value ∙ c.in_ok-driven.ensures

pub fault_of-requires-clause-numbered : goal.fault_of-requires-clause-numbered
fault_of-requires-clause-numbered c =
    let keys = c.parsed.inside.names.items in
    let now = c.args.parsed.now in
    let made : c.in_ok-marks.marks.items ≡ replicate c.len.result false = c.in_ok-marks.ensures.items_if_clones_equal (λ y e. e) in
    let len : c.len.result ≡ length keys = c.len.ensures ∙ c.parsed.inside.names.ok.0 in
    let count : length c.as_mut_slice.result.now ≡ length now.names =
    ap length (c.as_mut_slice.ensures.value ∙ made) ∙ length-replicate c.len.result false ∙ len ∙ sym (length_mapped keys) ∙ ap (λ (n : Netlist). length n.names) c.parsed.view_is in
    let statements : c.as_slice-statements.result.now ≡ now.statements = c.as_slice-statements.ensures.value ∙ ap (λ (n : Netlist). n.statements) c.parsed.view_is in
    subst (λ n. AreNumbered n c.as_slice-statements.result.now) (sym count) (subst (AreNumbered (length now.names)) (sym statements) c.requires)

pub returns : goal.returns
returns c = c.fault_of.ensures ∙ ap driver_fault (c.as_slice-statements.ensures.value ∙ ap (λ (n : Netlist). n.statements) c.parsed.view_is)
