-- The cut of a netlist that was read has few fault numbers.
use Rattle.std.proofs.Common.{◌+◌, ◌<◌, ◌≤◌, ◌^◌, length, arith, length-append}
use Rattle.std.specs.Prelude.{flat_map, filter_map, sum_by}
use Rattle.std.proofs.lemmas.List.{length-map}
use Rattle.net_model.specs.Circuit.{line_count, all_lines}
use Rattle.net_model.specs.FaultList.{sites_of_line, faults, fault_count}
use Rattle.text_fields.specs.Fields.{Text}
use Rattle.fault_list.proofs.Stuck.{length-stuck}
use Rattle.fault_list.proofs.Bound.{sites_within}
use Rattle.bench_reader.specs.declared.reading.TheConstants.{NETLIST_LIMIT}
use Rattle.bench_reader.specs.Netlist.{Netlist}
use Rattle.bench_reader.specs.Reading.{IsNetlist}
use Rattle.bench_reader.specs.Parsed.{IsParsed}
use Rattle.bench_reader.proofs.SizeLemmas.{small_statements}
use Rattle.scan_cut.specs.Cut.{input_of, output_of, flop_output, flop_data, position_names, line_of_name, cut_circuit}
use Rattle.scan_cut.proofs.FitLemmas.{parts_size}

-- lines, positions and pins together are at most as many as the text has bytes
parts_within : (text : Text) (n : Netlist) → IsNetlist text n → line_count (cut_circuit n) + length (cut_circuit n).positions + sum_by (λ gate. length gate.pins) (cut_circuit n).gates ≤ NETLIST_LIMIT
unfolding cut_circuit
parts_within text n is =
    let parsed : IsParsed text n = record { phrases = is.phrases; is_text = is.is_text; netlist_is = is.netlist_is } in
    let ss = n.statements in
    omega (
      arith,
      is.is_text.short,
      small_statements text n parsed,
      parts_size ss ss,
      length-append (filter_map input_of ss) (filter_map flop_output ss),
      length-append (filter_map output_of ss) (filter_map flop_data ss),
      length-map (position_names ss) (line_of_name ss),
    )

pub few_numbers : (text : Text) (n : Netlist) → IsNetlist text n → fault_count (cut_circuit n) < 2 ^ 26
unfolding faults
few_numbers text n is =
    let c = cut_circuit n in
    omega (arith, parts_within text n is, sites_within c, length-stuck (flat_map (sites_of_line c) (all_lines c)))
