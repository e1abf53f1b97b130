-- The parts of the cut fit together.
use Rattle.std.proofs.Common.{◌≡◌, ◌∙◌, ℕ, suc, ◌+◌, ◌<◌, ◌≤◌, List, [], ◌∷◌, length, refl, ap, arith, length-append}
use Rattle.std.specs.Prelude.{map, filter_map, flat_map, slice_index_or, sum_by, All, Contains, IsTrue}
use Rattle.std.proofs.lemmas.List.{length-map}
use Rattle.std.proofs.lemmas.List.Elements.{All-nil, All-cons, All-head, All-tail, All-append, All-map, All-weaker}
use Rattle.std.proofs.lemmas.List.Sums.{sum_by-cons}
use Rattle.net_model.specs.Gate.{takes_pins}
use Rattle.net_model.specs.declared.gate.Gate.{Gate}
use Rattle.net_model.specs.Circuit.{FitsTogether, line_count}
use Rattle.net_model.proofs.Elements.{All-left, All-right}
use Rattle.bench_reader.specs.declared.reading.TheConstants.{NETLIST_LIMIT}
use Rattle.bench_reader.specs.declared.statement.Word.{Word}
use Rattle.bench_reader.specs.declared.statement.Statement.{Statement}
use Rattle.bench_reader.specs.declared.statement.Statement.TheVariants.{Input, Output, Drive, Flop}
use Rattle.bench_reader.specs.Netlist.{Netlist}
use Rattle.bench_reader.specs.Driven.{driven_numbers, used_numbers, takes_its_pins, statement_size, IsDriven}
use Rattle.scan_cut.specs.Cut.{input_of, output_of, flop_output, flop_data, source_names, gate_words, line_names, line_of_name, gate_of, position_names, cut_circuit, cut_design}
use Rattle.scan_cut.proofs.NameLemmas.{line_from_driven, line_is}

-- if a fact holds of all names that are used, it holds of the words of each gate and of the names of positions
module _ (P : ℕ → Type 0) where
  pub each_word : (words : List Word) → All P (map (λ word. word.name) words) → All (λ word. P word.name) words
  each_word [] a = All-nil (λ (word : Word). P word.name)
  each_word (word ∷ words) a =
      All-cons (λ (w : Word). P w.name) word words (All-head P word.name (map (λ w. w.name) words) a) (each_word words (All-tail P word.name (map (λ w. w.name) words) a))

  outputs_used : (ss : List Statement) → All P (flat_map used_numbers ss) → All P (filter_map output_of ss)
  outputs_used [] a = All-nil P
  outputs_used (Input n ∷ ss) a = outputs_used ss a
  outputs_used (Output n ∷ ss) a = All-cons P n.name (filter_map output_of ss) (All-head P n.name (flat_map used_numbers ss) a) (outputs_used ss (All-tail P n.name (flat_map used_numbers ss) a))
  outputs_used (Drive n kind pins ∷ ss) a = outputs_used ss (All-right P (map (λ pin. pin.name) pins) (flat_map used_numbers ss) a)
  outputs_used (Flop q d ∷ ss) a = outputs_used ss (All-tail P d.name (flat_map used_numbers ss) a)

  data_used : (ss : List Statement) → All P (flat_map used_numbers ss) → All P (filter_map flop_data ss)
  data_used [] a = All-nil P
  data_used (Input n ∷ ss) a = data_used ss a
  data_used (Output n ∷ ss) a = data_used ss (All-tail P n.name (flat_map used_numbers ss) a)
  data_used (Drive n kind pins ∷ ss) a = data_used ss (All-right P (map (λ pin. pin.name) pins) (flat_map used_numbers ss) a)
  data_used (Flop q d ∷ ss) a = All-cons P d.name (filter_map flop_data ss) (All-head P d.name (flat_map used_numbers ss) a) (data_used ss (All-tail P d.name (flat_map used_numbers ss) a))

  pub positions_used : (ss : List Statement) → All P (flat_map used_numbers ss) → All P (position_names ss)
  positions_used ss a = All-append P (filter_map output_of ss) (filter_map flop_data ss) (outputs_used ss a) (data_used ss a)

-- ---- sizes

pub gate_count : (whole ss : List Statement) → length (filter_map (gate_of whole) ss) ≡ length (gate_words ss)
gate_count whole [] = refl
gate_count whole (Input n ∷ ss) = gate_count whole ss
gate_count whole (Output n ∷ ss) = gate_count whole ss
gate_count whole (Drive n kind pins ∷ ss) = ap suc (gate_count whole ss)
gate_count whole (Flop q d ∷ ss) = gate_count whole ss

-- how many lines, positions and pins there are together
pub parts_size : (whole ss : List Statement)
    → length (filter_map input_of ss) + length (filter_map flop_output ss) + length (filter_map (gate_of whole) ss) + length (filter_map output_of ss) + length (filter_map flop_data ss)
    + sum_by (λ gate. length gate.pins) (filter_map (gate_of whole) ss)
    ≤ sum_by statement_size ss
parts_size whole [] = omega arith
parts_size whole (Input n ∷ ss) = omega (arith, parts_size whole ss, sum_by-cons statement_size (Input n) ss)
parts_size whole (Output n ∷ ss) = omega (arith, parts_size whole ss, sum_by-cons statement_size (Output n) ss)
parts_size whole (Drive n kind pins ∷ ss) =
    let lines : List ℕ = map (λ (pin : Word). line_of_name whole pin.name) pins in
    let gate = sum_by-cons (λ (gate : Gate). length gate.pins) (record { kind = kind; pins = lines }) (filter_map (gate_of whole) ss) in
    omega (arith, parts_size whole ss, sum_by-cons statement_size (Drive n kind pins) ss, gate, length-map pins (λ (pin : Word). line_of_name whole pin.name))
parts_size whole (Flop q d ∷ ss) = omega (arith, parts_size whole ss, sum_by-cons statement_size (Flop q d) ss)

pub line_count_is : (ss : List Statement) → length (line_names ss) ≡ length (source_names ss) + length (gate_words ss)
unfolding line_names
line_count_is ss = length-append (source_names ss) (map (λ (word : Word). word.name) (gate_words ss)) ∙ ap (λ n. length (source_names ss) + n) (length-map (gate_words ss) (λ (word : Word). word.name))

-- ---- gates

module _ (whole : List Statement) (P Q : ℕ → Type 0) (line : (name : ℕ) → P name → Q (line_of_name whole name)) where
  pins_fit : (pins : List Word) → All P (map (λ pin. pin.name) pins) → All Q (map (λ pin. line_of_name whole pin.name) pins)
  pins_fit [] a = All-nil Q
  pins_fit (pin ∷ pins) a =
      All-cons Q (line_of_name whole pin.name) (map (λ p. line_of_name whole p.name) pins) (line pin.name (All-head P pin.name (map (λ p. p.name) pins) a)) (pins_fit pins (All-tail P pin.name (map (λ p. p.name) pins) a))

  gates_fit : (ss : List Statement) → All P (flat_map used_numbers ss) → All (λ gate. All Q gate.pins) (filter_map (gate_of whole) ss)
  gates_fit [] a = All-nil (λ (gate : Gate). All Q gate.pins)
  gates_fit (Input n ∷ ss) a = gates_fit ss a
  gates_fit (Output n ∷ ss) a = gates_fit ss (All-tail P n.name (flat_map used_numbers ss) a)
  gates_fit (Drive n kind pins ∷ ss) a =
      All-cons (λ (gate : Gate). All Q gate.pins) (record { kind = kind; pins = map (λ pin. line_of_name whole pin.name) pins }) (filter_map (gate_of whole) ss)
      (pins_fit pins (All-left P (map (λ pin. pin.name) pins) (flat_map used_numbers ss) a)) (gates_fit ss (All-right P (map (λ pin. pin.name) pins) (flat_map used_numbers ss) a))
  gates_fit (Flop q d ∷ ss) a = gates_fit ss (All-tail P d.name (flat_map used_numbers ss) a)

kinds_fit : (whole ss : List Statement) → All (λ s. IsTrue (takes_its_pins s)) ss → All (λ gate. IsTrue (takes_pins gate.kind (length gate.pins))) (filter_map (gate_of whole) ss)
kinds_fit whole [] a = All-nil (λ (gate : Gate). IsTrue (takes_pins gate.kind (length gate.pins)))
kinds_fit whole (Input n ∷ ss) a = kinds_fit whole ss (All-tail (λ s. IsTrue (takes_its_pins s)) (Input n) ss a)
kinds_fit whole (Output n ∷ ss) a = kinds_fit whole ss (All-tail (λ s. IsTrue (takes_its_pins s)) (Output n) ss a)
kinds_fit whole (Drive n kind pins ∷ ss) a =
    All-cons (λ (gate : Gate). IsTrue (takes_pins gate.kind (length gate.pins))) (record { kind = kind; pins = map (λ pin. line_of_name whole pin.name) pins }) (filter_map (gate_of whole) ss)
    (rw (length-map pins (λ (pin : Word). line_of_name whole pin.name)) (All-head (λ s. IsTrue (takes_its_pins s)) (Drive n kind pins) ss a)) (kinds_fit whole ss (All-tail (λ s. IsTrue (takes_its_pins s)) (Drive n kind pins) ss a))
kinds_fit whole (Flop q d ∷ ss) a = kinds_fit whole ss (All-tail (λ s. IsTrue (takes_its_pins s)) (Flop q d) ss a)

-- ---- the cut of a netlist

module _ (n : Netlist) (o : IsDriven n) where
  pub used_lines : All (Contains (line_names n.statements)) (flat_map used_numbers n.statements)
  used_lines = All-weaker (Contains (driven_numbers n.statements)) (Contains (line_names n.statements)) (line_from_driven n.statements) (flat_map used_numbers n.statements) o.used

  pub few_parts : length (line_names n.statements) + length (position_names n.statements) + sum_by (λ gate. length gate.pins) (filter_map (gate_of n.statements) n.statements) ≤ NETLIST_LIMIT
  few_parts =
      omega (
        arith,
        parts_size n.statements n.statements,
        o.small,
        line_count_is n.statements,
        gate_count n.statements n.statements,
        length-append (filter_map input_of n.statements) (filter_map flop_output n.statements),
        length-append (filter_map output_of n.statements) (filter_map flop_data n.statements),
      )

  line_below : (name : ℕ) → Contains (line_names n.statements) name → line_of_name n.statements name < length (source_names n.statements) + length (filter_map (gate_of n.statements) n.statements)
  line_below name m = let below = (line_is n.statements name m).0 in omega (arith, below, line_count_is n.statements, gate_count n.statements n.statements)

  pub fits : FitsTogether (cut_circuit n)
  unfolding cut_circuit
  fits =
      let below : ℕ → Type 0 = λ line. line < length (source_names n.statements) + length (filter_map (gate_of n.statements) n.statements) in
      let has = Contains (line_names n.statements) in
      record {
        pins = gates_fit n.statements has below line_below n.statements used_lines;
        arities = kinds_fit n.statements n.statements o.arities;
        positions = All-map below (line_of_name n.statements) (position_names n.statements) (All-weaker has (λ name. below (line_of_name n.statements name)) line_below (position_names n.statements) (positions_used has n.statements used_lines));
        small = omega (arith, few_parts, line_count_is n.statements, gate_count n.statements n.statements, length-map (position_names n.statements) (line_of_name n.statements));
      }

-- each line of the cut has a name
pub names_fit : (n : Netlist) → length (cut_design n).names ≡ line_count (cut_circuit n)
unfolding cut_design cut_circuit
names_fit n = omega (arith, length-map (line_names n.statements) (λ name. slice_index_or n.names name []), line_count_is n.statements, gate_count n.statements n.statements)
