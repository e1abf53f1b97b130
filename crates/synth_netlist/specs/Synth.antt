-- The netlist of a number: a chain of cells, each with two inputs, an output and four gates. The outputs of
-- SplitMix64, with the number as its seed, choose the gates.
use Rattle.std.specs.Prelude.{ℕ, zero, suc, ◌+◌, ◌*◌, ◌/◌, ◌%◌, ◌^◌, List, [], ◌∷◌, ◌++◌, codes, decimal, flat_map, slice_index_or}
use Rattle.std.specs.List.{range_with_len}
use Rattle.rand_xoshiro.specs.SplitMix64.{next_state, mix_u64}
use Rattle.bench_reader.specs.Spelled.{Written, written_input, written_output, written_gate, written_line}

-- ---- statements, each with its LF

-- The name of a signal: a letter and a number.
unfoldable pub signal : List ℕ → ℕ → List ℕ
signal letter number = letter ++ decimal number

-- The line of an input.
unfoldable pub input_line : List ℕ → List ℕ
input_line name = written_line (written_input name)

-- The line of an output.
unfoldable pub output_line : List ℕ → List ℕ
output_line name = written_line (written_output name)

-- The line of a gate with two pins.
unfoldable pub gate_line : List ℕ → List ℕ → List ℕ → List ℕ → List ℕ
gate_line driven word first second = written_line (written_gate driven word (first ∷ second ∷ []))

-- ---- the generator

-- The state of the generator after this number of outputs.
abbrev pub state_from : ℕ → ℕ → ℕ
state_from seed zero = seed
state_from seed (suc k) = next_state (state_from seed k)

-- The output of this number, counted from 0.
abbrev pub output_from : ℕ → ℕ → ℕ
output_from seed k = (mix_u64 (state_from seed k)).0

-- The words from which three bits choose.
abbrev pub cell_words : List (List ℕ)
cell_words = codes "AND" ∷ codes "NAND" ∷ codes "OR" ∷ codes "NOR" ∷ codes "XOR" ∷ codes "XNOR" ∷ codes "NAND" ∷ codes "NOR" ∷ []

-- The word of a gate of a cell: three bits of the cell's output choose it.
unfoldable pub gate_word : ℕ → ℕ → List ℕ
gate_word output gate = slice_index_or cell_words (output / 2 ^ (3 * gate) % 8) []

-- ---- the text

-- The ports of a cell: its two inputs and its output.
unfoldable pub ports_text : ℕ → List ℕ
ports_text cell = input_line (signal (codes "x") cell) ++ (input_line (signal (codes "y") cell) ++ output_line (signal (codes "s") cell))

-- The first gate of a cell, of both inputs.
unfoldable pub p_gate : ℕ → ℕ → List ℕ
p_gate output cell = gate_line (signal (codes "p") cell) (gate_word output 0) (signal (codes "x") cell) (signal (codes "y") cell)

-- The second gate, of the first input and the carry into the cell.
unfoldable pub q_gate : ℕ → ℕ → List ℕ
q_gate output cell = gate_line (signal (codes "q") cell) (gate_word output 1) (signal (codes "x") cell) (signal (codes "c") cell)

-- The third gate, of the first two; it drives the cell's output.
unfoldable pub s_gate : ℕ → ℕ → List ℕ
s_gate output cell = gate_line (signal (codes "s") cell) (gate_word output 2) (signal (codes "p") cell) (signal (codes "q") cell)

-- The fourth gate, of the first gate and the carry into the cell; it drives the carry into the next cell.
unfoldable pub c_gate : ℕ → ℕ → List ℕ
c_gate output cell = gate_line (signal (codes "c") (cell + 1)) (gate_word output 3) (signal (codes "p") cell) (signal (codes "c") cell)

-- The four gates of a cell.
abbrev pub gates_text : ℕ → ℕ → List ℕ
gates_text output cell = p_gate output cell ++ (q_gate output cell ++ (s_gate output cell ++ c_gate output cell))

-- The ports and gates of a cell with this output.
abbrev pub cell_text : ℕ → ℕ → List ℕ
cell_text output cell = ports_text cell ++ gates_text output cell

-- The text of a cell in the chain of this number.
abbrev pub numbered_cell : ℕ → ℕ → List ℕ
numbered_cell n cell = cell_text (output_from n cell) cell

-- The text that `synth` writes for a number: the carry into the first cell, a chain of as many cells as the number
-- says, whose gates the outputs of SplitMix64 choose, and the carry out of the last cell.
unfoldable pub synth_text : ℕ → List ℕ
synth_text n = input_line (codes "c0") ++ (flat_map (numbered_cell n) (range_with_len 0 n) ++ output_line (signal (codes "c") n))

-- ---- the statements of the text

-- The statements of a cell with this output.
abbrev pub cell_statements : ℕ → ℕ → List Written
cell_statements output cell =
    written_input (signal (codes "x") cell) ∷ written_input (signal (codes "y") cell) ∷ written_output (signal (codes "s") cell)
    ∷ written_gate (signal (codes "p") cell) (gate_word output 0) (signal (codes "x") cell ∷ signal (codes "y") cell ∷ [])
    ∷ written_gate (signal (codes "q") cell) (gate_word output 1) (signal (codes "x") cell ∷ signal (codes "c") cell ∷ [])
    ∷ written_gate (signal (codes "s") cell) (gate_word output 2) (signal (codes "p") cell ∷ signal (codes "q") cell ∷ [])
    ∷ written_gate (signal (codes "c") (cell + 1)) (gate_word output 3) (signal (codes "p") cell ∷ signal (codes "c") cell ∷ []) ∷ []

-- The statements of a cell in the chain of this number.
abbrev pub statements_of_cell : ℕ → ℕ → List Written
statements_of_cell n cell = cell_statements (output_from n cell) cell

-- The statements of the netlist of a number, each a line of its text.
abbrev pub synth_statements : ℕ → List Written
synth_statements n = written_input (codes "c0") ∷ (flat_map (statements_of_cell n) (range_with_len 0 n) ++ written_output (signal (codes "c") n) ∷ [])
