-- Laws of the cut.
use Rattle.std.specs.Prelude.{ℕ, ◌<◌, ◌^◌, List, [], ◌∷◌, ◌++◌, All, Contains}
use Rattle.net_model.specs.Circuit.{Reaches}
use Rattle.net_model.specs.FaultList.{fault_count}
use Rattle.text_fields.specs.Fields.{Text}
use Rattle.bench_reader.specs.declared.statement.Statement.{Statement}
use Rattle.bench_reader.specs.declared.statement.Statement.TheVariants.{Input, Output, Drive, Flop}
use Rattle.bench_reader.specs.Netlist.{Netlist}
use Rattle.bench_reader.specs.Reading.{IsNetlist}
use Rattle.scan_cut.specs.Cut.{source_names, cut_circuit}

-- the cut of a netlist that was read has fewer than 2^26 fault numbers
abbrev pub FewNumbers : Type 0
FewNumbers = (text : Text) (netlist : Netlist) → IsNetlist text netlist → fault_count (cut_circuit netlist) < 2 ^ 26

-- Each gate reads names that are known: those in `known`, and those that the gates before it drive.
abbrev pub ReadsKnown : List ℕ → List Statement → Type 0
ReadsKnown known [] = Unit {0}
ReadsKnown known (Input n ∷ statements) = ReadsKnown known statements
ReadsKnown known (Output n ∷ statements) = ReadsKnown known statements
ReadsKnown known (Drive n kind pins ∷ statements) = All (λ pin. Contains known pin.name) pins × ReadsKnown (known ++ n.name ∷ []) statements
ReadsKnown known (Flop q d ∷ statements) = ReadsKnown known statements

-- Each gate reads only sources and what the gates before it drive.
abbrev pub AreOrdered : List Statement → Type 0
AreOrdered statements = ReadsKnown (source_names statements) statements

-- no gate of the cut of ordered statements reaches itself
abbrev pub OrderedHasNoLoop : Type 0
OrderedHasNoLoop = (netlist : Netlist) (line : ℕ) → AreOrdered netlist.statements → Reaches (cut_circuit netlist) line line → ⊥
