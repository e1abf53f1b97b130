-- What the command `faults` prints of a circuit.
use Rattle.std.specs.Prelude.{◌≡◌, ℕ, ◌-◌, ◌++◌, codes, flat_map, length}
use Rattle.std.specs.List.{range_with_len}
use Rattle.net_model.specs.declared.circuit.Design.{Design}
use Rattle.net_model.specs.declared.fault.Fault.{Fault}
use Rattle.net_model.specs.FaultList.{fault_numbered}
use Rattle.fault_list.specs.Names.{fault_name}
use Rattle.fault_collapse.specs.Forest.{Forest, IsForestOf, number_count, root_of, root_numbers}
use Rattle.text_fields.specs.Fields.{Text}
use Rattle.listing_commands.specs.Texts.{line_start, count_text}

-- The line of a fault: its number, that of its root, and its name.
unfoldable pub fault_fields : Design → Fault → ℕ → ℕ → Text
fault_fields design fault number root = line_start number root ++ fault_name design.circuit design.names fault ++ codes "\n"

abbrev pub fault_line : Design → Forest → ℕ → Text
fault_line design forest n = fault_fields design (fault_numbered design.circuit n) n (root_of forest n)

-- The lines of all faults, in the order of their numbers.
abbrev pub fault_lines : Design → Forest → Text
fault_lines design forest = flat_map (fault_line design forest) (range_with_len 0 (number_count forest))

unfoldable pub faults_text : Design → Forest → Text
faults_text design forest = fault_lines design forest ++ count_text (number_count forest - 1) (length (root_numbers forest))

-- The text has the lines of all faults of the design's circuit with their roots, and their counts.
pub record IsFaultsText (design : Design) (text : Text) : Type 0 where
  pub forest : Forest
  pub roots : IsForestOf design.circuit forest
  pub text_is : text ≡ faults_text design forest
