-- The clauses of a line in a copy hold exactly if the line's variable carries the line's bit in the valuation of that
-- copy, given that the variables of the lines that it reads do.
use Rattle.std.proofs.Common.{◌≡◌, ◌∙◌, ℕ, suc, ◌+◌, ◌<◌, refl, sym, ap}
use Rattle.std.specs.Prelude.{Bool, true, false, List, [], ◌∷◌, map, length, Option, None, Some, Contains, unwrap_or}
use Rattle.std.specs.Option.{option_map_or}
use Rattle.std.specs.List.{enumerate_from}
use Rattle.net_model.specs.declared.gate.Gate.{Gate}
use Rattle.net_model.specs.declared.fault.Fault.{Fault}
use Rattle.net_model.specs.Gate.{gate_value}
use Rattle.net_model.specs.Circuit.{Circuit, IsCircuit, line_count, gate_at, Feeds}
use Rattle.net_model.specs.Fault.{stuck_stem, stuck_pin, readings}
use Rattle.net_model.specs.Answer.{bit_at, seen_bits, driven_bit, line_bit, Agrees}
use Rattle.net_model.proofs.Copies.{same_readings, map-readings}
use Rattle.clause_pool.specs.Clauses.{Clause}
use Rattle.pair_miter.specs.Variables.{fault_of, line_variable, first_helper, is_parity}
use Rattle.pair_miter.specs.declared.side.Side.{Side}
use Rattle.pair_miter.specs.Rows.{variables, signed_literal}
use Rattle.pair_miter.specs.Miter.{operand_of, gate_operands, gate_clauses, stuck_clauses, copy_clauses, is_model, copy_bit}
use Rattle.pair_miter.proofs.Bits.{holds, holds-is, is-holds}
use Rattle.pair_miter.proofs.GateRows.{operand_value, Carry, variable_bits, helper_bits, gate_rows-sound, gate_rows-complete, unit_true, unit_false}

length_pairs : {A : Type 0} (read : ℕ → ℕ → A) (n : ℕ) (lines : List ℕ) → length (map (λ x. read x.0 x.1) (enumerate_from n lines)) ≡ length lines
length_pairs read n [] = refl
length_pairs read n (line ∷ lines) = ap suc (length_pairs read (n + 1) lines)

pub length-readings : {A : Type 0} (read : ℕ → ℕ → A) (lines : List ℕ) → length (readings read lines) ≡ length lines
unfolding readings
length-readings read lines = length_pairs read 0 lines

module _ (c : Circuit) (f g : Fault) (bits : List Bool) (copy : Side) where
  -- what a reader carries
  pub operand_carries : (stuck : Option Bool) (read : ℕ) → operand_value bits (operand_of c f g copy stuck read) ≡ unwrap_or stuck (copy_bit c f g bits copy read)
  operand_carries None read = refl
  operand_carries (Some b) read = refl

  module _ (w : IsCircuit c) (v z : List Bool) (line : ℕ) where
    operands_carry : (gate : Gate) → ((read : ℕ) → Contains gate.pins read → bit_at z read ≡ copy_bit c f g bits copy read)
        → map (operand_value bits) (gate_operands c f g copy line gate) ≡ seen_bits (stuck_pin (fault_of c f g copy) line) z gate.pins
    operands_carry gate lines =
        map-readings (operand_value bits) (λ pin read. operand_of c f g copy (stuck_pin (fault_of c f g copy) line pin) read) gate.pins
        ∙ same_readings (λ pin read. operand_value bits (operand_of c f g copy (stuck_pin (fault_of c f g copy) line pin) read)) (λ pin read. unwrap_or (stuck_pin (fault_of c f g copy) line pin) (bit_at z read)) gate.pins
        (λ pin read m. operand_carries (stuck_pin (fault_of c f g copy) line pin) read ∙ ap (unwrap_or (stuck_pin (fault_of c f g copy) line pin)) (sym (lines read m)))

    stuck_holds : (b : Bool) → is_model bits (stuck_clauses c f g copy line b) ≡ holds (copy_bit c f g bits copy line) b
    stuck_holds true = unit_true bits (signed_literal true (line_variable c f g copy line))
    stuck_holds false = unit_false bits (signed_literal true (line_variable c f g copy line))

    -- the equation of the line, by its stem and its gate
    line_is : Option Bool → Option Gate → Bool
    line_is stem gate = unwrap_or stem (option_map_or (λ gate. gate_value gate.kind (seen_bits (stuck_pin (fault_of c f g copy) line) z gate.pins)) gate (bit_at v line))

    clauses_of_stem : Option Bool → Option Gate → List Clause
    clauses_of_stem stem gate = option_map_or (stuck_clauses c f g copy line) stem (option_map_or (gate_clauses c f g copy line) gate [])

    reads : Option Gate → ℕ → Type 0
    reads gate read = Contains (option_map_or (λ gate. gate.pins) gate []) read

    sound_by : (stem : Option Bool) (gate : Option Gate) → gate_at c line ≡ gate → is_model bits (clauses_of_stem stem gate) ≡ true
        → ((read : ℕ) → reads gate read → bit_at z read ≡ copy_bit c f g bits copy read)
        → (gate ≡ None → stem ≡ None → bit_at v line ≡ copy_bit c f g bits copy line)
        → line_is stem gate ≡ copy_bit c f g bits copy line
    unfolding line_is clauses_of_stem reads
    sound_by (Some b) gate is e lines source = sym (holds-is (copy_bit c f g bits copy line) b (sym (stuck_holds b) ∙ e))
    sound_by None None is e lines source = source refl refl
    sound_by None (Some gate) is e lines source =
        ap (gate_value gate.kind) (sym (operands_carry gate lines))
        ∙ sym (gate_rows-sound bits gate.kind (line_variable c f g copy line) (first_helper c f g copy line) (gate_operands c f g copy line gate) e)

    complete_by : (stem : Option Bool) (gate : Option Gate) → gate_at c line ≡ gate → line_is stem gate ≡ copy_bit c f g bits copy line
        → ((read : ℕ) → reads gate read → bit_at z read ≡ copy_bit c f g bits copy read)
        → ((driver : Gate) → gate ≡ Some driver → stem ≡ None → is_parity driver.kind ≡ true → Carry bits (first_helper c f g copy line) (helper_bits (variable_bits bits (variables (gate_operands c f g copy line driver)))))
        → is_model bits (clauses_of_stem stem gate) ≡ true
    unfolding line_is clauses_of_stem reads
    complete_by (Some b) gate is e lines helpers = stuck_holds b ∙ is-holds (copy_bit c f g bits copy line) b (sym e)
    complete_by None None is e lines helpers = refl
    complete_by None (Some gate) is e lines helpers =
        gate_rows-complete bits gate.kind (line_variable c f g copy line) (first_helper c f g copy line) (gate_operands c f g copy line gate) (helpers gate refl refl)
        (sym e ∙ ap (gate_value gate.kind) (sym (operands_carry gate lines)))

    -- if the clauses hold, the variable carries the line's bit
    pub copy_sound : Agrees c (fault_of c f g copy) v z → line < line_count c → is_model bits (copy_clauses c f g copy line) ≡ true
        → ((read : ℕ) → Feeds c read line → bit_at z read ≡ copy_bit c f g bits copy read)
        → (gate_at c line ≡ None → stuck_stem (fault_of c f g copy) line ≡ None → bit_at v line ≡ copy_bit c f g bits copy line)
        → bit_at z line ≡ copy_bit c f g bits copy line
    unfolding copy_clauses line_bit driven_bit line_is clauses_of_stem reads
    copy_sound a h e lines source = a.each line h ∙ sound_by (stuck_stem (fault_of c f g copy) line) (gate_at c line) refl e lines source

    -- if the variables carry the bits, the clauses hold
    pub copy_complete : Agrees c (fault_of c f g copy) v z → line < line_count c → bit_at z line ≡ copy_bit c f g bits copy line
        → ((read : ℕ) → Feeds c read line → bit_at z read ≡ copy_bit c f g bits copy read)
        → ((driver : Gate) → gate_at c line ≡ Some driver → stuck_stem (fault_of c f g copy) line ≡ None → is_parity driver.kind ≡ true → Carry bits (first_helper c f g copy line) (helper_bits (variable_bits bits (variables (gate_operands c f g copy line driver)))))
        → is_model bits (copy_clauses c f g copy line) ≡ true
    unfolding copy_clauses line_bit driven_bit line_is clauses_of_stem reads
    copy_complete a h e lines helpers = complete_by (stuck_stem (fault_of c f g copy) line) (gate_at c line) refl (sym (a.each line h) ∙ e) lines helpers
