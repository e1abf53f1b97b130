-- What the pins of a relevant line's gate give: constants and variables of the miter, with as many variables as there
-- are pins that aren't stuck.
use Rattle.std.proofs.Common.{◌≡◌, ◌∙◌, ℕ, zero, suc, ◌+◌, ◌-◌, ◌<◌, ◌≤◌, Bool, true, false, List, [], ◌∷◌, ◌++◌, length, take, get_or, refl, sym, ap, arith, subst}
use Rattle.std.specs.Prelude.{All, Contains, Option, None, Some, map, count_by, is_none, if◌then◌else◌}
use Rattle.std.specs.List.{enumerate_from, filter_map}
use Rattle.std.proofs.lemmas.List.{take_more, take_all, get_or_default}
use Rattle.std.proofs.lemmas.List.Sums.{sum_by-cons}
use Rattle.net_model.specs.declared.gate.Gate.{Gate}
use Rattle.net_model.specs.declared.fault.Fault.{Fault}
use Rattle.net_model.specs.Circuit.{Circuit, IsAcyclic, line_count, gate_at, pins_of, Feeds}
use Rattle.net_model.specs.Fault.{stuck_stem, stuck_pin, readings}
use Rattle.net_model.specs.Scope.{is_relevant}
use Rattle.pair_miter.specs.Operand.{Operand, constant, operand_where, variable_of}
use Rattle.pair_miter.specs.Marks.{IsOperand, AreHelpers}
use Rattle.pair_miter.specs.Miter.{operand_of, gate_operands}
use Rattle.pair_miter.specs.Numbering.{HasCopy}
use Rattle.pair_miter.specs.Rows.{variables}
use Rattle.pair_miter.specs.Variables.{fault_of, line_variable, free_pins, gate_helpers, first_helper, is_parity, variable_count}
use Rattle.pair_miter.specs.declared.side.Side.{Side}
use Rattle.pair_miter.proofs.CopyClauses.{length-readings}
use Rattle.net_model.proofs.Relevance.{relevant_back}
use Rattle.pair_miter.proofs.Numbers.{variable_within, few_of_parts, helpers_of_driven, first_helper-from, first_helper-below}

get_or_pair : {A : Type 0} (read : ℕ → ℕ → A) (n : ℕ) (lines : List ℕ) (at : ℕ) (d : A) → at < length lines
    → get_or (map (λ x. read x.0 x.1) (enumerate_from n lines)) at d ≡ read (n + at) (get_or lines at 0)
get_or_pair read n [] at d h = absurd (omega arith)
get_or_pair read n (line ∷ lines) zero d h = let e : n ≡ n + 0 = omega arith in ap (λ m. read m line) e
get_or_pair read n (line ∷ lines) (suc at) d h =
    let e : (n + 1) + at ≡ n + suc at = omega arith in
    get_or_pair read (n + 1) lines at d (omega (arith, h)) ∙ ap (λ m. read m (get_or lines at 0)) e

pub get_or-readings : {A : Type 0} (read : ℕ → ℕ → A) (lines : List ℕ) (at : ℕ) (d : A) → at < length lines → get_or (readings read lines) at d ≡ read at (get_or lines at 0)
unfolding readings
get_or-readings read lines at d h =
    let e : 0 + at ≡ at = omega arith in
    get_or_pair read 0 lines at d h ∙ ap (λ m. read m (get_or lines at 0)) e

module _ (c : Circuit) (f g : Fault) (copy : Side) (line : ℕ) (gate : Gate) where
  -- what a pin gives
  abbrev pub pin_operand : ℕ → Operand
  pin_operand at = operand_of c f g copy (stuck_pin (fault_of c f g copy) line at) (get_or gate.pins at 0)

  operands_more : (at : ℕ) → at < length gate.pins → take (at + 1) (gate_operands c f g copy line gate) ≡ take at (gate_operands c f g copy line gate) ++ pin_operand at ∷ []
  operands_more at h =
      let read : ℕ → ℕ → Operand = λ pin line_read. operand_of c f g copy (stuck_pin (fault_of c f g copy) line pin) line_read in
      let none : Operand = constant false in
      let few : at < length (readings read gate.pins) = omega (arith, length-readings read gate.pins, h) in
      take_more (readings read gate.pins) at none few ∙ ap (λ o. take at (readings read gate.pins) ++ o ∷ []) (get_or-readings read gate.pins at none h)

  pub operands_next : (at : ℕ) (before now : List Operand) (operand : Operand) → at < length gate.pins → before ≡ take at (gate_operands c f g copy line gate) → operand ≡ pin_operand at
      → now ≡ before ++ operand ∷ [] → now ≡ take (at + 1) (gate_operands c f g copy line gate)
  operands_next at before now operand h so_far given pushed = pushed ∙ ((λ i. so_far i ++ given i ∷ []) ∙ sym (operands_more at h))

  pub operands_all : (at : ℕ) → length gate.pins ≤ at → take at (gate_operands c f g copy line gate) ≡ gate_operands c f g copy line gate
  operands_all at h =
      let read : ℕ → ℕ → Operand = λ pin line_read. operand_of c f g copy (stuck_pin (fault_of c f g copy) line pin) line_read in
      take_all at (readings read gate.pins) (omega (arith, length-readings read gate.pins, h))

-- ---- how many there are, and how many of them are variables

pub length-gate_operands : (c : Circuit) (f g : Fault) (copy : Side) (line : ℕ) (gate : Gate) → length (gate_operands c f g copy line gate) ≡ length gate.pins
length-gate_operands c f g copy line gate = length-readings (λ pin read. operand_of c f g copy (stuck_pin (fault_of c f g copy) line pin) read) gate.pins

one_variable : (o : Option Bool) (x : ℕ) (rest : List Operand) (free : List Bool) → length (filter_map variable_of rest) ≡ count_by (λ b. b) free
    → length (filter_map variable_of (operand_where o x ∷ rest)) ≡ count_by (λ b. b) (is_none o ∷ free)
one_variable None x rest free e = omega (arith, sum_by-cons (λ (b : Bool). if b then 1 else 0) true free, e)
one_variable (Some bit) x rest free e = omega (arith, sum_by-cons (λ (b : Bool). if b then 1 else 0) false free, e)

count_variables : (number : ℕ → ℕ) (stuck : ℕ → Option Bool) (n : ℕ) (lines : List ℕ)
    → length (filter_map variable_of (map (λ x. operand_where (stuck x.0) (number x.1)) (enumerate_from n lines))) ≡ count_by (λ b. b) (map (λ x. is_none (stuck x.0)) (enumerate_from n lines))
count_variables number stuck n [] = refl
count_variables number stuck n (line ∷ lines) =
    one_variable (stuck n) (number line) (map (λ x. operand_where (stuck x.0) (number x.1)) (enumerate_from (n + 1) lines)) (map (λ x. is_none (stuck x.0)) (enumerate_from (n + 1) lines))
    (count_variables number stuck (n + 1) lines)

-- a relevant line's gate reads relevant lines
pub pins_relevant : (c : Circuit) (f g : Fault) (line : ℕ) → IsAcyclic c → (gate : Gate) → pins_of c line ≡ gate.pins → is_relevant c f g line ≡ true → All (λ read. is_relevant c f g read ≡ true) gate.pins
pins_relevant c f g line acyclic gate pins e k d below =
    let line_read = get_or gate.pins k d in
    let feeds : Feeds c line_read line = subst (λ ps. Contains ps line_read) (sym pins) (k, below, get_or_default gate.pins k line_read d below) in
    relevant_back c f g acyclic line_read line feeds e

module _ (c : Circuit) (f g : Fault) (copy : Side) (line : ℕ) where
  pub length-variables : (gate : Gate) → length (variables (gate_operands c f g copy line gate)) ≡ free_pins c f g copy line gate
  unfolding readings free_pins
  length-variables gate = count_variables (line_variable c f g copy) (stuck_pin (fault_of c f g copy) line) 0 gate.pins

  -- ---- what there is of a relevant line's gate

  pub operand_within : (stuck : Option Bool) (read : ℕ) → read < line_count c → is_relevant c f g read ≡ true → IsOperand (variable_count c f g) (operand_of c f g copy stuck read)
  operand_within (Some bit) read h e = tt
  operand_within None read h e = variable_within c f g copy read (line_variable c f g copy read) (variable_count c f g) refl refl h e

  pub operands_within : IsAcyclic c → (gate : Gate) → pins_of c line ≡ gate.pins → All (λ read. read < line_count c) gate.pins → is_relevant c f g line ≡ true → All (IsOperand (variable_count c f g)) (gate_operands c f g copy line gate)
  operands_within acyclic gate pins inside e k d h =
      let read : ℕ → ℕ → Operand = λ pin line_read. operand_of c f g copy (stuck_pin (fault_of c f g copy) line pin) line_read in
      let below : k < length gate.pins = omega (arith, length-readings read gate.pins, h) in
      let line_read = get_or gate.pins k 0 in
      subst (IsOperand (variable_count c f g)) (sym (get_or-readings read gate.pins k d below))
      (operand_within (stuck_pin (fault_of c f g copy) line k) line_read (inside k 0 below) (pins_relevant c f g line acyclic gate pins e k 0 below))

  pub helpers_within : HasCopy c f g copy line → line < line_count c → is_relevant c f g line ≡ true → (gate : Gate) → gate_at c line ≡ Some gate → is_none (stuck_stem (fault_of c f g copy) line) ≡ true → is_parity gate.kind ≡ true
      → AreHelpers (variable_count c f g) (first_helper c f g copy line) (length (variables (gate_operands c f g copy line gate)))
  unfolding gate_helpers
  helpers_within own h e gate there free parity many =
      let few = length-variables gate in
      let helpers = helpers_of_driven c f g copy line own gate free there ∙ ap (λ b. if b then free_pins c f g copy line gate - 2 else 0) parity in (
        omega (arith, first_helper-from c f g copy line),
        omega (arith, few, helpers, many, first_helper-below c f g copy line own h e, few_of_parts c f g),
      )
