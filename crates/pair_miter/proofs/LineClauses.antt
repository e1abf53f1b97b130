-- The clauses of a line, by its stem, its gate and whether it is split.
use Rattle.std.proofs.Common.{◌≡◌, ◌∙◌, ℕ, Bool, true, false, List, [], ◌∷◌, ◌++◌, sym, ap}
use Rattle.std.specs.Prelude.{None, Some, if◌then◌else◌}
use Rattle.std.specs.Option.{option_map_or}
use Rattle.std.proofs.lemmas.List.{append-nil}
use Rattle.net_model.specs.declared.gate.Gate.{Gate}
use Rattle.net_model.specs.declared.fault.Fault.{Fault}
use Rattle.net_model.specs.Circuit.{Circuit, gate_at}
use Rattle.net_model.specs.Fault.{stuck_stem}
use Rattle.net_model.specs.Scope.{is_split}
use Rattle.clause_pool.specs.Literal.{Literal}
use Rattle.clause_pool.specs.Clauses.{Clause}
use Rattle.pair_miter.specs.Operand.{Operand}
use Rattle.pair_miter.specs.Variables.{fault_of, line_variable, first_helper}
use Rattle.pair_miter.specs.declared.side.Side.TheVariants.{First, Second}
use Rattle.pair_miter.specs.declared.side.Side.{Side}
use Rattle.pair_miter.specs.Rows.{gate_rows}
use Rattle.pair_miter.specs.Miter.{gate_operands, gate_clauses, stuck_clauses, copy_clauses, line_clauses}
use Rattle.pair_miter.proofs.AddSteps.{InTwo, beside}

module _ (c : Circuit) (f g : Fault) where
  module _ (copy : Side) (line : ℕ) where
    -- the unit of a stuck stem
    pub clauses_of_stuck : {bit : Bool} {x : ℕ} {unit : Literal} → stuck_stem (fault_of c f g copy) line ≡ Some bit → x ≡ line_variable c f g copy line → unit ≡ record { variable = x; positive = bit }
        → copy_clauses c f g copy line ≡ (unit ∷ []) ∷ []
    unfolding copy_clauses
    clauses_of_stuck {bit} e is_x is_unit =
        ap (λ o. option_map_or (stuck_clauses c f g copy line) o (option_map_or (gate_clauses c f g copy line) (gate_at c line) [])) e
        ∙ (ap (λ x. (record { variable = x; positive = bit } ∷ []) ∷ []) (sym is_x) ∙ ap (λ (l : Literal). (l ∷ []) ∷ []) (sym is_unit))

    pub clauses_of_source : stuck_stem (fault_of c f g copy) line ≡ None → gate_at c line ≡ None → copy_clauses c f g copy line ≡ []
    unfolding copy_clauses
    clauses_of_source free none =
        ap (λ o. option_map_or (stuck_clauses c f g copy line) o (option_map_or (gate_clauses c f g copy line) (gate_at c line) [])) free
        ∙ ap (λ o. option_map_or (gate_clauses c f g copy line) o []) none

    pub clauses_of_driven : (gate : Gate) → stuck_stem (fault_of c f g copy) line ≡ None → gate_at c line ≡ Some gate → copy_clauses c f g copy line ≡ gate_clauses c f g copy line gate
    unfolding copy_clauses
    clauses_of_driven gate free there =
        ap (λ o. option_map_or (stuck_clauses c f g copy line) o (option_map_or (gate_clauses c f g copy line) (gate_at c line) [])) free
        ∙ ap (λ o. option_map_or (gate_clauses c f g copy line) o []) there

    pub rows_of_driven : {gate : Gate} {output helper : ℕ} {operands : List Operand} → stuck_stem (fault_of c f g copy) line ≡ None → gate_at c line ≡ Some gate
        → output ≡ line_variable c f g copy line → helper ≡ first_helper c f g copy line → operands ≡ gate_operands c f g copy line gate
        → copy_clauses c f g copy line ≡ gate_rows gate.kind output helper operands
    rows_of_driven {gate} free there is_output is_helper are =
        clauses_of_driven gate free there ∙ (λ i. gate_rows gate.kind (sym is_output i) (sym is_helper i) (sym are i))

  module _ (line : ℕ) where
    -- a line's clauses begin with those of its first copy
    pub clauses_of_line : (rest : List Clause) × InTwo (line_clauses c f g line) (copy_clauses c f g First line) rest
    unfolding line_clauses
    clauses_of_line = let second = if is_split c f g line then copy_clauses c f g Second line else [] in (second, beside (copy_clauses c f g First line) second)

    pub clauses_of_split : is_split c f g line ≡ true → InTwo (line_clauses c f g line) (copy_clauses c f g First line) (copy_clauses c f g Second line)
    unfolding line_clauses
    clauses_of_split e = record { are = ap (λ b. copy_clauses c f g First line ++ (if b then copy_clauses c f g Second line else [])) e }

    pub clauses_of_shared : is_split c f g line ≡ false → line_clauses c f g line ≡ copy_clauses c f g First line
    unfolding line_clauses
    clauses_of_shared e = ap (λ b. copy_clauses c f g First line ++ (if b then copy_clauses c f g Second line else [])) e ∙ append-nil (copy_clauses c f g First line)
