-- What the fields of a numbering mean, and what holds of them.
use Rattle.std.specs.Prelude.{◌≡◌, ℕ, ◌+◌, ◌<◌, true, List, length, slice_index}
use Rattle.net_model.specs.declared.fault.Fault.{Fault}
use Rattle.net_model.specs.Circuit.{Circuit, IsCircuit, line_count}
use Rattle.net_model.specs.Scope.{is_relevant, is_split}
use Rattle.pair_miter.specs.declared.numbering.Numbering.TheInside.{Inside}
use Rattle.pair_miter.specs.Variables.{line_variable, variables_below}
use Rattle.pair_miter.specs.declared.side.Side.TheVariants.{First, Second}
use Rattle.pair_miter.specs.declared.side.Side.{Side}
use Rattle.pair_miter.specs.MiterView.{Miter, miter_with}

-- The line has the copy: each line has the first one, and a split line the second one, too.
abbrev pub HasCopy : Circuit → Fault → Fault → Side → ℕ → Type 0
HasCopy c f g First line = Unit {0}
HasCopy c f g Second line = is_split c f g line ≡ true

-- The list has the variable of each relevant line in the first copy.
pub record AreFirstVariables (c : Circuit) (f g : Fault) (firsts : List ℕ) : Type 0 where
  pub whole : length firsts ≡ line_count c
  pub each : (line : ℕ) → line < line_count c → is_relevant c f g line ≡ true → slice_index firsts line ≡ line_variable c f g First line

abbrev pub numbering_of : Inside → Miter
numbering_of a = miter_with a.scope.circuit a.scope.f a.scope.g

-- The circuit is well-formed, the relevant lines have their variables, and `end` is the first variable after these.
pub record HasVariables (a : Inside) : Type 0 where
  pub circuit : IsCircuit a.scope.circuit
  pub firsts : AreFirstVariables a.scope.circuit a.scope.f a.scope.g a.firsts.items
  pub end : a.end ≡ 1 + variables_below a.scope.circuit a.scope.f a.scope.g (line_count a.scope.circuit)
