-- What the fields of a miter mean, and what holds of them.
use Rattle.std.specs.Prelude.{◌≡◌, length}
use Rattle.net_model.specs.Circuit.{IsCircuit}
use Rattle.net_model.specs.Fault.{IsFaultOf}
use Rattle.pair_miter.specs.declared.miter.Miter.TheInside.{Inside}
use Rattle.pair_miter.specs.Variables.{variable_count}
use Rattle.pair_miter.specs.Miter.{miter}
use Rattle.pair_miter.specs.MiterView.{Miter}

abbrev pub miter_of : Inside → Miter
miter_of a = a.numbering

-- The circuit is well-formed and has both faults, and the variables and the clauses of the miter are counted.
pub record IsCounted (a : Inside) : Type 0 where
  pub circuit : IsCircuit a.numbering.circuit
  pub first : IsFaultOf a.numbering.circuit a.numbering.f
  pub second : IsFaultOf a.numbering.circuit a.numbering.g
  pub variables : a.variables ≡ variable_count a.numbering.circuit a.numbering.f a.numbering.g
  pub clauses : a.clauses ≡ length (miter a.numbering.circuit a.numbering.f a.numbering.g)
