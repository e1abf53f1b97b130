-- What pins and observed positions give in one copy.
use Rattle.std.specs.Prelude.{ℕ, Bool, false, Option, None, Some}
use Rattle.std.specs.Bool.{beq}
use Rattle.std.specs.Option.{option_map_or}

-- the value at which the pin or position is stuck, or the variable of the line that it reads
pub data Operand : Type 0 where
  constant : Bool → Operand
  variable : ℕ → Operand

-- the constant if there is a stuck value, and else the variable
abbrev pub operand_where : Option Bool → ℕ → Operand
operand_where stuck x = option_map_or constant stuck (variable x)

abbrev pub variable_of : Operand → Option ℕ
variable_of (constant bit) = None
variable_of (variable x) = Some x

abbrev pub is_constant : Bool → Operand → Bool
is_constant bit (constant other) = beq other bit
is_constant bit (variable x) = false
