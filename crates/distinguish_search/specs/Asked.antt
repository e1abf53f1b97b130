-- Which bit a walk from an undecided position back to a source asks for.
use Rattle.std.specs.Prelude.{Bool, true, false, not, if◌then◌else◌}
use Rattle.std.specs.Bool.{beq}
use Rattle.net_model.specs.declared.gate.Kind.{Kind}
use Rattle.net_model.specs.declared.gate.Kind.TheVariants.{And, Nand, Or, Nor, Xor, Xnor, Not, Buff, Mux, Const0, Const1}
use Rattle.pair_sets.specs.PairSet.{PairSet, only_equal}

-- the bit that a gate of the kind has if it lets a difference at a pin pass; the given bit if the kind has no such bit
abbrev pub passing_bit : Kind → Bool → Bool
passing_bit And bit = true
passing_bit Nand bit = false
passing_bit Or bit = false
passing_bit Nor bit = true
passing_bit Xor bit = bit
passing_bit Xnor bit = bit
passing_bit Not bit = bit
passing_bit Buff bit = bit
passing_bit Mux bit = bit
passing_bit Const0 bit = bit
passing_bit Const1 bit = bit

-- the bit to ask of a line: if it has exactly one equal pair, the opposite of that pair's bit; else the bit that was
-- asked for if it has only equal pairs, and else the one that lets a difference pass
abbrev pub asked_bit : PairSet → Bool → Bool → Bool
asked_bit s passing bit =
    if not (beq s.both_zero s.both_one) then s.both_zero
    else if only_equal s then bit
    else passing
