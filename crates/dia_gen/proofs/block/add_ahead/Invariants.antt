use Rattle.dia_gen.specs.Settled.{IsSpaceFor, AreCubesFor, IsNarrowed}
use Rattle.dia_gen.proofs.block.add_ahead.Given as goal

abbrev pub invariant-loop-number : goal.invariant-loop-number
invariant-loop-number l = record {
  space : IsSpaceFor l.setting.circuit l.setting.budgets l.space;
  cubes : AreCubesFor l.setting.circuit l.cubes.items;
  narrowed : IsNarrowed l.initial.cubes.items l.cubes.items;
}
