use Rattle.std.proofs.Common.{refl}
use Rattle.std.specs.Prelude.{Some}
use Rattle.dia_gen.proofs.AheadLemmas.{ahead_set}
use Rattle.dia_gen.proofs.ahead.Ahead.put.Goals as goal

pub returns : goal.returns
returns c = λ circuit budgets is known. ahead_set circuit budgets c.args.self.now _ c.args.number (Some c.args.known) is c.requires known refl refl
