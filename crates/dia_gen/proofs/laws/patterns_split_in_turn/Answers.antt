use Rattle.dia_gen.proofs.TurnLemmas.{split_in_turn}
use Rattle.dia_gen.proofs.laws.patterns_split_in_turn.Goals as goal

pub returns : goal.returns
returns c = split_in_turn
