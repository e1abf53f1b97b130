-- What the fields of `AnswerNumbers` show, and what is true of them.
use Rattle.std.specs.Prelude.{◌≡◌, IsSome, option_and_then}
use Rattle.std.specs.Option.{ForSome}
use Rattle.net_model.specs.Circuit.{IsCircuit}
use Rattle.word_sim.specs.GoodSim.{vectors_of}
use Rattle.answer_numbers.specs.declared.numbers.AnswerNumbers.TheInside.{Inside}
use Rattle.answer_numbers.specs.AnswerNumbers.{AnswerNumbers, answer_numbers_with}
use Rattle.answer_numbers.specs.Compared.{AreKnownLeads, AreLeadNumbers}

-- the circuit, the leads, and the vectors of the block that was run last if there are numbers
abbrev pub answer_numbers_of : Inside → AnswerNumbers
answer_numbers_of a = answer_numbers_with a.good.circuit a.leads.now (option_and_then (λ n. a.good.ran) a.numbered)

pub record AreAnswerNumbersFields (a : Inside) : Type 0 where
  pub circuit : IsCircuit a.good.circuit
  pub leads : AreKnownLeads a.good.circuit a.faults.now a.leads.now
  pub sim : a.sim.circuit ≡ a.good.circuit
  pub ran : ForSome a.numbered (λ n. IsSome a.good.ran)
  pub numbers : ForSome a.numbered (AreLeadNumbers a.good.circuit a.leads.now (vectors_of a.good))
