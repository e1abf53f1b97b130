use Rattle.std.proofs.Common.{[], get_or}
use Rattle.net_model.specs.declared.fault.Fault.TheVariants.{Free}
use Rattle.net_model.specs.Answer.{IsAnswer}
use Rattle.answer_numbers.proofs.FieldLemmas.{moved, lane_known}
use Rattle.answer_numbers.proofs.numbers.AnswerNumbers.free_answer.Goals as goal

pub free_answer-requires : goal.free_answer-requires
free_answer-requires c = lane_known c.self.inside _ c.in-Some.is c.args.self.now c.self.view_is c.args.lane c.requires

pub returns : goal.returns
returns c = moved c.self.inside _ c.in-Some.is c.args.self.now c.self.view_is (λ k ls vs. IsAnswer k Free (get_or vs c.args.lane []) c.in_ok-free.free) c.in_ok-free.ensures
