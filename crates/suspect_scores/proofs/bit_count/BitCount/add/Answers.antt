use Rattle.net_model.proofs.SingleWords.{digit_or}
use Rattle.suspect_scores.proofs.bit_count.BitCount.add.Goals as goal

pub returns-clause-some : goal.returns-clause-some
returns-clause-some c = λ k h. digit_or c.args.self.now.some c.args.word k
