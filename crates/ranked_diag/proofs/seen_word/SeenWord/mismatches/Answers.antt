use Rattle.std.proofs.Common.{arith}
use Rattle.ranked_diag.proofs.CountLemmas.{mismatches-counted}
use Rattle.ranked_diag.proofs.seen_word.SeenWord.mismatches.Goals as goal

pub returns : goal.returns
returns c = λ entry is. mismatches-counted entry c.args.self c.args.bits is (omega arith) (omega arith) (omega arith)
