use Rattle.adaptive_tree.proofs.ReadingLemmas.{head_or_end_wrong}
use Rattle.adaptive_tree.proofs.reader.Reader.judge.Goals as goal

pub returns-in-Head : goal.returns-in-Head
returns-in-Head c = head_or_end_wrong c.args.self.now c.args.form c.requires.reading c.requires.«open» c.in-Head.is
