use Rattle.adaptive_tree.proofs.ReadingLemmas.{only_head}
use Rattle.adaptive_tree.proofs.reading.head_line.Goals as goal

pub returns-in-Ask : goal.returns-in-Ask
returns-in-Ask c = only_head c.args.text.now c.in-Some.line.form c.in-Some.line.rest.now c.in-Some.ensures c.in-Ask.is
