use Rattle.std.proofs.Common.{length, sym}
use Rattle.std.proofs.lemmas.Bool.{eqb-true}
use Rattle.adaptive_tree.proofs.ReadingLemmas.{ends_early, only_end}
use Rattle.adaptive_tree.proofs.reading.end_line.Goals as goal

pub returns-then-is_empty : goal.returns-then-is_empty
returns-then-is_empty c = λ plan root. ends_early plan c.args.rest.now (eqb-true (length c.args.rest.now) 0 (sym c.if-is_empty.ensures))

pub returns-in-Head : goal.returns-in-Head
returns-in-Head c = λ plan root. only_end plan root c.args.rest.now c.in-Some.line.form c.in-Some.line.rest.now c.in-Some.ensures c.in-Head.is
