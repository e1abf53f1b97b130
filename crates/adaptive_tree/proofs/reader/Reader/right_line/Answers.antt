use Rattle.std.proofs.Common.{length, sym}
use Rattle.std.proofs.lemmas.Bool.{eqb-true}
use Rattle.adaptive_tree.proofs.ReadingLemmas.{ends_early, wrong_line_refused}
use Rattle.adaptive_tree.proofs.reader.Reader.right_line.Goals as goal

pub returns-then-is_empty : goal.returns-then-is_empty
returns-then-is_empty c = ends_early c.args.self.now.plan c.args.rest.now (eqb-true (length c.args.rest.now) 0 (sym c.if-is_empty.ensures))

pub returns-in-Err : goal.returns-in-Err
returns-in-Err c = wrong_line_refused c.args.self.now.plan c.args.rest.now c.in-Some.line.form c.in-Some.line.rest.now c.in-Err.kind c.in-Some.ensures c.in-Err.ensures
