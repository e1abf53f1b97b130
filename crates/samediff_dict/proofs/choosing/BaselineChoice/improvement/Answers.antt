use Rattle.std.proofs.Common.{[], get_or, arith}
use Rattle.samediff_dict.proofs.TableLemmas.{candidates_few, row_long, search_done, search_more, search_found}
use Rattle.samediff_dict.proofs.choosing.BaselineChoice.improvement.Goals as goal

pub overflow_cast-answer : goal.overflow_cast-answer
overflow_cast-answer g c =
    let self = c.args.self.now in
    let pattern = c.loop-pattern.pattern in
    let long = row_long g.rows self c.requires.0 c.args.chosen.now c.requires.1.0 c.args.table.now c.requires.1.1 pattern (omega arith) c.row.result.now c.row.ensures in
    omega (arith, c.in-Some.ensures.within, long, candidates_few self.classes.now (get_or g.rows pattern []), c.requires.0.few, c.requires.0.count_is)

pub returns-in-Some : goal.returns-in-Some
returns-in-Some g c =
    let found =
    search_found g.rows c.args.self.now c.requires.0 c.args.chosen.now c.requires.1.0 c.args.table.now c.requires.1.1 c.loop-pattern.pattern (omega arith) c.row.result.now c.row.ensures c.in-Some.place c.loop-pattern.invariant c.in-Some.ensures in
    record { pattern_within = omega arith; answer_within = found.0; is = found.1 }

pub loop-pattern-preserved : goal.loop-pattern-preserved
loop-pattern-preserved g c =
    search_more g.rows c.args.self.now c.requires.0 c.args.chosen.now c.requires.1.0 c.args.table.now c.requires.1.1 c.loop-pattern.pattern (omega arith) c.row.result.now c.row.ensures c.loop-pattern.invariant c.in_default.ensures

pub returns : goal.returns
returns g c = search_done g.rows c.args.self.now c.requires.0 c.args.chosen.now c.requires.1.0 c.loop-pattern.pattern c.loop-pattern.invariant (omega arith)
