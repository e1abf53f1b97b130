use Rattle.std.proofs.Common.{◌<◌, length, get_or, refl, arith}
use Rattle.net_model.specs.ClassTable.{class_count}
use Rattle.samediff_dict.proofs.CandidateLemmas.{none}
use Rattle.samediff_dict.proofs.ChoiceLemmas.{greedy_step, greedy_done}
use Rattle.samediff_dict.proofs.choosing.BaselineChoice.greedy.Goals as goal

pub cut_most-requires : goal.cut_most-requires
cut_most-requires g c = (c.requires, (omega (arith, c.requires.numbered.count), c.loop-pattern.invariant.before_is.listed))

pub loop-pattern-preserved : goal.loop-pattern-preserved
loop-pattern-preserved g c =
    let pattern = c.loop-pattern.pattern in
    let inside : pattern < length g.rows = omega (arith, c.requires.numbered.count) in
    let one = get_or c.args.self.now.patterns.now pattern none in
    greedy_step c.args.self.now.classes.now g.rows c.loop-pattern.chosen.items c.push.new.self.items pattern c.loop-pattern.before c.cut_most.new.before one.numbers (class_count c.args.self.now.classes.now) c.in_ok-best.best one
    c.loop-pattern.invariant inside (c.requires.numbered.each pattern none inside) refl (c.in_ok-best.ensures.most none) (c.in_ok-best.ensures.cut none) refl c.in_ok-push.ensures.items

pub returns : goal.returns
returns g c = greedy_done c.args.self.now.classes.now g.rows c.loop-pattern.chosen.items c.loop-pattern.pattern c.loop-pattern.before c.loop-pattern.invariant (omega (arith, c.requires.numbered.count))
