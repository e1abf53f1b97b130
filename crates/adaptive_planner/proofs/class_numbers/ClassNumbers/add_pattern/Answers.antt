use Rattle.std.proofs.Common.{arith}
use Rattle.adaptive_planner.proofs.NumberingLemmas.{adds_pattern}
use Rattle.adaptive_planner.proofs.class_numbers.ClassNumbers.add_pattern.Goals as goal

pub returns : goal.returns
returns c =
    adds_pattern c.args.self.now c.push_pattern.new.self c.args.numbers.now c.args.answers.now.items c.requires.are c.in_ok-push_pattern.ensures c.requires.one_each c.requires.within
    (omega (arith, c.if-len.false, c.len.ensures, c.len-2.ensures, c.args.self.now.patterns.ok.0, c.args.answers.now.ok.0)) c.requires.few c.requires.some
