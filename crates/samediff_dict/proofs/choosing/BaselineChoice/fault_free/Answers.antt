use Rattle.std.proofs.Common.{◌∙◌, ℕ, get_or, ap, arith}
use Rattle.samediff_dict.proofs.ChoiceLemmas.{free_step, free_done}
use Rattle.samediff_dict.proofs.choosing.BaselineChoice.fault_free.Goals as goal

pub loop-pattern-preserved : goal.loop-pattern-preserved
loop-pattern-preserved g c =
    let pattern = c.loop-pattern.pattern in
    let candidates = c.index-self-pattern.result in
    let patterns = c.args.self.now.patterns.now in
    free_step c.args.self.now.classes.now g.rows c.loop-pattern.chosen.items c.push.new.self.items pattern c.get.result (get_or patterns pattern candidates)
    c.requires.whole c.loop-pattern.invariant (c.requires.numbered.each pattern candidates (omega (arith, c.requires.numbered.count))) (c.get.ensures ∙ ap (λ (class : ℕ). get_or (get_or patterns pattern candidates).numbers class 0) c.class_of-class.ensures.value) c.in_ok-push.ensures.items

pub returns : goal.returns
returns g c = free_done c.args.self.now.classes.now g.rows c.loop-pattern.chosen.items c.loop-pattern.pattern c.loop-pattern.invariant (omega (arith, c.requires.numbered.count))
