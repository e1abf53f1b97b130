use Rattle.std.proofs.Common.{set, sym, subst}
use Rattle.samediff_dict.specs.Copied.{HaveClasses}
use Rattle.samediff_dict.specs.Numbered.{baselines_at}
use Rattle.samediff_dict.proofs.ChoiceLemmas.{replacing_none, replacing_step, replacing_done, fewer_left}
use Rattle.samediff_dict.proofs.MadeLemmas.{have_classes}
use Rattle.samediff_dict.proofs.choosing.BaselineChoice.replace_all.Goals as goal

pub replacing-init : goal.replacing-init
replacing-init g c = record { so_far = replacing_none c.args.self.now.classes.now g.rows c.args.chosen.now c.requires.1.0; entries = c.requires.1.1.0; gains = c.requires.1.1.1 }

pub returns-in_default : goal.returns-in_default
returns-in_default g c = replacing_done c.args.self.now.classes.now g.rows c.replacing.chosen c.replacing.invariant.so_far c.in_default.ensures

pub replacing-smaller : goal.replacing-smaller
replacing-smaller g c =
    let t = c.args.self.now.classes.now in
    let chosen = c.replacing.chosen in
    let at = c.in-Some.better in
    fewer_left t g.rows (baselines_at t g.rows chosen) (baselines_at t g.rows (set chosen at.pattern at.answer)) c.in-Some.ensures.is

pub put_chosen-requires-clause-classes : goal.put_chosen-requires-clause-classes
put_chosen-requires-clause-classes g c =
    let self = c.args.self.now in
    let chosen = c.replacing.chosen in
    let has = c.replacing.invariant.so_far in
    subst (λ n. HaveClasses n self.patterns.now chosen) (sym c.requires.0.count_is) (have_classes self.classes.now g.rows self.patterns.now chosen c.requires.0.numbered has.one_each has.chosen_are)

pub replacing-preserved : goal.replacing-preserved
replacing-preserved g c =
    let at = c.in-Some.better in
    let first = c.in-Some.ensures in
    record {
      so_far = replacing_step c.args.self.now.classes.now g.rows c.replacing.chosen at.pattern at.answer c.replacing.invariant.so_far first.pattern_within first.answer_within first.is;
      entries = c.put_chosen.ensures;
      gains = c.in_ok-repair.ensures;
    }
