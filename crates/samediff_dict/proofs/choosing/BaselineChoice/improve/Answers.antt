use Rattle.std.proofs.Common.{sym, subst}
use Rattle.samediff_dict.specs.Copied.{HaveClasses}
use Rattle.samediff_dict.proofs.MadeLemmas.{have_classes}
use Rattle.samediff_dict.proofs.choosing.BaselineChoice.improve.Goals as goal

pub class_entries-requires : goal.class_entries-requires
class_entries-requires g c =
    let self = c.args.self.now in
    let chosen = c.args.chosen.now in
    let has = c.requires.1 in
    subst (λ n. HaveClasses n self.patterns.now chosen) (sym c.requires.0.count_is) (have_classes self.classes.now g.rows self.patterns.now chosen c.requires.0.numbered has.one_each has.chosen_are)
