use Rattle.std.proofs.Common.{ℕ, length, sym, subst}
use Rattle.class_refine.specs.CutIn.{AreClassesOf, AreAlikeElsewhere}
use Rattle.compact_tests.specs.Sharing.{has_two}
use Rattle.compact_tests.specs.Numbered.{AreNumberRows}
use Rattle.compact_tests.proofs.NumberLemmas.{parted}
use Rattle.compact_tests.proofs.SharingLemmas.{classes_where, alone_alike}
use Rattle.compact_tests.proofs.numbered.part.Goals as goal

pub number_rows-requires-clause-within : goal.number_rows-requires-clause-within
number_rows-requires-clause-within c = rw c.requires.count c.requires.listed.within

pub refine_in-requires-clause-classes : goal.refine_in-requires-clause-classes
refine_in-requires-clause-classes c = subst (AreClassesOf c.args.groups.now) (sym c.requires.shared) (classes_where c.args.groups.now (has_two c.args.groups.now))

pub refine_in-requires-clause-elsewhere : goal.refine_in-requires-clause-elsewhere
refine_in-requires-clause-elsewhere c = subst (AreAlikeElsewhere c.args.groups.now c.in_ok-rows.rows) (sym c.requires.shared) (alone_alike c.args.groups.now c.requires.whole c.in_ok-rows.rows)

pub returns-clause-parted : goal.returns-clause-parted
returns-clause-parted c =
    let n = c.args.numbers.now in
    let lane = c.args.lane in
    let listed = c.args.listed.now in
    let rows = c.in_ok-rows.rows in
    parted n lane listed c.args.groups.now c.refine_in.new.self rows c.in_ok-refine_in.field-0 c.requires.whole c.requires.listed.within c.requires.listed.ascend
    (subst (λ (k : ℕ). AreNumberRows n lane c.args.groups.now listed k (length listed) rows) c.requires.count c.in_ok-rows.ensures) c.in_ok-refine_in.ensures.cut
