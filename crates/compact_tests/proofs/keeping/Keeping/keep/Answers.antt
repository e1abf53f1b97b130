use Rattle.std.proofs.Common.{◌∙◌, sym, subst, arith}
use Rattle.class_refine.specs.CutIn.{AreClassesOf, AreAlikeElsewhere}
use Rattle.compact_tests.specs.Mixed.{exceeds_class}
use Rattle.compact_tests.proofs.SharingLemmas.{classes_where}
use Rattle.compact_tests.proofs.MixedLemmas.{mixed_alike, still_mixed}
use Rattle.compact_tests.proofs.NumberLemmas.{same_before}
use Rattle.compact_tests.proofs.KeepingLemmas.{kept_more, still_finer}
use Rattle.compact_tests.proofs.keeping.Keeping.keep.Goals as goal

pub refine_in-requires-clause-rows : goal.refine_in-requires-clause-rows
refine_in-requires-clause-rows c = c.number_members.ensures.rows_are.count_is ∙ c.requires.keeping.finer.numbers

pub refine_in-requires-clause-classes : goal.refine_in-requires-clause-classes
refine_in-requires-clause-classes c =
    let self = c.args.self.now in
    subst (AreClassesOf self.kept) (sym (c.as_slice.ensures.value ∙ c.in_ok-mixed.ensures.mixed)) (classes_where self.kept (exceeds_class self.classes.now self.kept))

pub refine_in-requires-clause-elsewhere : goal.refine_in-requires-clause-elsewhere
refine_in-requires-clause-elsewhere c =
    let self = c.args.self.now in
    let rows = c.number_members.new.rows in
    subst (AreAlikeElsewhere self.kept rows) (sym (c.as_slice.ensures.value ∙ c.in_ok-mixed.ensures.mixed)) (mixed_alike self.classes.now self.kept c.requires.keeping.finer c.in_ok-mixed.ensures.whole rows c.number_members.ensures.rows_are)

pub returns-clause-keeping : goal.returns-clause-keeping
returns-clause-keeping c =
    let self = c.args.self.now in record {
      classes = c.requires.keeping.classes;
      finer = still_finer self.classes.now self.kept c.refine_in.new.self c.number_members.new.rows c.in_ok-refine_in.field-0 c.in_ok-mixed.ensures.whole c.in_ok-refine_in.ensures.cut c.in_ok-refine_in.ensures.numbers c.requires.keeping.finer c.number_members.ensures.rows_are;
      rows = c.number_members.ensures.rows_are;
    }

pub returns-clause-listed : goal.returns-clause-listed
returns-clause-listed c =
    let self = c.args.self.now in
    let size = c.requires.keeping.finer.numbers in
    still_mixed self.classes.now self.kept c.refine_in.new.self c.args.listed.now
    (λ a b ha hb same. (same_before self.kept c.refine_in.new.self c.number_members.new.rows c.in_ok-refine_in.field-0 c.in_ok-mixed.ensures.whole c.in_ok-refine_in.ensures.cut a b (omega (arith, ha, size)) (omega (arith, hb, size)) same).0) c.requires.listed

pub returns-clause-kept : goal.returns-clause-kept
returns-clause-kept c = λ kept pattern needed numbered before.
    let self = c.args.self.now in
    kept_more c.args.numbers.now c.args.lane self.classes.now self.kept c.args.listed.now c.number_members.new.rows kept pattern c.requires.keeping.finer c.requires.listed c.number_members.ensures needed numbered
    c.refine_in.new.self c.in_ok-refine_in.field-0 c.in_ok-mixed.ensures.whole c.in_ok-refine_in.ensures.cut before
