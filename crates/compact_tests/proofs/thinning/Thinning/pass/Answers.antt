use Rattle.std.proofs.Common.{◌≡◌, ◌∙◌, ℕ, List, inl, inr, length, map, refl, sym, ap, subst, arith}
use Rattle.std.specs.Vec.{with_items}
use Rattle.std.proofs.lemmas.Bool.{both_ways}
use Rattle.std.proofs.lemmas.List.{with_items_is, length-map}
use Rattle.compact_tests.specs.Earlier.{class_before, ShareEarlier}
use Rattle.compact_tests.proofs.SharingLemmas.{still_listed}
use Rattle.compact_tests.proofs.ThinningLemmas.{thinned_more, parted_by}
use Rattle.compact_tests.proofs.thinning.Thinning.pass.Goals as goal
use Rattle.compact_tests.proofs.thinning.Thinning.pass.Goals.{After-share_earlier-needed}

earlier_is : (c : After-share_earlier-needed) → (with_items c.args.self.now.earlier c.step_back.new.earlier).items ≡ map (class_before c.args.self.now.classes.now.births c.args.pattern) c.args.self.now.earlier.items
earlier_is c =
    let old = c.args.self.now.earlier in
    let f : ℕ → ℕ = class_before c.args.self.now.classes.now.births c.args.pattern in
    let new : c.step_back.new.earlier ≡ map f old.items = c.step_back.ensures.earlier ∙ ap (map f) c.as_mut_slice.ensures.value in
    with_items_is old c.step_back.new.earlier (omega (arith, ap length new, length-map old.items f, old.ok.0)) ∙ new

pub returns-in_ok-push-clause-passed : goal.returns-in_ok-push-clause-passed
returns-in_ok-push-clause-passed c = λ n all table numbered so_far.
    let at = (goal.at.returns-in_ok-push-clause-passed c).After-share_earlier-needed in
    let self = c.args.self.now in
    let earlier = with_items self.earlier c.step_back.new.earlier in
    thinned_more n self.classes.now all c.args.pattern self (record { classes = self.classes; earlier = earlier; groups = c.part.new.groups; shared = c.in_ok-self.field-0; marks = with_items self.marks c.share_earlier-needed.new.marks; needed = c.push.new.self }) table numbered.within so_far (record {
      long = c.requires.thinning.earlier;
      earlier = earlier_is at;
      step = inl (record {
        share = subst (λ (xs : List ℕ). ShareEarlier self.groups xs) c.as_slice-2.ensures.value (c.share_earlier-needed.ensures.value.0 c.if-needed.true);
        parted = parted_by self.classes.now all c.args.pattern numbered c.requires.listed c.in_ok-part.ensures.parted c.requires.thinning.groups;
        needed = c.in_ok-push.ensures.items;
      });
    })

pub returns-else-needed-clause-passed : goal.returns-else-needed-clause-passed
returns-else-needed-clause-passed c = λ n all table numbered so_far.
    let at = (goal.at.returns-else-needed-clause-passed c).After-share_earlier-needed in
    let self = c.args.self.now in
    let earlier = with_items self.earlier c.step_back.new.earlier in
    thinned_more n self.classes.now all c.args.pattern self (record { classes = self.classes; earlier = earlier; groups = self.groups; shared = self.shared; marks = with_items self.marks c.share_earlier-needed.new.marks; needed = self.needed }) table numbered.within so_far (record {
      long = c.requires.thinning.earlier;
      earlier = earlier_is at;
      step = inr (record {
        none = λ s. both_ways c.share_earlier-needed.result c.if-needed.false (c.share_earlier-needed.ensures.value.1 (subst (λ (xs : List ℕ). ShareEarlier self.groups xs) (sym c.as_slice-2.ensures.value) s));
        groups = refl;
        needed = refl;
      });
    })

pub returns-in_ok-push-clause-listed : goal.returns-in_ok-push-clause-listed
returns-in_ok-push-clause-listed c = still_listed c.args.self.now.groups c.part.new.groups c.args.listed.now c.part.ensures.numbers c.in_ok-part.ensures.parted.before c.requires.listed
