use Rattle.std.proofs.Common.{◌≡◌, ◌∙◌, ℕ, List, length, get_or, sym, ap, subst, arith}
use Rattle.std.proofs.lemmas.Option.{MatchOption-at_some}
use Rattle.samediff_dict.specs.declared.partition.Partition.{Partition}
use Rattle.samediff_dict.specs.Partition.{IsListed}
use Rattle.samediff_dict.specs.PlaceGroups.{AreBelow}
use Rattle.samediff_dict.specs.Moved.{HasMixedOf}
use Rattle.samediff_dict.specs.Descent.{IsDescentStep, IsKeyIn, IsNarrowed}
use Rattle.samediff_dict.proofs.ListedLemmas.{listed_few}
use Rattle.samediff_dict.proofs.DescentLemmas.{mixed_narrows, narrowed_more, if_ok_both}
use Rattle.samediff_dict.proofs.KeyLemmas.{keyed_narrows}
use Rattle.samediff_dict.proofs.descending.Descent.cut_by.Goals as goal
use Rattle.samediff_dict.proofs.descending.Descent.cut_by.Goals.{In_ok-cut}

pub keys-requires-clause-known : goal.keys-requires-clause-known
keys-requires-clause-known c = subst (λ (xs : List ℕ). AreBelow xs c.args.self.now.count) (sym c.as_slice.ensures.value) c.requires.listed.below

pub meet-requires-clause-few : goal.meet-requires-clause-few
meet-requires-clause-few c = omega (arith, ap length c.as_slice-2.ensures.value, c.in_ok-keys.ensures.long, ap length c.as_slice.ensures.value, listed_few c.requires.listed, c.requires.can.few)

pub meet-requires-clause-one_each : goal.meet-requires-clause-one_each
meet-requires-clause-one_each c = ap length c.as_slice-2.ensures.value ∙ (c.in_ok-keys.ensures.long ∙ ap length c.as_slice.ensures.value)

pub meet-requires-clause-groups : goal.meet-requires-clause-groups
meet-requires-clause-groups c = omega (arith, ap length c.as_slice-2.ensures.value, c.in_ok-keys.ensures.long, ap length c.as_slice.ensures.value, c.requires.listed.one_each)

narrows : (c : In_ok-cut) → IsNarrowed c.args.self.now c.args.first c.args.end c.args.part.now c.in_ok-cut.cut
narrows c =
    let d = c.args.self.now in
    let classes = c.args.part.now.classes.items in
    let keys = c.as_slice-2.result.now in
    let own = c.as_slice.ensures.value in
    let made = c.as_slice-2.ensures.value in
    keyed_narrows d c.requires.can c.args.first c.args.end c.requires.few c.requires.within c.requires.listed keys (ap length made ∙ (c.in_ok-keys.ensures.long ∙ ap length own))
    (λ k h. subst (λ (xs : List ℕ). IsKeyIn d c.args.first c.args.end (get_or classes k 0) (get_or xs k 0)) (sym made)
    (subst (λ (xs : List ℕ). IsKeyIn d c.args.first c.args.end (get_or xs k 0) (get_or c.in_ok-keys.keys.items k 0)) own (c.in_ok-keys.ensures.each k (omega (arith, h, ap length own)))))
    c.in_ok-cut.ensures

pub returns-in_default : goal.returns-in_default
returns-in_default c = narrows (goal.at.returns-in_default c).In_ok-cut

pub mixed-requires-clause-listed : goal.mixed-requires-clause-listed
mixed-requires-clause-listed c =
    let d = c.args.self.now in
    let is : IsDescentStep d c.in-Some.step = MatchOption-at_some (d.out ≡ length d.patterns.now) (IsDescentStep d) c.in-Some.step c.in-Some.is c.requires.can.step_is in
    subst (λ n. IsListed n c.in_ok-cut.cut) (sym (ap length is.numbers_are ∙ c.requires.can.one_each d.out is.within)) (narrows (goal.at.mixed-requires-clause-listed c).In_ok-cut).listed

pub returns : goal.returns
returns c =
    let d = c.args.self.now in
    let step = c.in-Some.step in
    let cut = c.in_ok-cut.cut in
    let is : IsDescentStep d step = MatchOption-at_some (d.out ≡ length d.patterns.now) (IsDescentStep d) step c.in-Some.is c.requires.can.step_is in
    let long = ap length is.numbers_are ∙ c.requires.can.one_each d.out is.within in
    if_ok_both c.mixed.result (IsListed (length step.numbers.now)) (λ (rest : Partition). HasMixedOf (length step.numbers.now) cut rest step.numbers.now step.old step.new) (IsNarrowed d c.args.first c.args.end c.args.part.now)
    (λ rest listed has. narrowed_more d c.args.end (omega (arith, c.requires.some)) (omega arith) (narrows (goal.at.returns c).In_ok-cut)
    (mixed_narrows d c.args.end c.args.end step c.in-Some.is (λ q from below. absurd (omega (arith, from, below))) long listed has))
    c.mixed.ensures.listed c.mixed.ensures.has
