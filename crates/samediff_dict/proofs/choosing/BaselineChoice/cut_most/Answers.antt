use Rattle.std.proofs.Common.{◌≡◌, ℕ, List, [], length, get_or, refl, sym, subst, arith}
use Rattle.std.proofs.lemmas.List.{get_or_default}
use Rattle.net_model.specs.ClassTable.{class_count}
use Rattle.samediff_dict.specs.declared.numbering.Candidates.{Candidates}
use Rattle.samediff_dict.specs.PlaceGroups.{IsFirstMost, gain_at}
use Rattle.samediff_dict.specs.Numbered.{AreCandidates}
use Rattle.samediff_dict.specs.Partition.{IsListed, IsPartition, TogetherAt, are_together}
use Rattle.samediff_dict.proofs.ChoiceLemmas.{some_candidate, numbers_within}
use Rattle.samediff_dict.proofs.choosing.BaselineChoice.cut_most.Given as given
use Rattle.samediff_dict.proofs.choosing.BaselineChoice.cut_most.Goals as goal
use Rattle.samediff_dict.proofs.choosing.BaselineChoice.cut_most.Goals.{After-index-self-pattern}

abbrev one : (g : given.Over) → After-index-self-pattern g → Candidates
one g c = get_or c.args.self.now.patterns.now c.args.pattern c.index-self-pattern.result

known : (g : given.Over) (c : After-index-self-pattern g) → AreCandidates c.args.self.now.classes.now (get_or g.rows c.args.pattern []) (one g c)
known g c = c.requires.0.numbered.each c.args.pattern c.index-self-pattern.result c.requires.1.0

-- whatever default is taken after the last pattern
any : (g : given.Over) (c : After-index-self-pattern g) (d : Candidates) → one g c ≡ get_or c.args.self.now.patterns.now c.args.pattern d
any g c d = get_or_default c.args.self.now.patterns.now c.args.pattern c.index-self-pattern.result d (omega (arith, c.requires.0.numbered.count, c.requires.1.0))

listed : (g : given.Over) (c : After-index-self-pattern g) → IsListed (length (one g c).numbers) c.args.before.now
listed g c = subst (λ n. IsListed n c.args.before.now) (sym (known g c).one_each) c.requires.1.1

pub first_most-requires-clause-listed : goal.first_most-requires-clause-listed
first_most-requires-clause-listed g c = listed g (goal.at.first_most-requires-clause-listed g c).After-index-self-pattern

pub first_most-requires-clause-known : goal.first_most-requires-clause-known
first_most-requires-clause-known g c = numbers_within (known g (goal.at.first_most-requires-clause-known g c).After-index-self-pattern) refl

pub first_most-requires-clause-some : goal.first_most-requires-clause-some
first_most-requires-clause-some g c =
    let are = known g (goal.at.first_most-requires-clause-some g c).After-index-self-pattern in
    omega (arith, are.count_is, some_candidate c.args.self.now.classes.now (get_or g.rows c.args.pattern []) (one g (goal.at.first_most-requires-clause-some g c).After-index-self-pattern) c.requires.0.whole are)

pub cut-requires-clause-listed : goal.cut-requires-clause-listed
cut-requires-clause-listed g c = listed g (goal.at.cut-requires-clause-listed g c).After-index-self-pattern

pub returns-clause-most : goal.returns-clause-most
returns-clause-most g c d =
    let at = (goal.at.returns-clause-most g c).After-index-self-pattern in
    let gain = λ (ys : List ℕ). gain_at (are_together c.args.before.now) ys in
    let best = c.in_ok-best.best in
    subst (λ (x : Candidates). IsFirstMost (gain x.numbers) x.count best) (any g at d) c.in_ok-best.ensures

pub returns-clause-cut : goal.returns-clause-cut
returns-clause-cut g c d =
    let at = (goal.at.returns-clause-cut g c).After-index-self-pattern in
    let before = c.args.before.now in
    let best = c.in_ok-best.best in
    let cut = c.in_ok-before.field-0 in
    let m = class_count c.args.self.now.classes.now in
    subst (λ (x : Candidates). IsPartition m (TogetherAt before x.numbers best) cut) (any g at d)
    (subst (λ n. IsPartition n (TogetherAt before (one g at).numbers best) cut) (known g at).one_each c.in_ok-before.ensures)
