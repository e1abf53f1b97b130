use Rattle.std.proofs.Common.{◌≡◌, ◌∙◌, ◌<◌, ℕ, List, length, get_or, ap, arith}
use Rattle.std.proofs.lemmas.List.{get_or_default}
use Rattle.std.proofs.lemmas.Result.{IfOk-weaker}
use Rattle.samediff_dict.specs.PlaceGroups.{AreGains, in_one}
use Rattle.samediff_dict.specs.Partition.{are_together}
use Rattle.samediff_dict.proofs.GainLemmas.{gains_where}
use Rattle.samediff_dict.proofs.ListedLemmas.{listed_few, gain_placed}
use Rattle.samediff_dict.proofs.partition.Partition.gains.Goals as goal
use Rattle.samediff_dict.proofs.partition.Partition.gains.Goals.{After-as_slice-2}

pub keys_at-requires : goal.keys_at-requires
keys_at-requires c = λ k d h.
    let inside : k < length c.args.self.now.classes.items = omega (arith, h, ap length c.as_slice.ensures.value) in
    omega (arith, get_or_default c.as_slice.result.now k d 0 h, ap (λ (xs : List ℕ). get_or xs k 0) c.as_slice.ensures.value, c.requires.listed.below k inside)

module _ (c : After-as_slice-2) where
  own_long : length c.as_slice-2.result.now ≡ length c.args.self.now.classes.items
  own_long = ap length c.as_slice-2.ensures.value ∙ (c.in_ok-own_answers.ensures.long ∙ ap length c.as_slice.ensures.value)

  own_are : (k : ℕ) → k < length c.args.self.now.classes.items → get_or c.as_slice-2.result.now k 0 ≡ get_or c.args.answers.now (get_or c.args.self.now.classes.items k 0) 0
  own_are k h =
      ap (λ (xs : List ℕ). get_or xs k 0) c.as_slice-2.ensures.value
      ∙ (c.in_ok-own_answers.ensures.each k (omega (arith, h, ap length c.as_slice.ensures.value)) ∙ ap (λ (xs : List ℕ). get_or c.args.answers.now (get_or xs k 0) 0) c.as_slice.ensures.value)

pub gains-requires-clause-long : goal.gains-requires-clause-long
gains-requires-clause-long c = omega (arith, own_long (goal.at.gains-requires-clause-long c).After-as_slice-2, c.requires.listed.one_each)

pub gains-requires-clause-few : goal.gains-requires-clause-few
gains-requires-clause-few c = omega (arith, own_long (goal.at.gains-requires-clause-few c).After-as_slice-2, listed_few c.requires.listed, c.requires.few)

pub gains-requires-clause-known : goal.gains-requires-clause-known
gains-requires-clause-known c = λ k h.
    let at = (goal.at.gains-requires-clause-known c).After-as_slice-2 in
    let inside : k < length c.args.self.now.classes.items = omega (arith, h, own_long at) in
    omega (arith, own_are at k inside, c.requires.known (get_or c.args.self.now.classes.items k 0) (c.requires.listed.below k inside))

pub returns : goal.returns
returns c =
    let at = (goal.at.returns c).After-as_slice-2 in
    IfOk-weaker c.gains.result (λ gains. AreGains (in_one c.args.self.now.groups.group_of.items) c.as_slice-2.result.now c.args.candidates gains.items) (λ gains. AreGains (are_together c.args.self.now) c.args.answers.now c.args.candidates gains.items)
    (λ gains are. gains_where are (gain_placed c.args.answers.now c.as_slice-2.result.now c.requires.listed (own_long at) (own_are at))) c.gains.ensures
