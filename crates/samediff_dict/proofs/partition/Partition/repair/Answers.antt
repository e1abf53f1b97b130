use Rattle.std.proofs.Common.{ℕ, List, length, sym, subst, arith}
use Rattle.samediff_dict.specs.Partition.{IsListed, are_together}
use Rattle.samediff_dict.specs.PlaceGroups.{AreGains}
use Rattle.samediff_dict.proofs.MovedLemmas.{together_at, gains_cut, more_fits, fewer_there, repaired}
use Rattle.samediff_dict.proofs.partition.Partition.repair.Goals as goal
use Rattle.samediff_dict.proofs.partition.Partition.repair.Goals.{After-as_slice-2}

pub cut-requires-clause-few : goal.cut-requires-clause-few
cut-requires-clause-few c = omega (arith, c.requires.few, c.requires.numbers)

pub cut-requires-2-clause-few : goal.cut-requires-2-clause-few
cut-requires-2-clause-few c = omega (arith, c.requires.few, c.requires.numbers)

pub cut-requires-clause-listed : goal.cut-requires-clause-listed
cut-requires-clause-listed c = subst (λ n. IsListed n c.args.self.now) (sym c.requires.numbers) c.requires.listed

pub cut-requires-2-clause-listed : goal.cut-requires-2-clause-listed
cut-requires-2-clause-listed c = subst (λ n. IsListed n c.args.self.now) (sym c.requires.numbers) c.requires.listed

pub gains-requires-clause-listed : goal.gains-requires-clause-listed
gains-requires-clause-listed c = subst (λ n. IsListed n c.in_ok-after.after) c.requires.numbers c.in_ok-after.ensures.listed

pub gains-requires-2-clause-listed : goal.gains-requires-2-clause-listed
gains-requires-2-clause-listed c = subst (λ n. IsListed n c.in_ok-before.before) c.requires.numbers c.in_ok-before.ensures.listed

-- the gains over the pairs that are together by the new number, and by the old one
module _ (c : After-as_slice-2) where
  more_are : AreGains (together_at c.args.self.now c.args.step.numbers.now c.args.step.new) c.args.answers.now (length c.args.gains.now) c.as_slice.result.now
  more_are =
      gains_cut c.args.self.now c.args.step.numbers.now c.args.answers.now c.args.step.new c.requires.numbers c.in_ok-after.ensures
      (subst (λ (xs : List ℕ). AreGains (are_together c.in_ok-after.after) c.args.answers.now (length c.args.gains.now) xs) (sym c.as_slice.ensures.value) c.in_ok-more.ensures)

  fewer_are : AreGains (together_at c.args.self.now c.args.step.numbers.now c.args.step.old) c.args.answers.now (length c.args.gains.now) c.as_slice-2.result.now
  fewer_are =
      gains_cut c.args.self.now c.args.step.numbers.now c.args.answers.now c.args.step.old c.requires.numbers c.in_ok-before.ensures
      (subst (λ (xs : List ℕ). AreGains (are_together c.in_ok-before.before) c.args.answers.now (length c.args.gains.now) xs) (sym c.as_slice-2.ensures.value) c.in_ok-fewer.ensures)

pub exchange-requires-clause-more_each : goal.exchange-requires-clause-more_each
exchange-requires-clause-more_each c = (more_are (goal.at.exchange-requires-clause-more_each c).After-as_slice-2).count_is

pub exchange-requires-clause-fewer_each : goal.exchange-requires-clause-fewer_each
exchange-requires-clause-fewer_each c = (fewer_are (goal.at.exchange-requires-clause-fewer_each c).After-as_slice-2).count_is

pub exchange-requires-clause-fits : goal.exchange-requires-clause-fits
exchange-requires-clause-fits c =
    let at = (goal.at.exchange-requires-clause-fits c).After-as_slice-2 in
    more_fits c.args.self.now c.args.step.numbers.now c.args.step.old c.args.step.new c.args.answers.now c.args.gains.now c.as_slice.result.now c.as_slice-2.result.now (more_are at) (fewer_are at) c.requires.gains.are c.requires.few

pub exchange-requires-clause-enough : goal.exchange-requires-clause-enough
exchange-requires-clause-enough c =
    let at = (goal.at.exchange-requires-clause-enough c).After-as_slice-2 in
    fewer_there c.args.self.now c.args.step.numbers.now c.args.step.old c.args.step.new c.args.answers.now c.args.gains.now c.as_slice.result.now c.as_slice-2.result.now (more_are at) (fewer_are at) c.requires.gains.moved c.requires.gains.are

pub returns : goal.returns
returns c before after moved are =
    let at = (goal.at.returns c).After-as_slice-2 in
    repaired c.args.self.now c.args.step.numbers.now c.args.step.old c.args.step.new c.args.answers.now c.args.gains.now c.as_slice.result.now c.as_slice-2.result.now (more_are at) (fewer_are at) moved are c.exchange.new.gains c.exchange.auto.gains c.exchange.ensures
