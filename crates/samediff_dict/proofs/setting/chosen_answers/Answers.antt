use Rattle.std.proofs.Common.{◌≡◌, ◌∙◌, ◌+◌, ◌-◌, ◌<◌, ℕ, List, length, get_or, sym, subst, arith}
use Rattle.std.specs.Prelude.{slice_range}
use Rattle.net_model.specs.FaultList.{fault_count}
use Rattle.class_refine.proofs.PatternTables.{table_numbers}
use Rattle.table_dicts.proofs.FailLemmas.{patterns_are}
use Rattle.samediff_dict.specs.Copied.{AreLeads}
use Rattle.samediff_dict.proofs.LeadLemmas.{have_in_range, leads_inside, leads_in_range, lead_answers}
use Rattle.samediff_dict.proofs.MadeLemmas.{length-range, have_classes}
use Rattle.samediff_dict.proofs.setting.chosen_answers.Given as given
use Rattle.samediff_dict.proofs.setting.chosen_answers.Goals as goal
use Rattle.samediff_dict.proofs.setting.chosen_answers.Goals.{After-as_slice}

pub chosen_leads-requires : goal.chosen_leads-requires
chosen_leads-requires g c =
    have_in_range c.args.patterns.now c.args.chosen.now c.args.first c.args.end c.requires.1.1
    (have_classes c.args.setting.now.classes.now g.t.rows c.args.patterns.now c.args.chosen.now c.requires.0.numbered c.requires.0.one_each c.requires.0.chosen_are)

module _ (g : given.Over) (c : After-as_slice g) where
  abbrev count : ℕ
  count = length (slice_range c.args.chosen.now c.args.first c.args.end)

  long : count ≡ c.args.end - c.args.first
  long = length-range c.args.chosen.now c.args.first c.args.end c.requires.1.1

  -- there is a pattern for each
  all : length c.args.chosen.now ≡ length c.args.setting.now.patterns.now
  all = c.requires.0.one_each ∙ patterns_are c.args.setting.now.subject.now c.args.setting.now.patterns.now g.t c.requires.0.answers

  leads : AreLeads c.args.setting.now.classes.now (slice_range c.args.patterns.now c.args.first c.args.end) (slice_range c.args.chosen.now c.args.first c.args.end) count c.as_slice.result.now
  leads = subst (λ (xs : List ℕ). AreLeads c.args.setting.now.classes.now (slice_range c.args.patterns.now c.args.first c.args.end) (slice_range c.args.chosen.now c.args.first c.args.end) count xs) (sym c.as_slice.ensures.value) c.in_ok-leads.ensures

pub number_answers-requires-clause-numbers : goal.number_answers-requires-clause-numbers
number_answers-requires-clause-numbers g c = leads_inside (leads g (goal.at.number_answers-requires-clause-numbers g c).After-as_slice) (fault_count c.args.setting.now.subject.now) (table_numbers c.requires.0.setting.classes)

pub number_answers-requires-clause-count : goal.number_answers-requires-clause-count
number_answers-requires-clause-count g c =
    let at = (goal.at.number_answers-requires-clause-count g c).After-as_slice in
    omega (arith, (leads g at).one_each, long g at, all g at, c.requires.1.1, c.requires.0.setting.answerable.few)

pub number_answers-requires-clause-end : goal.number_answers-requires-clause-end
number_answers-requires-clause-end g c =
    let at = (goal.at.number_answers-requires-clause-end g c).After-as_slice in
    omega (arith, all g at, c.requires.1.1)

pub returns-clause-sizes : goal.returns-clause-sizes
returns-clause-sizes g c =
    let at = (goal.at.returns-clause-sizes g c).After-as_slice in
    let sizes = c.in_ok-table.ensures.sizes in
    record { patterns_are = sizes.patterns_are; numbers_are = sizes.numbers_are ∙ ((leads g at).one_each ∙ long g at); positions_are = sizes.positions_are ∙ sym c.requires.0.answers.positions }

pub returns-clause-own : goal.returns-clause-own
returns-clause-own g c = λ k h.
    let at = (goal.at.returns-clause-own g c).After-as_slice in
    let first = c.args.first in
    let found = leads g at in
    let inside : k < count g at = omega (arith, h, long g at) in
    c.in_ok-table.ensures.each g.t c.requires.0.answers k k h (omega (arith, inside, found.one_each))
    ∙ lead_answers c.args.setting.now.classes.now g.t.rows c.args.patterns.now c.args.chosen.now c.requires.0.numbered c.requires.0.one_each (first + k) (get_or c.as_slice.result.now k 0)
    (omega (arith, h, c.requires.1.1, c.requires.0.one_each)) (λ d. leads_in_range c.args.patterns.now c.args.chosen.now first c.args.end found k d h inside)
