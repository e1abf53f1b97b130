use Rattle.std.proofs.Common.{◌∙◌, ◌<◌, ℕ, List, map, sym, ap, subst}
use Rattle.std.specs.Prelude.{All, filter, IsPermutation}
use Rattle.net_model.specs.FaultList.{fault_count}
use Rattle.suspect_scores.specs.declared.suspect.Suspect.{Suspect}
use Rattle.suspect_scores.specs.Listed.{representatives, hitting, suspect_of}
use Rattle.suspect_scores.specs.Scored.{has_hit}
use Rattle.suspect_scores.proofs.suspecting.suspects.Goals as goal

pub scores-requires-clause-numbers : goal.scores-requires-clause-numbers
scores-requires-clause-numbers c =
    subst (λ (xs : List ℕ). All (λ number. number < fault_count c.args.setting.now.subject.now) xs) (sym c.as_slice.ensures.value)
    (subst (λ n. All (λ number. number < n) c.in_ok-lowest.lowest.items) c.requires.setting.numbers c.in_ok-lowest.ensures.within)

pub returns : goal.returns
unfolding hitting representatives
returns c = λ lines table is are.
    let lowest = c.as_slice.ensures.value ∙ c.in_ok-lowest.ensures.lowest in
    let listed = c.leave_hitting.ensures ∙ ap (filter has_hit) (c.in_ok-listed.ensures lines table is are ∙ ap (map (suspect_of table lines)) lowest) in
    record {
      ranked = c.put_in_order.new.listed.items;
      are = record {
        exactly = subst (λ (xs : List Suspect). IsPermutation xs c.put_in_order.new.listed.items) listed c.put_in_order.ensures.permutation;
        ascend = c.put_in_order.ensures.sorted;
      };
      first = c.of.ensures ∙ c.truncate.ensures.items;
    }
