use Rattle.std.proofs.Common.{◌≡◌, ◌∙◌, ◌<◌, List, length, map, refl, sym, ap, subst, arith}
use Rattle.std.specs.Prelude.{All}
use Rattle.std.specs.List.{range_with_len}
use Rattle.net_model.specs.ClassTable.{class_count, representative}
use Rattle.samediff_dict.specs.declared.numbering.Candidates.{Candidates}
use Rattle.samediff_dict.specs.Numbered.{HaveCandidates}
use Rattle.samediff_dict.proofs.MadeLemmas.{numbered_none, numbered_more, numbered_all, leads_answer}
use Rattle.samediff_dict.proofs.copying.choose.Goals as goal
use Rattle.samediff_dict.proofs.copying.choose.Goals.{After-as_slice}

leads_are : (c : After-as_slice) → c.as_slice.result.now ≡ map (representative c.args.classes.now) (range_with_len 0 (class_count c.args.classes.now))
leads_are c = c.as_slice.ensures.value ∙ c.in_ok-leads.ensures.lowest

pub add_candidates-requires-clause-known : goal.add_candidates-requires-clause-known
add_candidates-requires-clause-known c = rw c.as_slice.ensures.value (subst (λ n. All (λ lead. lead < n) c.in_ok-leads.leads.items) c.requires.numbers c.in_ok-leads.ensures.within)

pub add_candidates-requires-clause-few : goal.add_candidates-requires-clause-few
add_candidates-requires-clause-few c = omega (arith, ap length c.as_slice.ensures.value, c.in_ok-leads.ensures.few)

pub chosen_rows-requires : goal.chosen_rows-requires
chosen_rows-requires c =
    let t = c.args.classes.now in
    let table = c.args.table.now in
    let leads = leads_are (goal.at.chosen_rows-requires c).After-as_slice in
    let numbered : HaveCandidates t table.rows c.add_candidates.new.patterns.items =
    numbered_all (numbered_more (length table.rows) (omega arith) (leads_answer t table c.as_slice.result.now leads) (numbered_none t table.rows c.in_ok-patterns.patterns.items c.in_ok-patterns.ensures.items) c.in_ok-add_candidates.ensures) refl in
    (refl, (c.requires.numbers, subst (λ (xs : List Candidates). HaveCandidates t table.rows xs) (sym c.as_slice-2.ensures.value) numbered))
