use Rattle.std.proofs.Common.{◌≡◌, ◌∙◌, ◌<◌, ℕ, Bool, List, length, refl, sym, ap, subst, arith}
use Rattle.std.specs.Prelude.{All}
use Rattle.std.proofs.lemmas.Result.{IfOk-weaker}
use Rattle.net_model.specs.Rows.{row_at}
use Rattle.dict_rows.specs.Rows.{AreRows, AreRowsBegun}
use Rattle.dict_rows.proofs.RowLemmas.{rows_all}
use Rattle.samediff_dict.specs.Chosen.{chosen_baselines}
use Rattle.samediff_dict.specs.Copied.{AreLeads, AreWanted}
use Rattle.samediff_dict.specs.Numbered.{HasBaselines, baselines_at}
use Rattle.samediff_dict.proofs.CandidateLemmas.{length-baselines}
use Rattle.samediff_dict.proofs.LeadLemmas.{leads_inside, leads_wanted}
use Rattle.samediff_dict.proofs.MadeLemmas.{have_classes}
use Rattle.samediff_dict.proofs.copying.chosen_rows.Given as given
use Rattle.samediff_dict.proofs.copying.chosen_rows.Goals as goal
use Rattle.samediff_dict.proofs.copying.chosen_rows.Goals.{After-as_slice, After-own_rows}

has : (g : given.Over) (c : After-as_slice g) → HasBaselines c.args.classes.now g.rows c.as_slice.result.now (chosen_baselines c.args.classes.now g.rows)
has g c = subst (λ (xs : List ℕ). HasBaselines c.args.classes.now g.rows xs (chosen_baselines c.args.classes.now g.rows)) (sym c.as_slice.ensures.value) c.in_ok-chosen.ensures

pub chosen_leads-requires : goal.chosen_leads-requires
chosen_leads-requires g c =
    let all = has g (goal.at.chosen_leads-requires g c).After-as_slice in
    have_classes c.args.classes.now g.rows c.args.patterns.now c.as_slice.result.now c.requires.1.1 all.one_each all.chosen_are

pub own_rows-requires : goal.own_rows-requires
own_rows-requires g c =
    let leads = c.as_slice-2.ensures.value in
    record {
      known = subst (λ (xs : List ℕ). All (λ number. number < c.args.table.now.numbers) xs) (sym leads) (leads_inside c.in_ok-leads.ensures c.args.table.now.numbers c.requires.1.0);
      one_each = ap length leads ∙ (c.in_ok-leads.ensures.one_each ∙ ((has g (goal.at.own_rows-requires g c).After-as_slice).one_each ∙ ap length c.requires.0));
    }

-- the rows that are made of what is wanted
module _ (g : given.Over) (c : After-own_rows g) where
  abbrev wanted : ℕ → List Bool
  wanted = row_at (baselines_at c.args.classes.now g.rows c.as_slice.result.now)

  abbrev Copies : List (List Bool) → Type 0
  Copies rows = (wanted : ℕ → List Bool) → AreWanted c.args.table.now c.as_slice-2.result.now 0 wanted → AreRowsBegun (length c.args.table.now.rows) c.args.table.now.positions (length c.args.table.now.rows) wanted rows

  all : HasBaselines c.args.classes.now g.rows c.as_slice.result.now (chosen_baselines c.args.classes.now g.rows)
  all = has g (goal.at.After-own_rows g c).After-as_slice

  copied : (rows : List (List Bool)) → Copies rows → AreRowsBegun (length c.args.table.now.rows) c.args.table.now.positions (length c.args.table.now.rows) wanted rows
  copied rows each =
      let t = c.args.classes.now in
      let chosen = c.as_slice.result.now in
      let leads : AreLeads t c.args.patterns.now chosen (length chosen) c.as_slice-2.result.now = subst (λ (xs : List ℕ). AreLeads t c.args.patterns.now chosen (length chosen) xs) (sym c.as_slice-2.ensures.value) c.in_ok-leads.ensures in
      each wanted (leads_wanted t g.rows c.args.patterns.now chosen c.requires.1.1 all.one_each c.args.table.now c.requires.0 c.as_slice-2.result.now leads)

pub returns-clause-chosen : goal.returns-clause-chosen
returns-clause-chosen g c =
    let at = (goal.at.returns-clause-chosen g c).After-own_rows in
    let t = c.args.classes.now in
    let chosen = c.as_slice.result.now in
    IfOk-weaker c.own_rows.result (Copies g at) (λ rows. rows ≡ chosen_baselines t g.rows)
    (λ rows each. rows_all (baselines_at t g.rows chosen) (copied g at rows each) (omega arith) (length-baselines t g.rows chosen ∙ ((all g at).one_each ∙ ap length c.requires.0)) (λ row h. refl) ∙ (all g at).baselines_are) c.own_rows.ensures

pub returns-clause-shape : goal.returns-clause-shape
returns-clause-shape g c =
    let at = (goal.at.returns-clause-shape g c).After-own_rows in
    IfOk-weaker c.own_rows.result (Copies g at) (AreRows (length g.rows) c.args.table.now.positions)
    (λ rows each. subst (λ n. AreRows n c.args.table.now.positions rows) (sym (ap length c.requires.0)) (copied g at rows each).are) c.own_rows.ensures
