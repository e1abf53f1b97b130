use Rattle.std.proofs.Common.{◌≡◌, ◌∙◌, ◌<◌, ℕ, List, [], length, get_or, sym, ap, subst, arith}
use Rattle.std.specs.Prelude.{All}
use Rattle.std.proofs.lemmas.List.{length-map}
use Rattle.net_model.specs.FaultList.{fault_count}
use Rattle.net_model.specs.Rows.{row_at}
use Rattle.ranked_diag.specs.PartialLog.{Line}
use Rattle.suspect_scores.specs.declared.choices.Choice.{Choice}
use Rattle.suspect_scores.specs.Listed.{representatives}
use Rattle.suspect_scores.specs.Covering.{IsCover}
use Rattle.suspect_scores.specs.Chosen.{explained_by, AreAllLeft, AreChosenFrom}
use Rattle.suspect_scores.proofs.ChosenLemmas.{chosen_cover}
use Rattle.suspect_scores.proofs.covering.cover.Goals as goal

pub explained_rows-requires-clause-numbers : goal.explained_rows-requires-clause-numbers
explained_rows-requires-clause-numbers c =
    subst (λ (xs : List ℕ). All (λ number. number < fault_count c.args.setting.now.subject.now) xs) (sym c.as_slice-numbers.ensures.value)
    (subst (λ n. All (λ number. number < n) c.in_ok-lowest.lowest.items) c.requires.setting.numbers c.in_ok-lowest.ensures.within)

pub returns : goal.returns
unfolding representatives
returns c = λ lines table logged are.
    let s = c.args.setting.now in
    let t = s.classes.now in
    let rows = c.in_ok-rows.rows in
    let choices = c.in_ok-choices.choices.items in
    let left = c.in_ok-choices.ensures.0 in
    let numbers : c.as_slice-numbers.result.now ≡ representatives t = c.as_slice-numbers.ensures.value ∙ c.in_ok-lowest.ensures.lowest in
    let explained = subst (λ (ns : List ℕ). (p : ℕ) → p < length ns → row_at rows p ≡ explained_by table lines (get_or ns p 0)) numbers (c.in_ok-rows.ensures.rows lines table logged are) in
    let chosen = subst (λ (ns : List ℕ). AreChosenFrom rows ns left choices) numbers c.in_ok-choices.ensures.2 in
    let many : length c.args.logged.now.patterns.items ≡ length lines = ap length logged.patterns_are ∙ length-map lines (λ (l : Line). get_or s.patterns.now l.0 []) in
    let count : c.len.result ≡ length lines = omega (arith, c.len.ensures, c.args.logged.now.patterns.ok.0, many) in
    let all = subst (λ (n : ℕ). AreAllLeft n left) count c.in_ok-choices.ensures.1 in
    subst (λ (cs : List Choice). IsCover t table lines cs) (sym c.of.ensures) (chosen_cover t table lines rows explained left choices all chosen)
