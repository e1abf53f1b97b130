use Rattle.std.proofs.Common.{◌∙◌, List, ap₂, sym, subst}
use Rattle.ranked_diag.specs.PartialLog.{Line}
use Rattle.suspect_scores.specs.Listed.{AreSuspects}
use Rattle.suspect_scores.specs.Laws.{StandsFirstAlike}
use Rattle.listing_commands.specs.Texts.{suspects_text}
use Rattle.listing_commands.proofs.suspects.text_at.Goals as goal

pub returns : goal.returns
returns c =
    let classes = c.args.setting.now.classes.now in
    let lines = c.args.partial.now in
    let most = c.args.most in
    let logged = c.in_ok-logged.ensures in
    let listed = c.in_ok-listed.listed in
    let has = c.requires.alike in
    let answers = has.table in
    let suspects = c.in_ok-listed.ensures lines answers logged has.answers in
    record {
      table = answers;
      answers = has.answers;
      listed = listed;
      suspects = suspects;
      text_is = c.in_ok-text.ensures ∙ ap₂ (suspects_text listed) (c.count_failing-failing.ensures c.args.setting.now lines answers logged has.answers) c.len.ensures;
      members = λ number h. c.members_score_alike.ensures.alike classes answers lines number has.alike h;
      single = λ number h own other some.
          subst (λ (l : List Line). AreSuspects classes answers l most listed → StandsFirstAlike answers l number listed) (sym own) (c.one_list_of_suspects.ensures.alike classes answers number most listed has.alike h other some) suspects;
    }
