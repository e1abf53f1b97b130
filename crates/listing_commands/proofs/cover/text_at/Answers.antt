use Rattle.std.proofs.Common.{◌∙◌, ap}
use Rattle.listing_commands.specs.Texts.{cover_text}
use Rattle.listing_commands.proofs.cover.text_at.Goals as goal

pub returns : goal.returns
returns c =
    let classes = c.args.setting.now.classes.now in
    let lines = c.args.partial.now in
    let logged = c.in_ok-logged.ensures in
    let choices = c.in_ok-choices.choices in
    let has = c.requires.alike in
    let answers = has.table in
    let cover = c.in_ok-choices.ensures lines answers logged has.answers in
    record {
      table = answers;
      answers = has.answers;
      choices = choices;
      cover = cover;
      text_is = c.in_ok-text.ensures ∙ ap (cover_text choices) (c.count_failing-failing.ensures c.args.setting.now lines answers logged has.answers);
      each = λ line number there h e. c.one_cover_explains.ensures.alike_explains classes answers lines choices line number has.alike cover there h e;
      counts = c.one_cover_explains.ensures.alike_counts classes answers lines choices has.alike cover;
    }
