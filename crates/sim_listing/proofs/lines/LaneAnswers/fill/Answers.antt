use Rattle.std.proofs.Common.{◌∙◌, List, Some, None, get_or, refl, sym, ap, subst}
use Rattle.std.specs.Prelude.{IsSome, Option, String}
use Rattle.std.specs.declared.alloc.Global.{Global}
use Rattle.std.proofs.lemmas.List.{get_or-set_same}
use Rattle.net_model.specs.BitText.{bits_text}
use Rattle.sim_listing.specs.LaneAnswers.{lane_answers, AreTextsOf}
use Rattle.sim_listing.proofs.LaneLemmas.{text_set}
use Rattle.sim_listing.proofs.lines.LaneAnswers.fill.Goals as goal

pub returns-clause-texts : goal.returns-clause-texts
returns-clause-texts c = λ row is.
    let answers = lane_answers c.args.self.now row in
    let texts = c.args.texts.now.items in
    let text = c.in_ok-own.ensures ∙ ap bits_text (c.in_ok-answer.ensures row is ∙ sym (c.requires.place row is).own) in
    subst (AreTextsOf answers) (sym c.put_text.ensures) (text_set answers texts c.args.place c.in_ok-own.own (c.requires.texts row is) c.requires.inside text)

pub returns-clause-written : goal.returns-clause-written
returns-clause-written c =
    let texts = c.args.texts.now.items in
    let here = get_or-set_same texts c.args.place (Some c.in_ok-own.own) None c.requires.inside in
    subst (λ (ts : List (Option (String Global))). IsSome (get_or ts c.args.place None)) (sym c.put_text.ensures) (subst (λ (o : Option (String Global)). IsSome o) (sym here) refl)
