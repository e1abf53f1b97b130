use Rattle.std.proofs.Common.{List, sym, subst}
use Rattle.std.proofs.lemmas.Result.{IfOk-weaker}
use Rattle.net_model.specs.Circuit.{IsCircuit}
use Rattle.dict_rows.specs.AnswerTable.{Answers}
use Rattle.dict_rows.specs.Dictionary.{IsSameDiff}
use Rattle.table_dicts.specs.Setting.{AreAnswersAt}
use Rattle.table_dicts.proofs.OneTable.{one_answers}
use Rattle.samediff_dict.specs.declared.numbering.Candidates.{Candidates}
use Rattle.samediff_dict.specs.Chosen.{chosen_baselines}
use Rattle.samediff_dict.specs.Numbered.{HaveCandidates}
use Rattle.samediff_dict.proofs.EvaluatedLemmas.{evaluated_answers, evaluated_are}
use Rattle.samediff_dict.proofs.made.same_diff_at.Goals as goal

pub dict_among-requires : goal.dict_among-requires
dict_among-requires c =
    let setting = c.args.setting.now in
    let t = evaluated_answers setting.subject.now setting.patterns.now in
    let are = evaluated_are setting.subject.now (subst IsCircuit c.circuit.ensures.value c.stands.ensures) setting.patterns.now in
    (c.requires, (are, subst (λ (xs : List Candidates). HaveCandidates setting.classes.now t.rows xs) (sym c.as_slice.ensures.value) (c.in_ok-found.ensures t are)))

pub returns : goal.returns
returns c =
    let setting = c.args.setting.now in
    let classes = setting.classes.now in
    let is = subst IsCircuit c.circuit.ensures.value c.stands.ensures in
    let t = evaluated_answers setting.subject.now setting.patterns.now in
    IfOk-weaker c.dict_among.result (IsSameDiff t (chosen_baselines classes t.rows)) (λ dict. (u : Answers) → AreAnswersAt setting u → IsSameDiff u (chosen_baselines classes u.rows) dict)
    (λ dict made u of. subst (λ (v : Answers). IsSameDiff v (chosen_baselines classes v.rows) dict) (one_answers setting.subject.now is (evaluated_are setting.subject.now is setting.patterns.now) of) made) c.dict_among.ensures
