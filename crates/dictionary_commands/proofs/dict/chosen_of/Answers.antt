use Rattle.std.proofs.Common.{refl}
use Rattle.std.proofs.lemmas.Result.{IfOk-weaker}
use Rattle.dict_rows.specs.AnswerTable.{Answers, AreAnswers}
use Rattle.dict_rows.specs.declared.dict.Dict.{Dict}
use Rattle.dict_rows.specs.Dictionary.{IsSameDiff}
use Rattle.samediff_dict.specs.Chosen.{chosen_baselines}
use Rattle.dictionary_commands.specs.Dictionaries.{KeepsMostApart}
use Rattle.dictionary_commands.proofs.MadeLemmas.{kind_made}
use Rattle.dictionary_commands.proofs.MostApart.{most_apart}
use Rattle.dictionary_commands.proofs.dict.chosen_of.Goals as goal

pub returns-clause-dictionary : goal.returns-clause-dictionary
returns-clause-dictionary c = kind_made c.same_diff_at.result refl c.requires.classes c.same_diff_at.ensures

pub returns-clause-most : goal.returns-clause-most
returns-clause-most c =
    let circuit = c.args.setting.now.subject.now in
    let patterns = c.args.setting.now.patterns.now in
    let classes = c.args.setting.now.classes.now in
    IfOk-weaker c.same_diff_at.result (λ (d : Dict). (t : Answers) → AreAnswers circuit patterns t → IsSameDiff t (chosen_baselines classes t.rows) d) (KeepsMostApart circuit patterns classes)
    (λ d made. most_apart c.requires.classes c.count-count.ensures.whole c.keeps_as_many.ensures c.no_row_is_better.ensures made) c.same_diff_at.ensures
