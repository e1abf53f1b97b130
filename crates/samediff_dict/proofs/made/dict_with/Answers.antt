use Rattle.std.proofs.Common.{◌≡◌, ◌∙◌, Bool, List, length, map, sym, ap, subst, arith}
use Rattle.std.specs.List.{range_with_len}
use Rattle.std.proofs.lemmas.Result.{IfOk-weaker}
use Rattle.net_model.specs.Circuit.{Circuit, IsCircuit}
use Rattle.net_model.specs.ClassTable.{class_count}
use Rattle.class_refine.proofs.PatternTables.{table_numbers}
use Rattle.dict_rows.specs.declared.dict.Dict.{Dict}
use Rattle.dict_rows.specs.declared.dict.DictKind.TheVariants.{SameDiff}
use Rattle.dict_rows.specs.AnswerTable.{Answers, HasSizes}
use Rattle.table_dicts.specs.ByClass.{AreEntriesOfClasses}
use Rattle.dict_rows.specs.Dictionary.{IsDictionary, IsSameDiff}
use Rattle.dict_rows.specs.Entries.{same_diff_entry}
use Rattle.dict_rows.specs.Rows.{AreRows}
use Rattle.table_dicts.proofs.FailLemmas.{patterns_are}
use Rattle.samediff_dict.specs.Chosen.{chosen_baselines}
use Rattle.samediff_dict.specs.Copied.{HaveClasses, class_entry}
use Rattle.samediff_dict.specs.Numbered.{baselines_at}
use Rattle.samediff_dict.proofs.MadeLemmas.{answer_alike, have_classes, entries_are}
use Rattle.samediff_dict.proofs.made.dict_with.Goals as goal

pub baselines-requires : goal.baselines-requires
baselines-requires g c =
    let has = c.requires.1.1.1 in
    record { setting = c.requires.0; answers = c.requires.1.0; numbered = c.requires.1.1.0; one_each = has.one_each; chosen_are = has.chosen_are }

pub class_entries-requires : goal.class_entries-requires
class_entries-requires g c =
    let has = c.requires.1.1.1 in
    let chosen = c.args.chosen.now in
    subst (λ n. HaveClasses n c.args.patterns.now chosen) (sym c.count.ensures.value) (have_classes c.args.setting.now.classes.now g.t.rows c.args.patterns.now chosen c.requires.1.1.0 has.one_each has.chosen_are)

pub dict_of_classes-requires-clause-numbers : goal.dict_of_classes-requires-clause-numbers
dict_of_classes-requires-clause-numbers g c = c.numbers-numbers.ensures.value ∙ sym (table_numbers c.requires.0.classes)

pub dict_of_classes-requires-clause-few : goal.dict_of_classes-requires-clause-few
dict_of_classes-requires-clause-few g c =
    omega (arith, c.in_ok-baselines.ensures.shape.count_is, patterns_are c.args.setting.now.subject.now c.args.setting.now.patterns.now g.t c.requires.1.0, c.requires.0.answerable.few)

pub returns : goal.returns
returns g c =
    let circuit = c.args.setting.now.subject.now in
    let k = c.args.setting.now.classes.now in
    let patterns = c.args.patterns.now in
    let chosen = c.args.chosen.now in
    let has = c.requires.1.1.1 in
    let bases = baselines_at k g.t.rows chosen in
    let baselines = c.in_ok-baselines.baselines in
    let same = c.in_ok-baselines.ensures.rows in
    let shape = subst (λ (bs : List (List Bool)). AreRows (length g.t.rows) g.t.positions bs) same c.in_ok-baselines.ensures.shape in
    let alike = answer_alike circuit (subst IsCircuit c.circuit.ensures.value c.circuit.ensures.circuit) c.args.setting.now.patterns.now k c.requires.0.classes g.t c.requires.1.0 in
    let listed : c.in_ok-entries.entries ≡ map (class_entry patterns chosen) (range_with_len 0 (class_count k)) = c.in_ok-entries.ensures.entries ∙ ap (λ n. map (class_entry patterns chosen) (range_with_len 0 n)) c.count.ensures.value in
    let entries : AreEntriesOfClasses k c.in_ok-entries.entries (same_diff_entry g.t.rows baselines) =
    subst (λ (bs : List (List Bool)). AreEntriesOfClasses k c.in_ok-entries.entries (same_diff_entry g.t.rows bs)) (sym same)
    (subst (λ (es : List (List Bool)). AreEntriesOfClasses k es (same_diff_entry g.t.rows bases)) (sym listed) (entries_are k g.t patterns chosen c.requires.1.1.0 has.one_each has.chosen_are shape c.count.ensures.whole alike)) in
    let sizes : HasSizes g.t (length baselines) c.numbers-numbers.result (length c.positions.result.now) = record {
      patterns_are = sym c.in_ok-baselines.ensures.shape.count_is;
      numbers_are = c.requires.1.0.numbers ∙ sym c.numbers-numbers.ensures.value;
      positions_are = c.requires.1.0.positions ∙ ap length (sym (c.positions.ensures.value ∙ ap (λ (n : Circuit). n.positions) c.circuit.ensures.value));
    } in
    IfOk-weaker c.dict_of_classes.result
    (λ (d : Dict). (t : Answers) → HasSizes t (length baselines) c.numbers-numbers.result (length c.positions.result.now) → AreEntriesOfClasses k c.in_ok-entries.entries (same_diff_entry t.rows baselines) → IsDictionary d SameDiff t baselines (same_diff_entry t.rows baselines))
    (IsSameDiff g.t (chosen_baselines k g.t.rows)) (λ d made. subst (λ (bs : List (List Bool)). IsSameDiff g.t bs d) (same ∙ has.baselines_are) (made g.t sizes entries)) c.dict_of_classes.ensures
