use Rattle.std.proofs.Common.{◌≡◌, ◌∙◌, ◌*◌, ◌<◌, ℕ, List, Bool, length, sym, ap, subst, arith}
use Rattle.std.specs.Prelude.{All}
use Rattle.std.proofs.lemmas.List.FromFn.{length-map-range_with_len}
use Rattle.std.proofs.lemmas.Result.{IfOk-weaker}
use Rattle.net_model.specs.Circuit.{Circuit, IsCircuit}
use Rattle.net_model.specs.ClassTable.{class_count, representative}
use Rattle.net_model.specs.FaultList.{fault_count}
use Rattle.class_refine.proofs.PatternTables.{table_numbers}
use Rattle.dict_rows.specs.declared.dict.DictKind.TheVariants.{PassFail}
use Rattle.table_dicts.specs.declared.simulating.Kept.TheVariants.{Fails}
use Rattle.dict_rows.specs.AnswerTable.{Answers, AreAnswerable, AreAnswers, HasSizes}
use Rattle.table_dicts.specs.Blocks.{IsListedBit, AreRightBits}
use Rattle.table_dicts.specs.ByClass.{AreEntriesOfClasses}
use Rattle.dict_rows.specs.Dictionary.{IsDictionary, IsPassFail}
use Rattle.dict_rows.specs.Entries.{same_diff_entry}
use Rattle.dict_rows.specs.Rows.{AreRows}
use Rattle.table_dicts.proofs.FailLemmas.{patterns_are}
use Rattle.table_dicts.proofs.ClassFailLemmas.{fails_of_classes}
use Rattle.table_dicts.proofs.direct.pass_fail_at.Goals as goal
use Rattle.table_dicts.proofs.direct.pass_fail_at.Goals.{In_ok-lowest}

module _ (c : In_ok-lowest) where
  abbrev lowest : List ℕ
  lowest = c.in_ok-lowest.lowest.items

  inside : All (λ number. number < fault_count c.args.setting.now.subject.now) lowest
  inside = subst (λ n. All (λ number. number < n) lowest) (table_numbers c.requires.classes) c.in_ok-lowest.ensures.within

  long : length lowest ≡ class_count c.args.setting.now.classes.now
  long = ap length c.in_ok-lowest.ensures.lowest ∙ length-map-range_with_len (representative c.args.setting.now.classes.now) 0 (class_count c.args.setting.now.classes.now)

pub tabulate-requires-clause-answerable : goal.tabulate-requires-clause-answerable
tabulate-requires-clause-answerable c = subst (AreAnswerable c.args.setting.now.subject.now) (sym c.as_slice-patterns.ensures) c.requires.answerable

pub tabulate-requires-clause-numbers : goal.tabulate-requires-clause-numbers
tabulate-requires-clause-numbers c = rw c.as_slice-lowest.ensures.value (inside (goal.at.tabulate-requires-clause-numbers c).In_ok-lowest)

pub tabulate-requires-clause-count : goal.tabulate-requires-clause-count
tabulate-requires-clause-count c = omega (arith, ap length c.as_slice-lowest.ensures.value, c.in_ok-lowest.ensures.few)

pub dict_of_classes-requires-clause-numbers : goal.dict_of_classes-requires-clause-numbers
dict_of_classes-requires-clause-numbers c = c.numbers.ensures.value ∙ sym (table_numbers c.requires.classes)

pub dict_of_classes-requires-clause-few : goal.dict_of_classes-requires-clause-few
dict_of_classes-requires-clause-few c = omega (arith, c.in_ok-baselines.ensures.shape.count_is, c.requires.answerable.few)

pub dict_of_classes-requires-clause-baselines : goal.dict_of_classes-requires-clause-baselines
dict_of_classes-requires-clause-baselines c =
    let baselines = c.in_ok-baselines.baselines in
    let shape = c.in_ok-baselines.ensures.shape in
    subst (λ n. AreRows n (length c.positions.result.now) baselines) (sym shape.count_is) (subst (λ (ps : List ℕ). AreRows (length c.args.setting.now.patterns.now) (length ps) baselines) (sym (c.positions.ensures.value ∙ ap (λ (k : Circuit). k.positions) c.circuit.ensures.value)) shape)

pub dict_of_classes-requires-clause-entries : goal.dict_of_classes-requires-clause-entries
dict_of_classes-requires-clause-entries c =
    let at = (goal.at.dict_of_classes-requires-clause-entries c).In_ok-lowest in
    let cells = c.cells.result.now in
    let shape = c.cells.ensures.shape in
    let sizes = c.in_ok-fails.ensures.sizes in
    let count : c.in_ok-fails.fails.numbers ≡ class_count c.args.setting.now.classes.now = sizes.numbers_are ∙ (ap length c.as_slice-lowest.ensures.value ∙ long at) in
    let width : length c.in_ok-fails.fails.rows * c.in_ok-fails.fails.positions ≡ length c.in_ok-baselines.baselines =
    ap (λ w. length c.in_ok-fails.fails.rows * w) sizes.positions_are ∙ omega (arith, sizes.patterns_are, ap length c.as_slice-patterns.ensures, c.in_ok-baselines.ensures.shape.count_is) in
    subst (λ n. AreRows n (length c.in_ok-baselines.baselines) cells) count (subst (λ w. AreRows c.in_ok-fails.fails.numbers w cells) width shape)

pub returns : goal.returns
returns c =
    let at = (goal.at.returns c).In_ok-lowest in
    let circuit = c.args.setting.now.subject.now in
    let patterns = c.args.setting.now.patterns.now in
    let classes = c.args.setting.now.classes.now in
    let baselines = c.in_ok-baselines.baselines in
    let numbers = c.numbers.result in
    let positions = length c.positions.result.now in
    let cells = c.cells.result.now in
    let bits = c.in_ok-fails.fails in
    let lowest = c.in_ok-lowest.lowest.items in
    let same = c.as_slice-patterns.ensures in
    let ran = subst (λ (ps : List (List Bool)). AreRightBits (IsListedBit Fails circuit ps c.as_slice-lowest.result.now) (length ps) (length c.as_slice-lowest.result.now) 1 (length ps) bits) same c.in_ok-fails.ensures in
    let right = subst (λ (ns : List ℕ). AreRightBits (IsListedBit Fails circuit patterns ns) (length patterns) (length ns) 1 (length patterns) bits) c.as_slice-lowest.ensures.value ran in
    IfOk-weaker c.dict_of_classes.result
    (λ dict. (t : Answers) → HasSizes t (length baselines) numbers positions → AreEntriesOfClasses classes cells (same_diff_entry t.rows baselines) → IsDictionary dict PassFail t baselines (same_diff_entry t.rows baselines))
    (λ dict. (t : Answers) → AreAnswers circuit patterns t → IsPassFail t dict) (λ dict is t are.
    let own = patterns_are circuit patterns t are in
    let first = c.in_ok-baselines.ensures.free t are in
    let sizes : HasSizes t (length baselines) numbers positions = record {
      patterns_are = own ∙ sym c.in_ok-baselines.ensures.shape.count_is;
      numbers_are = are.numbers ∙ sym c.numbers.ensures.value;
      positions_are = are.positions ∙ ap length (sym (c.positions.ensures.value ∙ ap (λ (k : Circuit). k.positions) c.circuit.ensures.value));
    } in
    let entries = fails_of_classes circuit (subst IsCircuit c.circuit.ensures.value c.circuit.ensures.circuit) patterns t are classes c.requires.classes c.in_ok-lowest.ensures.whole lowest c.in_ok-lowest.ensures.lowest (inside at) bits c.cells.ensures.table right cells c.cells.ensures.entries in
    let made = is t sizes (subst (λ (rows : List (List Bool)). AreEntriesOfClasses classes cells (same_diff_entry t.rows rows)) (sym first) entries) in
    subst (λ (rows : List (List Bool)). IsDictionary dict PassFail t rows (same_diff_entry t.rows rows)) first made) c.dict_of_classes.ensures
