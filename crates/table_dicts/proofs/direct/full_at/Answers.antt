use Rattle.std.proofs.Common.{◌≡◌, ◌∙◌, ◌<◌, ◌≤◌, ℕ, List, Bool, [], length, refl, sym, ap, subst, arith}
use Rattle.std.specs.Prelude.{All}
use Rattle.net_model.specs.Circuit.{IsCircuit}
use Rattle.net_model.specs.FaultList.{fault_count}
use Rattle.class_refine.proofs.PatternTables.{table_numbers}
use Rattle.dict_rows.specs.declared.dict.Dict.{Dict}
use Rattle.dict_rows.specs.declared.dict.DictKind.TheVariants.{Full}
use Rattle.table_dicts.specs.declared.simulating.Kept.TheVariants.{Bits}
use Rattle.dict_rows.specs.AnswerTable.{AreAnswerable}
use Rattle.dict_rows.specs.Entries.{full_entry}
use Rattle.table_dicts.specs.Blocks.{IsListedBit, AreRightBits}
use Rattle.dict_rows.proofs.EntryLemmas.{dictionary_of, no_rows}
use Rattle.table_dicts.proofs.FailLemmas.{patterns_are}
use Rattle.dict_rows.proofs.GroupLemmas.{grouped_by}
use Rattle.table_dicts.proofs.ClassLemmas.{entries_of, entries_are, cells_listed, firsts_by}
use Rattle.table_dicts.proofs.ClassEntryLemmas.{firsts_inside, firsts_few}
use Rattle.table_dicts.proofs.direct.full_at.Goals as goal
use Rattle.table_dicts.proofs.direct.full_at.Goals.{In_ok-sorted}

pub class_groups-requires : goal.class_groups-requires
class_groups-requires c = c.numbers-numbers.ensures.value ∙ sym (table_numbers c.requires.classes)

module _ (c : In_ok-sorted) where
  all : c.numbers-numbers.result ≡ length c.args.setting.now.classes.now.class_of
  all = c.numbers-numbers.ensures.value ∙ sym (table_numbers c.requires.classes)

  inside : All (λ number. number < fault_count c.args.setting.now.subject.now) c.in_ok-sorted.sorted.firsts.items
  inside =
      subst (λ n. All (λ number. number < n) c.in_ok-sorted.sorted.firsts.items) (table_numbers c.requires.classes)
      (firsts_inside c.args.setting.now.classes.now c.numbers-numbers.result all c.in_ok-sorted.sorted.groups c.in_ok-sorted.sorted.firsts.items c.in_ok-sorted.ensures)

  few : length c.in_ok-sorted.sorted.firsts.items ≤ c.numbers-numbers.result
  few = firsts_few c.args.setting.now.classes.now c.numbers-numbers.result all c.in_ok-sorted.sorted.groups c.in_ok-sorted.sorted.firsts.items c.in_ok-sorted.ensures

pub tabulate-requires-clause-answerable : goal.tabulate-requires-clause-answerable
tabulate-requires-clause-answerable c = subst (AreAnswerable c.args.setting.now.subject.now) (sym c.as_slice-patterns.ensures) c.requires.answerable

pub tabulate-requires-clause-numbers : goal.tabulate-requires-clause-numbers
tabulate-requires-clause-numbers c = rw c.as_slice-lowest.ensures.value (inside (goal.at.tabulate-requires-clause-numbers c).In_ok-sorted)

pub tabulate-requires-clause-count : goal.tabulate-requires-clause-count
tabulate-requires-clause-count c = omega (arith, ap length c.as_slice-lowest.ensures.value, few (goal.at.tabulate-requires-clause-count c).In_ok-sorted, c.numbers-numbers.ensures.few)

pub returns : goal.returns
returns c = λ t are.
    let at = (goal.at.returns c).In_ok-sorted in
    let circuit = c.args.setting.now.subject.now in
    let patterns = c.args.setting.now.patterns.now in
    let is = subst IsCircuit c.circuit.ensures.value c.stands.ensures in
    let table = c.in_ok-table.table in
    let firsts = c.in_ok-sorted.sorted.firsts.items in
    let groups = c.in_ok-sorted.sorted.groups in
    let lowest = c.as_slice-lowest.result.now in
    let same = c.as_slice-patterns.ensures in
    let right_at = subst (λ (ps : List (List Bool)). AreRightBits (IsListedBit Bits circuit ps lowest) (length ps) (length lowest) (length circuit.positions) (length ps) table) same c.in_ok-table.ensures in
    let right = subst (λ (ns : List ℕ). AreRightBits (IsListedBit Bits circuit patterns ns) (length patterns) (length ns) (length circuit.positions) (length patterns) table) c.as_slice-lowest.ensures.value right_at in
    let are_firsts = firsts_by circuit is patterns c.args.setting.now.classes.now c.requires.classes c.numbers-numbers.result (c.numbers-numbers.ensures.value) groups firsts c.in_ok-sorted.ensures t are in
    let cells = cells_listed circuit is patterns t are firsts (inside at) table c.positions.ensures.table right c.into_cells.result c.into_cells.ensures.entries in
    let d : Dict = record { kind = Full; positions = c.positions.result; patterns = c.patterns.result; numbers = c.numbers-numbers.result; baselines = c.in_ok-zeros.field-0; groups = groups; entries = c.into_cells.result } in
    dictionary_of d t [] (full_entry t.rows) (entries_of t) refl (grouped_by (entries_of t) groups firsts are_firsts c.into_cells.result cells) (entries_are circuit is patterns t are)
    (c.positions.ensures.value ∙ (right.sizes.positions_are ∙ sym are.positions)) (c.patterns.ensures.value ∙ (right.sizes.patterns_are ∙ sym (patterns_are circuit patterns t are)))
    (c.numbers-numbers.ensures.value ∙ sym are.numbers) c.in_ok-zeros.ensures (no_rows t.positions)
