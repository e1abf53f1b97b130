use Rattle.std.proofs.Common.{◌<◌, ◌^◌, ℕ, List, Bool, length, sym, ap, subst, arith}
use Rattle.std.specs.Prelude.{All}
use Rattle.std.proofs.lemmas.Result.{IfOk-weaker}
use Rattle.std.proofs.lemmas.List.Elements.{All-from_get_or}
use Rattle.net_model.specs.FaultList.{fault_count}
use Rattle.table_dicts.specs.declared.simulating.Kept.TheVariants.{Bits}
use Rattle.dict_rows.specs.AnswerTable.{Answers, AreAnswerable, AreAnswers, ArePicked, IsTable}
use Rattle.table_dicts.specs.Blocks.{IsListedBit, AreRightBits}
use Rattle.table_dicts.specs.ByRoot.{AreGroupsByRoot}
use Rattle.table_dicts.proofs.BlockLemmas.{right_all}
use Rattle.table_dicts.proofs.RootLemmas.{settled, right_of_firsts}
use Rattle.table_dicts.proofs.answers.subject_answers.Goals as goal
use Rattle.table_dicts.proofs.answers.subject_answers.Goals.{In_ok-sorted}

pub root_groups-requires-clause-inside : goal.root_groups-requires-clause-inside
root_groups-requires-clause-inside c =
    let is = settled c.forest.ensures in
    rw c.roots.ensures (All-from_get_or (λ root. root < length c.forest.result.now.roots) c.forest.result.now.roots 0 (λ n below. is.inside n below))

pub root_groups-requires-clause-few : goal.root_groups-requires-clause-few
root_groups-requires-clause-few c = omega (arith, (settled c.forest.ensures).few, ap length c.roots.ensures)

module _ (c : In_ok-sorted) where
  abbrev roots : List ℕ
  roots = c.forest.result.now.roots

  by_root : AreGroupsByRoot roots (length roots) c.in_ok-sorted.sorted.groups c.in_ok-sorted.sorted.firsts.items
  by_root = subst (λ (rs : List ℕ). AreGroupsByRoot rs (length rs) c.in_ok-sorted.sorted.groups c.in_ok-sorted.sorted.firsts.items) c.roots.ensures c.in_ok-sorted.ensures

  firsts_inside : All (λ number. number < fault_count c.args.subject.now) c.in_ok-sorted.sorted.firsts.items
  firsts_inside =
      All-from_get_or (λ number. number < fault_count c.args.subject.now) c.in_ok-sorted.sorted.firsts.items 0 (λ group h. omega (arith, by_root.inside group h, c.forest.ensures.roots.whole))

  firsts_few : length c.in_ok-sorted.sorted.firsts.items < 2 ^ 27
  firsts_few = omega (arith, by_root.few, (settled c.forest.ensures).few)

pub spread-requires : goal.spread-requires
spread-requires c =
    let at = (goal.at.spread-requires c).In_ok-sorted in
    let are = by_root at in
    record {
      answerable = subst (AreAnswerable c.args.subject.now) (sym c.as_slice.ensures) c.requires;
      firsts = firsts_inside at;
      few = omega (arith, firsts_few at);
      groups = All-from_get_or (λ group. group < length c.in_ok-sorted.sorted.firsts.items) c.in_ok-sorted.sorted.groups 0 (λ n h. are.known n (omega (arith, h, are.one_each)));
      many = omega (arith, are.one_each, (settled c.forest.ensures).few);
    }

pub returns : goal.returns
returns c =
    let at = (goal.at.returns c).In_ok-sorted in
    let circuit = c.args.subject.now in
    let patterns = c.args.patterns.now in
    let firsts = c.in_ok-sorted.sorted.firsts.items in
    let groups = c.in_ok-sorted.sorted.groups in
    let Right : List (List Bool) → Answers → Type 0 = λ ps listed. AreRightBits (IsListedBit Bits circuit ps firsts) (length ps) (length firsts) (length circuit.positions) (length ps) listed in
    IfOk-weaker c.spread.result (λ table. (listed : Answers) × IsTable table × Right c.as_slice.result.now listed × ArePicked listed groups table) (AreAnswers circuit patterns)
    (λ table made. right_all (length patterns) c.forest.ensures.circuit made.1
    (right_of_firsts circuit patterns c.forest.result.now c.forest.ensures groups firsts (by_root at) made.0 table c.requires.widths (subst (λ (ps : List (List Bool)). Right ps made.0) c.as_slice.ensures made.2) made.3) (omega arith))
    c.spread.ensures
