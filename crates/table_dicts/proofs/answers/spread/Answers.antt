use Rattle.std.proofs.Common.{◌≡◌, ◌∙◌, ℕ, List, length, ap, subst, arith}
use Rattle.table_dicts.specs.declared.simulating.Kept.TheVariants.{Bits}
use Rattle.dict_rows.specs.AnswerTable.{ArePicked}
use Rattle.table_dicts.specs.Blocks.{IsListedBit, AreRightBits}
use Rattle.table_dicts.proofs.answers.spread.Goals as goal

pub tabulate-requires : goal.tabulate-requires
tabulate-requires c = record {
  answerable = c.requires.answerable;
  numbers = rw c.as_slice-lowest.ensures.value c.requires.firsts;
  count = omega (arith, ap length c.as_slice-lowest.ensures.value, c.requires.few);
}

pub pick-requires : goal.pick-requires
pick-requires c =
    let numbers : c.in_ok-listed.listed.numbers ≡ length c.args.sorted.now.firsts.items = c.in_ok-listed.ensures.sizes.numbers_are ∙ ap length c.as_slice-lowest.ensures.value in
    record { inside = rw (c.as_slice.ensures, numbers) c.requires.groups; few = omega (arith, ap length c.as_slice.ensures, c.requires.many) }

pub returns : goal.returns
returns c =
    let circuit = c.args.subject.now in
    let patterns = c.args.patterns.now in
    let listed = c.in_ok-listed.listed in (
      listed,
      c.stands.ensures,
      subst (λ (ns : List ℕ). AreRightBits (IsListedBit Bits circuit patterns ns) (length patterns) (length ns) (length circuit.positions) (length patterns) listed) c.as_slice-lowest.ensures.value c.in_ok-listed.ensures,
      subst (λ (ns : List ℕ). ArePicked listed ns c.in_ok-table.table) c.as_slice.ensures c.in_ok-table.ensures,
    )
