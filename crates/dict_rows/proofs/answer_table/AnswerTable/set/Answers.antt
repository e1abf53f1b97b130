use Rattle.std.proofs.Common.{◌+◌, ◌*◌, ◌<◌, ◌≤◌, subst, ap, arith}
use Rattle.dict_rows.specs.Rows.{IsBitSet}
use Rattle.dict_rows.specs.AnswerTable.{Answers, HasBitSet}
use Rattle.dict_rows.specs.AnswerTableFields.{table_of}
use Rattle.dict_rows.proofs.RowLemmas.{rows_later}
use Rattle.dict_rows.proofs.TableLemmas.{in_fields, bit_inside, set_at}
use Rattle.dict_rows.proofs.answer_table.AnswerTable.set.Goals as goal

pub set_bit-requires-clause-at : goal.set_bit-requires-clause-at
set_bit-requires-clause-at c =
    omega (arith, bit_inside c.self.inside c.self.invariant c.args.self.now c.self.view_is c.args.pattern c.args.number c.args.position c.requires.pattern c.requires.number c.requires.position, c.place-at.ensures)

-- The cells after the bit was set.
module _ (c : goal.After-set_bit) where
  inside : (c.args.pattern + 1 ≤ c.self.inside.patterns) × (c.args.number < c.self.inside.numbers)
  inside = in_fields c.self.inside c.self.invariant c.args.self.now c.self.view_is (c.args.pattern + 1) c.args.number (omega (arith, c.requires.pattern)) c.requires.number

  in_positions : c.args.position < c.self.inside.positions
  in_positions = omega (arith, c.requires.position, ap (λ (t : Answers). t.positions) c.self.view_is)

  bit_set : IsBitSet c.self.inside.cells c.set_bit.new.rows c.args.number (c.args.pattern * c.self.inside.positions + c.args.position) c.args.bit
  bit_set = subst (λ at. IsBitSet c.self.inside.cells c.set_bit.new.rows c.args.number at c.args.bit) c.place-at.ensures c.set_bit.ensures

pub invariant_of-self : goal.invariant_of-self
invariant_of-self c = rows_later c.set_bit.ensures.shape c.self.invariant

pub returns : goal.returns
returns c =
    subst (λ (t : Answers). HasBitSet t (table_of (record c.self.inside { cells = c.set_bit.new.rows })) c.args.pattern c.args.number c.args.position c.args.bit) c.self.view_is
    (set_at c.self.inside c.self.invariant c.set_bit.new.rows c.args.pattern c.args.number c.args.position c.args.bit (omega (arith, (inside c).0)) (inside c).1 (in_positions c) (bit_set c))
