use Rattle.std.proofs.Common.{◌∙◌, ◌+◌, ◌*◌, List, Bool, refl, sym, ap, subst}
use Rattle.net_model.specs.Rows.{row_bit}
use Rattle.dict_rows.specs.Rows.{AreRows}
use Rattle.dict_rows.specs.declared.answer_table.AnswerTable.TheInside.{Inside}
use Rattle.dict_rows.proofs.RowLemmas.{zeros_are, zero_bits}
use Rattle.dict_rows.proofs.TableLemmas.{patterns_are, bit_is, no_bit}
use Rattle.dict_rows.proofs.answer_table.AnswerTable.zeros.Goals as goal

-- The fields, and what is true of them.
module _ (c : goal.In_ok-zeros) where
  cells_are : AreRows c.args.numbers (c.args.patterns * c.args.positions) c.in_ok-zeros.field-0
  cells_are =
      subst (λ w. AreRows c.args.numbers w c.in_ok-zeros.field-0) c.width_of-width.ensures
      (subst (AreRows c.args.numbers c.width_of-width.result) (sym c.in_ok-zeros.ensures) (zeros_are c.args.numbers c.width_of-width.result))

pub returns-clause-sizes : goal.returns-clause-sizes
returns-clause-sizes c = record {
  patterns_are = patterns_are (record { cells = c.in_ok-zeros.field-0; patterns = c.args.patterns; numbers = c.args.numbers; positions = c.args.positions }) (cells_are c);
  numbers_are = refl;
  positions_are = refl;
}

pub returns-clause-clear : goal.returns-clause-clear
returns-clause-clear c pattern number position =
    let a : Inside = record { cells = c.in_ok-zeros.field-0; patterns = c.args.patterns; numbers = c.args.numbers; positions = c.args.positions } in
    no_bit a (cells_are c) pattern number position (λ (hp, hn, hk).
    bit_is a (cells_are c) pattern number position hp hn hk
    ∙ (ap (λ (rows : List (List Bool)). row_bit rows number (pattern * c.args.positions + position)) c.in_ok-zeros.ensures ∙ zero_bits c.args.numbers c.width_of-width.result number (pattern * c.args.positions + position)))

pub invariant_of-result : goal.invariant_of-result
invariant_of-result c = cells_are c
