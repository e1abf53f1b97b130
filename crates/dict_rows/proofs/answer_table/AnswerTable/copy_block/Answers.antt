use Rattle.std.proofs.Common.{◌≡◌, ◌∙◌, ◌+◌, ◌*◌, ◌<◌, ◌≤◌, length, sym, ap, subst, arith}
use Rattle.std.proofs.lemmas.Nat.{mul-le}
use Rattle.net_model.specs.Rows.{row_at, row_bit}
use Rattle.dict_rows.specs.AnswerTable.{Answers, IsNumberSet, answer_bit}
use Rattle.dict_rows.specs.AnswerTableFields.{table_of}
use Rattle.dict_rows.proofs.RowLemmas.{width_at, rows_later}
use Rattle.dict_rows.proofs.TableLemmas.{in_fields, patterns_are, bit_is}
use Rattle.dict_rows.proofs.BlockWordLemmas.{number_as, block_set}
use Rattle.dict_rows.proofs.answer_table.AnswerTable.copy_block.Goals as goal
use Rattle.dict_rows.proofs.answer_table.AnswerTable.copy_block.Goals.{After-div_ceil-words, After-block}

-- The block is within the table, and its words hold it.
module _ (c : After-div_ceil-words) where
  inside : (c.args.first + c.args.count ≤ c.self.inside.patterns) × (c.args.number < c.self.inside.numbers)
  inside = in_fields c.self.inside c.self.invariant c.args.self.now c.self.view_is (c.args.first + c.args.count) c.args.number c.requires.within c.requires.number

  positions_are : c.args.block.now.positions ≡ c.self.inside.positions
  positions_are = c.requires.positions ∙ sym (ap (λ (t : Answers). t.positions) c.self.view_is)

  enough : c.args.count * c.self.inside.positions ≤ c.div_ceil-words.result * 64
  enough = omega (arith, c.div_ceil-words.ensures, c.width_of.ensures)

  tight : c.div_ceil-words.result * 64 < c.args.count * c.self.inside.positions + 64
  tight = omega (arith, c.div_ceil-words.ensures, c.width_of.ensures)

-- The sizes of the block's fields.
module _ (c : After-block) where
  block_patterns : c.block.inside.patterns ≡ length c.args.block.now.rows
  block_patterns = sym (patterns_are c.block.inside c.block.invariant) ∙ (ap (λ (t : Answers). length t.rows) c.block.view_is)

  block_numbers : c.block.inside.numbers ≡ 1
  block_numbers = ap (λ (t : Answers). t.numbers) c.block.view_is ∙ c.requires.one

  block_positions : c.block.inside.positions ≡ c.self.inside.positions
  block_positions = ap (λ (t : Answers). t.positions) c.block.view_is ∙ (c.requires.positions ∙ sym (ap (λ (t : Answers). t.positions) c.self.view_is))

pub copy_words-requires-clause-room : goal.copy_words-requires-clause-room
copy_words-requires-clause-room c =
    let at = (goal.at.copy_words-requires-clause-room c).After-div_ceil-words in
    let here = (goal.at.copy_words-requires-clause-room c).After-block in
    let b = c.block.inside in
    let p = c.self.inside.positions in
    let all = length c.args.block.now.rows in
    let wide : length (row_at b.cells 0) ≡ all * p = width_at c.block.invariant 0 (omega (arith, block_numbers here)) ∙ (λ i. block_patterns here i * block_positions here i) in
    omega (arith, tight at, mul-le c.args.count p all p c.requires.few (omega arith), wide)

pub copy_words-requires-clause-within : goal.copy_words-requires-clause-within
copy_words-requires-clause-within c =
    let at = (goal.at.copy_words-requires-clause-within c).After-div_ceil-words in
    let a = c.self.inside in
    omega (arith, c.words_before-begin.ensures.words, tight at, mul-le (c.args.first + c.args.count) a.positions a.patterns a.positions (inside at).0 (omega arith), width_at c.self.invariant c.args.number (inside at).1)

pub invariant_of-self : goal.invariant_of-self
invariant_of-self c = rows_later c.copy_words.ensures.shape c.self.invariant

pub returns : goal.returns
returns c =
    let at = (goal.at.returns c).After-div_ceil-words in
    let here = (goal.at.returns c).After-block in
    let a = c.self.inside in
    let b = c.block.inside in
    let set = block_set a c.self.invariant c.copy_words.new.to c.args.number c.args.first c.args.count (c.words_before-begin.result * 64) (c.div_ceil-words.result * 64) (row_bit b.cells 0) (inside at).1 c.words_before-begin.ensures.words (enough at) (inside at).0
    c.copy_words.ensures in
    let made = number_as (λ lane n k bit. bit ≡ answer_bit c.args.block.now lane 0 k) (λ lane k bit hl hk e.
    e ∙ (ap (λ p. row_bit b.cells 0 (lane * p + k)) (sym (block_positions here))
    ∙ (sym (bit_is b c.block.invariant lane 0 k (omega (arith, hl, c.requires.few, block_patterns here)) (omega (arith, block_numbers here)) (omega (arith, hk, block_positions here))) ∙ ap (λ (t : Answers). answer_bit t lane 0 k) c.block.view_is))) set in
    subst (λ (t : Answers). IsNumberSet (λ lane n k bit. bit ≡ answer_bit c.args.block.now lane 0 k) c.args.count t (table_of (record a { cells = c.copy_words.new.to })) c.args.number c.args.first t.positions) c.self.view_is made
