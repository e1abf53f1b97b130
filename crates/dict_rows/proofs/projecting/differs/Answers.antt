use Rattle.std.proofs.Common.{◌∙◌, ◌*◌, ◌≤◌, length, not, sym, ap, arith}
use Rattle.net_model.specs.Rows.{row_at}
use Rattle.dict_rows.specs.AnswerTable.{answer_to}
use Rattle.dict_rows.proofs.RowLemmas.{width_at}
use Rattle.dict_rows.proofs.WordLemmas.{word_of_packed, differ_by, alike_more, alike_all}
use Rattle.dict_rows.proofs.projecting.differs.Goals as goal

pub returns-then-answer_word-baseline : goal.returns-then-answer_word-baseline
returns-then-answer_word-baseline c =
    let answer = answer_to c.args.table.now c.args.pattern c.args.number in
    let baseline = row_at c.args.baselines.now c.args.pattern in
    let packed = c.row_words-baseline.ensures.packed in
    sym (ap not
    (differ_by answer baseline c.loop-word.word c.answer_word.ensures (word_of_packed packed c.loop-word.word) c.answer_word.type_inv (packed.fits c.loop-word.word) c.if-answer_word-baseline.true))

pub loop-word-preserved : goal.loop-word-preserved
loop-word-preserved c =
    let answer = answer_to c.args.table.now c.args.pattern c.args.number in
    let baseline = row_at c.args.baselines.now c.args.pattern in
    alike_more answer baseline c.loop-word.word c.answer_word.ensures (word_of_packed c.row_words-baseline.ensures.packed c.loop-word.word) c.loop-word.invariant c.if-answer_word-baseline.false

pub returns : goal.returns
returns c =
    let answer = answer_to c.args.table.now c.args.pattern c.args.number in
    let baseline = row_at c.args.baselines.now c.args.pattern in
    let wide = c.positions.ensures.table.positions c.args.pattern c.args.number c.requires.pattern c.requires.number in
    let all : length answer ≤ c.loop-word.word * 64 = omega (arith, wide, c.positions.ensures.value, c.div_ceil-word-end.ensures) in
    sym (ap not (alike_all answer baseline (c.loop-word.word * 64) c.loop-word.invariant all (wide ∙ sym (width_at c.requires.baselines c.args.pattern c.requires.pattern))))
