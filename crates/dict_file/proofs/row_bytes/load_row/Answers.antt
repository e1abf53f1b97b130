use Rattle.std.proofs.Common.{[], arith}
use Rattle.dict_file.proofs.LoadLemmas.{loading_none, loading_more, loading_all}
use Rattle.dict_file.proofs.row_bytes.load_row.Goals as goal

pub loop-word-init : goal.loop-word-init
loop-word-init c = loading_none c.args.loaded.now c.args.row c.args.bytes.now c.args.start

pub loop-word-preserved : goal.loop-word-preserved
loop-word-preserved c = loading_more c.loop-word.invariant c.word_at.ensures c.set_word.ensures

pub returns : goal.returns
returns c = loading_all c.loop-word.invariant (omega (arith, c.width.ensures.each c.args.row [] c.requires.row, c.div_ceil-word-end.ensures, c.loop-word-test.false))
