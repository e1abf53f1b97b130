use Rattle.std.proofs.Common.{arith}
use Rattle.ranked_diag.proofs.ObservingLemmas.{line_pattern, line_wide, line_before, words_more, words_all}
use Rattle.ranked_diag.proofs.observing.observed_words.Goals as goal

pub see_line-requires-clause-pattern : goal.see_line-requires-clause-pattern
see_line-requires-clause-pattern c = line_pattern c.args.dict.now c.args.partial.now c.requires.partial c.loop-at.at _ c.line-pattern.ensures

pub see_line-requires-clause-wide : goal.see_line-requires-clause-wide
see_line-requires-clause-wide c = line_wide c.args.dict.now c.args.partial.now c.requires.partial c.loop-at.at _ c.line-pattern.ensures

pub see_line-requires-clause-before : goal.see_line-requires-clause-before
see_line-requires-clause-before c = line_before c.args.dict.now c.args.partial.now c.requires.partial c.loop-at.at _ c.line-pattern.ensures c.loop-at.words c.loop-at.invariant

pub loop-at-preserved : goal.loop-at-preserved
loop-at-preserved c = words_more c.args.dict.now c.args.partial.now c.requires.partial c.loop-at.at _ c.line-pattern.ensures c.loop-at.words c.see_line.new.words c.loop-at.invariant c.in_ok-see_line.ensures

pub returns : goal.returns
returns c =
    words_all c.args.dict.now c.args.partial.now c.requires.partial c.loop-at.at c.loop-at.words c.loop-at.invariant (omega (arith, c.len-at-end.ensures, c.loop-at-test.false)) (omega (arith, c.len-at-end.ensures, c.loop-at.auto.at-end))
