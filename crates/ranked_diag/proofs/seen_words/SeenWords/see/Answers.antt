use Rattle.std.proofs.Common.{◌+◌, length, take, arith}
use Rattle.std.proofs.lemmas.List.{length-take-le, get_or_default}
use Rattle.ranked_diag.proofs.SeenLemmas.{before_more, see_none, see_more, see_all}
use Rattle.ranked_diag.proofs.seen_words.SeenWords.see.Goals as goal

pub loop-at-init : goal.loop-at-init
loop-at-init c = see_none c.args.self.now c.args.place c.requires.before

pub see_one-requires : goal.see_one-requires
see_one-requires c =
    let seen = c.args.seen.now in
    let at = c.loop-at.at in
    before_more (c.args.place + length (take at seen)) (c.args.place + at) c.loop-at.self c.loop-at.invariant.before (omega (arith, length-take-le at seen c.loop-at.auto.at-end))

pub loop-at-preserved : goal.loop-at-preserved
loop-at-preserved c =
    see_more c.args.self.now c.loop-at.self c.see_one.new.self c.args.place c.loop-at.at c.args.seen.now _ c.loop-at.invariant c.loop-at-test.true
    (get_or_default c.args.seen.now c.loop-at.at _ _ c.loop-at-test.true) c.in_ok-see_one.ensures

pub returns : goal.returns
returns c = see_all c.args.self.now c.loop-at.self c.args.place c.loop-at.at c.args.seen.now c.loop-at.invariant c.loop-at-test.false
