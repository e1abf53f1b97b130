use Rattle.std.proofs.Common.{◌∙◌, get_or, take, ap, sym}
use Rattle.std.proofs.lemmas.List.{take_more, take_all}
use Rattle.std.proofs.lemmas.Result.{IfOk-from_err}
use Rattle.pair_miter.specs.SplitLines.{all_copies}
use Rattle.pair_miter.proofs.SplitLemmas.{copies_none, copies_more, copies_of_split, split_listed}
use Rattle.pair_miter.proofs.split.split_lines.Goals as goal

pub loop-line-init : goal.loop-line-init
loop-line-init c = let p = c.args.numbering.now in c.new-copies.ensures.items ∙ sym (copies_none p.circuit p.f p.g)

pub push_copies-requires-clause-line : goal.push_copies-requires-clause-line
push_copies-requires-clause-line c =
    let p = c.args.numbering.now in
    (split_listed p.circuit p.f p.g c.split_lines-line-items.ensures.circuit c.split_lines-line-items.result.now c.split_lines-line-items.ensures.value c.loop-line.line-index c.loop-line-test.true).0

pub push_copies-requires-clause-split : goal.push_copies-requires-clause-split
push_copies-requires-clause-split c =
    let p = c.args.numbering.now in
    (split_listed p.circuit p.f p.g c.split_lines-line-items.ensures.circuit c.split_lines-line-items.result.now c.split_lines-line-items.ensures.value c.loop-line.line-index c.loop-line-test.true).1

pub loop-line-preserved : goal.loop-line-preserved
loop-line-preserved c =
    let p = c.args.numbering.now in
    let lines = c.split_lines-line-items.result.now in
    let i = c.loop-line.line-index in
    copies_more p.circuit p.f p.g c.loop-line.copies.items c.push_copies.new.copies.items (take i lines) (get_or lines i 0) c.loop-line.invariant c.in_ok-push_copies.ensures
    ∙ ap (all_copies p.circuit p.f p.g) (sym (take_more lines i 0 c.loop-line-test.true))

pub returns-in_err-push_copies : goal.returns-in_err-push_copies
returns-in_err-push_copies c = IfOk-from_err c.from_residual.result _ c.from_residual.ensures.0

pub returns : goal.returns
returns c =
    let p = c.args.numbering.now in
    let lines = c.split_lines-line-items.result.now in
    let split = c.split_lines-line-items.ensures.value in
    record {
      order = split.order;
      ordered = split.is;
      are = c.loop-line.invariant ∙ (ap (all_copies p.circuit p.f p.g) (take_all c.loop-line.line-index lines c.loop-line-test.false) ∙ copies_of_split p.circuit p.f p.g lines split);
    }
