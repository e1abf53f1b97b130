use Rattle.std.proofs.Common.{◌∙◌, Bool, not, sym, arith}
use Rattle.std.specs.Prelude.{◌&&◌}
use Rattle.net_model.specs.Rows.{row_at}
use Rattle.dict_rows.proofs.RowLemmas.{begun_more, begun_all}
use Rattle.ranked_diag.specs.declared.partial.Seen.{Seen}
use Rattle.ranked_diag.specs.Seen.{is_seen, differs}
use Rattle.suspect_scores.proofs.MarkLemmas.{bit_marked, tested_long}
use Rattle.suspect_scores.proofs.marks.LogMarks.mark.Goals as goal

abbrev is_right : Seen → Bool → Bool
is_right seen bit = is_seen seen && not (differs seen bit)

pub loop-at-preserved : goal.loop-at-preserved
loop-at-preserved c =
    let old = c.args.self.now in
    let so_far = c.loop-at.invariant in
    record {
      free = so_far.free;
      wrong = begun_more so_far.wrong c.set_bit.ensures
          (bit_marked differs old.free c.loop-at.self.free c.args.line c.loop-at.at c.args.seen.now _ c.get-free.result c.is_wrong.result so_far.free c.requires.free_wide c.loop-at-test.true c.get-free.ensures c.is_wrong.ensures);
      right = begun_more so_far.right c.set_bit-in-loop-at.ensures
          (bit_marked is_right old.free c.loop-at.self.free c.args.line c.loop-at.at c.args.seen.now _ c.get-free.result c.is_right.result so_far.free c.requires.free_wide c.loop-at-test.true c.get-free.ensures c.is_right.ensures);
    }

pub returns-clause-wrong : goal.returns-clause-wrong
returns-clause-wrong c =
    let long = tested_long differs (row_at c.args.self.now.free c.args.line) c.args.seen.now c.requires.free_wide in
    begun_all c.loop-at.invariant.wrong (c.requires.wrong_wide ∙ sym long) (omega (arith, long, c.loop-at-test.false))

pub returns-clause-right : goal.returns-clause-right
returns-clause-right c =
    let long = tested_long is_right (row_at c.args.self.now.free c.args.line) c.args.seen.now c.requires.free_wide in
    begun_all c.loop-at.invariant.right (c.requires.right_wide ∙ sym long) (omega (arith, long, c.loop-at-test.false))
