use Rattle.std.proofs.Common.{◌≡◌, ◌-◌, length, arith}
use Rattle.std.specs.String.{string_bytes}
use Rattle.sim_listing.specs.SimText.{answers_otherwise, numbered_line}
use Rattle.sim_listing.proofs.AnswerLemmas.{lines_more}
use Rattle.sim_listing.proofs.LaneLemmas.{row_long, some_place}
use Rattle.sim_listing.proofs.lines.LaneAnswers.push_fault_lines.Goals as goal

pub loop-number-preserved : goal.loop-number-preserved
loop-number-preserved c = record {
  texts = c.in_ok-push_if_differs.ensures.texts;
  text = λ row is.
      lines_more (answers_otherwise row) (numbered_line row) c.loop-number.number (string_bytes c.args.text.now) (string_bytes c.loop-number.text) (string_bytes c.push_if_differs.new.text)
      c.loop-number.auto.number (c.loop-number.invariant.text row is) (rw (c.differs-differs.ensures row is) at c.in_ok-push_if_differs.ensures.text row is);
}

pub returns : goal.returns
returns c = λ row is.
    let end : c.loop-number.number - 1 ≡ length row - 1 = omega (arith, row_long c.args.self.now c.requires.lane row is, some_place c.args.self.now c.requires.lane) in
    rw end at c.loop-number.invariant.text row is
