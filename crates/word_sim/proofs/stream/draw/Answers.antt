use Rattle.std.proofs.Common.{◌≡◌, ◌/◌, ◌%◌, ◌∙◌, refl, sym, length, ap, arith}
use Rattle.word_sim.specs.Stream.{state_after, word_number, stream_bit}
use Rattle.word_sim.specs.BlockFields.{column}
use Rattle.word_sim.proofs.Columns.{length-column, column_at, column_is}
use Rattle.word_sim.proofs.Written.{put_more, beside_more}
use Rattle.word_sim.proofs.Drawn.{word_digit, next_rng, next_block, drawn_column}
use Rattle.word_sim.proofs.stream.draw.Goals as goal

pub loop-source-init : goal.loop-source-init
loop-source-init c = record {
  next = λ done after. record { state = after.state; drawn = λ k lane h. absurd (omega arith) };
  others = λ k lane h ne. refl;
}

pub loop-source-preserved : goal.loop-source-preserved
loop-source-preserved c =
    let sources = length c.args.rows.now in
    let source = c.loop-source.source in
    let so_far = c.loop-source.invariant in
    record {
      next = λ done after. record {
        state = (rw after.comes_first at c.source_word.ensures.state) ∙ next_rng sources done source c.loop-source.rng (omega arith) (so_far.next done after).state;
        drawn = put_more (λ lane. lane / 64) c.args.at (λ k lane. stream_bit sources done (lane % 64) k) c.loop-source.rows source c.with_word.result (so_far.next done after).drawn (omega arith)
            (λ lane h e. c.with_word.ensures.here lane h e
            ∙ (rw (c.source_word.ensures.word, after.comes_first) (word_digit sources done source (lane % 64) c.loop-source.rng (so_far.next done after).state (omega arith))));
      };
      others = beside_more (λ lane. lane / 64) c.args.at c.args.rows.now c.loop-source.rows source c.index-rows-source.result c.with_word.result so_far.others (omega arith) c.index-rows-source.is
          c.with_word.ensures.others;
    }

pub returns-clause-state : goal.returns-clause-state
returns-clause-state c = λ done after.
    let sources = length c.args.rows.now in
    let all : c.loop-source.source ≡ sources = omega arith in
    (c.loop-source.invariant.next done after).state ∙ ap (λ n. state_after (word_number sources done n)) all ∙ ap state_after (next_block sources done)

pub returns-clause-rows : goal.returns-clause-rows
returns-clause-rows c = λ done lane after h e.
    let all : c.loop-source.source ≡ length c.args.rows.now = omega arith in
    drawn_column (length c.args.rows.now) done (lane % 64) c.loop-source.rows lane (λ k l. (c.loop-source.invariant.next done after).drawn k lane (omega (arith, l, all)) h e) c.loop-source.auto.rows (omega arith)

pub returns-clause-others : goal.returns-clause-others
returns-clause-others c = λ lane h ne.
    column_is c.loop-source.rows lane (column c.args.rows.now lane) (length-column c.args.rows.now lane ∙ sym c.loop-source.auto.rows)
    (λ k l. c.loop-source.invariant.others k lane h ne ∙ sym (column_at c.args.rows.now lane k))
