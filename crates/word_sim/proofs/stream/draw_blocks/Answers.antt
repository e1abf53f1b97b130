use Rattle.std.proofs.Common.{◌≡◌, ◌+◌, ◌∙◌, length, sym, ap, subst, arith}
use Rattle.std.specs.Prelude.{◌&&◌, ◌==◌}
use Rattle.word_sim.specs.Stream.{state_after, word_number}
use Rattle.word_sim.specs.StreamState.{IsAfter}
use Rattle.word_sim.proofs.Drawn.{is_on, drawn_none, drawn_more}
use Rattle.word_sim.proofs.stream.draw_blocks.Goals as goal
use Rattle.word_sim.proofs.stream.draw_blocks.Goals.{then-first, else-first}

pub loop-at-init : goal.loop-at-init
loop-at-init c = λ done after. drawn_none (length c.args.rows.now) done c.args.first c.args.rows.now c.args.rng.now after

pub loop-at-preserved : goal.loop-at-preserved
loop-at-preserved c = λ done after.
    let sources = length c.args.rows.now in
    let at = c.loop-at.at in
    let so_far = c.loop-at.invariant done after in
    let first : c.if-first.draw ≡ (c.args.first && at == 0) = elim c.if-first.branch [
      | then-first w ↦ w.draw-is ∙ sym (ap (λ b. b && at == 0) w.if-first.true)
      | else-first w ↦ w.draw-is ∙ w.if-first.false ∙ sym (ap (λ b. b && at == 0) w.if-first.false)
    ] in
    let wide : length c.loop-at.rows ≡ sources = c.loop-at.auto.rows in
    let on : IsAfter sources (done + at) c.if-first.draw c.loop-at.rng =
    subst (λ b. IsAfter sources (done + at) b c.loop-at.rng) (sym first) (is_on sources done at c.args.first c.args.rng.now c.loop-at.rng after so_far.state) in
    let state = rw wide at c.draw.ensures.state in
    let rows = rw wide at c.draw.ensures.rows in
    drawn_more sources done at c.loop-at.rows c.draw.new.rows c.loop-at.rng c.draw.new.rng so_far (omega (arith, c.loop-at-test.true, c.requires))
    (state (done + at) on) (λ lane h e. rows (done + at) lane on h e) c.draw.ensures.others

pub returns-clause-state : goal.returns-clause-state
returns-clause-state c = λ done after.
    let sources = length c.args.rows.now in
    let all : c.loop-at.at ≡ c.args.count = omega arith in
    (c.loop-at.invariant done after).state ∙ ap (λ n. state_after (word_number sources (done + n) 0)) all

pub returns-clause-rows : goal.returns-clause-rows
returns-clause-rows c = λ done lane after h.
    let all : c.loop-at.at ≡ c.args.count = omega arith in
    (c.loop-at.invariant done after).drawn lane (omega (arith, h, all))
