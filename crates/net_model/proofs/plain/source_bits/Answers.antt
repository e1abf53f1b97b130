use Rattle.std.proofs.Common.{◌≡◌, ◌≢◌, ◌∙◌, ◌<◌, ℕ, false, length, ap, arith}
use Rattle.std.specs.Prelude.{unwrap_or}
use Rattle.std.proofs.lemmas.List.{length-set, length-replicate, get_or-set_same, get_or-set_other}
use Rattle.net_model.specs.Answer.{bit_at}
use Rattle.net_model.specs.Fault.{stuck_stem}
use Rattle.net_model.proofs.plain.source_bits.Goals as goal
use borrow.Author.Count.{below_more}

pub loop-line-init : goal.loop-line-init
loop-line-init c = record {
  whole = ap length c.in_ok-carried.ensures ∙ length-replicate c.lines.result false ∙ c.lines.ensures.value;
  set = λ line h. absurd (omega (arith, h));
}

pub loop-line-preserved : goal.loop-line-preserved
loop-line-preserved c =
    let line = c.loop-line.line in
    let carried = c.loop-line.carried in
    let bit = c.unwrap_or.result in
    let inside : line < length carried = omega (arith, c.loop-line-test.true, c.sources-line-end.ensures.value, c.loop-line.invariant.whole) in
    let gives : bit ≡ unwrap_or (stuck_stem c.args.fault line) (bit_at c.args.v.now line) =
    c.unwrap_or.ensures
    ∙ ap (λ o. unwrap_or o c.get-bit.result) c.stuck_stem.ensures
    ∙ ap (unwrap_or (stuck_stem c.args.fault line)) c.get-bit.ensures in
    let earlier : (k : ℕ) → k < line → bit_at c.set.new.self k ≡ unwrap_or (stuck_stem c.args.fault k) (bit_at c.args.v.now k) =
    λ k h.
    let other : k ≢ line = omega (arith, h) in
    ap (λ bits. bit_at bits k) c.set.ensures ∙ get_or-set_other carried line k bit false other ∙ c.loop-line.invariant.set k h in
    record {
      whole = ap length c.set.ensures ∙ length-set carried line bit ∙ c.loop-line.invariant.whole;
      set = below_more (λ k. bit_at c.set.new.self k ≡ unwrap_or (stuck_stem c.args.fault k) (bit_at c.args.v.now k)) line earlier
          (ap (λ bits. bit_at bits line) c.set.ensures ∙ get_or-set_same carried line bit false inside ∙ gives);
    }

pub returns-clause-each : goal.returns-clause-each
returns-clause-each c = λ line h. c.loop-line.invariant.set line (omega (arith, h, c.loop-line-test.false, c.sources-line-end.ensures.value))
