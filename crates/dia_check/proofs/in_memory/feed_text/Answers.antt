use Rattle.std.proofs.Common.{◌≡◌, ◌∙◌, ◌+◌, ◌-◌, ◌≤◌, ℕ, ◌++◌, take, sym, ap, subst, arith}
use Rattle.std.specs.List.{slice_range}
use Rattle.std.proofs.Math.Seq.{take-add}
use Rattle.std.proofs.lemmas.List.{take_all}
use Rattle.text_fields.specs.Fields.{Text}
use Rattle.dia_check.specs.Reader.{IsReading}
use Rattle.dia_check.proofs.in_memory.feed_text.Goals as goal

-- The first `done` bytes, and those after them up to `end`.
further : (text : Text) {done end : ℕ} → done ≤ end → take done text ++ slice_range text done end ≡ take end text
further text {done} {end} order =
    let end_is : done + (end - done) ≡ end = omega arith in
    sym (take-add done (end - done) text) ∙ ap (λ (n : ℕ). take n text) end_is

pub feed-requires : goal.feed-requires
feed-requires c = record { fed = take c.loop-done.done c.args.text.now; is = c.loop-done.invariant.reading }

pub loop-done-preserved : goal.loop-done-preserved
loop-done-preserved c =
    let done = c.loop-done.done in
    let text = c.args.text.now in
    let order : done ≤ done + c.min.result = omega arith in
    record {
      reading = subst (λ (fed : Text). IsReading c.args.subject.now fed c.feed.new.self) (further text order) (c.in_ok-feed.ensures (take done text) c.loop-done.invariant.reading);
      within = omega (arith, c.min.ensures);
    }

pub returns : goal.returns
returns c =
    let all = take_all c.loop-done.done c.args.text.now c.loop-done-test.false in
    rw all at c.loop-done.invariant.reading
