use Rattle.std.proofs.Common.{◌≡◌, ◌∙◌, ℕ, length, replicate, ap, arith}
use Rattle.std.proofs.lemmas.List.{length-replicate}
use Rattle.event_queue.proofs.Words.{all_zero, zero_words, small_zeros}
use Rattle.event_queue.proofs.Marks.{marks_count, mark_is}
use Rattle.event_queue.proofs.queue.NumberQueue.new.Goals as goal

pub invariant_of-result : goal.invariant_of-result
invariant_of-result c =
    let made : c.in_ok-vec.field-0.items ≡ replicate {A = ℕ} c.div_ceil.result 0 = c.in_ok-vec.ensures.items_if_clones_equal (λ y e. e) in
    record {
      few = c.requires;
      whole = ap length made ∙ (length-replicate {A = ℕ} c.div_ceil.result 0 ∙ c.div_ceil.ensures);
      digits = small_zeros c.in_ok-vec.field-0.items c.div_ceil.result made;
      spare = λ n h. all_zero c.in_ok-vec.field-0.items c.div_ceil.result made n;
      top = omega arith;
      below = λ at h. absurd (omega (arith, h));
      above = λ at h. zero_words c.in_ok-vec.field-0.items c.div_ceil.result made at;
    }

pub returns-clause-none : goal.returns-clause-none
returns-clause-none c = λ n.
    let made : c.in_ok-vec.field-0.items ≡ replicate {A = ℕ} c.div_ceil.result 0 = c.in_ok-vec.ensures.items_if_clones_equal (λ y e. e) in
    let none = all_zero c.in_ok-vec.field-0.items c.div_ceil.result made in
    mark_is c.args.count c.in_ok-vec.field-0.items (λ m h. none m) n ∙ none n

pub returns-clause-room : goal.returns-clause-room
returns-clause-room c = marks_count c.args.count c.in_ok-vec.field-0.items
