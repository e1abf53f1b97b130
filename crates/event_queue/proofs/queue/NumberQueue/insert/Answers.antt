use Rattle.std.proofs.Common.{◌≡◌, ◌<◌, ◌/◌, ◌%◌, ◌^◌, ◌*◌, ◌∙◌, length, get_or, ap, arith, sym}
use Rattle.std.specs.Prelude.{bit_or}
use Rattle.std.proofs.lemmas.List.{get_or_read, length-set}
use Rattle.event_queue.specs.Pending.{is_pending}
use Rattle.event_queue.proofs.Words.{small_set, zero_above, zero_below, more_bits}
use Rattle.event_queue.proofs.Marks.{marks_count, one_more}
use Rattle.event_queue.proofs.queue.NumberQueue.insert.Goals as goal

pub index-requires : goal.index-requires
index-requires c = omega (arith, c.requires, ap length c.self.view_is, marks_count c.self.inside.count c.self.inside.words.items, c.self.invariant.whole, c.self.inside.words.ok.0)

pub index_mut-requires : goal.index_mut-requires
index_mut-requires c = omega (arith, c.requires, ap length c.self.view_is, marks_count c.self.inside.count c.self.inside.words.items, c.self.invariant.whole, c.self.inside.words.ok.0)

pub invariant_of-self : goal.invariant_of-self
invariant_of-self c =
    let words = c.self.inside.words.items in
    let at = c.args.number / 64 in
    let word = c.index.result.now in
    let more = bit_or word (1 * 2 ^ (c.args.number % 64) % 2 ^ 64) in
    let below : c.args.number < c.self.inside.count = omega (arith, c.requires, ap length c.self.view_is, marks_count c.self.inside.count words) in
    let inside : at < length words = omega (arith, below, c.self.invariant.whole) in
    let read : word ≡ get_or words at 0 = get_or_read words at word inside c.index.ensures 0 in
    let small : word < 2 ^ 64 = omega (arith, read, c.self.invariant.digits at 0 inside) in
    record {
      few = c.self.invariant.few;
      whole = length-set words at more ∙ c.self.invariant.whole;
      digits = small_set words at more c.self.invariant.digits (more_bits word (c.args.number % 64) small);
      spare = (one_more c.self.inside.count c.args.number words word c.self.invariant.spare below inside read).spare;
      top = omega (arith, length-set words at more, c.self.invariant.top);
      below = zero_below words at more c.self.inside.low c.min-self-inside.result c.self.invariant.below (omega arith) (omega arith);
      above = zero_above words at more c.self.inside.top c.max-self-inside.result c.self.invariant.above (omega arith) (omega arith);
    }

pub returns-clause-room : goal.returns-clause-room
returns-clause-room c = marks_count c.self.inside.count _ ∙ sym (marks_count c.self.inside.count c.self.inside.words.items) ∙ ap length c.self.view_is

pub returns-clause-here : goal.returns-clause-here
returns-clause-here c =
    let words = c.self.inside.words.items in
    let at = c.args.number / 64 in
    let below : c.args.number < c.self.inside.count = omega (arith, c.requires, ap length c.self.view_is, marks_count c.self.inside.count words) in
    let inside : at < length words = omega (arith, below, c.self.invariant.whole) in
    (one_more c.self.inside.count c.args.number words c.index.result.now c.self.invariant.spare below inside (get_or_read words at c.index.result.now inside c.index.ensures 0)).here

pub returns-clause-others : goal.returns-clause-others
returns-clause-others c = λ n ne.
    let words = c.self.inside.words.items in
    let at = c.args.number / 64 in
    let below : c.args.number < c.self.inside.count = omega (arith, c.requires, ap length c.self.view_is, marks_count c.self.inside.count words) in
    let inside : at < length words = omega (arith, below, c.self.invariant.whole) in
    (one_more c.self.inside.count c.args.number words c.index.result.now c.self.invariant.spare below inside (get_or_read words at c.index.result.now inside c.index.ensures 0)).others n ne
    ∙ ap (λ s. is_pending s n) c.self.view_is
