use Rattle.std.proofs.Common.{◌≡◌, ◌≢◌, ◌<◌, ◌≤◌, ◌-◌, ◌∙◌, ◌∷◌, [], ◌++◌, ℕ, length, set, true, false, sym, ap, arith, inl, inr}
use Rattle.std.specs.List.{range_with_len}
use Rattle.std.proofs.lemmas.Bool.{cases_eq, cases_lt, false_from_ne_true}
use Rattle.std.proofs.lemmas.List.{get_or-set_same, get_or-set_other, length-set}
use Rattle.std.proofs.lemmas.List.FromFn.{length-range_with_len}
use Rattle.net_model.specs.Answer.{bit_at}
use Rattle.net_model.proofs.Elements.{length-filter-le}
use Rattle.event_queue.specs.Pending.{is_pending, IsLowest}
use Rattle.event_queue.proofs.Marks.{lowest_left}
use Rattle.net_model.proofs.Filtered.{range_gap, range_next}
use Rattle.pair_scope.proofs.listed.Listed.drain.Goals as goal

pub push-requires-clause-room : goal.push-requires-clause-room
push-requires-clause-room c =
    let was = c.loop-number.invariant in
    let earlier = range_with_len 0 c.loop-number.from in
    omega (
      arith,
      c.in-Some.ensures.above,
      c.in-Some.ensures.within,
      was.room,
      ap length was.numbers,
      length-filter-le (is_pending c.args.queue.now) earlier,
      length-range_with_len 0 c.loop-number.from,
    )

pub loop-number-preserved : goal.loop-number-preserved
loop-number-preserved c =
    let was = c.loop-number.invariant in
    let from = c.loop-number.from in
    let queue = c.loop-number.queue in
    let taken = c.take_lowest.new.self in
    let marks = c.loop-number.self.marks.items in
    let number = c.in-Some.number in
    let all = c.args.queue.now in
    let lowest : IsLowest queue taken number = c.in-Some.ensures.cases in
    let inside : number < length all = omega (arith, c.in-Some.ensures.within) in
    let low : from ≤ number = c.in-Some.ensures.above in
    let passes : is_pending all number ≡ true = sym (was.next number low) ∙ lowest.was in
    let gap : (n : ℕ) → from ≤ n → n < number → is_pending all n ≡ false = λ n above h. sym (was.next n above) ∙ lowest.lower n h in
    let marked : c.push.new.self.marks.items ≡ set marks number true = c.push.ensures.marks in
    let others : (n : ℕ) → n ≢ number → bit_at c.push.new.self.marks.items n ≡ bit_at marks n = λ n ne. ap (λ xs. bit_at xs n) marked ∙ get_or-set_other marks number n true false ne in
    record {
      from = omega (arith, inside);
      queue_room = c.in-Some.ensures.room ∙ was.queue_room;
      low = λ n h. false_from_ne_true (is_pending taken n) (λ t. let up = (lowest_left queue taken number lowest n t).0 in omega (arith, up, h));
      next = λ n above. lowest.others n (let ne : n ≢ number = omega (arith, above) in ne) ∙ was.next n (omega (arith, above, low));
      numbers = c.push.ensures.numbers ∙ ap (λ xs. xs ++ number ∷ []) was.numbers ∙ sym (range_next (is_pending all) from number low gap passes);
      room = omega (arith, was.room, c.push.ensures.room);
      whole = ap length marked ∙ length-set marks number true ∙ was.whole;
      before = λ n h. elim (cases_eq n number) [
        | inl same ↦
            ap (bit_at c.push.new.self.marks.items) same ∙ ap (λ xs. bit_at xs number) marked ∙ get_or-set_same marks number true false (omega (arith, inside, was.whole))
            ∙ sym (ap (is_pending all) same ∙ passes)
        | inr ne ↦ others n ne ∙ elim (cases_lt n from) [
          | inl under ↦ was.before n under
          | inr over ↦ was.behind n over (omega (arith, h, inside)) ∙ sym (gap n over (omega (arith, h, ne)))
        ]
      ];
      behind = λ n above h. others n (let ne : n ≢ number = omega (arith, above) in ne) ∙ was.behind n (omega (arith, above, low)) h;
    }

pub returns-clause-listed : goal.returns-clause-listed
returns-clause-listed c =
    let was = c.loop-number.invariant in
    let from = c.loop-number.from in
    let all = c.args.queue.now in
    let count = length all in
    let none : (n : ℕ) → from ≤ n → is_pending all n ≡ false = λ n over. sym (was.next n over) ∙ c.in_default.ensures.cases.0 n in
    record {
      whole = was.whole;
      marks = λ n h. elim (cases_lt n from) [
        | inl under ↦ was.before n under
        | inr over ↦ was.behind n over h ∙ sym (none n over)
      ];
      numbers = was.numbers ∙ sym (range_gap (is_pending all) (count - from) from count (omega (arith, was.from)) (λ n over h. none n over));
      room = was.room;
    }
