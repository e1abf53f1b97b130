use Rattle.std.proofs.Common.{◌≡◌, ◌≢◌, ◌<◌, ◌≤◌, ◌+◌, ◌-◌, ◌∙◌, ◌∷◌, [], ◌++◌, ℕ, length, get_or, set, true, false, sym, ap, arith, subst, inl, inr}
use Rattle.std.specs.Prelude.{if◌then◌else◌}
use Rattle.std.specs.List.{range_with_len}
use Rattle.std.proofs.lemmas.Bool.{cases_eq, cases_lt, false_from_ne_true}
use Rattle.std.proofs.lemmas.List.{get_or-set_other, length-set}
use Rattle.std.proofs.lemmas.List.Sums.{count_by-le-length, length-filter}
use Rattle.std.proofs.lemmas.List.FromFn.{length-range_with_len}
use Rattle.net_model.specs.Scope.{is_reached, reached_positions}
use Rattle.net_model.proofs.Filtered.{range_gap, range_next}
use Rattle.event_queue.specs.Pending.{is_pending, IsLowest}
use Rattle.event_queue.proofs.Marks.{lowest_left}
use Rattle.pair_sets.specs.PairSet.{free_pairs}
use Rattle.pair_sets.specs.CubeState.{position_pairs}
use Rattle.pair_sets.specs.Tally.{kept_pairs, IsShownAt}
use Rattle.pair_sets.proofs.TallyLemmas.{put_here, put_kept, shown_unreached}
use Rattle.pair_sets.proofs.tally.Tally.fill.Goals as goal

pub push_reserved-requires : goal.push_reserved-requires
push_reserved-requires c =
    let circuit = c.args.pair.now.circuit.now in
    let test = is_reached circuit c.args.pair.now.f c.args.pair.now.g in
    let was = c.loop-at.invariant in
    let earlier = range_with_len 0 c.loop-at.from in
    omega (
      arith,
      c.in-Some.ensures.above,
      c.in-Some.ensures.within,
      was.queue_room,
      was.room,
      ap length was.reached,
      length-filter test earlier,
      count_by-le-length test earlier,
      length-range_with_len 0 c.loop-at.from,
      c.loop-at.self.reached.ok.0,
    )

pub loop-at-preserved : goal.loop-at-preserved
loop-at-preserved c =
    let was = c.loop-at.invariant in
    let from = c.loop-at.from in
    let at = c.in-Some.at in
    let circuit = c.args.pair.now.circuit.now in
    let f = c.args.pair.now.f in
    let g = c.args.pair.now.g in
    let sets = c.args.sets.now in
    let test = is_reached circuit f g in
    let waiting = c.loop-at.self.waiting in
    let taken = c.take_lowest.new.self in
    let shown = c.loop-at.self.shown in
    let pairs = c.position_pairs.result in
    let lowest : IsLowest waiting taken at = c.in-Some.ensures.cases in
    let inside : at < length circuit.positions = omega (arith, c.in-Some.ensures.within, was.queue_room) in
    let low : from ≤ at = c.in-Some.ensures.above in
    let passes : test at ≡ true = sym (was.next at low inside) ∙ lowest.was in
    let gap : (n : ℕ) → from ≤ n → n < at → test n ≡ false = λ n above h. sym (was.next n above (omega (arith, h, inside))) ∙ lowest.lower n h in
    let is : pairs ≡ kept_pairs circuit f g sets at = c.position_pairs.ensures ∙ sym (ap (λ b. if b then position_pairs circuit f g sets at else free_pairs) passes) in
    let within : at < length shown = omega (arith, inside, was.whole) in
    let kept = put_kept circuit f g sets shown at pairs within is in
    record {
      from = omega (arith, inside);
      queue_room = c.in-Some.ensures.room ∙ was.queue_room;
      low = λ n h. false_from_ne_true (is_pending taken n) (λ t. let up = (lowest_left waiting taken at lowest n t).0 in omega (arith, up, h));
      next = λ n above h. lowest.others n (let ne : n ≢ at = omega (arith, above) in ne) ∙ was.next n (omega (arith, above, low)) h;
      reached = c.push_reserved.ensures.items ∙ ap (λ xs. xs ++ at ∷ []) was.reached ∙ sym (range_next test from at low gap passes);
      room = omega (arith, was.room, c.push_reserved.ensures.capacity);
      whole = ap length c.put.ensures ∙ length-set shown at pairs ∙ was.whole;
      before = λ n h. subst (λ xs. IsShownAt circuit f g sets xs n) (sym c.put.ensures) (elim (cases_eq n at) [
        | inl same ↦ subst (IsShownAt circuit f g sets (set shown at pairs)) (sym same) (put_here circuit f g sets shown at pairs within is)
        | inr ne ↦ elim (cases_lt n from) [
          | inl under ↦ kept n (was.before n under)
          | inr over ↦ kept n (shown_unreached circuit f g sets shown n (gap n over (omega (arith, h, ne))) (was.behind n over))
        ]
      ]);
      behind = λ n h.
          ap (λ xs. get_or xs n free_pairs) c.put.ensures ∙ get_or-set_other shown at n pairs free_pairs (let ne : n ≢ at = omega (arith, h) in ne)
          ∙ was.behind n (omega (arith, h, low));
    }

pub returns-clause-tally : goal.returns-clause-tally
unfolding reached_positions
returns-clause-tally c =
    let circuit = c.args.pair.now.circuit.now in
    let test = is_reached circuit c.args.pair.now.f c.args.pair.now.g in
    let count = length circuit.positions in
    let from = c.loop-at.from in
    let was = c.loop-at.invariant in
    record {
      reached = was.reached ∙ sym (range_gap test (count - from) from count (omega (arith, was.from)) (λ n above h. sym (was.next n above h) ∙ c.in_default.ensures.cases.0 n));
      places = record {
        whole = was.whole;
        none_waits = c.in_default.ensures.cases.1;
        queue_room = c.in_default.ensures.room ∙ was.queue_room;
        room = was.room;
      };
    }

pub returns-clause-shown : goal.returns-clause-shown
returns-clause-shown c = λ at h.
    let circuit = c.args.pair.now.circuit.now in
    let was = c.loop-at.invariant in
    elim (cases_lt at c.loop-at.from) [
      | inl under ↦ was.before at under
      | inr over ↦ shown_unreached circuit c.args.pair.now.f c.args.pair.now.g c.args.sets.now c.loop-at.self.shown at (sym (was.next at over h) ∙ c.in_default.ensures.cases.0 at) (was.behind at over)
    ]

pub loop-at-init : goal.loop-at-init
loop-at-init c =
    let places = c.requires.places in
    record {
      from = omega arith;
      queue_room = c.wake_reached.ensures.room ∙ places.queue_room;
      low = λ at h. absurd (omega (arith, h));
      next = λ at above h. c.wake_reached.ensures.reached at h;
      reached = c.requires.blank.reached;
      room = places.room;
      whole = places.whole;
      before = λ at h. absurd (omega (arith, h));
      behind = λ at h. c.requires.blank.free at;
    }
