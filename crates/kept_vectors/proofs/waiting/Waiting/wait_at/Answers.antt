use Rattle.std.proofs.Common.{◌≡◌, ◌∙◌, ◌+◌, ◌<◌, ◌∷◌, ◌++◌, ℕ, List, Bool, [], length, take, get_or, cond, length-set, sym, ap, subst, arith, true, false}
use Rattle.std.specs.Prelude.{filter, Contains}
use Rattle.std.proofs.lemmas.List.{take_all, append-nil, get_or_default, get_or-set_same}
use Rattle.std.proofs.lemmas.List.Elements.{filter_more}
use Rattle.net_model.specs.Answer.{bit_at}
use Rattle.net_model.proofs.Elements.{Contains-filter, Contains-from_filter}
use Rattle.kept_vectors.specs.declared.waiting.Waiting.{Waiting}
use Rattle.kept_vectors.proofs.waiting.Waiting.wait_at.Goals as goal
use Rattle.kept_vectors.proofs.waiting.Waiting.wait_at.Goals.{After-loop-number, then-get+in_ok-push, else-get}

-- whether the row of a number has the lane
abbrev has_lane : List (List Bool) → ℕ → ℕ → Bool
has_lane rows lane n = bit_at (get_or rows n []) lane

-- one number more
more_wait : (rows : List (List Bool)) (numbers : List ℕ) (lane k : ℕ) (b : Bool) → k < length numbers → has_lane rows lane (get_or numbers k 0) ≡ b
    → filter (has_lane rows lane) (take (k + 1) numbers) ≡ filter (has_lane rows lane) (take k numbers) ++ cond b (get_or numbers k 0 ∷ []) []
more_wait rows numbers lane k b inside is =
    filter_more (has_lane rows lane) numbers k 0 inside ∙ ap (λ (x : Bool). filter (has_lane rows lane) (take k numbers) ++ cond x (get_or numbers k 0 ∷ []) []) is

-- those that wait at the end
all_wait : (c : After-loop-number) → get_or c.loop-number.self.lanes.items c.args.lane [] ≡ filter (has_lane c.args.rows.now c.args.lane) c.args.numbers.now
all_wait c = c.loop-number.invariant.waits ∙ ap (filter (has_lane c.args.rows.now c.args.lane)) (take_all c.loop-number.number-index c.args.numbers.now c.loop-number-test.false)

pub loop-number-init : goal.loop-number-init
loop-number-init c = record {
  count = c.clear.ensures.count ∙ c.requires.lanes;
  waits = c.clear.ensures.empty c.args.lane [] (omega (arith, c.clear.ensures.count, c.requires.lanes, c.requires.few));
}

pub loop-number-preserved : goal.loop-number-preserved
loop-number-preserved c =
    let rows = c.args.rows.now in
    let numbers = c.args.numbers.now in
    let lane = c.args.lane in
    let k = c.loop-number.number-index in
    let number = get_or numbers k 0 in
    let old = c.loop-number.self.lanes.items in
    let before : List ℕ = filter (has_lane rows lane) (take k numbers) in
    let so_far = c.loop-number.invariant in
    let below = c.requires.below k 0 c.loop-number-test.true in
    let bit : c.get.result ≡ has_lane rows lane number = c.get.ensures.value ∙ ap (λ (row : List Bool). bit_at row lane) (c.index-rows-number.is ∙ get_or_default rows number c.index-rows-number.result [] below) in
    elim c.if-get.branch [
      | then-get+in_ok-push w ↦
          let value : w.index_mut.result.now ≡ before = w.index_mut.ensures.value ∙ get_or_default old lane w.index_mut.result.now [] (omega (arith, c.requires.few, so_far.count)) ∙ so_far.waits in
          let pushed : w.push.new.self ≡ before ++ number ∷ [] = w.in_ok-push.ensures ∙ ap (λ (ns : List ℕ). ns ++ number ∷ []) value in
          let more = more_wait rows numbers lane k true c.loop-number-test.true (sym bit ∙ w.if-get.true) in
          record {
            count = ap (λ (s : Waiting). length s.lanes.items) w.self-is ∙ length-set old lane w.push.new.self ∙ so_far.count;
            waits = ap (λ (s : Waiting). get_or s.lanes.items lane []) w.self-is ∙ get_or-set_same old lane w.push.new.self [] (omega (arith, c.requires.few, so_far.count)) ∙ pushed ∙ sym more;
          }
      | else-get w ↦
          let more = more_wait rows numbers lane k false c.loop-number-test.true (sym bit ∙ w.if-get.false) in
          record {
            count = ap (λ (s : Waiting). length s.lanes.items) w.self-is ∙ so_far.count;
            waits = ap (λ (s : Waiting). get_or s.lanes.items lane []) w.self-is ∙ so_far.waits ∙ sym (append-nil before) ∙ sym more;
          }
    ]

pub returns-clause-right : goal.returns-clause-right
returns-clause-right c = λ n has.
    let e = all_wait (goal.at.returns-clause-right c).After-loop-number in
    Contains-from_filter (has_lane c.args.rows.now c.args.lane) c.args.numbers.now n (subst (λ (ns : List ℕ). Contains ns n) e has)

pub returns-clause-all : goal.returns-clause-all
returns-clause-all c = λ n has bit.
    let e = all_wait (goal.at.returns-clause-all c).After-loop-number in
    subst (λ (ns : List ℕ). Contains ns n) (sym e) (Contains-filter (has_lane c.args.rows.now c.args.lane) c.args.numbers.now n has bit)
