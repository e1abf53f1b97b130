use Rattle.std.proofs.Common.{◌≡◌, ◌<◌, ◌∙◌, length, get_or, sym, arith, subst}
use Rattle.std.specs.Prelude.{Contains}
use Rattle.std.specs.List.{range_with_len}
use Rattle.std.proofs.lemmas.List.Elements.{Contains-get_or}
use Rattle.net_model.specs.Circuit.{line_count}
use Rattle.net_model.specs.Fault.{IsFaultOf}
use Rattle.net_model.specs.Scope.{is_split, is_reached, reached_positions}
use Rattle.net_model.proofs.Elements.{Contains-from_filter}
use Rattle.event_queue.specs.Pending.{is_pending}
use Rattle.pair_scope.specs.Listed.{IsListed}
use Rattle.pair_scope.specs.PairScope.{PairScope}
use Rattle.pair_scope.proofs.ListedLemmas.{are_listed, range_inside, reached_are_listed, relevant_are_listed, reached_alike, relevant_alike, shown_relevant}
use Rattle.pair_scope.proofs.PlaceLemmas.{lines_all, lines_inside}
use Rattle.pair_scope.proofs.scope.PairScope.show.Goals as goal

pub clear-requires : goal.clear-requires
clear-requires c =
    let a = c.self.inside in
    let circuit = a.places.circuit.now in
    let lines = a.places.lines.items in
    let placed = c.self.invariant.placed in
    are_listed (line_count circuit) (is_split circuit a.f a.g) lines a.split (lines_all circuit a.places.wiring.now placed.wired lines placed.are) (lines_inside circuit a.places.wiring.now placed.wired lines placed.are) c.self.invariant.split

pub clear-requires-2 : goal.clear-requires-2
clear-requires-2 c =
    let a = c.self.inside in
    reached_are_listed a.places.circuit.now a.f a.g a.reached c.self.invariant.reached

pub clear-requires-3 : goal.clear-requires-3
clear-requires-3 c =
    let a = c.self.inside in
    relevant_are_listed a.places.circuit.now a.f a.g a.relevant c.self.invariant.relevant

pub find_relevant-requires-clause-reached : goal.find_relevant-requires-clause-reached
find_relevant-requires-clause-reached c = λ k d h.
    let queue = c.wake_reached.new.positions in
    let list = c.as_slice-reached.result.now in
    let at = get_or list k d in
    let m = subst (λ xs. Contains xs at) (c.as_slice-reached.ensures.value ∙ c.drain.ensures.listed.numbers) (Contains-get_or list k d h) in
    let below : at < length queue = range_inside (length queue) at (Contains-from_filter (is_pending queue) (range_with_len 0 (length queue)) at m).0 in
    omega (arith, below, c.wake_reached.ensures.room, c.self.invariant.positions_room)

pub invariant_of-self : goal.invariant_of-self
invariant_of-self c =
    let a = c.self.inside in
    let circuit = a.places.circuit.now in
    let f = c.args.f in
    let g = c.args.g in
    let was = c.self.invariant in
    let reached : IsListed (length circuit.positions) (is_reached circuit f g) (reached_positions circuit f g) c.drain.new.self =
    reached_alike circuit f g c.drain.new.self c.wake_reached.new.positions (c.wake_reached.ensures.room ∙ was.positions_room) c.wake_reached.ensures.reached c.drain.ensures.listed in
    let shown : c.as_slice-reached.result.now ≡ reached_positions circuit f g = c.as_slice-reached.ensures.value ∙ reached.numbers in
    record {
      placed = was.placed;
      first = subst (λ (s : PairScope). IsFaultOf s.circuit f) (sym c.self.view_is) c.requires.first;
      second = subst (λ (s : PairScope). IsFaultOf s.circuit g) (sym c.self.view_is) c.requires.second;
      split = c.list_split.ensures.split;
      reached = reached;
      relevant = relevant_alike circuit f g c.drain-2.new.self c.find_relevant.new.found (c.find_relevant.ensures.found_room ∙ was.found_room)
          (λ line h. c.find_relevant.ensures.found line h ∙ shown_relevant circuit f g c.as_slice-reached.result.now shown line) c.drain-2.ensures.listed;
      waiting_room = c.find_relevant.ensures.room ∙ c.list_split.ensures.room ∙ was.waiting_room;
      none_waits = c.find_relevant.ensures.none;
      found_room = c.drain-2.ensures.room ∙ c.find_relevant.ensures.found_room ∙ was.found_room;
      none_found = c.drain-2.ensures.none;
      positions_room = c.drain.ensures.room ∙ c.wake_reached.ensures.room ∙ was.positions_room;
      no_position_waits = c.drain.ensures.none;
    }
