-- What the fields of a `PairScope` mean, and what holds of them.
use Rattle.std.specs.Prelude.{◌≡◌, length, filter}
use Rattle.net_model.specs.Circuit.{line_count}
use Rattle.net_model.specs.Fault.{IsFaultOf}
use Rattle.net_model.specs.Scope.{is_split, is_relevant, is_reached, relevant_lines, reached_positions}
use Rattle.event_queue.specs.Pending.{IsEmpty}
use Rattle.pair_scope.specs.Listed.{IsListed}
use Rattle.pair_scope.specs.Places.{ArePlaced}
use Rattle.pair_scope.specs.PairScope.{PairScope, pair_scope}
use Rattle.pair_scope.specs.declared.scope.PairScope.TheInside.{Inside}

abbrev pub pair_scope_of : Inside → PairScope
pair_scope_of a = pair_scope a.places.circuit.now a.f a.g

pub record AreScopeFields (a : Inside) : Type 0 where
  pub placed : ArePlaced a.places
  pub first : IsFaultOf a.places.circuit.now a.f
  pub second : IsFaultOf a.places.circuit.now a.g
  pub split : IsListed (line_count a.places.circuit.now) (is_split a.places.circuit.now a.f a.g) (filter (is_split a.places.circuit.now a.f a.g) a.places.lines.items) a.split
  pub reached : IsListed (length a.places.circuit.now.positions) (is_reached a.places.circuit.now a.f a.g) (reached_positions a.places.circuit.now a.f a.g) a.reached
  pub relevant : IsListed (line_count a.places.circuit.now) (is_relevant a.places.circuit.now a.f a.g) (relevant_lines a.places.circuit.now a.f a.g) a.relevant
  pub waiting_room : length a.waiting ≡ line_count a.places.circuit.now
  pub none_waits : IsEmpty a.waiting
  pub found_room : length a.found ≡ line_count a.places.circuit.now
  pub none_found : IsEmpty a.found
  pub positions_room : length a.positions ≡ length a.places.circuit.now.positions
  pub no_position_waits : IsEmpty a.positions
