use Rattle.std.proofs.Common.{◌∙◌, ◌+◌, ℕ, List, length, sym, subst}
use Rattle.net_model.specs.Topological.{parts_circuit}
use Rattle.net_model.specs.Wiring.{AreUsers, reads_at}
use Rattle.net_model.proofs.DestinationCounts.{destination_count}
use Rattle.net_model.proofs.Orders.{is_circuit-order}
use Rattle.net_model.proofs.wiring.wiring_of.Goals as goal

pub reader_places-requires-clause-order : goal.reader_places-requires-clause-order
reader_places-requires-clause-order c = rw c.as_slice.ensures.value c.requires.order

pub reader_places-requires-clause-distinct : goal.reader_places-requires-clause-distinct
reader_places-requires-clause-distinct c = rw c.as_slice.ensures.value c.requires.distinct

pub returns : goal.returns
returns c =
    let circuit = parts_circuit c.args.parts.now in
    let order = c.args.order.items in
    let users = λ (order : List ℕ). AreUsers (length order) (reads_at circuit order) c.in_ok-readers.readers in
    record {
      circuit = is_circuit-order circuit c.requires.fits order c.requires.order;
      order = c.requires.order;
      readers = subst users c.as_slice.ensures.value c.in_ok-readers.ensures.users;
      showing = c.in_ok-showing.ensures.users;
      readers_whole = c.in_ok-readers.ensures.whole;
      showing_whole = c.in_ok-showing.ensures.whole;
      fanout = λ line h. (λ i. c.in_ok-readers.ensures.long line h i + c.in_ok-showing.ensures.long line i) ∙ sym (destination_count circuit line);
    }
