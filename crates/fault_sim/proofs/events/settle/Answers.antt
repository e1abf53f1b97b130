use Rattle.std.proofs.Common.{◌≡◌, ◌<◌, ◌∙◌, ℕ, [], length, get_or, sym, ap, arith, subst, inl, inr}
use Rattle.std.specs.Prelude.{Contains}
use Rattle.std.proofs.lemmas.List.{length-set, length_push, get_or-set_other}
use Rattle.std.proofs.lemmas.List.Elements.{Contains-get_or}
use Rattle.net_model.specs.Gate.{inverted}
use Rattle.net_model.specs.Answer.{bit_at}
use Rattle.word_sim.specs.declared.lanes.TheConstants.{LANES}
use Rattle.fault_sim.specs.Rows.{Rows}
use Rattle.fault_sim.specs.TurnedLines.{IsSettled}
use Rattle.fault_sim.specs.Events.{AreFalsePast}
use Rattle.fault_sim.proofs.SettledLemmas.{inverted_false, none_true, past_set, settled_same, settled_here, settled_apart, idle_unread}
use Rattle.fault_sim.proofs.events.settle.Goals as goal

pub returns-then-not-any-clause-settled : goal.returns-then-not-any-clause-settled
returns-then-not-any-clause-settled c =
    let good = c.args.good.now in
    let rows = c.args.rows.now.rows in
    let line = c.args.line in
    let row = c.line_change-row.result in
    let inside : line < length rows = omega (arith, c.requires.underway.width, c.requires.line) in
    let same : (lane : ℕ) → lane < LANES → bit_at (get_or rows line []) lane ≡ bit_at row lane =
    λ lane h. inverted_false (bit_at (get_or rows line []) lane) (bit_at row lane)
    (sym (c.xor.ensures lane h ∙ ap (λ r. inverted (bit_at r lane) (bit_at row lane)) c.row.ensures) ∙ none_true c.xor.result c.any.result c.any.ensures c.if-not-any.true lane h) in
    settled_same good rows line row inside (rw c.as_slice.ensures.value at c.line_change-row.ensures.live) same

pub returns-then-not-any-clause-stay : goal.returns-then-not-any-clause-stay
returns-then-not-any-clause-stay c = λ line within ne idle was. was

pub wake-requires : goal.wake-requires
wake-requires c = λ k d h.
    let line = c.args.line in
    let users = c.readers.result.now in
    let below = c.requires.wiring.readers.below line (get_or users k d) (subst (λ us. Contains us (get_or users k d)) c.readers.ensures (Contains-get_or users k d h)) in
    omega (arith, below, c.requires.underway.queue_room)

pub returns-clause-pending : goal.returns-clause-pending
returns-clause-pending c = λ place t.
    let line = c.args.line in
    elim (c.wake.ensures.only place t) [
      | inl was ↦ inl was
      | inr woken ↦
          let has = subst (λ us. Contains us place) c.readers.ensures woken in
          inr (c.requires.wiring.readers.below line place has, c.requires.wiring.readers.only line place has)
    ]

pub returns-clause-settled : goal.returns-clause-settled
returns-clause-settled c =
    let good = c.args.good.now in
    let rows = c.args.rows.now.rows in
    let line = c.args.line in
    let inside : line < length rows = omega (arith, c.requires.underway.width, c.requires.line) in
    subst (λ r. IsSettled good r line) (sym (ap (λ r. r.rows) c.set.ensures))
    (settled_here good c.requires.wiring.circuit rows line c.line_change-row.result c.requires.underway.width inside (rw c.as_slice.ensures.value at c.line_change-row.ensures.live))

pub returns-clause-stay : goal.returns-clause-stay
returns-clause-stay c = λ l within ne idle was.
    let good = c.args.good.now in
    let rows = c.args.rows.now.rows in
    let line = c.args.line in
    let inside : line < length rows = omega (arith, c.requires.underway.width, c.requires.line) in
    subst (λ r. IsSettled good r l) (sym (ap (λ r. r.rows) c.set.ensures))
    (settled_apart good c.requires.wiring.circuit rows line c.line_change-row.result c.requires.underway.width inside l within ne
    (idle_unread good.circuit c.args.wiring.now c.requires.wiring c.wake.new.self line (λ n has. c.wake.ensures.here n (subst (λ us. Contains us n) (sym c.readers.ensures) has)) l idle) was)

pub returns-clause-others : goal.returns-clause-others
returns-clause-others c = λ other ne.
    ap (λ (r : Rows). get_or r.rows other []) c.set.ensures ∙ get_or-set_other c.args.rows.now.rows c.args.line other c.line_change-row.result [] ne

pub returns-clause-listed : goal.returns-clause-listed
returns-clause-listed c = omega (arith, ap (λ (r : Rows). length r.listed) c.set.ensures, length_push c.args.rows.now.listed c.args.line)

pub returns-clause-underway : goal.returns-clause-underway
returns-clause-underway c =
    let was = c.requires.underway in
    let rows = c.args.rows.now.rows in
    let line = c.args.line in
    let row = c.line_change-row.result in
    let new = ap (λ (r : Rows). r.rows) c.set.ensures in
    record {
      width = ap length new ∙ length-set rows line row ∙ was.width;
      queue_room = omega (arith, was.queue_room, c.wake.ensures.room);
      past = subst (AreFalsePast c.args.good.now) (sym new) (past_set c.args.good.now rows line row was.past c.line_change-row.ensures.past);
    }

pub returns-then-not-any-clause-pending : goal.returns-then-not-any-clause-pending
returns-then-not-any-clause-pending c = λ place was. inl was

pub returns-then-not-any-clause-underway : goal.returns-then-not-any-clause-underway
returns-then-not-any-clause-underway c = c.requires.underway

pub set-requires-clause-within : goal.set-requires-clause-within
set-requires-clause-within c = omega (arith, c.requires.underway.width, c.requires.line)
