use Rattle.std.proofs.Common.{◌≡◌, ◌∙◌, ◌<◌, ◌+◌, ◌-◌, ℕ, List, length, get_or, ap, subst, arith, length-append}
use Rattle.std.proofs.lemmas.List.{get_or_read, take_all}
use Rattle.net_model.specs.Topological.{parts_circuit, users_at, IsTold, IsQueue}
use Rattle.net_model.proofs.QueueEnd.{queue_short}
use Rattle.net_model.proofs.QueueSteps.{head_gate, enough, queue_step}
use Rattle.net_model.proofs.topological.sorted.Goals as goal

pub at-requires : goal.at-requires
at-requires c =
    let order = c.loop-head.queue.order in
    let head = c.loop-head.head in
    let here : head < length order.items = omega (arith, c.loop-head-test.true, c.len.ensures, order.ok.0) in
    let gate = head_gate (parts_circuit c.args.parts.now) c.args.readers.now c.requires.readers head c.loop-head.queue.waits.items order.items c.loop-head.invariant.queue here in
    omega (arith, gate, get_or_read order.items head c.index-line.result.now here c.index-line.ensures 0, c.requires.readers.whole)

pub tell-requires-clause-enough : goal.tell-requires-clause-enough
tell-requires-clause-enough c =
    let order = c.loop-head.queue.order in
    let head = c.loop-head.head in
    let here : head < length order.items = omega (arith, c.loop-head-test.true, c.len.ensures, order.ok.0) in
    rw (c.at.ensures, get_or_read order.items head c.index-line.result.now here c.index-line.ensures 0)
    (enough (parts_circuit c.args.parts.now) c.args.readers.now c.requires.readers head c.loop-head.queue.waits.items order.items c.loop-head.invariant.queue here)

pub loop-head-smaller : goal.loop-head-smaller
loop-head-smaller c =
    let circuit = parts_circuit c.args.parts.now in
    let order = c.loop-head.queue.order in
    let head = c.loop-head.head in
    let short = queue_short circuit _ c.loop-head.queue.waits.items order.items c.loop-head.invariant.queue in
    let smaller : length circuit.gates - (head + 1) < length circuit.gates - head = omega (arith, c.loop-head-test.true, c.len.ensures, order.ok.0, short) in
    smaller

pub loop-head-preserved : goal.loop-head-preserved
loop-head-preserved c =
    let order = c.loop-head.queue.order in
    let waits = c.loop-head.queue.waits in
    let head = c.loop-head.head in
    let here : head < length order.items = omega (arith, c.loop-head-test.true, c.len.ensures, order.ok.0) in
    let readers : c.at.result.now ≡ users_at c.args.readers.now (get_or order.items head 0) =
    c.at.ensures ∙ ap (users_at c.args.readers.now) (get_or_read order.items head c.index-line.result.now here c.index-line.ensures 0) in
    let told = subst (λ (rs : List ℕ). IsTold rs waits.items c.tell.new.self.waits.items order.items c.tell.new.self.order.items) readers c.in_ok-tell.ensures in
    record {
      within = omega (arith, ap length told.extends, length-append order.items told.more, here);
      queue = queue_step (parts_circuit c.args.parts.now) c.args.readers.now c.requires.readers head waits.items order.items c.loop-head.invariant.queue here c.tell.new.self.waits.items c.tell.new.self.order.items told;
    }

pub loop-head-init : goal.loop-head-init
loop-head-init c = record { within = omega arith; queue = c.in_ok-queue.ensures }

pub index-line-requires : goal.index-line-requires
index-line-requires c = omega (arith, c.loop-head-test.true, c.len.ensures)

pub returns : goal.returns
returns c =
    let queue = c.loop-head.queue in
    subst (λ told. IsQueue (parts_circuit c.args.parts.now) told queue.waits.items queue.order.items)
    (take_all c.loop-head.head queue.order.items (omega (arith, c.loop-head-test.false, c.len.ensures, queue.order.ok.0))) c.loop-head.invariant.queue
