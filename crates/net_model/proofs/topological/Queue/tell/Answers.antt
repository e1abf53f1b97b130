use Rattle.std.proofs.Common.{◌≡◌, ◌∙◌, ◌-◌, [], take, get_or, refl, sym, ap, subst, arith}
use Rattle.std.proofs.lemmas.List.{append-nil, get_or_read, take_more, take_all}
use Rattle.net_model.specs.Topological.{IsTold}
use Rattle.net_model.proofs.QueueSteps.{enough_so_far, reader_inside, reader_is_line, reader_is_open, told_closed, told_queued}
use Rattle.net_model.proofs.topological.Queue.tell.Goals as goal
use Rattle.net_model.proofs.topological.Queue.tell.Goals.{then-waits-eq0+in_ok-push, else-waits-eq0}

pub index-requires : goal.index-requires
index-requires c = omega (arith, c.loop-reader.self.waits.ok.0, reader_is_line c.args.readers.now c.loop-reader.reader-index c.loop-reader-test.true c.requires.enough c.loop-reader.invariant)

pub overflow_sub-waits : goal.overflow_sub-waits
overflow_sub-waits c =
    let inside = reader_is_line c.args.readers.now c.loop-reader.reader-index c.loop-reader-test.true c.requires.enough c.loop-reader.invariant in
    let some = reader_is_open c.args.readers.now c.loop-reader.reader-index c.loop-reader-test.true c.requires.enough c.loop-reader.invariant in
    omega (arith, some, get_or_read c.loop-reader.self.waits.items (get_or c.args.readers.now c.loop-reader.reader-index 0) c.index.result.now inside c.index.ensures 0)

pub index_mut-requires : goal.index_mut-requires
index_mut-requires c = omega (arith, c.loop-reader.self.waits.ok.0, reader_is_line c.args.readers.now c.loop-reader.reader-index c.loop-reader-test.true c.requires.enough c.loop-reader.invariant)

pub loop-reader-preserved : goal.loop-reader-preserved
loop-reader-preserved c =
    let readers = c.args.readers.now in
    let i = c.loop-reader.reader-index in
    let reader = get_or readers i 0 in
    let old = c.args.self.now.waits.items in
    let waits = c.loop-reader.self.waits.items in
    let order = c.args.self.now.order.items in
    let longer = c.loop-reader.self.order.items in
    let enough = enough_so_far readers old i c.loop-reader-test.true c.requires.enough in
    let inside = reader_inside (take i readers) old waits order longer reader c.loop-reader.invariant enough in
    let left : c.index.result.now - 1 ≡ get_or waits reader 0 - 1 = ap (λ n. n - 1) (get_or_read waits reader c.index.result.now inside c.index.ensures 0) in
    rw (take_more readers i 0 c.loop-reader-test.true)
    (elim c.if-waits-eq0.branch [
      | then-waits-eq0+in_ok-push w ↦
          told_queued (take i readers) old waits order longer reader c.loop-reader.invariant enough (c.index.result.now - 1) c.if-waits-eq0.self.waits.items c.if-waits-eq0.self.order.items
          left (ap (λ q. q.waits.items) w.self-is) (w.if-waits-eq0.true, ap (λ q. q.order.items) w.self-is ∙ w.in_ok-push.ensures.items)
      | else-waits-eq0 w ↦
          told_closed (take i readers) old waits order longer reader c.loop-reader.invariant enough (c.index.result.now - 1) c.if-waits-eq0.self.waits.items c.if-waits-eq0.self.order.items
          left (ap (λ q. q.waits.items) w.self-is) (w.if-waits-eq0.false, ap (λ q. q.order.items) w.self-is)
    ])

pub loop-reader-init : goal.loop-reader-init
loop-reader-init c = record {
  whole = refl;
  fewer = λ line. omega arith;
  more = [];
  extends = sym (append-nil c.args.self.now.order.items);
  only = λ line m. m;
  all = λ line m none. absurd (omega (arith, m.1));
  ready = c.requires.ready;
}

pub returns : goal.returns
returns c =
    let old = c.args.self.now in
    let new = c.loop-reader.self in
    subst (λ rs. IsTold rs old.waits.items new.waits.items old.order.items new.order.items) (take_all c.loop-reader.reader-index c.args.readers.now c.loop-reader-test.false) c.loop-reader.invariant
