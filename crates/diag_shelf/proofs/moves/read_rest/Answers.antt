use Rattle.std.proofs.Common.{refl, ap, ℕ, List, ◌≡◌, ◌+◌, ◌-◌, ◌<◌, ◌≤◌, ◌∙◌, ◌++◌, [], length, length-append, take, arith, rules}
use Rattle.std.specs.Prelude.{unwrap_or}
use Rattle.std.proofs.lemmas.List.{take-append-le, length-take}
use Rattle.diag_shelf.proofs.Steps.{facts_after_read, read_done, read_failed, read_unkept, read_full, read_ended, reads_more, whole_more, reads_on_few, on_error}
use Rattle.diag_shelf.proofs.moves.read_rest.Goals.{then-room, else-room}
use Rattle.diag_shelf.proofs.moves.read_rest.Goals as goal

pub loop-piece-preserved : goal.loop-piece-preserved
loop-piece-preserved g c =
    let past = c.loop-piece.invariant in
    let read = c.in_ok-count.ensures in
    let kept : c.extend_from_slice.new.self.items ≡ c.loop-piece.bytes.items ++ take c.in_ok-count.count c.read.new.piece =
    c.in_ok-extend_from_slice.ensures.items ∙ ap (λ (l : List ℕ). c.loop-piece.bytes.items ++ l) (take-append-le _ _ _ (search rules)) in
    record {
      within = search rules;
      facts = facts_after_read _ _ _ _ past.facts read.call;
      only = λ told. reads_more (past.only told) (read.taken (past.facts.tells ∙ told)).only;
      opened = λ told. (read.taken (past.facts.tells ∙ told)).still_opened;
      whole = λ told. whole_more _ _ (g.S.Shelf.state c.read.new.self).world.rest (past.whole told) (read.taken (past.facts.tells ∙ told)).rest kept;
    }

pub returns-in_err-count-clause-call : goal.returns-in_err-count-clause-call
returns-in_err-count-clause-call g c = read_failed _ _ _ _ _ c.loop-piece.invariant.facts c.in_err-count.ensures.call c.from_residual.ensures.1

pub returns-in_err-extend_from_slice-clause-call : goal.returns-in_err-extend_from_slice-clause-call
returns-in_err-extend_from_slice-clause-call g c =
    read_unkept _ _ _ (facts_after_read _ _ _ _ c.loop-piece.invariant.facts c.in_ok-count.ensures.call) c.from_residual-in_err-extend_from_slice.ensures.1

pub returns-in_err-extend_from_slice-clause-err : goal.returns-in_err-extend_from_slice-clause-err
returns-in_err-extend_from_slice-clause-err g c =
    let past = c.loop-piece.invariant in
    let read = c.in_ok-count.ensures in
    let count = c.in_ok-count.count in
    let piece = c.read.new.piece in
    let fits : count ≤ c.if-room.want = search rules in
    let room : c.if-room.want ≤ (c.args.limit + 1) - length c.loop-piece.bytes.items = elim c.if-room.branch [ then-room w ↦ omega (arith, w.want-is) | else-room w ↦ omega (arith, w.want-is, w.if-room.false) ] in
    let taken = take count piece in
    let within : length (c.loop-piece.bytes.items ++ taken) ≤ c.args.limit + 1 = omega (arith, fits, room, past.within, length-append c.loop-piece.bytes.items taken, length-take count piece) in
    on_error c.from_residual-in_err-extend_from_slice.result (λ told.
    let takes = read.taken (past.facts.tells ∙ told) in
    reads_on_few (c.loop-piece.bytes.items ++ taken) _ within (reads_more (past.only told) takes.only) takes.still_opened
    (whole_more _ _ (g.S.Shelf.state c.read.new.self).world.rest (past.whole told) takes.rest refl))

pub returns-after-loop-piece-clause-call : goal.returns-after-loop-piece-clause-call
returns-after-loop-piece-clause-call g c = read_done _ _ _ c.loop-piece.invariant.facts

pub returns-after-loop-piece-clause-bytes : goal.returns-after-loop-piece-clause-bytes
returns-after-loop-piece-clause-bytes g c = λ told.
    let past = c.loop-piece.invariant in
    (c.loop-piece.bytes.items ++ unwrap_or (g.S.Shelf.state c.loop-piece.shelf).world.rest [], past.whole told, read_full _ _ _ past.within (omega arith))

pub returns-then-count-eq0-clause-call : goal.returns-then-count-eq0-clause-call
returns-then-count-eq0-clause-call g c = read_done _ _ _ (facts_after_read _ _ _ _ c.loop-piece.invariant.facts c.in_ok-count.ensures.call)

pub returns-then-count-eq0-clause-bytes : goal.returns-then-count-eq0-clause-bytes
returns-then-count-eq0-clause-bytes g c = λ told.
    let past = c.loop-piece.invariant in
    let some : 0 < c.if-room.want = elim c.if-room.branch [ then-room w ↦ omega (arith, w.want-is) | else-room w ↦ omega (arith, w.want-is) ] in
    read_ended _ _ past.within (past.whole told) ((c.in_ok-count.ensures.taken (past.facts.tells ∙ told)).end c.if-count-eq0.true (search rules))
