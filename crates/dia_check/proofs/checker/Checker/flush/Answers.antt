use Rattle.std.proofs.Common.{◌≡◌, ◌<◌, length, vec_len, refl, sym, arith}
use Rattle.dia_check.proofs.CheckLemmas.{many_lines, some_by}
use Rattle.dia_check.proofs.RunLemmas.{run_taken, run_refused}
use Rattle.dia_check.proofs.checker.Checker.flush.Goals as goal

pub overflow_add-self : goal.overflow_add-self
overflow_add-self c =
    let run = rw c.as_slice.ensures.value at c.in_ok-kept.ensures.ok in
    omega (arith, many_lines c.requires.check.is, run.within)

pub refused-requires : goal.refused-requires
refused-requires c =
    let run = rw c.as_slice.ensures.value at c.in_ok-kept.ensures.ok in
    omega (arith, many_lines c.requires.check.is, run.within)

pub returns-then-kept-len-clause-judged : goal.returns-then-kept-len-clause-judged
returns-then-kept-len-clause-judged c =
    let run = rw c.as_slice.ensures.value at c.in_ok-kept.ensures.ok in
    let never = rw c.as_slice.ensures.value at c.in_ok-kept.ensures.stops in
    let ok = c.args.self.now.waiting.ok.0 in
    let some : 0 < length c.args.self.now.waiting.items = let h = some_by (vec_len c.args.self.now.waiting) (sym c.if-is_empty.ensures) in omega (arith, ok, h) in
    let below : c.in_ok-kept.kept < length c.args.self.now.waiting.items = let h = c.if-kept-len.true in omega (arith, ok, h, c.len.ensures) in
    rw c.refused.ensures (record { judged = λ text is. run_refused is some c.in_ok-kept.kept c.keep_run.new.self run below (never below) })

pub returns-clause-judged : goal.returns-clause-judged
returns-clause-judged c =
    let run = rw c.as_slice.ensures.value at c.in_ok-kept.ensures.ok in
    let ok = c.args.self.now.waiting.ok.0 in
    let some : 0 < length c.args.self.now.waiting.items = let h = some_by (vec_len c.args.self.now.waiting) (sym c.if-is_empty.ensures) in omega (arith, ok, h) in
    let whole : c.in_ok-kept.kept ≡ length c.args.self.now.waiting.items = let h = c.if-kept-len.false in omega (arith, ok, h, c.len.ensures, run.within) in
    record { judged = λ text is. run_taken is some c.in_ok-kept.kept c.keep_run.new.self run whole _ c.in_ok-kept.ensures.circuit refl refl refl refl refl c.clear.ensures.items }
