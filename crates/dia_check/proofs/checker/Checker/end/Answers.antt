use Rattle.std.proofs.Common.{length, sym, ap, arith}
use Rattle.std.proofs.lemmas.Bool.{eqb-true}
use Rattle.std.proofs.lemmas.Result.{err_from_is_err_and}
use Rattle.std.proofs.lemmas.List.{nil_from_length}
use Rattle.dia_check.proofs.CheckLemmas.{few_lines, has_after, some_by}
use Rattle.dia_check.proofs.EndLemmas.{ends_stopped, end_syntax, end_order}
use Rattle.dia_check.proofs.checker.Checker.end.Goals as goal

pub returns-in_err-flush : goal.returns-in_err-flush
returns-in_err-flush c =
    let p = err_from_is_err_and c.from_residual.result c.from_residual.ensures.1 in
    rw (p.1, p.2) (ends_stopped _ c.in_err-flush.ensures.judged)

pub returns-then-not-is_empty : goal.returns-then-not-is_empty
returns-then-not-is_empty c = rw c.refused.ensures (record {
  judged = λ text is short.
      end_syntax (c.in_ok-flush.ensures.judged.judged text is) c.in_ok-flush.ensures.none c.args.rest.now c.requires.one short
      (λ nothing. let some = some_by (length c.args.rest.now) (sym c.if-not-is_empty.ensures) in omega (arith, some, ap length nothing));
})

pub refused-requires-then-not-self : goal.refused-requires-then-not-self
refused-requires-then-not-self c = few_lines (has_after c.requires.check c.in_ok-flush.ensures.judged)

pub returns-then-not-self : goal.returns-then-not-self
returns-then-not-self c = rw c.refused-then-not-self.ensures (record {
  judged = λ text is short.
      end_order (c.in_ok-flush.ensures.judged.judged text is) c.in_ok-flush.ensures.none c.args.rest.now
      (nil_from_length c.args.rest.now (eqb-true (length c.args.rest.now) 0 (sym c.if-not-is_empty.ensures))) c.if-not-self.true;
})

pub refused-requires : goal.refused-requires
refused-requires c = few_lines (has_after c.requires.check c.in_ok-flush.ensures.judged)

pub returns : goal.returns
returns c = record {
  judged = λ text is short. (
    nil_from_length c.args.rest.now (eqb-true (length c.args.rest.now) 0 (sym c.if-not-is_empty.ensures)),
    record { is = c.in_ok-flush.ensures.judged.judged text is; none = c.in_ok-flush.ensures.none; ended = c.if-not-self.false },
  );
}
