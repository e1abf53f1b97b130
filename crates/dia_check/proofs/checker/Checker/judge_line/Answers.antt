use Rattle.std.proofs.Common.{◌∷◌, length, length-append, ap, refl, arith}
use Rattle.std.proofs.lemmas.Result.{err_from_is_err_and}
use Rattle.result_file.specs.declared.fault.ResultKind.TheVariants as why
use Rattle.result_file.specs.Refusal.RestRefused.{no_record}
use Rattle.result_file.proofs.FirstLine.{syntax_line}
use Rattle.dia_check.proofs.CheckLemmas.{few_lines, has_after, judged_then, stopped, refused_line}
use Rattle.dia_check.proofs.checker.Checker.judge_line.Goals as goal

pub returns-in_err-make_way-in-Ok : goal.returns-in_err-make_way-in-Ok
returns-in_err-make_way-in-Ok c =
    let p = err_from_is_err_and c.from_residual.result c.from_residual.ensures.1 in
    rw (p.1, p.2) (stopped _ c.in_err-make_way-in-Ok.ensures.judged)

pub judge_record-requires-clause-check : goal.judge_record-requires-clause-check
judge_record-requires-clause-check c = has_after c.requires.check c.in_ok-make_way-in-Ok.ensures.judged

pub refused-requires : goal.refused-requires
refused-requires c = few_lines (has_after c.requires.check c.in_ok-flush-in-Err-Syntax.ensures.judged)

pub returns-in_err-flush-in-Err-Syntax : goal.returns-in_err-flush-in-Err-Syntax
returns-in_err-flush-in-Err-Syntax c =
    let p = err_from_is_err_and c.from_residual-in_err-flush-in-Err-Syntax.result c.from_residual-in_err-flush-in-Err-Syntax.ensures.1 in
    rw (p.1, p.2) (stopped _ c.in_err-flush-in-Err-Syntax.ensures.judged)

pub returns-in_ok-flush-in-Err-Syntax : goal.returns-in_ok-flush-in-Err-Syntax
returns-in_ok-flush-in-Err-Syntax c =
    let line = c.args.line.now in
    let wrong = (rw c.in-Err-Syntax.field-0-is at c.in-Err-Syntax.ensures.refused) refl in
    rw c.refused.ensures (judged_then c.in_ok-flush-in-Err-Syntax.ensures.judged (record {
      judged = λ text is short.
          refused_line is c.in_ok-flush-in-Err-Syntax.ensures.none line why.Syntax c.requires.one short
          (λ more. no_record (record { some = λ e. omega (arith, ap length e, length-append line (10 ∷ more)); none = syntax_line line more c.requires.one wrong }) refl);
    }))
