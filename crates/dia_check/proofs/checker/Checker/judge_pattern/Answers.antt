use Rattle.std.proofs.Common.{List, Bool, ◌≡◌, ◌∙◌, ◌++◌, ◌∷◌, [], length, refl, ap, arith}
use Rattle.std.proofs.lemmas.Result.{err_from_is_err_and}
use Rattle.result_file.specs.declared.fault.ResultKind.TheVariants as why
use Rattle.result_records.specs.declared.record.Record.TheVariants.{Pattern}
use Rattle.dia_check.proofs.CheckLemmas.{few_lines, has_after, misplaced_line, judged_then, stopped, judged_misplaced, judged_wrong}
use Rattle.dia_check.proofs.TakenLemmas.{body_place, no_body_place, none_waits, pattern_waits}
use Rattle.dia_check.proofs.checker.Checker.judge_pattern.Goals as goal

pub returns-in_err-flush : goal.returns-in_err-flush
returns-in_err-flush c =
    let p = err_from_is_err_and c.from_residual.result c.from_residual.ensures.1 in
    rw (p.1, p.2) (stopped _ c.in_err-flush.ensures.judged)

pub refused-requires : goal.refused-requires
refused-requires c = few_lines (has_after c.requires.check c.in_ok-flush.ensures.judged)

pub returns-then-not-is_body : goal.returns-then-not-is_body
returns-then-not-is_body c =
    let none = c.in_ok-flush.ensures.none in
    rw c.refused.ensures (judged_then c.in_ok-flush.ensures.judged (judged_misplaced none (Pattern c.args.v) tt c.requires.one (λ text is. no_body_place is none (λ place. let h = c.if-not-is_body.ensures.1 place in cc))))

pub refused-requires-then-len-sources : goal.refused-requires-then-len-sources
refused-requires-then-len-sources c = few_lines (has_after c.requires.check c.in_ok-flush.ensures.judged)

pub returns-then-len-sources : goal.returns-then-len-sources
returns-then-len-sources c =
    let none = c.in_ok-flush.ensures.none in
    let sources = rw c.circuit.ensures.value at c.sources.ensures.value in
    rw c.refused-then-len-sources.ensures (judged_then c.in_ok-flush.ensures.judged (judged_wrong none (Pattern c.args.v) tt c.requires.one why.Pattern (λ text is.
    (body_place is none (c.if-not-is_body.ensures.0 refl), ((λ right. let h = c.if-len-sources.true in omega (arith, h, sources, c.len.ensures, right.width)), refl)))))

pub refused-requires-then-not-is_body-2 : goal.refused-requires-then-not-is_body-2
refused-requires-then-not-is_body-2 c = few_lines c.requires.check

pub returns-then-not-is_body-2 : goal.returns-then-not-is_body-2
returns-then-not-is_body-2 c = rw c.refused-then-not-is_body-2.ensures (record {
  judged = λ text is short.
      let none = none_waits is (λ place. let h = c.if-not-is_body-2.ensures.1 place in cc) in
      misplaced_line is none (Pattern c.args.v) tt c.requires.one short (no_body_place is none (λ place. let h = c.if-not-is_body-2.ensures.1 place in cc));
})

pub returns : goal.returns
returns c =
    let sources = rw c.circuit.ensures.value at c.sources.ensures.value in
    let width : length c.args.v ≡ c.args.subject.now.sources = let h = c.if-len-sources.false in omega (arith, h, sources, c.len.ensures) in
    let items = c.push_reserved.ensures.items ∙ ap (λ (w : List (List Bool)). w ++ c.args.v ∷ []) c.in_ok-reserve.ensures.items in
    record { judged = λ text is short. pattern_waits is c.args.v c.requires.one width (c.if-not-is_body-2.ensures.0 refl) c.requires.room short _ refl refl refl refl refl items }
