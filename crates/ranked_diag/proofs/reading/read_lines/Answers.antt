use Rattle.std.proofs.Common.{◌+◌, ◌∙◌, ◌++◌, ◌∷◌, [], List, length, sym, ap, subst}
use Rattle.std.proofs.lemmas.Bool.{eqb-true}
use Rattle.ranked_diag.specs.declared.partial.Seen.{Seen}
use Rattle.ranked_diag.specs.PartialLog.{Line}
use Rattle.ranked_diag.proofs.ReadingLemmas.{IsPartialSoFar, partial_more, partial_done, partial_refused, shorter}
use Rattle.ranked_diag.proofs.reading.read_lines.Goals as goal

pub returns-in-Err-clause-refused : goal.returns-in-Err-clause-refused
returns-in-Err-clause-refused c =
    partial_refused c.args.patterns c.args.positions c.args.bytes.now c.loop-rest.number c.loop-rest.least c.loop-rest.partial c.loop-rest.rest.now c.in-Err.kind c.loop-rest.invariant c.requires c.in-Err.ensures

pub loop-rest-preserved : goal.loop-rest-preserved
loop-rest-preserved c =
    let line = c.in-Ok.line in
    subst (λ (lines : List Line). IsPartialSoFar c.args.patterns c.args.positions c.args.bytes.now (c.loop-rest.number + 1) (line.pattern + 1) lines line.rest.now)
    (sym (c.in_ok-push.ensures ∙ ap (λ (seen : List Seen). c.loop-rest.partial ++ (line.pattern, seen) ∷ []) c.in_ok-seen.ensures))
    (partial_more c.args.patterns c.args.positions c.args.bytes.now c.loop-rest.number c.loop-rest.least c.loop-rest.partial c.loop-rest.rest.now line.pattern line.digits.now line.rest.now c.loop-rest.invariant c.in-Ok.ensures)

pub loop-rest-smaller : goal.loop-rest-smaller
loop-rest-smaller c = shorter _ _ _ c.in-Ok.ensures.begins

pub returns-clause-read : goal.returns-clause-read
returns-clause-read c =
    partial_done c.args.patterns c.args.positions c.args.bytes.now c.loop-rest.number c.loop-rest.least c.loop-rest.partial c.loop-rest.rest.now c.loop-rest.invariant c.requires (eqb-true (length c.loop-rest.rest.now) 0 (sym c.loop-rest-test.ensures))
