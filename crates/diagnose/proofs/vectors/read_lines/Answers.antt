use Rattle.std.proofs.Common.{◌+◌, ◌∙◌, ◌++◌, ◌∷◌, [], List, Bool, length, sym, ap, subst}
use Rattle.std.proofs.lemmas.Bool.{eqb-true}
use Rattle.diagnose.proofs.VectorLemmas.{IsListSoFar, list_done, list_more, list_refused, shorter}
use Rattle.diagnose.proofs.vectors.read_lines.Goals as goal

pub returns-in-Err-clause-refused : goal.returns-in-Err-clause-refused
returns-in-Err-clause-refused c = list_refused c.args.sources c.args.bytes.now c.loop-rest.number c.loop-rest.vectors c.loop-rest.rest.now c.in-Err.kind c.loop-rest.invariant c.requires c.in-Err.ensures

pub loop-rest-preserved : goal.loop-rest-preserved
loop-rest-preserved c =
    let line = c.in-Ok.line in
    subst (λ (vectors : List (List Bool)). IsListSoFar c.args.sources c.args.bytes.now (c.loop-rest.number + 1) vectors line.1.now)
    (sym (c.in_ok-push.ensures.ok ∙ ap (λ (bits : List Bool). c.loop-rest.vectors ++ bits ∷ []) c.in_ok-bits.ensures))
    (list_more c.args.sources c.args.bytes.now c.loop-rest.number c.loop-rest.vectors c.loop-rest.rest.now line.0.now line.1.now c.loop-rest.invariant c.in-Ok.ensures)

pub loop-rest-smaller : goal.loop-rest-smaller
loop-rest-smaller c = shorter _ _ _ c.in-Ok.ensures.begins

pub returns-clause-read : goal.returns-clause-read
returns-clause-read c = list_done _ _ _ _ _ c.loop-rest.invariant c.requires (eqb-true (length c.loop-rest.rest.now) 0 (sym c.loop-rest-test.ensures))
