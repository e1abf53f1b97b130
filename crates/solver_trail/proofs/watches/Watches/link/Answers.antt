use Rattle.std.proofs.Common.{◌≡◌, ◌∙◌, ◌<◌, length, get_or, ap, arith}
use Rattle.std.specs.Prelude.{None, set}
use Rattle.std.proofs.lemmas.List.{get_or_read, map-set}
use Rattle.clause_pool.specs.LiteralCode.{code_of}
use Rattle.solver_trail.specs.declared.watches.Watch.{Watch}
use Rattle.solver_trail.specs.Watches.{head_of, next_watches}
use Rattle.solver_trail.proofs.watches.Watches.link.Goals as goal

pub returns-clause-linked : goal.returns-clause-linked
returns-clause-linked c =
    let w = c.args.self.now in
    let code = c.code-code.result in
    let first = c.index.result.now in
    let x : Watch = record { literal = c.args.lit; next = first } in
    let within : code < length w.firsts.items = omega (arith, c.code-code.ensures, c.requires.lit) in
    let head : first ≡ head_of w.firsts.items c.args.lit = get_or_read w.firsts.items code first within c.index.ensures None ∙ ap (λ n. get_or w.firsts.items n None) c.code-code.ensures in
    record {
      literals = map-set (λ (x : Watch). x.literal) w.watches.items c.args.at x;
      nexts = map-set (λ (x : Watch). x.next) w.watches.items c.args.at x ∙ ap (set (next_watches w) c.args.at) head;
      firsts = ap (λ n. set w.firsts.items n c.to.result) c.code-code.ensures ∙ ap (set w.firsts.items (code_of c.args.lit)) c.to.ensures;
    }
