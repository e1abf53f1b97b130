use Rattle.std.proofs.Common.{◌≡◌, ◌≢◌, ◌∙◌, length, eqb-true, eq-eqb, sym, ap, subst, arith}
use Rattle.std.specs.Prelude.{Bool, true, false, set}
use Rattle.clause_pool.specs.LiteralCode.{code_of}
use Rattle.clause_pool.proofs.Literals.{same_by_code}
use Rattle.solver_trail.specs.Watches.{watched_literals}
use Rattle.solver_trail.proofs.Ahead.{at_watch, stays, stays_same, moves}
use Rattle.solver_trail.proofs.watches.Watches.rewatch.Goals as goal

pub returns-then-eq-clause-literals : goal.returns-then-eq-clause-literals
returns-then-eq-clause-literals c =
    let literals = watched_literals c.args.self.now in
    let same : c.args.target ≡ c.args.lit = same_by_code c.args.target c.args.lit (eqb-true (code_of c.args.target) (code_of c.args.lit) (sym c.eq.ensures ∙ c.if-eq.true)) in
    let h = c.requires.ahead in
    sym (subst (λ l. set literals c.args.at l ≡ literals) (sym same) (stays_same h (at_watch h c.args.at c.requires.at)))

pub returns-then-eq-clause-ahead : goal.returns-then-eq-clause-ahead
returns-then-eq-clause-ahead c = λ h. stays h (at_watch h c.args.at c.requires.at)

pub unlink-requires-clause-at : goal.unlink-requires-clause-at
unlink-requires-clause-at c = (at_watch c.requires.ahead c.args.at c.requires.at).within

pub link-requires-clause-at : goal.link-requires-clause-at
link-requires-clause-at c = omega (arith, (at_watch c.requires.ahead c.args.at c.requires.at).within, ap length c.unlink.ensures.literals)

pub link-requires-clause-few : goal.link-requires-clause-few
link-requires-clause-few c = omega (arith, (at_watch c.requires.ahead c.args.at c.requires.at).within, c.requires.ahead.listed.few)

pub returns-clause-ahead : goal.returns-clause-ahead
returns-clause-ahead c = λ h.
    let ne : code_of c.args.lit ≢ code_of c.args.target = λ e.
    let yes : c.eq.result ≡ true = c.eq.ensures ∙ eq-eqb (code_of c.args.target) (code_of c.args.lit) (sym e) in
    let wrong : ◌≡◌ {A = Bool} true false = sym yes ∙ c.if-eq.false in
    cc in
    moves h (at_watch h c.args.at c.requires.at) c.requires.lit c.unlink.ensures c.args.target c.requires.target ne c.link.ensures.linked
