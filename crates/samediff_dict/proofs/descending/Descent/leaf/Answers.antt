use Rattle.std.proofs.Common.{◌≡◌, ap, arith, get_or}
use Rattle.std.proofs.lemmas.List.{get_or_default}
use Rattle.std.proofs.lemmas.Result.{on_ok_weaker}
use Rattle.samediff_dict.specs.declared.numbering.Candidates.{Candidates}
use Rattle.samediff_dict.specs.Descent.{numbers_at}
use Rattle.samediff_dict.proofs.CandidateLemmas.{none as no_candidates}
use Rattle.samediff_dict.proofs.DescentLemmas.{out_stays, row_counted, row_before, row_repaired}
use Rattle.samediff_dict.proofs.descending.Descent.leaf.Goals as goal
use Rattle.samediff_dict.proofs.descending.Descent.leaf.Goals.{After-index-self-pattern}

pub returns-then-pattern-self-clause-gains : goal.returns-then-pattern-self-clause-gains
returns-then-pattern-self-clause-gains c = out_stays c.args.self.now c.requires.can c.args.pattern c.if-pattern-self.true c.requires.within c.args.table.now c.requires.gains

-- the candidates of the pattern
abbrev own : After-index-self-pattern → Candidates
own c = get_or c.args.self.now.patterns.now c.args.pattern c.index-self-pattern.result

own_numbers : (c : After-index-self-pattern) → (own c).numbers ≡ numbers_at c.args.self.now c.args.pattern
own_numbers c = ap (λ (x : Candidates). x.numbers) (get_or_default c.args.self.now.patterns.now c.args.pattern c.index-self-pattern.result no_candidates c.requires.within)

pub returns-in_default-clause-gains : goal.returns-in_default-clause-gains
returns-in_default-clause-gains c =
    let at = (goal.at.returns-in_default-clause-gains c).After-index-self-pattern in
    row_counted c.args.self.now c.requires.can c.args.pattern c.requires.within c.requires.part c.in_default.is (own at).numbers c.in_ok-gains.field-0.items c.index-self-pattern.result c.args.table.now c.set.new.self
    (own_numbers at) c.in_ok-gains.ensures (omega (arith, c.requires.rows, c.requires.within)) c.set.ensures

pub repair-requires-clause-gains : goal.repair-requires-clause-gains
repair-requires-clause-gains c =
    let at = (goal.at.repair-requires-clause-gains c).After-index-self-pattern in
    row_before c.args.self.now c.requires.can c.args.pattern c.requires.within c.requires.part c.in-Some.step c.in-Some.is c.if-pattern-self.false (own at).numbers (own_numbers at) c.args.table.now c.requires.gains

pub returns-clause-gains : goal.returns-clause-gains
returns-clause-gains c =
    let at = (goal.at.returns-clause-gains c).After-index-self-pattern in
    on_ok_weaker c.repair.result
    (row_repaired c.args.self.now c.requires.can c.args.pattern c.requires.within c.requires.part c.in-Some.step c.in-Some.is c.if-pattern-self.false (own at).numbers (own_numbers at) c.args.table.now c.requires.gains c.repair.new.self)
    c.repair.ensures.gains
