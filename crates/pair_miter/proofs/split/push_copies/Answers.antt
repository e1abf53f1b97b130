use Rattle.std.proofs.Common.{◌≡◌, ◌∙◌, ◌++◌, false, sym, ap}
use Rattle.std.specs.Prelude.{◌&&◌}
use Rattle.std.proofs.lemmas.List.{append-nil}
use Rattle.net_model.specs.Scope.{is_split}
use Rattle.pair_miter.specs.SplitLines.{is_double}
use Rattle.pair_miter.proofs.SplitLemmas.{copies_no, pushed_yes}
use Rattle.pair_miter.proofs.split.push_copies.Goals as goal

pub variable-requires-clause-relevant : goal.variable-requires-clause-relevant
variable-requires-clause-relevant c = sym c.relevant.ensures ∙ c.if-relevant.true

pub variable-requires-then-relevant-clause-relevant : goal.variable-requires-then-relevant-clause-relevant
variable-requires-then-relevant-clause-relevant c = sym c.relevant.ensures ∙ c.if-relevant.true

pub returns-in_ok-push : goal.returns-in_ok-push
returns-in_ok-push c =
    let p = c.args.numbering.now in
    pushed_yes p.circuit p.f p.g c.args.line c.args.copies.now.items (sym c.relevant.ensures ∙ c.if-relevant.true) c.requires.split c.variable.ensures c.variable-then-relevant.ensures c.in_ok-push.ensures.items

pub returns-else-relevant : goal.returns-else-relevant
returns-else-relevant c =
    let p = c.args.numbering.now in
    let none : is_double p.circuit p.f p.g c.args.line ≡ false = ap (λ b. b && is_split p.circuit p.f p.g c.args.line) (sym c.relevant.ensures ∙ c.if-relevant.false) in
    sym (ap (λ xs. c.args.copies.now.items ++ xs) (copies_no p.circuit p.f p.g c.args.line none) ∙ append-nil c.args.copies.now.items)
