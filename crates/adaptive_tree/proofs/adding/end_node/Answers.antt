use Rattle.std.proofs.Common.{◌≡◌, List, sym, subst, arith}
use Rattle.std.specs.Prelude.{reverse}
use Rattle.std.proofs.lemmas.Bool.{eqb-true, eqb-false}
use Rattle.adaptive_tree.specs.declared.reader.OpenAsk.{OpenAsk}
use Rattle.adaptive_tree.specs.Reading.{IsInnermostWhole, IsInnermostOpen}
use Rattle.adaptive_tree.proofs.ReaderLemmas.{ask_closed, all_closed, some_left}
use Rattle.adaptive_tree.proofs.adding.end_node.Goals as goal

pub loop-pattern-preserved : goal.loop-pattern-preserved
loop-pattern-preserved c = λ steps given.
    let asks = c.loop-pattern.asks in
    ask_closed steps asks.items c.pop.new.self.items c.pop.result c.loop-pattern.asked c.remove.new.self c.in-Some.pattern asks.len c.pop.new.self.len asks.ok.0 c.pop.ensures.items c.pop.ensures.cases
    (subst (λ (items : List OpenAsk). IsInnermostWhole (reverse items) c.in-Some.pattern) c.deref.ensures.value c.in-Some.ensures) (c.loop-pattern.invariant steps given) c.remove.ensures.updates.0

pub returns-then-is_empty : goal.returns-then-is_empty
returns-then-is_empty c = λ steps given.
    let asks = c.loop-pattern.asks in
    let none : asks.len ≡ 0 = eqb-true asks.len 0 (sym c.if-is_empty.ensures) in
    all_closed steps asks.items c.loop-pattern.asked (omega (arith, none, asks.ok.0)) (c.loop-pattern.invariant steps given)

pub returns-else-is_empty : goal.returns-else-is_empty
returns-else-is_empty c = λ steps given.
    let asks = c.loop-pattern.asks in
    some_left steps asks.items c.loop-pattern.asked (λ none. let e : asks.len ≡ 0 = omega (arith, none, asks.ok.0) in eqb-false asks.len 0 (sym c.if-is_empty.ensures) e)
    (subst (λ (items : List OpenAsk). IsInnermostOpen (reverse items)) c.deref.ensures.value c.in_default.ensures) (c.loop-pattern.invariant steps given)
