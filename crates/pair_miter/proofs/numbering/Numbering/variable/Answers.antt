use Rattle.std.proofs.Common.{◌≡◌, ◌∙◌, ◌<◌, ◌+◌, ℕ, true, length, get_or, arith, sym, ap, subst}
use Rattle.std.proofs.lemmas.List.{get_or_read}
use Rattle.net_model.specs.Circuit.{IsCircuit, line_count}
use Rattle.net_model.specs.Scope.{is_relevant}
use Rattle.pair_miter.specs.declared.numbering.Numbering.TheInside.{Inside}
use Rattle.pair_miter.specs.MiterView.{Miter}
use Rattle.pair_miter.specs.Variables.{line_variable}
use Rattle.pair_miter.specs.declared.side.Side.TheVariants.{First}
use Rattle.pair_miter.specs.Numbering.{AreFirstVariables, numbering_of, HasVariables}
use Rattle.pair_miter.proofs.Numbers.{first_variable, few_line_variables, own_variable, shared_variable}
use Rattle.pair_miter.proofs.numbering.Numbering.variable.Goals as goal

-- what is read is the line's variable in the first copy
first_is : (p : Miter) (a : Inside) → numbering_of a ≡ p → HasVariables a → (line read : ℕ) → line < line_count p.circuit → is_relevant p.circuit p.f p.g line ≡ true → read ≡ get_or a.firsts.items line read
    → read ≡ line_variable p.circuit p.f p.g First line
first_is p a view is line read h relevant at =
    let firsts = subst (λ (q : Miter). AreFirstVariables q.circuit q.f q.g a.firsts.items) view is.firsts in
    let inside : line < length a.firsts.items = omega (arith, firsts.whole) in
    get_or_read a.firsts.items line read inside at 0 ∙ firsts.each line h relevant

pub overflow_add-result : goal.overflow_add-result
overflow_add-result c =
    let p = c.args.self.now in
    let first = first_is p c.self.inside c.self.view_is c.self.invariant c.args.line c.index-first.result.now c.requires.line c.requires.relevant c.index-first.ensures in
    let circuit = subst (λ (q : Miter). IsCircuit q.circuit) c.self.view_is c.self.invariant.circuit in
    omega (arith, first, first_variable p.circuit p.f p.g c.args.line, few_line_variables p.circuit p.f p.g circuit c.args.line (omega (arith, c.requires.line)))

pub returns-in-Second : goal.returns-in-Second
returns-in-Second c =
    let p = c.args.self.now in
    ap (λ n. n + 1) (first_is p c.self.inside c.self.view_is c.self.invariant c.args.line c.index-first.result.now c.requires.line c.requires.relevant c.index-first.ensures)
    ∙ sym (own_variable p.circuit p.f p.g c.args.line (sym c.split.ensures.value ∙ c.if-split.true))
    ∙ ap (λ side. line_variable p.circuit p.f p.g side c.args.line) (sym c.in-Second.is)

pub returns-in_default : goal.returns-in_default
returns-in_default c =
    let p = c.args.self.now in
    first_is p c.self.inside c.self.view_is c.self.invariant c.args.line c.index-first.result.now c.requires.line c.requires.relevant c.index-first.ensures
    ∙ sym (shared_variable p.circuit p.f p.g c.args.line (sym c.split.ensures.value ∙ c.if-split.false))
    ∙ ap (λ side. line_variable p.circuit p.f p.g side c.args.line) (sym c.in-Second.is)
