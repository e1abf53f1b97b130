use Rattle.std.proofs.Common.{◌≡◌, ◌∙◌, ℕ, ◌+◌, List, [], ◌∷◌, ◌++◌, length, refl, sym, ap, subst, arith, take, set}
use Rattle.adaptive_planner.specs.declared.parting.Branch.{Branch}
use Rattle.adaptive_planner.specs.Parting.{ArePartsTo, HasNumber, HaveNotNumber}
use Rattle.adaptive_planner.proofs.PartLemmas.{parts_found, parts_new}
use Rattle.adaptive_planner.proofs.parting.put.Goals as goal

pub returns-in_ok-push-in-Some : goal.returns-in_ok-push-in-Some
returns-in_ok-push-in-Some c =
    let number = c.number-number.result in
    let has : HasNumber c.args.branches.now.items number c.in-Some.place = subst (λ (bs : List Branch). HasNumber bs number c.in-Some.place) c.as_slice.ensures.value c.in-Some.ensures in
    parts_found c.args.numbers.now c.args.pattern c.args.set.now c.args.at c.requires.at c.args.slots.now c.args.branches.now.items c.requires.parts number c.number-number.ensures.value c.in-Some.place c.index_mut.result.now
    (record { pattern = c.index_mut.result.now.pattern; number = c.index_mut.result.now.number; classes = c.push.new.self }) has c.index_mut.ensures.value refl refl c.in_ok-push-in-Some.ensures.items

pub returns-in_ok-push-in-None : goal.returns-in_ok-push-in-None
returns-in_ok-push-in-None c =
    let number = c.number-number.result in
    let numbers = c.args.numbers.now in
    let bs = c.args.branches.now.items in
    let slots = c.args.slots.now in
    let new : Branch = record { pattern = c.args.pattern; number = number; classes = c.in_ok-vec-in-None.field-0 } in
    let none : HaveNotNumber bs number = subst (λ (rest : List Branch). HaveNotNumber rest number) c.as_slice.ensures.value c.in-None.ensures in
    let parts = parts_new numbers c.args.pattern c.args.set.now c.args.at c.requires.at slots bs c.requires.parts number c.number-number.ensures.value new none (omega (arith, c.number-number.ensures.within, c.requires.parts.room)) refl refl c.in_ok-vec-in-None.ensures.items in
    let many : c.len.result ≡ length bs = c.len.ensures ∙ (sym c.as_slice.ensures.len ∙ ap length c.as_slice.ensures.value) in
    subst (λ (rest : List Branch). ArePartsTo numbers c.args.pattern (take (c.args.at + 1) c.args.set.now) rest (set slots number c.len.result)) (sym c.in_ok-push-in-None.ensures.items)
    (subst (λ (k : ℕ). ArePartsTo numbers c.args.pattern (take (c.args.at + 1) c.args.set.now) (bs ++ new ∷ []) (set slots number k)) (sym many) parts)
