use Rattle.std.proofs.Common.{◌≡◌, ◌∙◌, ℕ, false, refl, sym, ap, subst}
use Rattle.std.specs.Prelude.{Option, None, Some, ◌==◌, ◌||◌}
use Rattle.std.specs.Option.{option_map_or}
use Rattle.std.proofs.lemmas.Bool.{eq-eqb}
use Rattle.net_model.specs.Scope.{first_changed}
use Rattle.net_model.proofs.FirstChanged.{first_inside}
use Rattle.pair_sets.specs.Spread.{IsSpread}
use Rattle.pair_sets.proofs.spread.begin.Goals as goal

pub returns-in_default-clause-spread : goal.returns-in_default-clause-spread
returns-in_default-clause-spread c = λ but was.
    let none : ◌≡◌ {A = Option ℕ} (first_changed c.args.fault) None = sym c.first_changed.ensures ∙ c.in_default.is in
    subst
    (λ (o : Option ℕ). IsSpread c.args.pair.now.circuit.now c.args.pair.now.f c.args.pair.now.g c.args.wiring.now.order (λ l. option_map_or (λ from. from == l) o false || but l) c.args.queue.now c.args.cone.now c.args.sets.now.items)
    none was

pub enter-requires-clause-line : goal.enter-requires-clause-line
enter-requires-clause-line c = first_inside c.args.pair.now.circuit.now c.args.fault c.in-Some.line c.requires.fault (sym c.first_changed.ensures ∙ c.in-Some.is)

pub enter-requires-clause-split : goal.enter-requires-clause-split
enter-requires-clause-split c =
    let line = c.in-Some.line in
    c.requires.split line (ap (λ (o : Option ℕ). option_map_or (λ from. from == line) o false) (sym c.first_changed.ensures ∙ c.in-Some.is) ∙ eq-eqb line line refl)

pub returns-clause-spread : goal.returns-clause-spread
returns-clause-spread c = λ but was.
    let first : ◌≡◌ {A = Option ℕ} (first_changed c.args.fault) (Some c.in-Some.line) = sym c.first_changed.ensures ∙ c.in-Some.is in
    c.enter.ensures.spread but
    (subst
    (λ (o : Option ℕ). IsSpread c.args.pair.now.circuit.now c.args.pair.now.f c.args.pair.now.g c.args.wiring.now.order (λ l. option_map_or (λ from. from == l) o false || but l) c.args.queue.now c.args.cone.now c.args.sets.now.items)
    first was)
