use Rattle.std.proofs.Common.{◌≡◌, ◌<◌, ℕ, List, Option, length, get_or, sym, subst, arith}
use Rattle.std.proofs.lemmas.Result.{on_ok_weaker}
use Rattle.fault_heads.specs.declared.head.Turn.{Turn}
use Rattle.kept_vectors.specs.Notes.{noted_by, AreKnown, IsNumberAsked, IsUnitAsked, IsNumberNoted}
use Rattle.kept_vectors.proofs.NoteLemmas.{number_noted}
use Rattle.kept_vectors.proofs.GroupLemmas.{known_as}
use Rattle.kept_vectors.proofs.differences.Differences.note_classes.Goals as goal

pub returns-clause-asked : goal.returns-clause-asked
returns-clause-asked c =
    let good = c.args.good.now in
    let run = c.requires.run in
    let asked = c.ask_classes.new.self in
    let new = c.show_heads.new.self in
    let needs = asked.needs.items in
    let roots : new.units.roots.now ≡ asked.units.roots.now = c.show_heads.ensures.units in
    on_ok_weaker c.show_heads.result
    (λ places.
    let noted : (n : ℕ) → IsUnitAsked good asked n → IsNumberNoted good (noted_by new) n =
    λ n one.
    number_noted good run.circuit run.few run.widths needs (noted_by new) c.show_heads.ensures.of.lines (λ place h. places place (omega (arith, h, c.ask_classes.ensures.of.needs))) c.show_heads.ensures.of.roots n
    (subst (λ (rs : List ℕ). n < length rs) (sym roots) one.0)
    (subst (λ (rs : List ℕ). IsNumberAsked good needs new.turns.items (get_or rs n 0)) (sym roots) (subst (λ (ts : List (Option Turn)). IsNumberAsked good needs ts (get_or asked.units.roots.now n 0)) (sym c.show_heads.ensures.turns) one.1)) in
    subst (λ (rs : List ℕ). AreKnown good rs (IsNumberNoted good (noted_by new)) c.args.classes.now new.numbers.items) (sym roots)
    (subst (AreKnown good asked.units.roots.now (IsNumberNoted good (noted_by new)) c.args.classes.now) (sym c.show_heads.ensures.numbers) (known_as noted c.in_ok-ask_classes.ensures.asked)))
    c.show_heads.ensures.places
