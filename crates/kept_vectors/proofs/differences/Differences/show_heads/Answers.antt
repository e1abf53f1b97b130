use Rattle.std.proofs.Common.{◌≡◌, ◌∙◌, ℕ, Bool, List, sym, subst, arith, inl, inr}
use Rattle.std.proofs.lemmas.Bool.{cases_lt}
use Rattle.kept_vectors.specs.Notes.{IsPlaceNoted}
use Rattle.kept_vectors.proofs.differences.Differences.show_heads.Goals as goal

pub loop-place-preserved : goal.loop-place-preserved
loop-place-preserved c =
    let good = c.args.good.now in
    let at = c.loop-place.place in
    let so_far = c.loop-place.invariant in
    let old = c.loop-place.self in
    let new = c.show.new.self in
    let made = c.in_ok-show.ensures in
    record {
      of = made.of;
      needs = made.needs ∙ so_far.needs;
      turns = made.turns ∙ so_far.turns;
      units = made.units ∙ so_far.units;
      numbers = made.numbers ∙ so_far.numbers;
      places = λ place h. subst (λ (ns : List (List Bool)). IsPlaceNoted good ns new.notes.items new.shown.items place) so_far.needs (elim (cases_lt place at) [
        | inl less ↦ made.later place less (subst (λ (ns : List (List Bool)). IsPlaceNoted good ns old.notes.items old.shown.items place) (sym so_far.needs) (so_far.places place less))
        | inr most ↦ subst (λ (k : ℕ). IsPlaceNoted good old.needs.items new.notes.items new.shown.items k) (let e : at ≡ place = omega (arith, h, most) in e) made.here
      ]);
    }
