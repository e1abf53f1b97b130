use Rattle.std.proofs.Common.{◌≡◌, ◌<◌, ◌∙◌, ℕ, length, get_or, set, take, sym, arith, subst, inl, inr}
use Rattle.std.specs.Prelude.{Contains}
use Rattle.std.proofs.lemmas.Bool.{cases_eq}
use Rattle.std.proofs.lemmas.List.{get_or_read, get_or-set_same, get_or-set_other, length-set, take_more, take_all}
use Rattle.std.proofs.lemmas.List.Elements.{Contains-push_cases}
use Rattle.pair_sets.specs.PairSet.{free_pairs}
use Rattle.pair_sets.specs.CubeState.{set_at}
use Rattle.pair_sets.proofs.trail.PairTrail.copy.Goals as goal

pub loop-line-preserved : goal.loop-line-preserved
loop-line-preserved c =
    let sets = c.loop-line.self.sets.items in
    let from = c.args.from.now in
    let lines = c.args.lines.now in
    let i = c.loop-line.line-index in
    let line = get_or lines i 0 in
    let pairs = c.index-from-line.result in
    let was = c.loop-line.invariant in
    let within : line < length sets = omega (arith, c.requires.within i 0 c.loop-line-test.true, was.width) in
    let read : pairs ≡ set_at from line = get_or_read from line pairs (omega (arith, within, was.width, c.requires.width)) c.index-from-line.is free_pairs in
    let P : ℕ → Type 0 = λ l. set_at (set sets line pairs) l ≡ set_at from l in
    let here : P line = get_or-set_same sets line pairs free_pairs within ∙ read in
    let kept : (l : ℕ) → set_at sets l ≡ set_at from l → P l =
    λ l e. elim (cases_eq l line) [
      | inl same ↦ subst P (sym same) here
      | inr ne ↦ get_or-set_other sets line l pairs free_pairs ne ∙ e
    ] in
    record {
      changes = was.changes;
      width = length-set sets line pairs ∙ was.width;
      here = λ l m. elim (Contains-push_cases (take i lines) line l (subst (λ xs. Contains xs l) (take_more lines i 0 c.loop-line-test.true) m)) [
        | inl earlier ↦ kept l (was.here l earlier)
        | inr same ↦ subst P same here
      ];
      kept = λ l e. kept l (was.kept l e);
    }

pub returns-clause-here : goal.returns-clause-here
returns-clause-here c = λ line m. c.loop-line.invariant.here line (subst (λ xs. Contains xs line) (sym (take_all c.loop-line.line-index c.args.lines.now c.loop-line-test.false)) m)
