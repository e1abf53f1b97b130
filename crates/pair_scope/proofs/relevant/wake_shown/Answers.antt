use Rattle.std.proofs.Common.{◌≡◌, ◌+◌, ◌∙◌, ◌∷◌, [], ◌++◌, ℕ, List, take, get_or, refl, sym, ap, subst, inl, inr}
use Rattle.std.specs.Prelude.{◌⊎◌, Contains}
use Rattle.std.proofs.lemmas.List.{take_more}
use Rattle.std.proofs.lemmas.List.Elements.{Contains-append_left, Contains-push, Contains-push_cases}
use Rattle.net_model.specs.Circuit.{Circuit, line_count}
use Rattle.pair_scope.specs.Places.{IsShownBy, from_end}
use Rattle.pair_scope.proofs.RelevantLemmas.{woken_more}
use Rattle.pair_scope.proofs.relevant.wake_shown.Goals as goal

-- the lines with one more position
module _ (c : Circuit) (positions more : List ℕ) (at : ℕ) (are : more ≡ positions ++ at ∷ []) where
  shown_still : (line : ℕ) → IsShownBy c positions line → IsShownBy c more line
  shown_still line (n, m, e) = (n, subst (λ xs. Contains xs n) (sym are) (Contains-append_left positions (at ∷ []) n m), e)

  shown_cases : (line : ℕ) → IsShownBy c more line → IsShownBy c positions line ⊎ (get_or c.positions at 0 ≡ line)
  shown_cases line (n, m, e) = elim (Contains-push_cases positions at n (subst (λ xs. Contains xs n) are m)) [
    | inl before ↦ inl (n, before, e)
    | inr same ↦ inr (ap (λ k. get_or c.positions k 0) same ∙ e)
  ]

  shown_own : IsShownBy c more (get_or c.positions at 0)
  shown_own = (at, subst (λ xs. Contains xs at) (sym are) (Contains-push positions at), refl)

pub loop-at-preserved : goal.loop-at-preserved
loop-at-preserved c =
    let a = c.args.places.now in
    let circuit = a.circuit.now in
    let reached = c.args.reached.now in
    let i = c.loop-at.at-index in
    let at = get_or reached i 0 in
    let more = take_more reached i 0 c.loop-at-test.true in
    let line = get_or circuit.positions at 0 in
    let same : get_or c.positions-positions.result.now at 0 ≡ line = ap (λ xs. get_or xs at 0) c.positions-positions.ensures.value in
    record {
      room = c.insert.ensures.room ∙ c.loop-at.invariant.room;
      woken = woken_more (IsShownBy circuit (take i reached)) (IsShownBy circuit (take (i + 1) reached)) (line_count circuit) a.places.items c.args.back.now c.loop-at.back c.insert.new.self line c.place_back.result
          (c.place_back.ensures ∙ ap (λ l. from_end (line_count circuit) (get_or a.places.items l 0)) same)
          (shown_still circuit (take i reached) (take (i + 1) reached) at more)
          (shown_cases circuit (take i reached) (take (i + 1) reached) at more)
          (shown_own circuit (take i reached) (take (i + 1) reached) at more) c.insert.ensures.here c.insert.ensures.others c.loop-at.invariant.woken;
    }
