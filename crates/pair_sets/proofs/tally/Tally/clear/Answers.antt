use Rattle.std.proofs.Common.{◌≡◌, ◌<◌, ◌∙◌, ◌∷◌, [], ◌++◌, ℕ, length, get_or, set, sym, ap, subst, inl, inr}
use Rattle.std.specs.Prelude.{All, Contains}
use Rattle.std.specs.Option.{IfSome}
use Rattle.std.proofs.lemmas.Bool.{cases_eq}
use Rattle.std.proofs.lemmas.List.{get_or-set_same, get_or-set_other, length-set}
use Rattle.std.proofs.lemmas.List.Elements.{All-pop, Contains-push_cases}
use Rattle.pair_sets.specs.PairSet.{free_pairs}
use Rattle.pair_sets.specs.Tally.{IsBlankBut}
use Rattle.pair_sets.proofs.tally.Tally.clear.Goals as goal

pub loop-at-preserved : goal.loop-at-preserved
loop-at-preserved c =
    let shown = c.loop-at.self.shown in
    let reached = c.loop-at.self.reached.items in
    let rest = c.pop.new.self.items in
    let at = c.in-Some.at in
    let pairs = c.free.result in
    let was = c.loop-at.invariant in
    let items : reached ≡ rest ++ at ∷ [] = c.in-Some.ensures.items in
    let parts = All-pop (λ k. k < length shown) reached rest c.pop.result c.pop.ensures.items was.others.within in
    let inside : at < length shown = subst (λ r. IfSome r (λ k. k < length shown)) c.in-Some.is parts.1 in
    record {
      whole = ap length c.put.ensures ∙ length-set shown at pairs ∙ was.whole;
      waiting = was.waiting;
      room = c.pop.ensures.capacity ∙ was.room;
      others = subst (IsBlankBut rest) (sym c.put.ensures) record {
        within = subst (λ n. All (λ k. k < n) rest) (sym (length-set shown at pairs)) parts.0;
        others = λ k none. elim (cases_eq k at) [
          | inl same ↦
              let P : ℕ → Type 0 = λ n. get_or (set shown at pairs) n free_pairs ≡ free_pairs in
              subst P (sym same) (get_or-set_same shown at pairs free_pairs inside ∙ c.free.ensures)
          | inr ne ↦
              get_or-set_other shown at k pairs free_pairs ne
              ∙ was.others.others k (λ m. elim (Contains-push_cases rest at k (subst (λ xs. Contains xs k) items m)) [
                | inl before ↦ none before
                | inr here ↦ ne (sym here)
              ])
        ];
      };
    }
