-- What is true of a log that has the needed chains and then the last one.
use Rattle.std.proofs.Common.{◌≡◌, ◌∙◌, ◌<◌, ◌+◌, ℕ, List, [], ◌∷◌, ◌++◌, length, take, refl, sym, ap, subst, arith, inl, inr, get_or}
use Rattle.std.specs.Prelude.{Bool, Option, Some, None, slice_get}
use Rattle.std.proofs.lemmas.List.{length_push, take_all, take_at, get_or-take, get_or_append_left, get_or_push, length-take-le}
use Rattle.std.proofs.lemmas.List.Elements.{All-push}
use Rattle.std.proofs.lemmas.Option.{slice_get_within, slice_get-get_or, same_Some, get_or_from_slice_get}
use Rattle.clause_pool.specs.Clauses.{Clause}
use Rattle.pair_miter.specs.ChainView.{ChainView}
use Rattle.pair_miter.specs.Log.{IsRefutation, NamesNoLiteral}
use Rattle.pair_miter.specs.Resolution.{chain_end, log_ends}
use Rattle.pair_miter.proofs.LogEnds.{log_more, log_long, log_part}
use Rattle.learn_solver.specs.Trimmed.{UsesClause, IsEachUsed}
use Rattle.learn_solver.specs.Needed.{IsNeededAt, IsEndAt, AreNeeded, IsTrimmedTo, KeepsEnds, renumbered_chain}
use Rattle.learn_solver.proofs.TrimSteps.{pushed_same, pushed_last}
use Rattle.learn_solver.proofs.TrimEnds.{number_end, uses_after, chain_same, numbered_same}

module _ (count : ℕ) (chains : List ChainView) (last : ChainView) (marks : List Bool) (numbers : List ℕ) (short : List ChainView) (needed : AreNeeded count chains last marks)
    (t : IsTrimmedTo count chains marks (length chains) numbers short) where
  -- the end of the chain at a place is used after it
  pub used_after : IsEachUsed count (short ++ renumbered_chain count numbers last ∷ [])
  used_after place low =
      let from = t.onto place (omega (arith, low, length_push short (renumbered_chain count numbers last))) in
      let at = from.0 in
      elim (needed.only at from.2) [
        | inl uses ↦ (
          length short,
          renumbered_chain count numbers last,
          t.within at place from.3,
          pushed_last short (renumbered_chain count numbers last),
          subst (UsesClause (renumbered_chain count numbers last)) (number_end count numbers at place from.3) (uses_after count numbers last (count + at + 1) uses),
        )
        | inr user ↦
            let later = user.0 in
            let chain = user.1 in
            let placed = t.placed later chain (slice_get_within chains later chain user.4) user.3 user.4 in
            let front : IsEndAt count (take later numbers) at place =
            slice_get-get_or (take later numbers) at 0 (omega (arith, user.2, length-take-le later numbers (omega (arith, slice_get_within chains later chain user.4, t.whole)))) ∙ (ap Some (get_or-take later numbers at 0 user.2)
            ∙ (sym (slice_get-get_or numbers at 0 (slice_get_within numbers at (count + place + 1) from.3)) ∙ from.3)) in (
              placed.0,
              renumbered_chain count (take later numbers) chain,
              t.ascend at later place placed.0 user.2 from.3 placed.1,
              pushed_same short (renumbered_chain count numbers last) (renumbered_chain count (take later numbers) chain) placed.0 placed.2,
              subst (UsesClause (renumbered_chain count (take later numbers) chain)) (number_end count (take later numbers) at place front) (uses_after count (take later numbers) chain (count + at + 1) user.5),
            )
      ]

  pub bare_after : NamesNoLiteral (chains ++ last ∷ []) → NamesNoLiteral (short ++ renumbered_chain count numbers last ∷ [])
  bare_after bare = All-push (λ (chain : ChainView). chain.fresh_at ≡ None) short (renumbered_chain count numbers last) each
      (subst (λ (chain : ChainView). chain.fresh_at ≡ None) (get_or_push chains last last (length chains) refl) (bare (length chains) last (omega (arith, length_push chains last))))
    where
      each : (k : ℕ) (d : ChainView) → k < length short → (get_or short k d).fresh_at ≡ None
      each k d low =
          let from = t.onto k low in
          let at = from.0 in
          let chain = get_or chains at last in
          let placed = t.placed at chain from.1 from.2 (slice_get-get_or chains at last from.1) in
          let same : placed.0 ≡ k = (let e : ◌≡◌ {A = Option ℕ} (Some (count + placed.0 + 1)) (Some (count + k + 1)) = sym placed.1 ∙ from.3 in let n = same_Some (count + placed.0 + 1) (count + k + 1) e in omega (arith, n)) in
          let new = get_or_from_slice_get short k (renumbered_chain count (take at numbers) chain) d (subst (λ p. slice_get short p ≡ Some (renumbered_chain count (take at numbers) chain)) same placed.2) in
          let old : chain.fresh_at ≡ None = subst (λ (c : ChainView). c.fresh_at ≡ None) (get_or_append_left chains (last ∷ []) last at from.1) (bare at last (omega (arith, from.1, length_push chains last))) in
          ap (λ (c : ChainView). c.fresh_at) new ∙ old

  pub refutes_after : KeepsEnds count chains marks numbers short → (clauses : List Clause) (limit : ℕ) → length clauses ≡ count → IsRefutation clauses limit (chains ++ last ∷ [])
      → IsRefutation clauses limit (short ++ renumbered_chain count numbers last ∷ [])
  refutes_after h clauses limit long r =
      let n = length chains in
      let size : length r.ends ≡ n = omega (arith, log_long clauses (chains ++ last ∷ []) (r.ends ++ [] ∷ []) r.are, length_push r.ends [], length_push chains last) in
      let part = log_part clauses (chains ++ last ∷ []) (r.ends ++ [] ∷ []) n last r.are (pushed_last chains last) in
      let front : log_ends clauses chains ≡ Some r.ends = ap (log_ends clauses) (sym (take_at chains (last ∷ []) n refl)) ∙ (part.0 ∙ ap Some (take_at r.ends ([] ∷ []) n size)) in
      let own = h last clauses r.ends needed long (ap (log_ends clauses) (take_all (length numbers) chains (omega (arith, t.whole))) ∙ front) in
      let old_end : chain_end (clauses ++ r.ends) last ≡ Some [] =
      ap (λ es. chain_end (clauses ++ es) last) (sym (take_at r.ends ([] ∷ []) n size)) ∙ (part.1 ∙ subst (λ k. slice_get (r.ends ++ [] ∷ []) k ≡ Some []) size (pushed_last r.ends [])) in
      let closed : (at : ℕ) → at < n → UsesClause last (count + at + 1) → IsNeededAt marks at = λ at low uses. needed.all at low (inl uses) in
      let new_end : chain_end (clauses ++ own.kept) (renumbered_chain count numbers last) ≡ Some [] =
      sym (chain_same (clauses ++ r.ends) (clauses ++ own.kept) count numbers last (numbered_same count chains marks n numbers short clauses r.ends last t own long size (omega arith) closed)) ∙ old_end in
      record {
        ends = own.kept;
        are = log_more clauses short (renumbered_chain count numbers last) own.kept [] own.are new_end;
        nonempty = own.nonempty r.nonempty;
        few = omega (arith, log_long clauses short own.kept own.are, t.few, size, r.few);
      }
