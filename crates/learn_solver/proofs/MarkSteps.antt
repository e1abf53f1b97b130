-- Marking the needed chains, from the last one back.
use Rattle.std.proofs.Common.{◌≡◌, ◌∙◌, ◌<◌, ◌≤◌, ◌+◌, ◌↔◌, ◌⊎◌, ℕ, List, length, true, false, sym, subst, arith, inl, inr, get_or}
use Rattle.std.specs.Prelude.{Bool, Some, slice_get, replicate}
use Rattle.std.proofs.lemmas.Bool.{cases_eq}
use Rattle.std.proofs.lemmas.Option.{slice_get_within, same_Some}
use Rattle.net_model.proofs.Elements.{get_or-replicate_anywhere}
use Rattle.pair_miter.specs.ChainView.{ChainView}
use Rattle.learn_solver.specs.Trimmed.{UsesClause}
use Rattle.learn_solver.specs.Needed.{IsNeededAt, IsUsedBehind, AreNeeded}

-- the chains before a place whose ends a chain uses are marked in addition
abbrev pub MarksUsed : ℕ → ChainView → ℕ → List Bool → List Bool → Type 0
MarksUsed count chain before old new = (at : ℕ) → IsNeededAt new at ↔ (IsNeededAt old at ⊎ ((at < before) × UsesClause chain (count + at + 1)))

-- the last chain and the marked ones from place `from` up have marked what they use
pub record IsMarkedFrom (count : ℕ) (chains : List ChainView) (last : ChainView) (from : ℕ) (marks : List Bool) : Type 0 where
  pub whole : length marks ≡ length chains
  pub by_last : (at : ℕ) → at < length chains → UsesClause last (count + at + 1) → IsNeededAt marks at
  pub by_later : (at later : ℕ) (chain : ChainView) → at < later → from ≤ later → IsNeededAt marks later → slice_get chains later ≡ Some chain → UsesClause chain (count + at + 1) → IsNeededAt marks at
  pub only : (at : ℕ) → IsNeededAt marks at → IsUsedBehind count chains last marks at

module _ (count : ℕ) (chains : List ChainView) (last : ChainView) where
  pub marked_none : (old new : List Bool) → old ≡ replicate (length chains) false → length new ≡ length old → length old ≡ length chains → MarksUsed count last (length chains) old new
      → IsMarkedFrom count chains last (length chains) new
  marked_none old new are long whole h = record {
    whole = long ∙ whole;
    by_last = λ at low uses. (h at).1 (inr (low, uses));
    by_later = λ at later chain before from m is uses. absurd (omega (arith, from, slice_get_within chains later chain is));
    only = λ at m. elim ((h at).0 m) [
      | inl was ↦ absurd (let none : get_or old at false ≡ false = subst (λ bits. get_or bits at false ≡ false) (sym are) (get_or-replicate_anywhere (length chains) at false) in
          let wrong : ◌≡◌ {A = Bool} true false = sym was ∙ none in cc)
      | inr used ↦ inl used.1
    ];
  }

  -- an unmarked chain marks nothing
  pub marked_skip : (at : ℕ) (marks : List Bool) → (IsNeededAt marks at → ⊥) → IsMarkedFrom count chains last (at + 1) marks → IsMarkedFrom count chains last at marks
  marked_skip at marks none h = record {
    whole = h.whole;
    by_last = h.by_last;
    by_later = λ k later chain before from m is uses. elim (cases_eq later at) [
      | inl same ↦ absurd (none (subst (IsNeededAt marks) same m))
      | inr ne ↦ h.by_later k later chain before (omega (arith, from, ne)) m is uses
    ];
    only = h.only;
  }

  -- a marked chain marks those that it uses
  pub marked_more : (at : ℕ) (here : ChainView) (old new : List Bool) → slice_get chains at ≡ Some here → IsNeededAt old at → length new ≡ length old → MarksUsed count here at old new
      → IsMarkedFrom count chains last (at + 1) old → IsMarkedFrom count chains last at new
  marked_more at here old new is marked long h so_far =
      let kept : (k : ℕ) → IsNeededAt old k → IsNeededAt new k = λ k m. (h k).1 (inl m) in
      record {
        whole = long ∙ so_far.whole;
        by_last = λ k low uses. kept k (so_far.by_last k low uses);
        by_later = λ k later chain before from m there uses. elim ((h later).0 m) [
          | inl was ↦ elim (cases_eq later at) [
            | inl same ↦ (h k).1 (inr (omega (arith, before, same), subst (λ c. UsesClause c (count + k + 1)) (same_Some chain here (sym there ∙ subst (λ p. slice_get chains p ≡ Some here) (sym same) is)) uses))
            | inr ne ↦ kept k (so_far.by_later k later chain before (omega (arith, from, ne)) was there uses)
          ]
          | inr used ↦ absurd (omega (arith, from, used.0))
        ];
        only = λ k m. elim ((h k).0 m) [
          | inl was ↦ elim (so_far.only k was) [
            | inl used ↦ inl used
            | inr (later, chain, before, m2, there, uses) ↦ inr (later, chain, before, kept later m2, there, uses)
          ]
          | inr used ↦ inr (at, here, used.0, kept at marked, is, used.1)
        ];
      }

  pub marked_all : (marks : List Bool) → IsMarkedFrom count chains last 0 marks → AreNeeded count chains last marks
  marked_all marks h = record {
    whole = h.whole;
    all = λ at low used. elim used [
      | inl uses ↦ h.by_last at low uses
      | inr (later, chain, before, m, there, uses) ↦ h.by_later at later chain before (omega arith) m there uses
    ];
    only = h.only;
  }
