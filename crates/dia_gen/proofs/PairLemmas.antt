-- Proofs that a search gives.
use Rattle.std.proofs.Common.{◌≡◌, ◌≢◌, ℕ, ◌+◌, ◌<◌, ◌^◌, List, [], ◌∷◌, ◌++◌, length, length-append, refl, sym, ap, ◌∙◌, inl, inr, Bool, true, Option, arith}
use Rattle.std.specs.Prelude.{All, None, Result, Ok, Err, IfOk}
use Rattle.std.specs.declared.alloc.AllocError.{AllocError}
use Rattle.std.proofs.lemmas.List.Elements.{All-from_get_or, All-nil, All-weaker}
use Rattle.net_model.specs.declared.fault.Fault.{Fault}
use Rattle.net_model.specs.Answer.{bit_at, Separates}
use Rattle.net_model.specs.Scope.{is_relevant}
use Rattle.net_model.specs.Circuit.{Circuit, IsCircuit}
use Rattle.clause_pool.specs.Clauses.{Clause}
use Rattle.clause_pool.specs.Proper.{HasVariablesUpTo, IsProper}
use Rattle.pair_sets.specs.declared.tree.Token.{Token}
use Rattle.pair_sets.specs.declared.tree.Token.TheVariants.{Split, Closed, Rest}
use Rattle.pair_sets.specs.Cube.{Cube}
use Rattle.pair_sets.specs.Tree.{IsTree, IsRightAt, waiting_after, token_at}
use Rattle.pair_miter.specs.ChainView.{ChainView}
use Rattle.pair_miter.specs.Miter.{miter}
use Rattle.pair_miter.specs.Variables.{variable_count}
use Rattle.pair_miter.proofs.LogEnds.{log_long}
use Rattle.pair_miter.proofs.Within.{miter_proper}
use Rattle.pair_miter.proofs.Bounds.{few_clauses, few_variables_of}
use Rattle.distinguish_search.specs.declared.searched.Searched.TheVariants as searched
use Rattle.distinguish_search.specs.Searched.{SeparatesAll}
use Rattle.learn_solver.specs.Solved.{HasRefutation, HasSpentLog}
use Rattle.result_records.specs.declared.record.Budgets.{Budgets}
use Rattle.result_records.specs.declared.record.Proof.TheVariants as proof
use Rattle.result_records.specs.Limits.{AreWithinLimits}
use Rattle.result_records.specs.Spelling.{HasTokenSpelling, HasTreeSpelling, IsPlainChain, IsFreshChain}
use Rattle.net_model.specs.Collapse.{root}
use Rattle.net_model.specs.FaultList.{fault_numbered}
use Rattle.net_model.proofs.Copies.{All-at}
use Rattle.result_records.specs.declared.record.Proof.{Proof}
use Rattle.dia_gen.specs.declared.pair.Settled.{Settled}
use Rattle.dia_gen.specs.declared.pair.Settled.TheVariants.{Apart, By}
use Rattle.dia_gen.specs.Settled.{AreApartBy, HasRelevant, IsSearchedFor, IsOpenFor, IsProofBy, IsProofFor, IsSettledBy, IsSettledFor}
use Rattle.dia_gen.proofs.FreeSources.{separates_also}
use Rattle.dia_gen.proofs.LogSpelling.{literal_spelled, log_spelled}

module _ (c : Circuit) (f g : Fault) (small : c.sources < 2 ^ 32) where
  token_spelling : (token : Token) (cube : Cube) → IsRightAt c f g token cube → HasTokenSpelling token
  token_spelling (Split source) cube right = omega (arith, right.0)
  token_spelling Closed cube right = tt
  token_spelling Rest cube right = tt

  some_token : (tokens : List Token) → waiting_after tokens ≡ [] → tokens ≢ []
  some_token tokens whole none =
      let one : ◌≡◌ {A = List Cube} ([] ∷ []) [] = sym (ap waiting_after none) ∙ whole in
      cc

  tree_spelling : (tokens : List Token) → IsTree c f g tokens → HasTreeSpelling tokens
  tree_spelling tokens tree = record {
    nonempty = some_token tokens tree.shape.whole;
    each = All-from_get_or HasTokenSpelling tokens Rest (λ at below. let right = tree.each at below in token_spelling (token_at tokens at) right.0 right.2);
  }

module _ (c : Circuit) (is : IsCircuit c) (f g : Fault) (budgets : Budgets) (tokens : List Token) where
  sources : c.sources < 2 ^ 32
  sources = let small = is.small in omega (arith, small)

  pub covered_by : IsSearchedFor c f g budgets (searched.Covered tokens) → IsProofBy c f g budgets (proof.Covered tokens)
  covered_by s = record { roots = λ apart. apart; spelled = tree_spelling c f g sources tokens s.is_searched.tree; right = s.is_searched; no_search = λ none. absurd (let e = s.none none in cc); no_refutation = λ none. tt }

  pub open_for : IsSearchedFor c f g budgets (searched.Spent tokens) → IsOpenFor c f g budgets tokens
  open_for s = record { spending = s.is_searched; none = λ none. (let e = s.none none in cc) }

  module _ (left : IsOpenFor c f g budgets tokens) where
    spelled_tree : HasTreeSpelling tokens
    spelled_tree = tree_spelling c f g sources tokens left.spending.tree

    -- Without a budget of conflicts.
    pub unlearned_by : budgets.conflicts ≡ 0 → IsProofBy c f g budgets (proof.Spent tokens [])
    unlearned_by none = record {
      roots = λ apart. apart;
      spelled = (spelled_tree, All-nil IsFreshChain);
      right = (left.spending, record { ends = []; are = refl; full = sym none; fresh = λ at chain end there. absurd (cc) });
      no_search = left.none;
      no_refutation = λ none. tt;
    }

    module _ (limits : AreWithinLimits budgets) (pool : List Clause) (log : List ChainView) where
      inside : All (HasVariablesUpTo (variable_count c f g)) (miter c f g)
      inside = All-weaker (IsProper (variable_count c f g)) (HasVariablesUpTo (variable_count c f g)) (λ clause proper. proper.inside) (miter c f g) (miter_proper c f g is)

      few : length (miter c f g) + (budgets.conflicts + 1) < 2 ^ 32
      few = omega (arith, few_clauses c f g is, limits.conflicts)

      pub refuted_by : budgets.conflicts ≢ 0 → HasRefutation (miter c f g) budgets.conflicts pool log → IsProofBy c f g budgets (proof.Refuted tokens log)
      refuted_by some r =
          let long = log_long (miter c f g) log (r.refutation.ends ++ [] ∷ []) r.refutation.are in
          let count = length-append r.refutation.ends ([] ∷ []) in
          record {
            roots = λ apart. apart;
            spelled = (
              spelled_tree,
              (
                λ none. (let z : length log ≡ 0 = ap length none in omega (arith, long, count)),
                log_spelled (variable_count c f g) (omega (arith, few_variables_of c f g is)) IsPlainChain (miter c f g) log (r.refutation.ends ++ [] ∷ []) inside (omega (arith, few, long, count, r.refutation.few)) r.refutation.are
                    (λ chain at end there ends within.
                    let bare = All-at (λ (ch : ChainView). ch.fresh_at ≡ None) log at chain r.bare there in
                    (rw bare tt, λ spelled. (spelled, bare))),
              ),
            );
            right = (left.spending, r.refutation);
            no_search = left.none;
            no_refutation = some;
          }

      pub spent_by : HasSpentLog (miter c f g) budgets.conflicts pool log → IsProofBy c f g budgets (proof.Spent tokens log)
      spent_by r = record {
        roots = λ apart. apart;
        spelled = (
          spelled_tree,
          log_spelled (variable_count c f g) (omega (arith, few_variables_of c f g is)) IsFreshChain (miter c f g) log r.spent.ends inside (omega (arith, few, r.spent.full)) r.spent.are
              (λ chain at end there ends within.
              let fresh = r.spent.fresh at chain end there ends in
              let literal = literal_spelled (variable_count c f g) (omega (arith, few_variables_of c f g is)) end fresh.at within fresh.fresh.inside in
              (rw fresh.is_at literal, λ spelled. (spelled, rw fresh.is_at refl))),
        );
        right = (left.spending, r.spent);
        no_search = left.none;
        no_refutation = λ none. tt;
      }

module _ (c : Circuit) (f g : Fault) (budgets : Budgets) where
  -- A cube that a search finds.
  pub cube_apart : (cube : List (Option Bool)) → budgets.cubes ≢ 0 → SeparatesAll c f g cube → AreApartBy c f g budgets cube
  cube_apart cube some all = record {
    width = all.width;
    each = λ v of.
        let width : length v ≡ c.sources = of.width ∙ all.width in
        record { budget = inl some; width = width; separates = all.each v width of.fixed };
  }

  -- The bits at the relevant sources of a vector that separates the two.
  pub vector_apart : IsCircuit c → (v : List Bool) (cube : List (Option Bool)) → budgets.conflicts ≢ 0 → Separates c v f g → length cube ≡ length v → HasRelevant c f g v cube → AreApartBy c f g budgets cube
  vector_apart is v cube some apart wide fixed = record {
    width = wide ∙ apart.width;
    each = λ w of.
        let width : length w ≡ c.sources = of.width ∙ wide ∙ apart.width in
        let same : (source : ℕ) → source < c.sources → is_relevant c f g source ≡ true → bit_at v source ≡ bit_at w source =
        λ source inside relevant. sym (of.fixed source (bit_at v source) (fixed source (omega (arith, inside, apart.width)) relevant)) in
        record { budget = inr some; width = width; separates = separates_also c is f g v w same apart width };
  }

pub proof_for : {c : Circuit} {budgets : Budgets} {m n : ℕ} {p : Proof} → root c (fault_numbered c m) ≢ root c (fault_numbered c n) → IsProofBy c (fault_numbered c m) (fault_numbered c n) budgets p → IsProofFor c budgets m n p
proof_for apart is = record { roots = is.roots apart; spelled = is.spelled; right = is.right; no_search = is.no_search; no_refutation = is.no_refutation }

-- What settles a pair whose roots differ.
pub settled_for : (c : Circuit) (budgets : Budgets) (m n : ℕ) → root c (fault_numbered c m) ≢ root c (fault_numbered c n) → (result : Result Settled AllocError) → IfOk result (IsSettledBy c (fault_numbered c m) (fault_numbered c n) budgets) → IfOk result (IsSettledFor c budgets m n)
settled_for c budgets m n apart (Ok (Apart v)) is = is
settled_for c budgets m n apart (Ok (By p)) is = proof_for apart is
settled_for c budgets m n apart (Err e) is = is
