-- The logs of learned clauses, and what they prove.
use Rattle.std.proofs.Common.{◌≡◌, ◌≢◌, ◌∙◌, ◌⊎◌, ℕ, ◌+◌, ◌<◌, ◌≤◌, List, [], ◌∷◌, ◌++◌, length, take, refl, sym, ap, subst, arith, inl, inr}
use Rattle.std.specs.Prelude.{Option, None, Some, Contains, map, slice_get}
use Rattle.std.specs.Option.{option_and_then, option_map}
use Rattle.std.proofs.lemmas.Bool.{cases_lt}
use Rattle.std.proofs.lemmas.List.{length_push, length-append, append_assoc, get_or_append_left, get_or_push, take-append-le, take_all}
use Rattle.std.proofs.lemmas.List.Elements.{All-push, All-nil, All-map}
use Rattle.std.proofs.lemmas.Option.{slice_get_within, slice_get-get_or, get_or_from_slice_get}
use Rattle.net_model.proofs.Elements.{none_in}
use Rattle.clause_pool.specs.Literal.{Literal}
use Rattle.clause_pool.specs.Clauses.{Clause}
use Rattle.pair_miter.specs.ChainView.{ChainView}
use Rattle.pair_miter.specs.Log.{EndsFresh}
use Rattle.pair_miter.specs.Fresh.{IsFresh}
use Rattle.pair_miter.specs.Resolution.{SameLiterals, AreAlike, chain_end, log_ends}
use Rattle.solver_trail.specs.Assignment.{Assignment}
use Rattle.learn_solver.specs.Learned.{ChainEndsIn, IsLearned}
use Rattle.learn_solver.specs.Learning.{IsLearning}
use Rattle.learn_solver.specs.Logs.{without_literal}
use Rattle.learn_solver.specs.Search.{AddsAtMost}
use Rattle.learn_solver.specs.Solved.{HasLearned, HasRefutation, HasSpentLog}
use Rattle.pair_miter.proofs.SameLiterals.{same_trans, empty_alike}
use Rattle.pair_miter.proofs.Alike.{alike_some, chain_alike, fresh_alike, alike_first, alike_more}
use Rattle.pair_miter.proofs.LogEnds.{log_more, log_long}

pub learning_none : (clauses : List Clause) → IsLearning clauses clauses []
learning_none clauses = record {
  ends = [];
  are = refl;
  alike = alike_first clauses;
  nonempty = All-nil (λ end. end ≢ []);
  fresh = λ at chain end c e. absurd (let h = slice_get_within [] at end e in omega (arith, h));
}

-- an element of a list with one more
pushed_cases : {A : Type 0} (xs : List A) (y : A) (k : ℕ) (x : A) → slice_get (xs ++ y ∷ []) k ≡ Some x → ((k < length xs) × (slice_get xs k ≡ Some x)) ⊎ ((k ≡ length xs) × (y ≡ x))
pushed_cases xs y k x e =
    let within = slice_get_within (xs ++ y ∷ []) k x e in
    let size = length_push xs y in
    let at = get_or_from_slice_get (xs ++ y ∷ []) k x x e in
    elim (cases_lt k (length xs)) [
      | inl less ↦ inl (less, slice_get-get_or xs k x less ∙ ap Some (sym (get_or_append_left xs (y ∷ []) x k less) ∙ at))
      | inr over ↦ let end : length xs ≡ k = omega arith in inr (sym end, sym (get_or_push xs y x k end) ∙ at)
    ]

-- the chain with the literal at which its end is fresh
abbrev pub named_at : ChainView → Literal → ChainView
named_at chain at = record chain { fresh_at = Some at }

named_end : (clauses : List Clause) (chain : ChainView) (at : Option Literal) → chain_end clauses (record chain { fresh_at = at }) ≡ chain_end clauses chain
unfolding chain_end
named_end clauses chain at = refl

pub ends_named : (clauses : List Clause) (chain : ChainView) (at : Literal) (clause : Clause) → ChainEndsIn clauses chain clause → ChainEndsIn clauses (named_at chain at) clause
ends_named clauses chain at clause e = record { end = e.end; ends = named_end clauses chain (Some at) ∙ e.ends; same = e.same }

-- a log has the same ends without literals
bare_ends : (clauses : List Clause) (chains : List ChainView) → log_ends clauses (map without_literal chains) ≡ log_ends clauses chains
bare_ends clauses [] = refl
bare_ends clauses (chain ∷ chains) =
    ap (option_and_then (λ end. option_map (λ ends. end ∷ ends) (log_ends (clauses ++ end ∷ []) (map without_literal chains)))) (named_end clauses chain None)
    ∙ (λ i. option_and_then (λ end. option_map (λ ends. end ∷ ends) (bare_ends (clauses ++ end ∷ []) chains i)) (chain_end clauses chain))

-- as many chains as the budget allows are a spent log
pub spends : (clauses pool : List Clause) (chains : List ChainView) (conflicts : ℕ) → IsLearning clauses pool chains → length chains ≡ conflicts → HasSpentLog clauses conflicts pool chains
spends clauses pool chains conflicts h full = record {
  spent = record { ends = h.ends; are = h.are; full = full; fresh = h.fresh };
  alike = h.alike;
}

-- clauses within the budget are learned
pub learned_within : (clauses pool : List Clause) (chains : List ChainView) (limit : ℕ) → IsLearning clauses pool chains → length chains ≤ limit → HasLearned clauses limit pool
learned_within clauses pool chains limit h few = record { log = chains; few = few; learned = spends clauses pool chains (length chains) h refl }

module _ (clauses pool : List Clause) (chains : List ChainView) (h : IsLearning clauses pool chains)
    (chain : ChainView) (clause : Clause) (own : ChainEndsIn pool chain clause) where
  -- the chain's end over the clauses and the ends
  own_end : (end : Clause) × (chain_end (clauses ++ h.ends) chain ≡ Some end) × SameLiterals end own.end
  own_end = alike_some (chain_end (clauses ++ h.ends) chain) (chain_end pool chain) own.end (chain_alike (clauses ++ h.ends) pool h.alike chain) own.ends

  own_same : SameLiterals own_end.0 clause
  own_same = same_trans own_end.0 own.end clause own_end.2 own.same

  -- an empty clause ends a refutation
  pub refutes : chain.fresh_at ≡ None → clause ≡ [] → (limit : ℕ) → length chains ≤ limit → HasRefutation clauses limit pool (map without_literal chains ++ chain ∷ [])
  refutes bare empty limit few = record {
    refutation = record {
      ends = h.ends;
      are = log_more clauses (map without_literal chains) chain h.ends [] (bare_ends clauses chains ∙ h.are) (own_end.1 ∙ ap Some (empty_alike own_end.0 clause own_same empty));
      nonempty = h.nonempty;
      few = omega (arith, log_long clauses chains h.ends h.are, few);
    };
    bare = All-push (λ (c : ChainView). c.fresh_at ≡ None) (map without_literal chains) chain (All-map (λ (c : ChainView). c.fresh_at ≡ None) without_literal chains (λ k d within. refl)) bare;
    alike = h.alike;
  }

  -- a fresh clause is learned
  pub learning_more : EndsFresh pool chain clause → IsLearning clauses (pool ++ clause ∷ []) (chains ++ chain ∷ [])
  learning_more fresh = record {
    ends = h.ends ++ own_end.0 ∷ [];
    are = log_more clauses chains chain h.ends own_end.0 h.are own_end.1;
    alike = subst (λ cs. AreAlike cs (pool ++ clause ∷ [])) (append_assoc clauses h.ends (own_end.0 ∷ [])) (alike_more (clauses ++ h.ends) pool own_end.0 clause h.alike own_same);
    nonempty = All-push (λ end. end ≢ []) h.ends own_end.0 h.nonempty not_empty;
    fresh = λ k c e c_is e_is. elim (pushed_cases h.ends own_end.0 k e e_is) [
      | inl old ↦ elim (pushed_cases chains chain k c c_is) [
        | inl there ↦
            subst (λ ends. EndsFresh (clauses ++ ends) c e) (sym (take-append-le k h.ends (own_end.0 ∷ []) (omega (arith, old.0)))) (h.fresh k c e there.1 old.1)
        | inr end ↦ absurd (omega (arith, end.0, old.0, log_long clauses chains h.ends h.are))
      ]
      | inr new ↦ elim (pushed_cases chains chain k c c_is) [
        | inl there ↦ absurd (omega (arith, there.0, new.0, log_long clauses chains h.ends h.are))
        | inr end ↦
            let front : take k (h.ends ++ own_end.0 ∷ []) ≡ h.ends = take-append-le k h.ends (own_end.0 ∷ []) (omega (arith, new.0)) ∙ take_all k h.ends (omega (arith, new.0)) in
            subst (λ ends. EndsFresh (clauses ++ ends) c e) (sym front) (subst (EndsFresh (clauses ++ h.ends) c) new.1 (subst (λ x. EndsFresh (clauses ++ h.ends) x own_end.0) end.1 ends_fresh))
      ]
    ];
  }
    where
      not_empty : own_end.0 ≢ []
      not_empty e = none_in fresh.at (subst (λ c. Contains c fresh.at) e ((own_same fresh.at).1 fresh.fresh.inside))

      ends_fresh : EndsFresh (clauses ++ h.ends) chain own_end.0
      ends_fresh = record { nonempty = not_empty; at = fresh.at; is_at = fresh.is_at; fresh = fresh_alike (clauses ++ h.ends) pool h.alike own_end.0 clause fresh.at own_same fresh.fresh }

-- all clauses of the pool were learned, whether the fresh clause was added to it or not
pub learned_at_most : (clauses pool : List Clause) (chains : List ChainView) (h : IsLearning clauses pool chains) (chain : ChainView) (clause : Clause) → ChainEndsIn pool chain clause → EndsFresh pool chain clause
    → (new : List Clause) → AddsAtMost pool clause new → (limit : ℕ) → length chains < limit → HasLearned clauses limit new
learned_at_most clauses pool chains h chain clause own fresh new (inl same) limit few =
    subst (HasLearned clauses limit) (sym same) (learned_within clauses pool chains limit h (omega (arith, few)))
learned_at_most clauses pool chains h chain clause own fresh new (inr more) limit few =
    subst (HasLearned clauses limit) (sym more)
    (learned_within clauses (pool ++ clause ∷ []) (chains ++ chain ∷ []) limit (learning_more clauses pool chains h chain clause own fresh) (omega (arith, few, length_push chains chain)))

-- a learned clause with literals comes from a conflict above level 0
pub learned_above : (a : Assignment) (pool : List Clause) (chain : ChainView) (clause : Clause) (back : ℕ) → IsLearned a pool chain clause back → 0 < length clause → 0 < a.level
learned_above a pool chain clause back learned some = elim (cases_lt 0 a.level) [
  | inl above ↦ above
  | inr le ↦ (let none : length clause ≡ 0 = ap length (learned.empty (omega arith)) in absurd (omega arith))
]

-- the pool has the first clauses and one for each chain
pub learning_long : (clauses pool : List Clause) (chains : List ChainView) → IsLearning clauses pool chains → length pool ≡ length clauses + length chains
learning_long clauses pool chains h = sym h.alike.long ∙ (length-append clauses h.ends ∙ ap (λ n. length clauses + n) (log_long clauses chains h.ends h.are))
