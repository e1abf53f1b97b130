-- The ends of a log's chains, with one more chain before or after.
use Rattle.std.proofs.Common.{◌≡◌, ◌∙◌, ℕ, zero, suc, List, [], ◌∷◌, ◌++◌, length, take, refl, sym, ap}
use Rattle.std.specs.Prelude.{Option, Some, None, slice_get}
use Rattle.std.specs.Option.{option_and_then, option_map}
use Rattle.std.proofs.lemmas.List.{append-nil, append_assoc}
use Rattle.clause_pool.specs.Clauses.{Clause}
use Rattle.pair_miter.specs.ChainView.{ChainView}
use Rattle.pair_miter.specs.Resolution.{chain_end, log_ends}

-- the parts of the ends of a log with a first chain
pub record Parts (clauses : List Clause) (chain : ChainView) (chains : List ChainView) (ends : List Clause) : Type 0 where
  pub first : Clause
  pub rest : List Clause
  pub first_is : chain_end clauses chain ≡ Some first
  pub rest_are : log_ends (clauses ++ first ∷ []) chains ≡ Some rest
  pub are : ends ≡ first ∷ rest

pub parts_of : (clauses : List Clause) (chain : ChainView) (chains : List ChainView) (ends : List Clause) → log_ends clauses (chain ∷ chains) ≡ Some ends → Parts clauses chain chains ends
parts_of clauses chain chains ends e = by (chain_end clauses chain) refl e
  where
    later : (first : Clause) (o : Option (List Clause)) → chain_end clauses chain ≡ Some first → log_ends (clauses ++ first ∷ []) chains ≡ o → option_map (λ more. first ∷ more) o ≡ Some ends → Parts clauses chain chains ends
    later first None f r e = absurd (let w : ◌≡◌ {A = Option (List Clause)} None (Some ends) = e in cc)
    later first (Some rest) f r e = record { first = first; rest = rest; first_is = f; rest_are = r; are = sym (let w : ◌≡◌ {A = Option (List Clause)} (Some (first ∷ rest)) (Some ends) = e in cc) }

    by : (o : Option Clause) → chain_end clauses chain ≡ o → option_and_then (λ end. option_map (λ more. end ∷ more) (log_ends (clauses ++ end ∷ []) chains)) o ≡ Some ends → Parts clauses chain chains ends
    by None f e = absurd (let w : ◌≡◌ {A = Option (List Clause)} None (Some ends) = e in cc)
    by (Some first) f e = later first (log_ends (clauses ++ first ∷ []) chains) f refl e

pub log_more : (clauses : List Clause) (log : List ChainView) (chain : ChainView) (ends : List Clause) (end : Clause) → log_ends clauses log ≡ Some ends → chain_end (clauses ++ ends) chain ≡ Some end
    → log_ends clauses (log ++ chain ∷ []) ≡ Some (ends ++ end ∷ [])
log_more clauses [] chain ends end are is =
    let none : [] ≡ ends = (let w : ◌≡◌ {A = Option (List Clause)} (Some []) (Some ends) = are in cc) in
    let own : chain_end clauses chain ≡ Some end = ap (λ cs. chain_end cs chain) (sym (append-nil clauses) ∙ ap (λ more. clauses ++ more) none) ∙ is in
    ap (option_and_then (λ e. option_map (λ more. e ∷ more) (log_ends (clauses ++ e ∷ []) []))) own ∙ ap (λ more. Some (more ++ end ∷ [])) none
log_more clauses (first ∷ log) chain ends end are is =
    let p = parts_of clauses first log ends are in
    let inner : chain_end ((clauses ++ p.first ∷ []) ++ p.rest) chain ≡ Some end =
    ap (λ cs. chain_end cs chain) (append_assoc clauses (p.first ∷ []) p.rest ∙ ap (λ more. clauses ++ more) (sym p.are)) ∙ is in
    let more = log_more (clauses ++ p.first ∷ []) log chain p.rest end p.rest_are inner in
    ap (option_and_then (λ e. option_map (λ more. e ∷ more) (log_ends (clauses ++ e ∷ []) (log ++ chain ∷ [])))) p.first_is
    ∙ (ap (option_map (λ more. p.first ∷ more)) more ∙ ap (λ xs. Some (xs ++ end ∷ [])) (sym p.are))

pub log_long : (clauses : List Clause) (log : List ChainView) (ends : List Clause) → log_ends clauses log ≡ Some ends → length ends ≡ length log
log_long clauses [] ends are = let none : [] ≡ ends = (let w : ◌≡◌ {A = Option (List Clause)} (Some []) (Some ends) = are in cc) in ap length (sym none)
log_long clauses (first ∷ log) ends are =
    let p = parts_of clauses first log ends are in
    let rest = log_long (clauses ++ p.first ∷ []) log p.rest p.rest_are in
    ap length p.are ∙ ap suc rest

-- the ends before a place are those of the chains before it, and the end there is that of the chain there
pub log_part : (clauses : List Clause) (log : List ChainView) (ends : List Clause) (at : ℕ) (chain : ChainView) → log_ends clauses log ≡ Some ends → slice_get log at ≡ Some chain
    → (log_ends clauses (take at log) ≡ Some (take at ends)) × (chain_end (clauses ++ take at ends) chain ≡ slice_get ends at)
log_part clauses [] ends at chain are is = cc
log_part clauses (first ∷ log) ends zero chain are is =
    let p = parts_of clauses first log ends are in
    let same : first ≡ chain = (let w : ◌≡◌ {A = Option ChainView} (Some first) (Some chain) = is in cc) in
    (refl, ap (λ cs. chain_end cs chain) (append-nil clauses) ∙ (ap (chain_end clauses) (sym same) ∙ (p.first_is ∙ ap (λ es. slice_get es 0) (sym p.are))))
log_part clauses (first ∷ log) ends (suc at) chain are is =
    let p = parts_of clauses first log ends are in
    let rest = log_part (clauses ++ p.first ∷ []) log p.rest at chain p.rest_are is in (
      ap (option_and_then (λ e. option_map (λ more. e ∷ more) (log_ends (clauses ++ e ∷ []) (take at log)))) p.first_is
          ∙ (ap (option_map (λ more. p.first ∷ more)) rest.0 ∙ ap (λ es. Some (take (suc at) es)) (sym p.are)),
      ap (λ es. chain_end (clauses ++ take (suc at) es) chain) p.are
          ∙ (ap (λ cs. chain_end cs chain) (sym (append_assoc clauses (p.first ∷ []) (take at p.rest))) ∙ (rest.1 ∙ ap (λ es. slice_get es (suc at)) (sym p.are))),
    )
