-- The lines of the bridges that are listed are lines of the circuit, so each has a name.
use Rattle.std.proofs.Common.{◌≡◌, ℕ, ◌<◌, List, get_or, sym, subst, arith}
use Rattle.std.specs.Prelude.{Bool, All, Contains}
use Rattle.std.proofs.lemmas.List.{get_or_default}
use Rattle.std.proofs.lemmas.List.Elements.{All-take}
use Rattle.net_model.specs.Circuit.{Circuit, line_count}
use Rattle.dict_rows.specs.AnswerTable.{Answers}
use Rattle.ranked_diag.specs.PartialLog.{Line}
use Rattle.bridging_faults.specs.declared.scored.ScoredBridge.{ScoredBridge}
use Rattle.bridging_faults.specs.BridgeList.{BridgeList}
use Rattle.bridging_faults.specs.Bridge.{IsBridgeOf}
use Rattle.bridging_faults.specs.Found.{AreListed}

module _ {c : Circuit} {patterns : List (List Bool)} {table : Answers} {lines : List Line} {within most : ℕ} {list : BridgeList} (are : AreListed c patterns table lines within most list) where
  bridge_of : (s : ScoredBridge) → Contains are.ranked s → IsBridgeOf c s.bridge
  bridge_of s there = ((are.are.exactly s).0 there).bridge

  pub first_named : {names : ℕ} → names ≡ line_count c → All (λ (s : ScoredBridge). s.bridge.first < names) list.listed
  first_named {names} named =
      let Named : ScoredBridge → Type 0 = λ s. s.bridge.first < names in
      let ranked : All Named are.ranked = λ k d inside.
      let s = get_or are.ranked k d in
      omega (arith, (bridge_of s (k, inside, get_or_default are.ranked k s d inside)).first_inside, named) in
      subst (λ (xs : List ScoredBridge). All Named xs) (sym are.first) (All-take Named most are.ranked ranked)

  pub second_named : {names : ℕ} → names ≡ line_count c → All (λ (s : ScoredBridge). s.bridge.second < names) list.listed
  second_named {names} named =
      let Named : ScoredBridge → Type 0 = λ s. s.bridge.second < names in
      let ranked : All Named are.ranked = λ k d inside.
      let s = get_or are.ranked k d in
      omega (arith, (bridge_of s (k, inside, get_or_default are.ranked k s d inside)).second_inside, named) in
      subst (λ (xs : List ScoredBridge). All Named xs) (sym are.first) (All-take Named most are.ranked ranked)
