-- How many leaves are closed, and whether one is open.
use Rattle.std.proofs.Common.{◌≡◌, ◌≢◌, ℕ, eqb-true, eq-eqb, ◌+◌, ◌<◌, ◌≤◌, List, [], ◌∷◌, refl, sym, ◌∙◌, subst, arith}
use Rattle.std.specs.Prelude.{Bool, true, false, cond, ◌==◌, Contains, if◌then◌else◌}
use Rattle.std.specs.List.{list_any}
use Rattle.std.proofs.lemmas.Bool.{false≢true}
use Rattle.std.proofs.lemmas.List.Sums.{sum_by-cons}
use Rattle.net_model.specs.declared.fault.Fault.{Fault}
use Rattle.net_model.specs.Circuit.{Circuit}
use Rattle.net_model.proofs.Elements.{passing, any_from}
use Rattle.pair_sets.specs.declared.state.PairState.TheVariants.{AllSame}
use Rattle.pair_sets.specs.declared.tree.Token.{Token}
use Rattle.pair_sets.specs.declared.tree.Token.TheVariants.{Split, Closed, Rest}
use Rattle.pair_sets.specs.Cube.{Cube}
use Rattle.pair_sets.specs.CubeState.{IsState}
use Rattle.pair_sets.specs.PairSim.{PairSim}
use Rattle.pair_sets.specs.Subtree.{IsSubtree}
use Rattle.pair_sets.specs.Tree.{closed_count}
use Rattle.pair_sets.proofs.TreeLemmas.{closed_leaf, open_leaf, subtree_is_tree}
use Rattle.distinguish_search.specs.declared.frames.Frame.{Frame}
use Rattle.distinguish_search.specs.declared.searched.Searched.TheVariants.{Covered, Spent}
use Rattle.distinguish_search.specs.End.{leaf_token}
use Rattle.distinguish_search.specs.Searched.{IsSearched}
use Rattle.distinguish_search.specs.Frames.{IsUnderWay, is_open_leaf, open_leaves, closed_in, open_in, SplitsOn, GoesOn, IsWholeTree}

-- The search is under way with `closed` closed leaves, at most `leaves`, and a leaf is open only if they are as many.
pub record IsInBudget (c : Circuit) (f g : Fault) (leaves closed : ℕ) (sim : PairSim) (frames : List Frame) : Type 0 where
  pub under_way : IsUnderWay c f g sim frames
  pub counted : closed_in frames ≡ closed
  pub few : closed ≤ leaves
  pub spent : 0 < open_in frames → closed ≡ leaves

-- ---- a leaf

pub leaf_right : (c : Circuit) (f g : Fault) (cube : Cube) (full : Bool) → (full ≡ false → IsState c f g cube AllSame) → IsSubtree c f g cube (leaf_token full ∷ [])
leaf_right c f g cube true same = open_leaf c f g cube
leaf_right c f g cube false same = closed_leaf c f g cube (same refl)

closed_of_leaf : (full : Bool) → closed_count (leaf_token full ∷ []) ≡ (if full then 0 else 1)
closed_of_leaf true = refl
closed_of_leaf false = refl

open_of_leaf : (full : Bool) → open_leaves (leaf_token full ∷ []) ≡ (if full then 1 else 0)
open_of_leaf true = refl
open_of_leaf false = refl

-- ---- open leaves

is_rest : (token : Token) → is_open_leaf token ≡ true → token ≡ Rest
is_rest Rest e = refl
is_rest (Split source) e = cc
is_rest Closed e = cc

some_open : (tokens : List Token) → list_any is_open_leaf tokens ≡ true → Contains tokens Rest
some_open tokens e = let found = passing is_open_leaf tokens e in subst (Contains tokens) (is_rest found.0 found.2) found.1

none_open : (tokens : List Token) → list_any is_open_leaf tokens ≡ false → Contains tokens Rest → ⊥
none_open tokens e m = let t : list_any is_open_leaf tokens ≡ true = any_from is_open_leaf tokens Rest m refl in false≢true (sym e ∙ t)

open_counted : (tokens : List Token) → list_any is_open_leaf tokens ≡ true → 0 < open_leaves tokens
open_counted [] e = cc
open_counted (Split source ∷ tokens) e = omega (arith, open_counted tokens e, sum_by-cons (λ token. cond (is_open_leaf token) 1 0) (Split source) tokens)
open_counted (Closed ∷ tokens) e = omega (arith, open_counted tokens e, sum_by-cons (λ token. cond (is_open_leaf token) 1 0) Closed tokens)
open_counted (Rest ∷ tokens) e = omega (arith, sum_by-cons (λ token. cond (is_open_leaf token) 1 0) Rest tokens)

-- ---- one leaf more

-- `now` closed leaves are counted, at most `leaves`, and a leaf is open only if they are as many.
record IsCounted (leaves now closed_total open_total : ℕ) : Type 0 where
  counted : closed_total ≡ now
  few : now ≤ leaves
  spent : 0 < open_total → now ≡ leaves

module _ (c : Circuit) (f g : Fault) (leaves closed now : ℕ) (sim : PairSim) (start frames : List Frame) (budget : IsInBudget c f g leaves closed sim start) (on : SplitsOn c.sources start frames) where
  count_from : (full : Bool) (closed_total open_total : ℕ) → (closed == leaves) ≡ full → now ≡ (if full then closed else closed + 1)
      → closed_total ≡ closed_count (leaf_token full ∷ []) + closed_in frames → open_total ≡ open_leaves (leaf_token full ∷ []) + open_in frames → IsCounted leaves now closed_total open_total
  count_from true closed_total open_total t e d o =
      let same : closed ≡ leaves = eqb-true closed leaves t in record {
        counted = omega (arith, d, closed_of_leaf true, on.closed, budget.counted, e);
        few = omega (arith, e, same);
        spent = λ h. e ∙ same;
      }
  count_from false closed_total open_total t e d o =
      let ne : closed ≢ leaves = λ same. false≢true (sym t ∙ eq-eqb closed leaves same) in record {
        counted = omega (arith, d, closed_of_leaf false, on.closed, budget.counted, e);
        few = omega (arith, e, budget.few, ne);
        spent = λ h. absurd (ne (budget.spent (omega (arith, h, o, open_of_leaf false, on.left_open))));
      }

  module _ (full : Bool) (is : (closed == leaves) ≡ full) (more : now ≡ (if full then closed else closed + 1)) where
    -- a whole tree is what is found
    pub whole_found : (tree : List Token) → IsWholeTree c f g (leaf_token full ∷ []) frames tree → IsSearched c f g leaves (if list_any is_open_leaf tree then Spent tree else Covered tree)
    whole_found tree whole = by (list_any is_open_leaf tree) refl
      where
        counts : IsCounted leaves now (closed_count tree) (open_leaves tree)
        counts = count_from full (closed_count tree) (open_leaves tree) is more whole.closed whole.left_open

        by : (b : Bool) → list_any is_open_leaf tree ≡ b → IsSearched c f g leaves (if b then Spent tree else Covered tree)
        by true e = record { tree = subtree_is_tree c f g tree whole.right; open_leaf = some_open tree e; full = counts.counted ∙ counts.spent (open_counted tree e) }
        by false e = record { tree = subtree_is_tree c f g tree whole.right; covered = none_open tree e; few = omega (arith, counts.counted, counts.few) }

    pub still_in_budget : (new : PairSim) (later : List Frame) → GoesOn c f g (leaf_token full ∷ []) frames new later → IsInBudget c f g leaves now new later
    still_in_budget new later on_goes =
        let counts = count_from full (closed_in later) (open_in later) is more on_goes.closed on_goes.left_open in
        record { under_way = on_goes.under_way; counted = counts.counted; few = counts.few; spent = counts.spent }
