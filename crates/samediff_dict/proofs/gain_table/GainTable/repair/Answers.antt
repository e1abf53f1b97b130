use Rattle.std.proofs.Common.{◌≡◌, ◌∙◌, ◌++◌, ◌+◌, ◌<◌, ℕ, List, [], Vec, Global, length, get_or, set, map, take, drop, sym, ap, subst, arith}
use Rattle.std.specs.Vec.{with_items}
use Rattle.std.proofs.Math.Seq.{take-append_seam}
use Rattle.std.proofs.lemmas.List.{map-set, get_or-map, length-map, get_or-set_same}
use Rattle.std.proofs.lemmas.Result.{on_ok_weaker}
use Rattle.samediff_dict.specs.Moved.{AreGainsAfter}
use Rattle.samediff_dict.specs.GainTable.{KeepsRowsOutside}
use Rattle.samediff_dict.proofs.DescentLemmas.{row_set}
use Rattle.samediff_dict.proofs.gain_table.GainTable.repair.Goals as goal
use Rattle.samediff_dict.proofs.gain_table.GainTable.repair.Goals.{After-repair}

abbrev items_of : Vec ℕ Global → List ℕ
items_of row = row.items

module _ (c : After-repair) where
  -- the row's elements are those that were repaired
  row_is : items_of (with_items c.index_mut.result.now c.repair.new.gains) ≡ c.repair.new.gains
  row_is =
      let old = c.index_mut.result.now in
      let new = c.repair.new.gains in
      let rest = drop (length new) old.items in
      let long : old.len ≡ length new = omega (arith, old.ok.0, ap length c.as_mut_slice.ensures.value, c.repair.auto.gains) in
      ap (λ n. take n (new ++ rest)) long ∙ take-append_seam new rest

  whole : map items_of (set c.self.inside.rows.items c.args.pattern (with_items c.index_mut.result.now c.repair.new.gains)) ≡ set c.args.self.now c.args.pattern c.repair.new.gains
  whole = map-set items_of c.self.inside.rows.items c.args.pattern (with_items c.index_mut.result.now c.repair.new.gains) ∙ (λ i. set (c.self.view_is i) c.args.pattern (row_is i))

  was : c.as_mut_slice.result.now ≡ get_or c.args.self.now c.args.pattern []
  was =
      let inside : c.args.pattern < length c.self.inside.rows.items = omega (arith, c.requires.pattern, ap length c.self.view_is, length-map c.self.inside.rows.items items_of) in
      c.as_mut_slice.ensures.value
      ∙ (ap items_of c.index_mut.ensures.value
      ∙ (sym (get_or-map items_of c.self.inside.rows.items c.args.pattern c.index_mut.result.now [] inside) ∙ ap (λ (xs : List (List ℕ)). get_or xs c.args.pattern []) c.self.view_is))

pub returns-clause-gains : goal.returns-clause-gains
returns-clause-gains c =
    let at = (goal.at.returns-clause-gains c).After-repair in
    let rows = map items_of (set c.self.inside.rows.items c.args.pattern (with_items c.index_mut.result.now c.repair.new.gains)) in
    let new : get_or rows c.args.pattern [] ≡ c.repair.new.gains = ap (λ (xs : List (List ℕ)). get_or xs c.args.pattern []) (whole at) ∙ get_or-set_same c.args.self.now c.args.pattern c.repair.new.gains [] c.requires.pattern in
    let After : List ℕ → List ℕ → Type 0 = λ old repaired. AreGainsAfter c.args.part.now c.args.step.numbers.now c.args.step.old c.args.step.new c.args.answers.now old repaired in
    on_ok_weaker c.repair.result (λ after. subst (λ (row : List ℕ). After (get_or c.args.self.now c.args.pattern []) row) (sym new) (subst (λ (row : List ℕ). After row c.repair.new.gains) (was at) after)) c.repair.ensures

pub returns-clause-others : goal.returns-clause-others
returns-clause-others c =
    let at = (goal.at.returns-clause-others c).After-repair in
    let kept = subst (λ (rows : List (List ℕ)). KeepsRowsOutside c.args.pattern (c.args.pattern + 1) c.args.self.now rows) (sym (whole at)) (row_set c.args.pattern c.args.self.now c.repair.new.gains) in
    on_ok_weaker c.repair.result (λ after. kept) c.repair.ensures
