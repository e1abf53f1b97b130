use Rattle.std.proofs.Common.{◌≡◌, ◌∙◌, ◌+◌, ◌<◌, ℕ, List, length, sym, ap, subst, arith}
use Rattle.std.specs.Prelude.{All}
use Rattle.std.specs.List.{range_with_len}
use Rattle.std.proofs.lemmas.List.FromFn.{length-range_with_len}
use Rattle.net_model.specs.Rows.{row_at}
use Rattle.class_refine.proofs.Ranges.{range_below}
use Rattle.dict_rows.specs.Rows.{AreRowsBegun}
use Rattle.samediff_dict.specs.Numbered.{baselines_at}
use Rattle.samediff_dict.proofs.LeadLemmas.{places_wanted}
use Rattle.samediff_dict.proofs.setting.copy_range.Given as given
use Rattle.samediff_dict.proofs.setting.copy_range.Goals as goal
use Rattle.samediff_dict.proofs.setting.copy_range.Goals.{After-as_slice}

places_are : (g : given.Over) (c : After-as_slice g) → c.as_slice.result.now ≡ range_with_len 0 (length c.in_ok-table.table.rows)
places_are g c = c.as_slice.ensures.value ∙ (c.in_ok-places.ensures ∙ ap (range_with_len 0) c.patterns.ensures.value)

-- the table's patterns are those of the range
sum : (g : given.Over) (c : After-as_slice g) → c.args.first + length c.in_ok-table.table.rows ≡ c.args.end
sum g c = omega (arith, c.in_ok-table.ensures.sizes.patterns_are, c.requires.1.0)

pub chosen_answers-requires : goal.chosen_answers-requires
chosen_answers-requires g c = (c.requires.0, (c.requires.1.0, c.requires.1.1.0))

pub copy_own-requires-clause-known : goal.copy_own-requires-clause-known
copy_own-requires-clause-known g c =
    let table = c.in_ok-table.table in
    subst (λ (xs : List ℕ). All (λ number. number < table.numbers) xs) (sym (places_are g (goal.at.copy_own-requires-clause-known g c).After-as_slice))
    (λ k d h. omega (arith, range_below (length table.rows) k d h, c.in_ok-table.ensures.sizes.numbers_are, c.in_ok-table.ensures.sizes.patterns_are))

pub copy_own-requires-clause-one_each : goal.copy_own-requires-clause-one_each
copy_own-requires-clause-one_each g c = ap length (places_are g (goal.at.copy_own-requires-clause-one_each g c).After-as_slice) ∙ length-range_with_len 0 (length c.in_ok-table.table.rows)

pub copy_own-requires-clause-within : goal.copy_own-requires-clause-within
copy_own-requires-clause-within g c =
    let at = (goal.at.copy_own-requires-clause-within g c).After-as_slice in
    omega (arith, sum g at, c.requires.1.1.0, c.requires.1.1.1.are.count_is)

pub copy_own-requires-clause-width : goal.copy_own-requires-clause-width
copy_own-requires-clause-width g c =
    let rows = c.args.rows.now in
    let are = c.requires.1.1.1.are in
    subst (λ w. All (λ row. length row ≡ w) rows) (sym c.in_ok-table.ensures.sizes.positions_are) are.width_is

pub returns : goal.returns
returns g c =
    let at = (goal.at.returns g c).After-as_slice in
    let table = c.in_ok-table.table in
    let chosen = c.args.chosen.now in
    let wanted = row_at (baselines_at c.args.setting.now.classes.now g.t.rows chosen) in
    let width : table.positions ≡ g.t.positions = c.in_ok-table.ensures.sizes.positions_are in
    let before = subst (λ w. AreRowsBegun (length chosen) w c.args.first wanted c.args.rows.now) (sym width) c.requires.1.1.1 in
    let now = c.copy_own.ensures (length chosen) wanted (places_wanted table c.as_slice.result.now c.args.first wanted (places_are g at) (λ n h. c.in_ok-table.ensures.own n (omega (arith, h, sum g at)))) before in
    subst (λ w. AreRowsBegun (length chosen) w c.args.end wanted c.copy_own.new.rows) width (subst (λ n. AreRowsBegun (length chosen) table.positions n wanted c.copy_own.new.rows) (sum g at) now)
