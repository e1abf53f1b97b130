use Rattle.std.proofs.Common.{◌≡◌, ◌∙◌, ◌<◌, ℕ, Bool, List, length, get_or, map, refl, sym, ap, subst, arith}
use Rattle.std.proofs.lemmas.List.Elements.{All-from_get_or}
use Rattle.net_model.specs.ClassTable.{class_at}
use Rattle.net_model.specs.Rows.{row_at}
use Rattle.dict_rows.specs.Grouped.{AreGroupsOf}
use Rattle.table_dicts.proofs.ClassEntryLemmas.{firsts_inside, firsts_few, group_known, cells_long, groups_of_numbers}
use Rattle.table_dicts.proofs.by_class.group_numbers.Goals as goal
use Rattle.table_dicts.proofs.by_class.group_numbers.Goals.{In_ok-sorted, In_ok-grouped}

pub group_entries-requires : goal.group_entries-requires
group_entries-requires c =
    let t = c.args.classes.now in
    let groups = c.in_ok-sorted.sorted.groups in
    let firsts = c.in_ok-sorted.sorted.firsts.items in
    let same = c.as_slice.ensures.value in
    record {
      numbers = rw same (firsts_inside t c.args.numbers c.requires.numbers groups firsts c.in_ok-sorted.ensures);
      few = omega (arith, ap length same, firsts_few t c.args.numbers c.requires.numbers groups firsts c.in_ok-sorted.ensures, c.ranges.numbers.fits);
      entries = c.requires.entries;
    }

-- The cells of the groups.
module _ (c : In_ok-grouped) where
  abbrev firsts : List ℕ
  firsts = c.in_ok-sorted.sorted.firsts.items

  abbrev cells : List (List Bool)
  cells = map (row_at c.args.entries.now) (map (class_at c.args.classes.now) firsts)

  grouped : AreGroupsOf cells c.in_ok-grouped.grouped.groups c.in_ok-grouped.grouped.entries
  grouped = subst (λ (xs : List ℕ). AreGroupsOf (map (row_at c.args.entries.now) (map (class_at c.args.classes.now) xs)) c.in_ok-grouped.grouped.groups c.in_ok-grouped.grouped.entries) c.as_slice.ensures.value c.in_ok-grouped.ensures

  long : length cells ≡ length firsts
  long = cells_long c.args.classes.now c.args.numbers c.requires.numbers c.in_ok-sorted.sorted.groups firsts c.in_ok-sorted.ensures c.args.entries.now cells refl

pub regroup-requires : goal.regroup-requires
regroup-requires c =
    let at = (goal.at.regroup-requires c).In_ok-grouped in
    let firsts = c.in_ok-sorted.sorted.firsts.items in
    let groups = c.in_ok-sorted.sorted.groups in
    let outer : length c.as_slice-outer.result.now ≡ length firsts = ap length c.as_slice-outer.ensures ∙ ((grouped at).grouped.one_each ∙ long at) in
    rw (c.as_slice-2.ensures, outer) (All-from_get_or (λ group. group < length firsts) groups 0 (group_known c.args.classes.now c.args.numbers c.requires.numbers groups firsts c.in_ok-sorted.ensures))

pub returns : goal.returns
returns c = λ rows many of.
    let at = (goal.at.returns c).In_ok-grouped in
    let inner = c.in_ok-sorted.sorted.groups in
    let firsts = c.in_ok-sorted.sorted.firsts.items in
    let entries = c.in_ok-grouped.grouped.entries in
    let made = groups_of_numbers c.args.classes.now c.args.numbers c.requires.numbers inner firsts c.in_ok-sorted.ensures c.args.entries.now (cells at) refl {rows = rows} many of.own (grouped at) in
    let over : List ℕ → List ℕ → Type 0 = λ ns os. AreGroupsOf rows (map (λ group. get_or os group 0) ns) entries in
    let placed = subst (λ (ns : List ℕ). over ns c.as_slice-outer.result.now) (sym c.as_slice-2.ensures) (subst (λ (os : List ℕ). over inner os) (sym c.as_slice-outer.ensures) made) in
    subst (λ (gs : List ℕ). AreGroupsOf rows gs entries) (sym c.in_ok-groups.ensures) placed
