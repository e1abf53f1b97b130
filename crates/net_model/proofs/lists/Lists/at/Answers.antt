use Rattle.std.proofs.Common.{◌≡◌, ◌∙◌, ◌+◌, ◌<◌, [], length, get_or, sym, ap, arith}
use Rattle.std.proofs.lemmas.List.{get_or_read}
use Rattle.std.specs.Prelude.{slice_range}
use Rattle.net_model.proofs.ListLemmas.{between_count, between_at}
use Rattle.net_model.proofs.lists.Lists.at.Goals as goal

pub index-requires : goal.index-requires
index-requires c = omega (arith, c.requires, ap length c.self.view_is, between_count c.self.inside.starts.items c.self.inside.numbers.items, c.self.inside.starts.ok.0)

pub index-requires-2 : goal.index-requires-2
index-requires-2 c = omega (arith, c.requires, ap length c.self.view_is, between_count c.self.inside.starts.items c.self.inside.numbers.items, c.self.inside.starts.ok.0)

-- there is a further start
within : (c : goal.After-row_known-2-1) → c.args.number + 1 < length c.self.inside.starts.items
within c = omega (arith, c.requires, ap length c.self.view_is, between_count c.self.inside.starts.items c.self.inside.numbers.items)

first : (c : goal.After-row_known-2-1) → c.index.result.now ≡ get_or c.self.inside.starts.items c.args.number 0
first c = let inside = within c in get_or_read c.self.inside.starts.items c.args.number c.index.result.now (omega arith) c.index.ensures 0

second : (c : goal.After-row_known-2-1) → c.index-2.result.now ≡ get_or c.self.inside.starts.items (c.args.number + 1) 0
second c = get_or_read c.self.inside.starts.items (c.args.number + 1) c.index-2.result.now (within c) c.index-2.ensures 0

pub part-requires-clause-ascending : goal.part-requires-clause-ascending
part-requires-clause-ascending c = omega (arith, first c, second c, c.self.invariant.ascend c.args.number (within c))

pub part-requires-clause-inside : goal.part-requires-clause-inside
part-requires-clause-inside c = omega (arith, second c, c.self.invariant.inside (c.args.number + 1) (within c), ap length c.as_slice.ensures.value)

pub returns : goal.returns
returns c =
    let starts = c.self.inside.starts.items in
    let numbers = c.self.inside.numbers.items in
    let n = c.args.number in
    let inside : n + 1 < length starts = omega (arith, c.requires, ap length c.self.view_is, between_count starts numbers) in
    let start : c.index.result.now ≡ get_or starts n 0 = get_or_read starts n c.index.result.now (omega arith) c.index.ensures 0 in
    let end : c.index-2.result.now ≡ get_or starts (n + 1) 0 = get_or_read starts (n + 1) c.index-2.result.now inside c.index-2.ensures 0 in
    c.part.ensures
    ∙ ap (λ xs. slice_range xs c.index.result.now c.index-2.result.now) c.as_slice.ensures.value
    ∙ ap (λ k. slice_range numbers k c.index-2.result.now) start
    ∙ ap (slice_range numbers (get_or starts n 0)) end
    ∙ sym (between_at starts numbers n (omega arith))
    ∙ ap (λ lists. get_or lists n []) c.self.view_is
