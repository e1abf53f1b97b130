use Rattle.std.proofs.Common.{◌<◌, ◌-◌, ◌∙◌, ap, sym, length, Some, arith}
use Rattle.std.specs.Prelude.{slice_range}
use Rattle.std.proofs.lemmas.List.{get_or_read}
use Rattle.clause_pool.specs.Clauses.{Clauses}
use Rattle.clause_pool.specs.PoolFields.{start_place}
use Rattle.clause_pool.proofs.Regions.{shown_count, shown_clause, within_region}
use Rattle.clause_pool.proofs.pool.Pool.get.Goals as goal

pub start_of-requires : goal.start_of-requires
start_of-requires c =
    let i = c.self.inside in
    let used = shown_count i.ends.items i.literals.items c.args.self.now.clauses (ap (λ (pool : Clauses). pool.clauses) c.self.view_is) in
    rw c.deref-2.ensures.value (omega (arith, used))

pub index-requires : goal.index-requires
index-requires c =
    let i = c.self.inside in
    let used = shown_count i.ends.items i.literals.items c.args.self.now.clauses (ap (λ (pool : Clauses). pool.clauses) c.self.view_is) in
    omega (arith, used, i.ends.ok.0)

pub part-requires-clause-start : goal.part-requires-clause-start
part-requires-clause-start c =
    let i = c.self.inside in
    let at = c.args.number - 1 in
    let below : at < length i.ends.items = omega (arith, shown_count i.ends.items i.literals.items c.args.self.now.clauses (ap (λ (pool : Clauses). pool.clauses) c.self.view_is)) in
    let w = within_region i.ends.items (length i.literals.items) at c.self.invariant.cut below in
    let start = c.start_of.ensures ∙ ap (λ ends. start_place ends at) c.deref-2.ensures.value in
    omega (arith, w.ordered, start, get_or_read i.ends.items at c.index.result.now below c.index.ensures 0)

pub part-requires-clause-end : goal.part-requires-clause-end
part-requires-clause-end c =
    let i = c.self.inside in
    let below : c.args.number - 1 < length i.ends.items = omega (arith, shown_count i.ends.items i.literals.items c.args.self.now.clauses (ap (λ (pool : Clauses). pool.clauses) c.self.view_is)) in
    let w = within_region i.ends.items (length i.literals.items) (c.args.number - 1) c.self.invariant.cut below in
    omega (arith, w.ends, ap length c.deref.ensures.value, get_or_read i.ends.items (c.args.number - 1) c.index.result.now below c.index.ensures 0)

pub returns : goal.returns
returns c =
    let i = c.self.inside in
    let at = c.args.number - 1 in
    let same = ap (λ (pool : Clauses). pool.clauses) c.self.view_is in
    let used = shown_count i.ends.items i.literals.items c.args.self.now.clauses same in
    let below : at < length i.ends.items = omega (arith, used) in
    let start = c.start_of.ensures ∙ ap (λ ends. start_place ends at) c.deref-2.ensures.value in
    let end = get_or_read i.ends.items at c.index.result.now below c.index.ensures 0 in
    shown_clause i.ends.items i.literals.items c.args.self.now.clauses c.args.number c.self.invariant.cut same c.requires.from c.requires.below
    ∙ (ap (λ e. Some (slice_range i.literals.items (start_place i.ends.items at) e)) (sym end)
    ∙ (ap (λ s. Some (slice_range i.literals.items s c.index.result.now)) (sym start)
    ∙ (ap (λ ls. Some (slice_range ls c.start_of.result c.index.result.now)) (sym c.deref.ensures.value)
    ∙ ap Some (sym c.part.ensures))))
