use Rattle.std.proofs.Common.{◌∙◌, ◌<◌, false, length, refl, inl, inr, arith}
use Rattle.std.specs.Prelude.{IsTrue}
use Rattle.std.proofs.lemmas.Bool.{both_ways, cases_lt}
use Rattle.std.proofs.lemmas.Result.{err_from_is_err_and}
use Rattle.net_model.specs.ClassTable.{class_at, class_count}
use Rattle.class_refine.proofs.PatternTables.{table_numbers}
use Rattle.member_marks.specs.Given.{IsLowestOpen}
use Rattle.member_marks.proofs.MarkLemmas.{open_from}
use Rattle.dia_gen.proofs.FallenLemmas.{lead_marked}
use Rattle.dia_gen.proofs.draft.Draft.mark_round.Given as given
use Rattle.dia_gen.proofs.draft.Draft.mark_round.Goals as goal
use Rattle.dia_gen.proofs.draft.Draft.mark_round.Goals.{In-Some}

lowest : (g : given.Over) (c : In-Some g) → IsLowestOpen c.loop-member.self.keeper.kept.table c.loop-member.self.marks c.in-Some.member
lowest g c = rw c.classes.ensures.value at c.in-Some.ensures

pub next_open-requires-clause-whole : goal.next_open-requires-clause-whole
next_open-requires-clause-whole g c = rw c.classes.ensures.value c.loop-member.invariant.draft.is.marks.whole

pub next_open-requires-clause-below : goal.next_open-requires-clause-below
next_open-requires-clause-below g c = rw c.classes.ensures.value c.loop-member.invariant.below

pub settle-requires : goal.settle-requires
settle-requires g c κs within = (within, (c.loop-member.invariant.draft, lowest g (goal.at.settle-requires g c).In-Some))

pub overflow_add-from : goal.overflow_add-from
overflow_add-from g c =
    let is = c.loop-member.invariant.draft.is in
    let inside = (lowest g (goal.at.overflow_add-from g c).In-Some).inside in
    omega (arith, inside, is.few, table_numbers is.keeper.table)

pub loop-member-smaller : goal.loop-member-smaller
loop-member-smaller g c =
    let low = lowest g (goal.at.loop-member-smaller g c).In-Some in
    omega (arith, low.inside, open_from c.loop-member.invariant.below low, table_numbers c.loop-member.invariant.draft.is.keeper.table, table_numbers c.in_ok-settle.ensures.draft.is.keeper.table)

pub loop-member-init : goal.loop-member-init
loop-member-init g c = record { draft = c.requires.1.0; same = refl; below = c.requires.1.1 }

pub loop-member-preserved : goal.loop-member-preserved
loop-member-preserved g c =
    let settled = c.in_ok-settle.ensures in
    let evidence : ¬ IsTrue c.in_ok-settle.field-0 = both_ways c.in_ok-settle.field-0 c.if-branch.false in
    record { draft = settled.draft; same = settled.same evidence ∙ c.loop-member.invariant.same; below = settled.marked evidence }

pub returns-in_err-settle : goal.returns-in_err-settle
returns-in_err-settle g c =
    let p = err_from_is_err_and c.from_residual.result c.from_residual.ensures.1 in
    rw (p.1, p.2) (record { draft = tt; more = tt; marked = tt; err = c.in_err-settle.ensures.err })

pub returns : goal.returns
returns g c = record { draft = c.loop-member.invariant.draft; more = λ none. absurd (both_ways false refl none); marked = rw c.classes.ensures.value at c.in_default.ensures; err = tt }

pub returns-then-branch-clause-draft : goal.returns-then-branch-clause-draft
returns-then-branch-clause-draft g c = c.in_ok-settle.ensures.draft

pub returns-then-branch-clause-more : goal.returns-then-branch-clause-more
returns-then-branch-clause-more g c = λ some. rw c.loop-member.invariant.same at (c.in_ok-settle.ensures.more c.if-branch.true)

pub returns-then-branch-clause-marked : goal.returns-then-branch-clause-marked
returns-then-branch-clause-marked g c = λ n less.
    let before = c.loop-member.invariant.draft.is.keeper.table in
    let after = c.in_ok-settle.ensures.draft.is.keeper.table in
    let low = lowest g (goal.at.returns-then-branch-clause-marked g c).In-Some in
    let t = c.loop-member.self.keeper.kept.table in
    let u = c.settle.new.self.keeper.kept.table in
    let within = c.lowest_fallen.ensures.within in
    let inside : n < length t.class_of = omega (arith, less, within, low.inside) in
    elim (cases_lt (class_at u n) (class_count t)) [
      | inl old ↦ c.in_ok-settle.ensures.stay c.if-branch.true n inside old (low.below n (omega (arith, less, within)))
      | inr cut ↦
          let leads = rw (c.classes-then-branch.ensures.value, c.count-count.ensures.value, c.classes-in-Some.ensures.value) at c.lowest_fallen.ensures.leads in
          lead_marked u c.settle.new.self.marks n (leads n less (omega (arith, inside, table_numbers before, table_numbers after)) cut)
    ]
