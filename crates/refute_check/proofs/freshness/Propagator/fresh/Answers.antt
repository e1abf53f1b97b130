use Rattle.std.proofs.Common.{◌≡◌, ◌∙◌, ◌+◌, length, vec_len, sym, ap, subst, arith}
use Rattle.std.specs.Prelude.{Contains, IsTrue, ◌↔◌}
use Rattle.pair_miter.specs.Fresh.{IsFresh}
use Rattle.refute_check.specs.declared.freshness.Propagator.{Propagator}
use Rattle.refute_check.specs.Assignment.{IsAssignment}
use Rattle.refute_check.specs.Index.{IsIndexOf}
use Rattle.refute_check.specs.Looked.{IsLookedAt}
use Rattle.refute_check.proofs.HeldLemmas.{contained}
use Rattle.refute_check.proofs.ClosureLemmas.{closed_is_fresh, others_is_fresh}
use Rattle.refute_check.proofs.freshness.Propagator.fresh.Goals as goal
use Rattle.refute_check.proofs.freshness.Propagator.fresh.Goals.{then-hold_others, else-hold_others}

pub returns-clause-fresh : goal.returns-clause-fresh
returns-clause-fresh c =
    let clauses = c.args.pool.now.clauses in
    let clause = c.args.clause.now in
    let at = c.args.at in
    let before = c.hold_others.new.held.values.items in
    let inside : Contains clause at = contained clause at c.contains.result c.contains.ensures.cases c.if-not-contains.false in
    elim c.if-hold_others.branch [
      | then-hold_others w ↦
          subst (λ closed. IsTrue closed ↔ IsFresh clauses clause at) (sym w.fresh-is)
          (closed_is_fresh clauses clause at w.close-fresh.result before w.close-fresh.new.held.values.items inside (c.hold_others.ensures.held w.if-hold_others.true) w.close-fresh.ensures.step w.close-fresh.ensures.quiet w.close-fresh.ensures.none)
      | else-hold_others w ↦
          subst (λ closed. IsTrue closed ↔ IsFresh clauses clause at) (sym (w.fresh-is ∙ w.if-hold_others.false))
          (others_is_fresh clauses clause at (c.hold_others.ensures.none w.if-hold_others.false))
    ]

pub close-fresh-requires-clause-looked : goal.close-fresh-requires-clause-looked
close-fresh-requires-clause-looked c = record {
  room = c.requires.ready.room;
  earlier = λ number s there. absurd (c.requires.ready.unlooked number s there);
  settled = λ k s low there. absurd (c.requires.ready.unlooked (k + 1) s there);
}

pub forget-requires : goal.forget-requires
forget-requires c = λ number at there. elim c.if-hold_others.branch [
  | then-hold_others w ↦
      let now = subst (λ (p : Propagator). IsLookedAt p.looked number at) w.self-is there in
      omega (arith, w.close-fresh.ensures.earlier number at now, c.len.ensures, ap (λ (p : Propagator). vec_len p.held.trail) w.self-is, w.close-fresh.new.held.trail.ok.0)
  | else-hold_others w ↦ absurd (c.requires.ready.unlooked number at (subst (λ (p : Propagator). IsLookedAt p.looked number at) w.self-is there))
]

pub returns-clause-ready : goal.returns-clause-ready
returns-clause-ready c =
    let ready = c.requires.ready in
    let clauses = c.args.pool.now.clauses in
    let n = c.args.variables in
    let P : Propagator → Type 0 = λ (p : Propagator). (length p.held.values.items ≡ n + 1) × IsIndexOf n clauses p.index.lists p.index.short.items × (length p.looked.stamps.items ≡ length clauses + 1) in
    let facts : P c.if-hold_others.self = elim c.if-hold_others.branch [
      | then-hold_others w ↦ subst P (sym w.self-is) (w.close-fresh.ensures.size ∙ (c.hold_others.ensures.size ∙ ready.size), ready.index, w.close-fresh.ensures.room ∙ ready.room)
      | else-hold_others w ↦ subst P (sym w.self-is) (c.hold_others.ensures.size ∙ ready.size, ready.index, ready.room)
    ] in
    record {
      assignment = c.clear.ensures.assignment;
      size = c.clear.ensures.size ∙ facts.0;
      empty = c.clear.ensures.empty;
      room = c.forget.ensures.room ∙ facts.2;
      unlooked = c.forget.ensures.none;
      index = facts.1;
    }

pub clear-requires : goal.clear-requires
clear-requires c = elim c.if-hold_others.branch [
  | then-hold_others w ↦ subst (λ (p : Propagator). IsAssignment p.held) (sym w.self-is) w.close-fresh.ensures.assignment
  | else-hold_others w ↦ subst (λ (p : Propagator). IsAssignment p.held) (sym w.self-is) c.hold_others.ensures.assignment
]
