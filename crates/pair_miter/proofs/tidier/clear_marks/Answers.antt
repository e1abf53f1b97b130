use Rattle.std.proofs.Common.{◌≡◌, ◌∙◌, ◌+◌, ◌*◌, ◌<◌, ◌∷◌, ap, sym, subst, drop, length, length-set, set}
use Rattle.std.specs.Prelude.{false}
use Rattle.std.proofs.lemmas.List.{drop_more, drop_all}
use Rattle.clause_pool.specs.Literal.{Literal}
use Rattle.clause_pool.specs.LiteralCode.{code_of}
use Rattle.pair_miter.proofs.MarkSteps.{AreWithin, code_within, within_less, within_none}
use Rattle.pair_miter.proofs.tidier.clear_marks.Goals as goal

pub loop-lit-preserved : goal.loop-lit-preserved
loop-lit-preserved c =
    let i = c.loop-lit.lit-index in
    let clause = c.args.clause.now in
    let marks = c.loop-lit.marks.items in
    let m : Literal = c.lit-item.result in
    let h = c.loop-lit.invariant in
    let rest = drop (i + 1) clause in
    let next : drop i clause ≡ m ∷ rest = drop_more clause i m c.loop-lit-test.true ∙ ap (λ (k : Literal). k ∷ rest) (sym c.lit-item.is) in
    let wide : 2 * m.variable + 1 < length c.args.marks.now.items = subst (λ (l : Literal). 2 * l.variable + 1 < length c.args.marks.now.items) (sym c.lit-item.is) (c.requires.places i m c.loop-lit-test.true) in
    let room = subst (λ n. code_of m < n) (sym h.places) (code_within m (length c.args.marks.now.items) wide) in
    record {
      places = length-set marks c.code.result false ∙ h.places;
      within = subst (λ n. AreWithin (set marks n false) rest) (sym c.code.ensures) (within_less marks m rest (subst (AreWithin marks) next h.within) room);
    }

pub returns-clause-clear : goal.returns-clause-clear
returns-clause-clear c =
    let marks = c.loop-lit.marks.items in
    within_none marks (subst (AreWithin marks) (drop_all c.loop-lit.lit-index c.args.clause.now c.loop-lit-test.false) c.loop-lit.invariant.within)
