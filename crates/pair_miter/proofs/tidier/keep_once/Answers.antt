use Rattle.std.proofs.Common.{◌≡◌, ◌+◌, ◌*◌, ◌<◌, ◌≤◌, ◌∙◌, [], ◌∷◌, ◌++◌, ap, sym, subst, take, length, length-set, set, arith, Vec, vec_len, vec_capacity, Global}
use Rattle.std.specs.Prelude.{Bool, true, false, ◌||◌}
use Rattle.std.proofs.lemmas.List.{take_all, take_more, get_or_read}
use Rattle.net_model.specs.Answer.{bit_at}
use Rattle.clause_pool.specs.Literal.{Literal, opposite}
use Rattle.clause_pool.specs.LiteralCode.{code_of}
use Rattle.pair_miter.specs.Marks.{AreMarksOfClause}
use Rattle.pair_miter.specs.Miter.{without_repeats, is_tautology}
use Rattle.pair_miter.proofs.TidyParts.{is_tautology-push}
use Rattle.pair_miter.proofs.MarkSteps.{marks_again, marks_more, keeps_new, keeps_old, code_within}
use Rattle.pair_miter.proofs.tidier.keep_once.Goals as goal
use Rattle.pair_miter.proofs.tidier.keep_once.Goals.{then-not-index, else-not-index}

pub index-requires-in-loop-lit : goal.index-requires-in-loop-lit
index-requires-in-loop-lit c =
    let m : Literal = c.lit-item.result in
    let marks = c.loop-lit.marks.items in
    let h = c.loop-lit.invariant in
    let places : length c.if-not-index.marks.items ≡ length c.args.marks.now.items =
    elim c.if-not-index.branch [
      | then-not-index w ↦ ap (λ (v : Vec Bool Global). length v.items) w.marks-is ∙ (length-set marks c.code-at.result true ∙ h.places)
      | else-not-index w ↦ ap (λ (v : Vec Bool Global). length v.items) w.marks-is ∙ h.places
    ] in
    let wide : 2 * m.variable + 1 < length c.args.marks.now.items =
    subst (λ (l : Literal). 2 * l.variable + 1 < length c.args.marks.now.items) (sym c.lit-item.is) (c.requires.places c.loop-lit.lit-index m c.loop-lit-test.true) in
    omega (arith, places, c.code.ensures ∙ ap code_of c.opposite.ensures, code_within (opposite m) (length c.args.marks.now.items) wide)

pub loop-lit-preserved : goal.loop-lit-preserved
loop-lit-preserved c =
    let i = c.loop-lit.lit-index in
    let clause = c.args.clause.now in
    let marks = c.loop-lit.marks.items in
    let xs = take i clause in
    let m : Literal = c.lit-item.result in
    let h = c.loop-lit.invariant in
    let more : take (i + 1) clause ≡ xs ++ m ∷ [] = take_more clause i m c.loop-lit-test.true ∙ ap (λ k. xs ++ k ∷ []) (sym c.lit-item.is) in
    let wide : 2 * m.variable + 1 < length c.args.marks.now.items = subst (λ (l : Literal). 2 * l.variable + 1 < length c.args.marks.now.items) (sym c.lit-item.is) (c.requires.places i m c.loop-lit-test.true) in
    let room : code_of m < length marks = omega (arith, h.places, code_within m (length c.args.marks.now.items) wide) in
    let place = c.code-at.ensures in
    let inside : c.code-at.result < length marks = omega (arith, room, place) in
    let read : c.index.result.now ≡ bit_at marks (code_of m) = get_or_read marks c.code-at.result c.index.result.now inside c.index.ensures false ∙ ap (bit_at marks) place in
    let both : (c.if-not-index.kept.items ≡ without_repeats (xs ++ m ∷ [])) × AreMarksOfClause c.if-not-index.marks.items (xs ++ m ∷ []) =
    elim c.if-not-index.branch [
      | then-not-index w ↦
          let there : c.if-not-index.marks.items ≡ set marks (code_of m) true = ap (λ (v : Vec Bool Global). v.items) w.marks-is ∙ ap (λ n. set marks n true) place in
          let kept = ap (λ (v : Vec Literal Global). v.items) w.kept-is ∙ w.push_reserved.ensures.items in
          (kept ∙ keeps_new marks c.loop-lit.kept.items xs m h.marked h.kept (sym read ∙ w.if-not-index.true), subst (λ ms. AreMarksOfClause ms (xs ++ m ∷ [])) (sym there) (marks_more marks xs m h.marked room))
      | else-not-index w ↦
          let there = ap (λ (v : Vec Bool Global). v.items) w.marks-is in
          let kept = ap (λ (v : Vec Literal Global). v.items) w.kept-is in
          (kept ∙ keeps_old marks c.loop-lit.kept.items xs m h.marked h.kept (sym read ∙ w.if-not-index.false), subst (λ ms. AreMarksOfClause ms (xs ++ m ∷ [])) (sym there) (marks_again marks xs m h.marked (sym read ∙ w.if-not-index.false)))
    ] in
    let other = c.code.ensures ∙ ap code_of c.opposite.ensures in
    let places : length c.if-not-index.marks.items ≡ length c.args.marks.now.items =
    elim c.if-not-index.branch [
      | then-not-index w ↦ ap (λ (v : Vec Bool Global). length v.items) w.marks-is ∙ (length-set marks c.code-at.result true ∙ h.places)
      | else-not-index w ↦ ap (λ (v : Vec Bool Global). length v.items) w.marks-is ∙ h.places
    ] in
    let sizes : (vec_len c.if-not-index.kept ≤ i + 1) × (length clause ≤ vec_capacity c.if-not-index.kept) =
    elim c.if-not-index.branch [
      | then-not-index w ↦ (
        omega (arith, ap (λ (v : Vec Literal Global). vec_len v) w.kept-is, w.push_reserved.ensures.len, h.few),
        omega (arith, ap (λ (v : Vec Literal Global). vec_capacity v) w.kept-is, w.push_reserved.ensures.capacity, h.room),
      )
      | else-not-index w ↦ (omega (arith, ap (λ (v : Vec Literal Global). vec_len v) w.kept-is, h.few), omega (arith, ap (λ (v : Vec Literal Global). vec_capacity v) w.kept-is, h.room))
    ] in
    let others_inside : c.code.result < length c.if-not-index.marks.items = omega (arith, places, other, code_within (opposite m) (length c.args.marks.now.items) wide) in
    let others_read : c.index-in-loop-lit.result.now ≡ bit_at c.if-not-index.marks.items (code_of (opposite m)) = get_or_read c.if-not-index.marks.items c.code.result c.index-in-loop-lit.result.now others_inside c.index-in-loop-lit.ensures false ∙ ap (bit_at c.if-not-index.marks.items) other in
    record {
      kept = both.0 ∙ ap without_repeats (sym more);
      few = sizes.0;
      room = sizes.1;
      opposites = (λ j. h.opposites j || (others_read ∙ both.1 (opposite m)) j) ∙ (sym (is_tautology-push xs m) ∙ ap is_tautology (sym more));
      places = places;
      marked = subst (AreMarksOfClause c.if-not-index.marks.items) (sym more) both.1;
    }

pub returns-clause-kept : goal.returns-clause-kept
returns-clause-kept c = c.loop-lit.invariant.kept ∙ ap without_repeats (take_all c.loop-lit.lit-index c.args.clause.now c.loop-lit-test.false)

pub returns-clause-opposites : goal.returns-clause-opposites
returns-clause-opposites c = c.loop-lit.invariant.opposites ∙ ap is_tautology (take_all c.loop-lit.lit-index c.args.clause.now c.loop-lit-test.false)

pub returns-clause-marked : goal.returns-clause-marked
returns-clause-marked c = subst (AreMarksOfClause c.loop-lit.marks.items) (take_all c.loop-lit.lit-index c.args.clause.now c.loop-lit-test.false) c.loop-lit.invariant.marked
