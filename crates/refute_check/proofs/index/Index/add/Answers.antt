use Rattle.std.proofs.Common.{◌<◌, ◌∙◌, ◌++◌, ◌∷◌, [], ℕ, length, refl, sym, ap, subst, arith, Vec, Global}
use Rattle.clause_pool.specs.Literal.{Literal}
use Rattle.clause_pool.specs.LiteralCode.{code_of}
use Rattle.refute_check.proofs.IndexLemmas.{added_none, added_more, index_two, index_short}
use Rattle.refute_check.proofs.index.Index.add.Goals as goal

pub loop-lit-init : goal.loop-lit-init
loop-lit-init c = record { added = added_none c.args.number c.args.clause.now c.args.self.now.lists; short = refl }

pub add-requires : goal.add-requires
add-requires c =
    let lists = c.args.self.now.lists in
    let inside : code_of c.lit-item.result < length lists = subst (λ (l : Literal). code_of l < length lists) (sym c.lit-item.is) (c.requires c.loop-lit.lit-index c.lit-item.result c.loop-lit-test.true) in
    omega (arith, inside, c.code.ensures, c.loop-lit.invariant.added.places)

pub loop-lit-preserved : goal.loop-lit-preserved
loop-lit-preserved c =
    let old = c.args.self.now.lists in
    let mid = c.loop-lit.self.lists in
    let inside : code_of c.lit-item.result < length old = subst (λ (l : Literal). code_of l < length old) (sym c.lit-item.is) (c.requires c.loop-lit.lit-index c.lit-item.result c.loop-lit-test.true) in
    let within : code_of c.lit-item.result < length mid = omega (arith, inside, c.loop-lit.invariant.added.places) in
    record {
      added = rw (c.in_ok-add.ensures.ok, c.code.ensures)
          (added_more c.args.number c.args.clause.now old c.loop-lit.lit-index mid c.loop-lit.invariant.added c.lit-item.result within c.loop-lit-test.true c.lit-item.is);
      short = c.loop-lit.invariant.short;
    }

pub returns-in_ok-push : goal.returns-in_ok-push
returns-in_ok-push c = λ variables clauses next index.
    let number = c.args.number in
    let more = c.in_ok-push.ensures.items ∙ ap (λ (v : Vec ℕ Global). v.items ++ number ∷ []) c.loop-lit.invariant.short in
    index_short variables clauses c.args.clause.now number next c.loop-lit.lit-index c.args.self.now.lists c.loop-lit.self.lists c.args.self.now.short.items c.push.new.self.items c.loop-lit-test.false c.loop-lit.invariant.added more index

pub returns-else-not-has_two : goal.returns-else-not-has_two
returns-else-not-has_two c = λ variables clauses next index.
    let same = ap (λ (v : Vec ℕ Global). v.items) c.loop-lit.invariant.short in
    index_two variables clauses c.args.clause.now c.args.number next c.loop-lit.lit-index c.args.self.now.lists c.loop-lit.self.lists c.args.self.now.short.items c.loop-lit.self.short.items c.loop-lit-test.false c.loop-lit.invariant.added same (c.has_two.ensures c.if-not-has_two.false) index
