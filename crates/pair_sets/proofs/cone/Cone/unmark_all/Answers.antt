use Rattle.std.proofs.Common.{◌≡◌, ◌<◌, ◌∙◌, ◌∷◌, [], ◌++◌, length, sym, ap, arith, subst}
use Rattle.std.specs.Prelude.{All, false, Contains}
use Rattle.std.specs.Option.{IfSome}
use Rattle.std.proofs.lemmas.List.{length-set, length_push}
use Rattle.std.proofs.lemmas.List.Elements.{All-pop}
use Rattle.pair_sets.proofs.MarkLemmas.{listed_less, unmarked_more}
use Rattle.pair_sets.proofs.cone.Cone.unmark_all.Goals as goal

pub loop-line-preserved : goal.loop-line-preserved
loop-line-preserved c =
    let marks = c.loop-line.self-inside.marks.items in
    let lines = c.loop-line.self-inside.lines.items in
    let rest = c.pop.new.self.items in
    let line = c.in-Some.line in
    let items : lines ≡ rest ++ line ∷ [] = c.in-Some.ensures.items in
    let was = c.loop-line.invariant in
    let inside : line < length marks = subst (λ r. IfSome r (λ k. k < length marks)) c.in-Some.is (All-pop (λ k. k < length marks) lines rest c.pop.result c.pop.ensures.items was.within).1 in
    record {
      whole = length-set marks line false ∙ was.whole;
      within = subst (λ n. All (λ k. k < n) rest) (sym (length-set marks line false)) (All-pop (λ k. k < length marks) lines rest c.pop.result c.pop.ensures.items was.within).0;
      listed = listed_less marks rest line inside (λ l m. subst (λ xs. Contains xs l) items (was.listed l m));
      room = omega (arith, was.room, c.pop.ensures.capacity, ap length items, length_push rest line, unmarked_more marks rest line inside);
    }
