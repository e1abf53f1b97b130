use Rattle.std.proofs.lemmas.List.Elements.{All-push}
use Rattle.learn_solver.specs.Marks.{AreMetCounted}
use Rattle.std.proofs.Common.{◌≡◌, ◌+◌, ◌<◌, ◌∷◌, [], ◌++◌, set, length, sym, subst, arith}
use Rattle.std.specs.Prelude.{All, List, Bool, true, false}
use Rattle.std.proofs.lemmas.List.{length-set}
use Rattle.std.proofs.lemmas.List.Sums.{count_by-le-length}
use Rattle.net_model.specs.Answer.{bit_at}
use Rattle.learn_solver.proofs.MarkCounts.{marked_more}
use Rattle.learn_solver.proofs.marks.MetVariables.add.Goals as goal

pub overflow_add-self : goal.overflow_add-self
overflow_add-self c =
    let bits = c.self.inside.bits in
    let within = subst (λ (ms : List Bool). c.args.variable < length ms) (sym c.self.view_is) c.requires.inside in
    let unmarked = subst (λ (ms : List Bool). bit_at ms c.args.variable ≡ false) (sym c.self.view_is) c.requires.unmarked in
    let more = marked_more bits c.args.variable within unmarked in
    let most = count_by-le-length (λ b. b) (set bits c.args.variable true) in
    omega (arith, c.self.invariant.count, more, most, length-set bits c.args.variable true, c.len-places.ensures, c.len-places.type_inv)

pub invariant_of-self-2 : goal.invariant_of-self-2
invariant_of-self-2 c =
    let bits = c.self.inside.bits in
    let met = c.self.inside.met.items in
    let within = subst (λ (ms : List Bool). c.args.variable < length ms) (sym c.self.view_is) c.requires.inside in
    let unmarked = subst (λ (ms : List Bool). bit_at ms c.args.variable ≡ false) (sym c.self.view_is) c.requires.unmarked in
    let counted : AreMetCounted (set bits c.args.variable true) (met ++ c.args.variable ∷ []) (c.self.inside.left + 1) = record {
      count = omega (arith, c.self.invariant.count, marked_more bits c.args.variable within unmarked);
      inside = subst (λ n. All (λ x. x < n) (met ++ c.args.variable ∷ [])) (sym (length-set bits c.args.variable true)) (All-push (λ x. x < length bits) met c.args.variable c.self.invariant.inside within);
    } in
    subst (λ ms. AreMetCounted ms c.push.new.self.items (c.self.inside.left + 1)) (sym c.set.ensures)
    (subst (λ met. AreMetCounted (set bits c.args.variable true) met (c.self.inside.left + 1)) (sym c.in_ok-push.ensures.items) counted)
