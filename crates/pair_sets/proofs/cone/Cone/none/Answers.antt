use Rattle.std.proofs.Common.{◌≡◌, ◌∙◌, false, length, replicate, sym, ap, arith}
use Rattle.std.specs.Prelude.{not}
use Rattle.std.proofs.lemmas.Bool.{false≢true}
use Rattle.std.proofs.lemmas.List.{length-replicate}
use Rattle.std.proofs.lemmas.List.Sums.{count_by-le-length}
use Rattle.net_model.specs.Answer.{bit_at}
use Rattle.net_model.proofs.Elements.{get_or-replicate_anywhere}
use Rattle.pair_sets.proofs.cone.Cone.none.Goals as goal

pub invariant_of-result : goal.invariant_of-result
invariant_of-result c =
    let marks = c.in_ok-vec.field-0.items in
    let made : marks ≡ replicate c.args.lines false = c.in_ok-vec.ensures.items_if_clones_equal (λ y e. e) in
    let empty = ap length c.in_ok-with_capacity.ensures.items in
    record {
      within = λ k d h. absurd (omega (arith, h, empty));
      listed = λ line on. absurd (false≢true (sym (ap (λ xs. bit_at xs line) made ∙ get_or-replicate_anywhere c.args.lines line false) ∙ on));
      marked = λ line m. absurd (omega (arith, m.1, empty));
      room = omega (arith, empty, count_by-le-length not marks, ap length made, length-replicate c.args.lines false, c.in_ok-with_capacity.ensures.exact);
    }

pub returns-clause-whole : goal.returns-clause-whole
returns-clause-whole c =
    let made : c.in_ok-vec.field-0.items ≡ replicate c.args.lines false = c.in_ok-vec.ensures.items_if_clones_equal (λ y e. e) in
    ap length made ∙ length-replicate c.args.lines false

pub returns-clause-none : goal.returns-clause-none
returns-clause-none c = λ line.
    let made : c.in_ok-vec.field-0.items ≡ replicate c.args.lines false = c.in_ok-vec.ensures.items_if_clones_equal (λ y e. e) in
    ap (λ xs. bit_at xs line) made ∙ get_or-replicate_anywhere c.args.lines line false
