use Rattle.std.proofs.Common.{◌≡◌, ◌∙◌, ℕ, ◌+◌, ◌<◌, ◌⊎◌, length, refl, sym, ap, arith, inl, inr}
use Rattle.std.specs.Prelude.{Bool, false, not, nat_le}
use Rattle.std.proofs.lemmas.Bool.{and_parts, and_cases, leb-false}
use Rattle.net_model.specs.Answer.{bit_at}
use Rattle.bridging_faults.proofs.ChosenLemmas.{chosen_more, chosen_kept}
use Rattle.bridging_faults.proofs.choosing.first_lines.Goals as goal
use Rattle.bridging_faults.proofs.choosing.first_lines.Goals.{then-is_wanted+in_ok-push, else-is_wanted}

pub loop-at-preserved : goal.loop-at-preserved
loop-at-preserved c =
    let fails : ℕ → Bool = λ k. not (bit_at c.args.marks.now k) in
    let at = c.loop-at.at in
    elim c.if-is_wanted.branch [
      | then-is_wanted+in_ok-push w ↦
          let parts = and_parts (not c.get.result) (nat_le c.len.result c.args.within) w.if-is_wanted.true in
          chosen_more fails c.args.within at (at + 1) c.loop-at.chosen.items c.if-is_wanted.chosen.items refl (ap (λ v. v.items) w.chosen-is ∙ w.in_ok-push.ensures.items) c.loop-at.invariant (ap not (sym c.get.ensures) ∙ parts.0)
      | else-is_wanted w ↦
          let why : (fails at ≡ false) ⊎ (c.args.within < length c.loop-at.chosen.items) =
          elim (and_cases (not c.get.result) (nat_le c.len.result c.args.within) w.if-is_wanted.false) [
            | inl passes ↦ inl (ap not (sym c.get.ensures) ∙ passes)
            | inr full ↦ inr (omega (arith, leb-false c.len.result c.args.within full, c.len.ensures, c.loop-at.chosen.ok.0))
          ] in
          let kept = chosen_kept fails c.args.within at (at + 1) c.loop-at.chosen.items refl c.loop-at.invariant why in
          rw w.chosen-is kept
    ]
