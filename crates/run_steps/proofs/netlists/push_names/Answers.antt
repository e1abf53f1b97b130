use Rattle.std.proofs.Common.{◌≡◌, ◌+◌, ◌++◌, ◌∷◌, [], ℕ, List, take, get_or, ap, ap₂, sym, ◌∙◌, arith}
use Rattle.std.specs.List.{flat_map}
use Rattle.std.proofs.lemmas.List.{take_more, append_assoc, append-nil, take_all}
use Rattle.std.proofs.lemmas.Grind.{flat_map-append}
use Rattle.run_steps.specs.Texts.{after_blank}
use Rattle.run_steps.proofs.netlists.push_names.Goals as goal

regrouped : (init so_far name : List ℕ) → ((init ++ so_far) ++ 32 ∷ []) ++ name ≡ init ++ (so_far ++ 32 ∷ name)
regrouped init so_far name = append_assoc (init ++ so_far) (32 ∷ []) name ∙ append_assoc init so_far (32 ∷ name)

pub loop-number-preserved : goal.loop-number-preserved
loop-number-preserved c =
    let names = c.args.names.now in
    let k = c.loop-number.number in
    let name = get_or names k [] in
    let so_far = flat_map after_blank (take k names) in
    let more : flat_map after_blank (take (k + 1) names) ≡ so_far ++ (32 ∷ name) =
    ap (flat_map after_blank) (take_more names k [] (omega arith)) ∙ flat_map-append after_blank (take k names) (name ∷ []) ∙ ap (λ (xs : List ℕ). so_far ++ xs) (append-nil (32 ∷ name)) in
    let init = c.args.text.now.items in
    c.in_ok-extend_from_slice.ensures.items
    ∙ ap₂ (λ (xs ys : List ℕ). xs ++ ys) (c.in_ok-push.ensures.items ∙ ap (λ (xs : List ℕ). xs ++ 32 ∷ []) c.loop-number.invariant) c.text.ensures
    ∙ regrouped init so_far name
    ∙ ap (λ (xs : List ℕ). init ++ xs) (sym more)

pub returns : goal.returns
returns c = rw (sym (take_all c.loop-number.number c.args.names.now (omega arith))) c.loop-number.invariant
