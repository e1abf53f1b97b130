use Rattle.std.proofs.Common.{◌≡◌, ◌+◌, ◌++◌, ◌∷◌, [], ℕ, List, take, get_or, ap, sym, ◌∙◌, arith}
use Rattle.std.specs.List.{flat_map}
use Rattle.std.specs.String.{string_bytes}
use Rattle.std.proofs.lemmas.List.{take_more, append_assoc, append-nil, take_all}
use Rattle.std.proofs.lemmas.Grind.{flat_map-append}
use Rattle.std.proofs.lemmas.Option.{get_or_from_slice_get}
use Rattle.suspect_scores.specs.declared.choices.Choice.{Choice}
use Rattle.listing_commands.specs.Texts.{choice_line}
use Rattle.listing_commands.proofs.cover.push_choices.Goals as goal

pub loop-at-preserved : goal.loop-at-preserved
loop-at-preserved c =
    let choices = c.args.choices.now in
    let k = c.loop-at.at in
    let one : Choice = c.get.result in
    let so_far = flat_map choice_line (take k choices) in
    let init = string_bytes c.args.text.now in
    let here : get_or choices k one ≡ one = get_or_from_slice_get choices k one one c.get.ensures in
    let more : flat_map choice_line (take (k + 1) choices) ≡ so_far ++ choice_line one =
    ap (flat_map choice_line) (take_more choices k one (omega arith)) ∙ flat_map-append choice_line (take k choices) (get_or choices k one ∷ []) ∙ ap (λ (xs : List ℕ). so_far ++ xs) (append-nil (choice_line (get_or choices k one)) ∙ ap choice_line here) in
    c.in_ok-push_choice.ensures
    ∙ ap (λ (xs : List ℕ). xs ++ choice_line one) c.loop-at.invariant
    ∙ append_assoc init so_far (choice_line one)
    ∙ ap (λ (xs : List ℕ). init ++ xs) (sym more)

pub returns : goal.returns
returns c = rw (sym (take_all c.loop-at.at c.args.choices.now (omega arith))) c.loop-at.invariant
