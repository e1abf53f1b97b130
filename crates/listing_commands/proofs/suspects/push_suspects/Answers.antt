use Rattle.std.proofs.Common.{◌≡◌, ◌+◌, ◌++◌, ◌∷◌, [], ℕ, List, take, get_or, ap, sym, ◌∙◌, arith}
use Rattle.std.specs.List.{flat_map}
use Rattle.std.specs.String.{string_bytes}
use Rattle.std.proofs.lemmas.List.{take_more, append_assoc, append-nil, take_all}
use Rattle.std.proofs.lemmas.Grind.{flat_map-append}
use Rattle.std.proofs.lemmas.Option.{get_or_from_slice_get}
use Rattle.suspect_scores.specs.declared.suspect.Suspect.{Suspect}
use Rattle.listing_commands.specs.Texts.{suspect_line}
use Rattle.listing_commands.proofs.suspects.push_suspects.Goals as goal

pub loop-at-preserved : goal.loop-at-preserved
loop-at-preserved c =
    let listed = c.args.listed.now in
    let k = c.loop-at.at in
    let one : Suspect = c.get.result in
    let so_far = flat_map suspect_line (take k listed) in
    let init = string_bytes c.args.text.now in
    let here : get_or listed k one ≡ one = get_or_from_slice_get listed k one one c.get.ensures in
    let more : flat_map suspect_line (take (k + 1) listed) ≡ so_far ++ suspect_line one =
    ap (flat_map suspect_line) (take_more listed k one (omega arith)) ∙ flat_map-append suspect_line (take k listed) (get_or listed k one ∷ []) ∙ ap (λ (xs : List ℕ). so_far ++ xs) (append-nil (suspect_line (get_or listed k one)) ∙ ap suspect_line here) in
    c.in_ok-push_suspect.ensures
    ∙ ap (λ (xs : List ℕ). xs ++ suspect_line one) c.loop-at.invariant
    ∙ append_assoc init so_far (suspect_line one)
    ∙ ap (λ (xs : List ℕ). init ++ xs) (sym more)

pub returns : goal.returns
returns c = rw (sym (take_all c.loop-at.at c.args.listed.now (omega arith))) c.loop-at.invariant
