use Rattle.std.proofs.Common.{◌≡◌, ◌+◌, ◌++◌, ◌∷◌, [], ℕ, List, take, get_or, ap, sym, ◌∙◌, arith}
use Rattle.std.specs.List.{flat_map}
use Rattle.std.specs.String.{string_bytes}
use Rattle.std.proofs.lemmas.List.{take_more, append_assoc, append-nil, take_all}
use Rattle.std.proofs.lemmas.Grind.{flat_map-append}
use Rattle.std.proofs.lemmas.Option.{get_or_from_slice_get}
use Rattle.dictionary_commands.specs.Texts.{rank_line}
use Rattle.dictionary_commands.proofs.rank.push_ranks.Goals as goal

pub loop-at-preserved : goal.loop-at-preserved
loop-at-preserved c =
    let ranks = c.args.ranks.now in
    let k = c.loop-at.at in
    let rank : ℕ × ℕ = (0, 0) in
    let so_far = flat_map rank_line (take k ranks) in
    let init = string_bytes c.args.text.now in
    let here : get_or ranks k rank ≡ c.get-count.result = get_or_from_slice_get ranks k c.get-count.result rank c.get-count.ensures in
    let more : flat_map rank_line (take (k + 1) ranks) ≡ so_far ++ rank_line c.get-count.result =
    ap (flat_map rank_line) (take_more ranks k rank (omega arith)) ∙ flat_map-append rank_line (take k ranks) (get_or ranks k rank ∷ []) ∙ ap (λ (xs : List ℕ). so_far ++ xs) (append-nil (rank_line (get_or ranks k rank)) ∙ ap rank_line here) in
    c.in_ok-push_rank.ensures
    ∙ ap (λ (xs : List ℕ). xs ++ rank_line c.get-count.result) c.loop-at.invariant
    ∙ append_assoc init so_far (rank_line c.get-count.result)
    ∙ ap (λ (xs : List ℕ). init ++ xs) (sym more)

pub returns : goal.returns
returns c = rw (sym (take_all c.loop-at.at c.args.ranks.now (omega arith))) c.loop-at.invariant
