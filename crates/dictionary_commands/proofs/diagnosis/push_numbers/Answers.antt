use Rattle.std.proofs.Common.{◌≡◌, ◌+◌, ◌++◌, ◌∷◌, [], ℕ, List, take, get_or, ap, ap₂, sym, ◌∙◌, arith}
use Rattle.std.specs.List.{flat_map}
use Rattle.std.proofs.lemmas.List.{take_more, append_assoc, append-nil, take_all}
use Rattle.std.proofs.lemmas.Grind.{flat_map-append}
use Rattle.dictionary_commands.specs.Texts.{number_line}
use Rattle.dictionary_commands.proofs.diagnosis.push_numbers.Goals as goal

pub loop-number-preserved : goal.loop-number-preserved
loop-number-preserved c =
    let numbers = c.args.numbers.now in
    let k = c.loop-number.number-index in
    let number = get_or numbers k 0 in
    let so_far = flat_map number_line (take k numbers) in
    let init = c.args.text.now.items in
    let more : flat_map number_line (take (k + 1) numbers) ≡ so_far ++ number_line number =
    ap (flat_map number_line) (take_more numbers k 0 (omega arith)) ∙ flat_map-append number_line (take k numbers) (number ∷ []) ∙ ap (λ (xs : List ℕ). so_far ++ xs) (append-nil (number_line number)) in
    let line : c.as_bytes.result.now ≡ number_line number = c.as_bytes.ensures.value ∙ c.in_ok-line.ensures in
    c.in_ok-extend_from_slice.ensures.items
    ∙ ap₂ (λ (xs ys : List ℕ). xs ++ ys) c.loop-number.invariant line
    ∙ append_assoc init so_far (number_line number)
    ∙ ap (λ (xs : List ℕ). init ++ xs) (sym more)

pub returns : goal.returns
returns c = rw (sym (take_all c.loop-number.number-index c.args.numbers.now (omega arith))) c.loop-number.invariant
