use Rattle.std.proofs.Common.{◌++◌, ◌∙◌, List, ℕ, ap, ap₂}
use Rattle.std.specs.Prelude.{codes}
use Rattle.std.specs.List.{flat_map, range_with_len}
use Rattle.std.proofs.lemmas.List.{append_assoc}
use Rattle.synth_netlist.specs.Synth.{signal, input_line, output_line, numbered_cell, synth_text}
use Rattle.synth_netlist.proofs.cells.synth_text.Goals as goal

pub returns : goal.returns
unfolding synth_text input_line output_line signal
returns c =
    let n = c.args.n in
    let start = input_line (codes "c0") in
    let cells = flat_map (numbered_cell n) (range_with_len 0 n) in
    c.in_ok-extend_from_slice-2.ensures.items
    ∙ ap₂ (λ (xs ys : List ℕ). xs ++ ys)
    (c.in_ok-push_cells.ensures ∙ ap (λ (xs : List ℕ). xs ++ cells) (c.in_ok-extend_from_slice.ensures.items ∙ ap (λ (xs : List ℕ). xs ++ start) c.new-text.ensures.items))
    (c.as_bytes.ensures.value ∙ c.in_ok-end.ensures.ok)
    ∙ append_assoc start cells (output_line (signal (codes "c") n))
