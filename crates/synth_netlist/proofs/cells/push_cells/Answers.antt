use Rattle.std.proofs.Common.{◌≡◌, ◌+◌, ◌++◌, ◌∷◌, [], ℕ, List, ap, ap₂, sym, ◌∙◌, add-one, arith}
use Rattle.std.specs.List.{flat_map, range_with_len}
use Rattle.std.proofs.lemmas.List.{append_assoc, append-nil}
use Rattle.std.proofs.lemmas.Grind.{flat_map-append}
use Rattle.net_model.proofs.Orders.{range_with_len_more}
use Rattle.rand_xoshiro.specs.SplitMix64.{next_state, mix_u64}
use Rattle.synth_netlist.specs.Synth.{state_from, output_from, cell_text, numbered_cell}
use Rattle.synth_netlist.proofs.cells.push_cells.Goals as goal

pub loop-cell-preserved : goal.loop-cell-preserved
loop-cell-preserved c =
    let n = c.args.n in
    let k = c.loop-cell.cell in
    let init = c.args.text.now.items in
    let word = c.next_word-output.ensures in
    let state : c.loop-cell.rng ≡ state_from n k = c.loop-cell.invariant.0 in
    let next : c.next_word-output.new.self ≡ state_from n (k + 1) = ap (λ (p : ℕ × ℕ). p.1) word ∙ ap next_state state ∙ ap (state_from n) (sym (add-one k)) in
    let output : c.next_word-output.result ≡ output_from n k = ap (λ (p : ℕ × ℕ). p.0) word ∙ ap (λ (s : ℕ). (mix_u64 s).0) state in
    let so_far = flat_map (numbered_cell n) (range_with_len 0 k) in
    let more : flat_map (numbered_cell n) (range_with_len 0 (k + 1)) ≡ so_far ++ numbered_cell n k =
    ap (flat_map (numbered_cell n)) (range_with_len_more 0 (k + 1) k k (omega arith) (omega arith)) ∙ flat_map-append (numbered_cell n) (range_with_len 0 k) (k ∷ []) ∙ ap (λ (xs : List ℕ). so_far ++ xs) (append-nil (numbered_cell n k)) in (
      next,
      c.in_ok-push_cell.ensures
          ∙ ap₂ (λ (xs : List ℕ) (o : ℕ). xs ++ cell_text o k) c.loop-cell.invariant.1 output
          ∙ append_assoc init so_far (numbered_cell n k)
          ∙ ap (λ (xs : List ℕ). init ++ xs) (sym more),
    )
