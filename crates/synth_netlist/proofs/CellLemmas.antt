-- The text of a cell's ports and gates, as it is written and as its statements are.
use Rattle.std.proofs.Common.{◌≡◌, ◌++◌, ◌∙◌, ℕ, List, ap, sym, refl}
use Rattle.std.specs.Prelude.{codes}
use Rattle.std.proofs.lemmas.List.{append_assoc}
use Rattle.synth_netlist.specs.Synth.{input_line, output_line, gate_line}

pub ports_written : (d : List ℕ) → codes "INPUT(x" ++ (d ++ (codes ")\nINPUT(y" ++ (d ++ (codes ")\nOUTPUT(s" ++ (d ++ codes ")\n"))))) ≡ input_line (codes "x" ++ d) ++ (input_line (codes "y" ++ d) ++ output_line (codes "s" ++ d))
unfolding input_line output_line
ports_written d =
    let last = output_line (codes "s" ++ d) in
    sym (ap (λ (t : List ℕ). codes "INPUT(x" ++ t) (append_assoc d (codes ")\n") (input_line (codes "y" ++ d) ++ last) ∙ ap (λ (t : List ℕ). d ++ (codes ")\nINPUT(y" ++ t)) (append_assoc d (codes ")\n") last)))

pub gate_written : (driven n word first second d : List ℕ) → driven ++ (n ++ (codes "=" ++ (word ++ (codes "(" ++ (first ++ (d ++ (codes "," ++ (second ++ (d ++ codes ")\n"))))))))) ≡ gate_line (driven ++ n) word (first ++ d) (second ++ d)
unfolding gate_line
gate_written driven n word first second d = simp append_assoc refl
