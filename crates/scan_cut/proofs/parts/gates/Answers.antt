use Rattle.std.proofs.Common.{◌≡◌, ◌∙◌, ◌+◌, ◌<◌, ◌++◌, ◌∷◌, [], ℕ, List, length, get_or, take, refl, sym, ap}
use Rattle.std.specs.Prelude.{All, filter_map}
use Rattle.std.proofs.lemmas.List.{append-nil, take_more}
use Rattle.std.proofs.lemmas.List.Elements.{filter_map-append, All-get_or}
use Rattle.net_model.specs.declared.gate.Kind.{Kind}
use Rattle.bench_reader.specs.declared.statement.Word.{Word}
use Rattle.bench_reader.specs.declared.statement.Statement.{Statement}
use Rattle.bench_reader.specs.declared.statement.Statement.TheVariants.{Input, Output, Drive, Flop}
use Rattle.bench_reader.specs.Driven.{used_numbers}
use Rattle.scan_cut.specs.Lines.{looked_up_gate}
use Rattle.scan_cut.proofs.FitLemmas.{each_word}
use Rattle.scan_cut.proofs.parts.gates.Goals as goal
use Rattle.scan_cut.proofs.parts.gates.Goals.{in-Drive+in_ok-pins+in_ok-push, in_default}

pub pins-requires : goal.pins-requires
pins-requires c =
    let below : ℕ → Type 0 = λ name. name < length c.args.lines.now in
    let ss = c.args.statements.now in
    let i = c.loop-statement.statement-index in
    let at : All below (used_numbers c.statement-item.result) =
    rw c.statement-item.is (All-get_or (λ s. All below (used_numbers s)) ss i c.statement-item.result c.loop-statement-test.true c.requires) in
    rw c.as_slice.ensures (each_word below c.in-Drive.words (rw c.in-Drive.is at at))

-- one statement more
gates_more : (lines : List ℕ) (ss : List Statement) (i : ℕ) (s : Statement) → i < length ss → s ≡ get_or ss i s
    → filter_map (looked_up_gate lines) (take (i + 1) ss) ≡ filter_map (looked_up_gate lines) (take i ss) ++ filter_map (looked_up_gate lines) (s ∷ [])
gates_more lines ss i s h is =
    ap (filter_map (looked_up_gate lines)) (take_more ss i s h ∙ ap (λ x. take i ss ++ x ∷ []) (sym is)) ∙ filter_map-append (looked_up_gate lines) (take i ss) (s ∷ [])

no_gate : (lines : List ℕ) (s : Statement) → ((n : Word) (kind : Kind) (words : List Word) → s ≡ Drive n kind words → ⊥) → filter_map (looked_up_gate lines) (s ∷ []) ≡ []
no_gate lines (Input n) other = refl
no_gate lines (Output n) other = refl
no_gate lines (Drive n kind words) other = absurd (other n kind words refl)
no_gate lines (Flop q d) other = refl

pub loop-statement-preserved : goal.loop-statement-preserved
loop-statement-preserved c =
    let lines = c.args.lines.now in
    let ss = c.args.statements.now in
    let i = c.loop-statement.statement-index in
    let more = gates_more lines ss i c.statement-item.result c.loop-statement-test.true c.statement-item.is in
    elim c.match-statement.branch [
      | in-Drive+in_ok-pins+in_ok-push w ↦
          let pushed = w.in_ok-push.ensures.items in
          let pins = rw w.as_slice.ensures at w.in_ok-pins.ensures in
          let e = rw w.in-Drive.is at more in
          rw (w.gates-is, e, pushed, c.loop-statement.invariant, pins) refl
      | in_default w ↦ rw (w.gates-is, more, no_gate lines c.statement-item.result w.in_default.not-Drive) (c.loop-statement.invariant ∙ sym (append-nil (filter_map (looked_up_gate lines) (take i ss))))
    ]
