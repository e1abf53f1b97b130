use Rattle.std.proofs.Common.{◌≡◌, ◌∙◌, ◌+◌, ◌<◌, ◌++◌, ◌∷◌, [], ℕ, List, map, length, take, get_or, sym, ap}
use Rattle.std.specs.Prelude.{slice_index}
use Rattle.std.proofs.lemmas.List.{map_more}
use Rattle.bench_reader.specs.declared.statement.Word.{Word}
use Rattle.scan_cut.proofs.parts.pins.Goals as goal

-- one pin more
pins_more : (line : Word → ℕ) (words : List Word) (at : ℕ) (d : Word) {pins new : List ℕ} → at < length words → pins ≡ map line (take at words) → new ≡ pins ++ line (get_or words at d) ∷ [] → new ≡ map line (take (at + 1) words)
pins_more line words at d below so_far pushed = pushed ∙ ap (λ (pins : List ℕ). pins ++ line (get_or words at d) ∷ []) so_far ∙ sym (map_more line words at d below)

pub loop-word-preserved : goal.loop-word-preserved
loop-word-preserved c = pins_more (λ word. slice_index c.args.lines.now word.name) c.args.words.now c.loop-word.word-index _ c.loop-word-test.true c.loop-word.invariant c.in_ok-push.ensures.ok
