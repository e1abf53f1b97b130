-- The stream, kept part by part.
use Rattle.std.proofs.Common.{◌≡◌, ℕ, ◌+◌, ◌*◌, Bool, List, ◌++◌, map, length, sym, ap, subst, ◌∙◌}
use Rattle.std.specs.Prelude.{All}
use Rattle.std.specs.List.{range_with_len}
use Rattle.std.proofs.lemmas.List.{length-map}
use Rattle.std.proofs.lemmas.List.FromFn.{length-range_with_len}
use Rattle.std.proofs.lemmas.List.Elements.{All-map}
use Rattle.net_model.specs.Circuit.{Circuit}
use Rattle.word_sim.specs.Block.{Block, block_with}
use Rattle.word_sim.specs.Stream.{stream, stream_vector}
use Rattle.word_sim.specs.Laws.{StreamContinues}
use Rattle.kept_vectors.specs.Kept.{KeptSoFar, Keeps, KeepsFirst}
use Rattle.kept_vectors.proofs.KeepLemmas.{keeps_more, first_more, first_longer}

-- the vectors of some blocks after others
abbrev pub blocks_from : ℕ → ℕ → ℕ → List (List Bool)
blocks_from sources done count = map (stream_vector sources) (range_with_len (64 * done) (64 * count))

pub stream_widths : (sources : ℕ) (numbers : List ℕ) → All (λ v. length v ≡ sources) (map (stream_vector sources) numbers)
stream_widths sources numbers = All-map (λ v. length v ≡ sources) (stream_vector sources) numbers (λ k d below. length-map (range_with_len 0 sources) _ ∙ length-range_with_len 0 sources)

-- the vectors of blocks that were filled in
pub next_blocks : {block : Block} (sources source done count : ℕ) → block ≡ block_with sources (blocks_from sources done count) → sources ≡ source → block.vectors ≡ blocks_from source done count
next_blocks sources source done count is same = ap (λ (b : Block). b.vectors) is ∙ ap (λ (n : ℕ). blocks_from n done count) same

-- the same for the same vectors and circuit
pub some_of : {c k : Circuit} {vectors others : List (List Bool)} {old new : KeptSoFar} → vectors ≡ others → c ≡ k → KeepsFirst c vectors old new → KeepsFirst k others old new
some_of {c} {k} {vectors} {others} {old} {new} same circuit some = subst (λ (d : Circuit). KeepsFirst d others old new) circuit (subst (λ (vs : List (List Bool)). KeepsFirst c vs old new) same some)

-- some blocks more
pub stream_more : (law : StreamContinues) {c : Circuit} {old mid new : KeptSoFar} (done count : ℕ) → Keeps c (stream c.sources done) old mid → Keeps c (blocks_from c.sources done count) mid new → Keeps c (stream c.sources (done + count)) old new
stream_more law {c} {old} {mid} {new} done count before next = subst (λ (vs : List (List Bool)). Keeps c vs old new) (sym (law c.sources done count)) (keeps_more before next)

-- some of the first of their vectors are some of the first of all blocks
pub stream_some : (law : StreamContinues) {c : Circuit} {old mid new : KeptSoFar} (done count left : ℕ) → Keeps c (stream c.sources done) old mid → KeepsFirst c (blocks_from c.sources done count) mid new
    → KeepsFirst c (stream c.sources (done + count + left)) old new
stream_some law {c} {old} {mid} {new} done count left before some =
    let whole : stream c.sources (done + count + left) ≡ (stream c.sources done ++ blocks_from c.sources done count) ++ blocks_from c.sources (done + count) left =
    law c.sources (done + count) left ∙ ap (λ (vs : List (List Bool)). vs ++ blocks_from c.sources (done + count) left) (law c.sources done count) in
    subst (λ (vs : List (List Bool)). KeepsFirst c vs old new) (sym whole) (first_longer (blocks_from c.sources (done + count) left) (first_more before some))
