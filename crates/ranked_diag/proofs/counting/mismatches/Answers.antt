use Rattle.std.proofs.Common.{◌≡◌, ◌∙◌, ◌<◌, ℕ, List, length, map, get_or, sym, ap, subst, arith}
use Rattle.std.specs.Prelude.{All, IfOk}
use Rattle.std.proofs.lemmas.List.{length-map}
use Rattle.ranked_diag.specs.Mismatches.{mismatch_counts}
use Rattle.ranked_diag.specs.SeenWords.{seen_mismatches}
use Rattle.ranked_diag.proofs.ObservingLemmas.{groups-inside, counts-are}
use Rattle.ranked_diag.proofs.counting.mismatches.Goals as goal

pub number_counts-requires : goal.number_counts-requires
number_counts-requires c =
    let d = c.args.dict.now in
    let counts = c.as_slice-2.result.now in
    let size : length counts ≡ length d.entries = ap (λ (xs : List ℕ). length xs) (c.as_slice-2.ensures.value ∙ c.in_ok-counts.ensures) ∙ length-map d.entries (seen_mismatches c.in_ok-words.words) in
    subst (λ (groups : List ℕ). All (λ group. group < length counts) groups) (sym c.as_slice.ensures) (λ k e h. omega (arith, groups-inside d c.requires.grouped c.requires.shaped k e h, size))

pub returns : goal.returns
returns c =
    let d = c.args.dict.now in
    let counted = c.as_slice-2.ensures.value ∙ c.in_ok-counts.ensures in
    let same : map (λ (group : ℕ). get_or c.as_slice-2.result.now group 0) c.as_slice.result.now ≡ mismatch_counts d c.args.partial.now =
    (λ i. map (λ (group : ℕ). get_or (counted i) group 0) (c.as_slice.ensures i)) ∙ counts-are d c.requires.grouped c.requires.shaped c.args.partial.now c.in_ok-words.words c.in_ok-words.ensures in
    subst (λ (xs : List ℕ). IfOk c.number_counts.result (λ counts. counts ≡ xs)) same c.number_counts.ensures
