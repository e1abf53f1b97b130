use Rattle.std.proofs.Common.{◌∙◌, sym}
use Rattle.std.proofs.lemmas.Bool.{not-true, not-false}
use Rattle.std.specs.Cmp.Lexicographic.{other_text, same_text}
use Rattle.adaptive_tree.proofs.FormLemmas.{no_head, no_version, other_version, no_positions, wrong_positions, no_counts, sizes_are, head_is}
use Rattle.adaptive_tree.proofs.line.head_of.Goals as goal

pub returns-in_err-version : goal.returns-in_err-version
returns-in_err-version c = rw c.from_residual.ensures (no_head c.args.fields.now (no_version c.args.fields.now c.in_err-version.ensures))

pub returns-then-ne : goal.returns-then-ne
returns-then-ne c =
    no_head c.args.fields.now (other_version c.args.fields.now c.in_ok-version.version.now c.in_ok-version.sizes.now c.in_ok-version.ensures (λ e. other_text _ _ (sym (not-true _ (sym c.if-ne.ensures))) (e ∙ sym c.as_slice.ensures)))

pub returns-in_err-positions : goal.returns-in_err-positions
returns-in_err-positions c =
    rw c.from_residual-in_err-positions.ensures (no_head c.args.fields.now (no_positions c.args.fields.now c.in_ok-version.version.now c.in_ok-version.sizes.now c.in_ok-version.ensures c.in_err-positions.ensures))

pub returns-in_err-positions-2 : goal.returns-in_err-positions-2
returns-in_err-positions-2 c =
    rw c.from_residual-in_err-positions-2.ensures
    (no_head c.args.fields.now (wrong_positions c.args.fields.now c.in_ok-version.version.now c.in_ok-version.sizes.now c.in_ok-positions.positions.now c.in_ok-positions.counts.now c.in_ok-version.ensures c.in_ok-positions.ensures c.in_err-positions-2.ensures))

pub returns-in_err-patterns : goal.returns-in_err-patterns
returns-in_err-patterns c =
    rw c.from_residual-in_err-patterns.ensures
    (no_head c.args.fields.now (no_counts c.args.fields.now c.in_ok-version.version.now c.in_ok-version.sizes.now c.in_ok-positions.positions.now c.in_ok-positions.counts.now c.in_ok-version.ensures c.in_ok-positions.ensures c.in_err-patterns.ensures))

pub returns : goal.returns
returns c =
    let sizes = c.in_ok-positions in
    let pair = c.in_ok-patterns.ensures in
    head_is c.args.fields.now c.in_ok-positions-2.positions c.in_ok-patterns.patterns c.in_ok-patterns.classes c.in_ok-positions-2.ensures.0 pair.first pair.second
    (sizes_are c.args.fields.now c.in_ok-version.version.now c.in_ok-version.sizes.now sizes.positions.now sizes.counts.now c.in_ok-positions-2.positions c.in_ok-patterns.patterns c.in_ok-patterns.classes
    c.in_ok-version.ensures (same_text _ _ (sym (not-false _ (sym c.if-ne.ensures))) ∙ c.as_slice.ensures) sizes.ensures c.in_ok-positions-2.ensures.1 pair)
