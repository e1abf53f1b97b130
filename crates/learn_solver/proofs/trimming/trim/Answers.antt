use Rattle.std.proofs.Common.{◌≡◌, ◌∙◌, ◌+◌, ◌-◌, ◌++◌, ◌∷◌, [], List, length, take, sym, ap, subst, arith}
use Rattle.std.specs.Prelude.{slice_index_or}
use Rattle.std.proofs.lemmas.List.{take_more, take_all}
use Rattle.pair_miter.specs.ChainView.{ChainView}
use Rattle.pair_miter.specs.Log.{IsRefutation, NamesNoLiteral}
use Rattle.learn_solver.specs.Needed.{IsTrimmedTo, KeepsEnds, renumbered_chain}
use Rattle.learn_solver.specs.Trimmed.{IsEachUsed}
use Rattle.learn_solver.proofs.Shortened.{used_after, bare_after, refutes_after}
use Rattle.learn_solver.proofs.trimming.trim.Goals as goal

-- a log that isn't empty consists of the chains before its last one, and that one
whole_log : (all : List ChainView) (last : ChainView) → (length all ≡ 0 → ⊥) → last ≡ slice_index_or all (length all - 1) last → all ≡ take (length all - 1) all ++ last ∷ []
whole_log all last some is =
    let back : length all - 1 + 1 ≡ length all = omega (arith, some) in
    sym (take_all (length all) all (omega arith)) ∙ (ap (λ n. take n all) (sym back) ∙ (take_more all (length all - 1) last (omega (arith, some)) ∙ ap (λ x. take (length all - 1) all ++ x ∷ []) (sym is)))

log_is : (c : goal.After-drop-marks-2) → c.args.log.now ≡ take (length c.as_slice-all.result.now - 1) c.as_slice-all.result.now ++ c.index-all-all.result ∷ []
log_is c = sym c.as_slice-all.ensures ∙ whole_log c.as_slice-all.result.now c.index-all-all.result (λ none. grind (arith, none, c.is_empty.ensures, c.if-is_empty.false)) c.index-all-all.is

short_is : (c : goal.After-drop-marks-2) → c.push.new.self ≡ c.keep_needed.new.short ++ renumbered_chain c.args.count c.in_ok-numbers.numbers.items c.index-all-all.result ∷ []
short_is c = c.in_ok-push.ensures.ok ∙ ap (λ x. c.keep_needed.new.short ++ x ∷ []) (c.in_ok-renumbered.ensures ∙ ap (λ xs. renumbered_chain c.args.count xs c.index-all-all.result) c.as_slice-2.ensures.value)

trimmed : (c : goal.After-drop-marks-2) → let chains = take (length c.as_slice-all.result.now - 1) c.as_slice-all.result.now in IsTrimmedTo c.args.count chains c.in_ok-marks.marks.items (length chains) c.in_ok-numbers.numbers.items c.keep_needed.new.short
trimmed c = rw c.as_slice.ensures.value at c.in_ok-numbers.ensures.trimmed

pub returns-clause-refutes : goal.returns-clause-refutes
returns-clause-refutes c clauses limit long r =
    let chains = take (length c.as_slice-all.result.now - 1) c.as_slice-all.result.now in
    let ends : KeepsEnds c.args.count chains c.in_ok-marks.marks.items c.in_ok-numbers.numbers.items c.keep_needed.new.short = rw c.as_slice.ensures.value at c.in_ok-numbers.ensures.ends in
    subst (IsRefutation clauses limit) (sym (short_is c))
    (refutes_after c.args.count chains c.index-all-all.result c.in_ok-marks.marks.items c.in_ok-numbers.numbers.items c.keep_needed.new.short c.in_ok-marks.ensures (trimmed c) ends clauses limit long
    (subst (IsRefutation clauses limit) (log_is c) r))

pub returns-clause-used : goal.returns-clause-used
returns-clause-used c =
    let chains = take (length c.as_slice-all.result.now - 1) c.as_slice-all.result.now in
    subst (IsEachUsed c.args.count) (sym (short_is c))
    (used_after c.args.count chains c.index-all-all.result c.in_ok-marks.marks.items c.in_ok-numbers.numbers.items c.keep_needed.new.short c.in_ok-marks.ensures (trimmed c))

pub returns-clause-bare : goal.returns-clause-bare
returns-clause-bare c bare =
    let chains = take (length c.as_slice-all.result.now - 1) c.as_slice-all.result.now in
    subst NamesNoLiteral (sym (short_is c))
    (bare_after c.args.count chains c.index-all-all.result c.in_ok-marks.marks.items c.in_ok-numbers.numbers.items c.keep_needed.new.short c.in_ok-marks.ensures (trimmed c) (subst NamesNoLiteral (log_is c) bare))
