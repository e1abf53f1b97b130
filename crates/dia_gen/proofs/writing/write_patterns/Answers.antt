use Rattle.std.proofs.Common.{◌≡◌, ◌∙◌, ◌<◌, ℕ, List, Bool, map, length, get_or, sym, ap, arith}
use Rattle.std.specs.Prelude.{Some}
use Rattle.std.specs.Option.{option_map}
use Rattle.std.specs.List.{slice_get}
use Rattle.std.proofs.lemmas.Option.{slice_get-map, slice_get-get_or}
use Rattle.std.proofs.lemmas.Result.{err_from_is_err_and}
use Rattle.result_records.specs.declared.record.Record.TheVariants.{Pattern}
use Rattle.dia_gen.proofs.WritingLemmas.{line_gathered, line_broken}
use Rattle.dia_gen.proofs.writing.write_patterns.Goals as goal

pattern_at : (patterns : List (List Bool)) (k : ℕ) (v : List Bool) → k < length patterns → v ≡ get_or patterns k v → slice_get (map Pattern patterns) k ≡ Some (Pattern v)
pattern_at patterns k v below is = slice_get-map Pattern patterns k ∙ ap (option_map Pattern) (slice_get-get_or patterns k v below ∙ ap Some (sym is))

pub returns-in_err-add_pattern : goal.returns-in_err-add_pattern
returns-in_err-add_pattern g c =
    let patterns = c.args.patterns.now in
    let k = c.loop-pattern.pattern-index in
    let v = c.pattern-item.result in
    let p = err_from_is_err_and c.from_residual.result c.from_residual.ensures.1 in
    rw (p.1, p.2) (line_broken (map Pattern patterns) k (Pattern v) (pattern_at patterns k v (let test = c.loop-pattern-test.true in omega arith) c.pattern-item.is) c.loop-pattern.invariant c.in_err-add_pattern.ensures)

pub loop-pattern-preserved : goal.loop-pattern-preserved
loop-pattern-preserved g c =
    let patterns = c.args.patterns.now in
    let k = c.loop-pattern.pattern-index in
    let v = c.pattern-item.result in
    line_gathered (map Pattern patterns) k (Pattern v) (pattern_at patterns k v (let test = c.loop-pattern-test.true in omega arith) c.pattern-item.is) c.loop-pattern.invariant c.in_ok-add_pattern.ensures
