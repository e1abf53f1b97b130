use Rattle.std.proofs.Common.{◌≡◌, ◌∙◌, None, Some, sym, arith}
use Rattle.bench_reader.specs.Reading.{driven_twice, undriven}
use Rattle.bench_reader.specs.Refusal.{too_long, by_grammar, by_second, by_missing}
use Rattle.bench_reader.specs.Laws.{OneRefusal}
use Rattle.bench_reader.proofs.LawLemmas.{same_phrases, text_or_stop, same_stop}
use Rattle.bench_reader.proofs.laws.one_refusal.Goals as goal

one_way : OneRefusal
one_way text r s (too_long long is) (too_long long' is') = is ∙ sym is'
one_way text r s (too_long long is) (by_grammar before phrases short each stops) = absurd (omega arith)
one_way text r s (too_long long is) (by_second phrases n whole second is') = absurd (omega (arith, whole.short))
one_way text r s (too_long long is) (by_missing phrases n whole once missing is') = absurd (omega (arith, whole.short))
one_way text r s (by_grammar before phrases short each stops) (too_long long is) = absurd (omega arith)
one_way text r s (by_grammar before phrases short each stops) (by_grammar behind qs short' each' stops') = same_stop text before behind phrases qs r s each each' stops stops'
one_way text r s (by_grammar before phrases short each stops) (by_second qs n whole second is) = absurd (text_or_stop text qs before phrases r whole each stops)
one_way text r s (by_grammar before phrases short each stops) (by_missing qs n whole once missing is) = absurd (text_or_stop text qs before phrases r whole each stops)
one_way text r s (by_second phrases n whole second is) (too_long long is') = absurd (omega (arith, whole.short))
one_way text r s (by_second phrases n whole second is) (by_grammar behind qs short each stops) = absurd (text_or_stop text phrases behind qs s whole each stops)
one_way text r s (by_second phrases n whole second is) (by_second qs m whole' second' is') =
    let e = same_phrases text phrases qs whole whole' in
    let f : driven_twice qs ≡ Some n = rw (← e) second in
    let g : n ≡ m = cc in
    is ∙ rw g (sym is')
one_way text r s (by_second phrases n whole second is) (by_missing qs m whole' once missing is') =
    let e = same_phrases text phrases qs whole whole' in
    let f : driven_twice qs ≡ Some n = rw (← e) second in
    cc
one_way text r s (by_missing phrases n whole once missing is) (too_long long is') = absurd (omega (arith, whole.short))
one_way text r s (by_missing phrases n whole once missing is) (by_grammar behind qs short each stops) = absurd (text_or_stop text phrases behind qs s whole each stops)
one_way text r s (by_missing phrases n whole once missing is) (by_second qs m whole' second is') =
    let e = same_phrases text phrases qs whole whole' in
    let f : driven_twice qs ≡ None = rw (← e) once in
    cc
one_way text r s (by_missing phrases n whole once missing is) (by_missing qs m whole' once' missing' is') =
    let e = same_phrases text phrases qs whole whole' in
    let f : undriven qs ≡ Some n = rw (← e) missing in
    let g : n ≡ m = cc in
    is ∙ rw g (sym is')

pub returns : goal.returns
returns c = one_way
