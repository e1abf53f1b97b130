use Rattle.std.proofs.Common.{◌≡◌, None, arith}
use Rattle.bench_reader.specs.Reading.{driven_twice, undriven}
use Rattle.bench_reader.specs.Refusal.{too_long, by_grammar, by_second, by_missing}
use Rattle.bench_reader.specs.Laws.{NeverAcceptedAndRefused}
use Rattle.bench_reader.proofs.LawLemmas.{same_phrases, text_or_stop}
use Rattle.bench_reader.proofs.laws.never_accepted_and_refused.Goals as goal

never_both : NeverAcceptedAndRefused
never_both text netlist refusal n (too_long long is) = absurd (omega (arith, n.is_text.short))
never_both text netlist refusal n (by_grammar before phrases short each stops) = text_or_stop text n.phrases before phrases refusal n.is_text each stops
never_both text netlist refusal n (by_second phrases name whole second is) =
    let e = same_phrases text n.phrases phrases n.is_text whole in
    let f : driven_twice phrases ≡ None = rw (← e) n.once in
    cc
never_both text netlist refusal n (by_missing phrases name whole once missing is) =
    let e = same_phrases text n.phrases phrases n.is_text whole in
    let f : undriven phrases ≡ None = rw (← e) n.all_driven in
    cc

pub returns : goal.returns
returns c = never_both
