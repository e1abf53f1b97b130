use Rattle.std.proofs.Common.{inl, inr, length, refl}
use Rattle.std.proofs.lemmas.Bool.Decides.{leb_tells}
use Rattle.bench_reader.specs.declared.reading.TheConstants.{NETLIST_LIMIT}
use Rattle.bench_reader.specs.declared.fault.NetKind.TheVariants.{TooLong}
use Rattle.bench_reader.specs.Refusal.{too_long}
use Rattle.bench_reader.specs.Laws.{AcceptedOrRefused}
use Rattle.bench_reader.proofs.OutcomeLemmas.{short_text}
use Rattle.bench_reader.proofs.laws.accepted_or_refused.Goals as goal

one_of_both : AcceptedOrRefused
one_of_both text = elim (leb_tells (length text) NETLIST_LIMIT) [ inl short ↦ short_text text short.1 | inr long ↦ inr ((TooLong, NETLIST_LIMIT), too_long long.1 refl) ]

pub returns : goal.returns
returns c = one_of_both
