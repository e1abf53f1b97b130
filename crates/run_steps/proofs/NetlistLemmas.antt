-- What holds of the bytes that were read holds of the whole file, and nothing is both accepted and refused.
use Rattle.std.proofs.Common.{◌≡◌, ℕ, ◌+◌, ◌<◌, length, take, ap, ◌∙◌, arith}
use Rattle.std.specs.Prelude.{◌==◌}
use Rattle.std.specs.List.{count_by}
use Rattle.std.proofs.lemmas.List.{take-take}
use Rattle.diag_shelf.specs.Calls.{read_of}
use Rattle.net_model.specs.declared.circuit.Design.{Design}
use Rattle.bench_reader.specs.declared.fault.Place.{Place}
use Rattle.bench_reader.specs.declared.fault.NetKind.{NetKind}
use Rattle.bench_reader.specs.Reading.{place_of}
use Rattle.bench_reader.specs.Refusal.{TextRefused, too_long, by_grammar, by_second, by_missing}
use Rattle.text_fields.specs.Fields.{Text}
use Rattle.bench_reader.specs.declared.reading.TheConstants.{NETLIST_LIMIT}
use Rattle.run_steps.proofs.ReadLemmas.{long_read, read_as_file, said_of_file}
use Rattle.run_steps.specs.Texts.{refusal_text}
use Rattle.run_steps.specs.Netlists.{IsDesign, IsRefused, by_text, by_loop}

abbrev place_with : ℕ → ℕ → Place
place_with byte line = record { byte = byte; line = line }

-- A byte has the same place in the text that ends with it.
place_read : (byte : ℕ) (all : Text) → place_of (take (byte + 1) all) byte ≡ place_of all byte
place_read byte all =
    let place = λ (text : Text). place_with byte (count_by (λ b. b == 10) text + 1) in
    ap place (take-take byte (byte + 1) all (omega arith))

pub design_read : {all bytes : Text} {design : Design} → bytes ≡ read_of NETLIST_LIMIT all → IsDesign bytes design → IsDesign all design
design_read {all} {bytes} {design} e is = said_of_file (λ (b : Text). IsDesign b design) (λ (known : IsDesign bytes design). known.accepted.is_text.short) e is

long_refused : {all bytes : Text} (refusal : NetKind × ℕ) → bytes ≡ read_of NETLIST_LIMIT all → NETLIST_LIMIT < length all → TextRefused bytes refusal
    → TextRefused all refusal × (place_of bytes refusal.1 ≡ place_of all refusal.1)
long_refused {all} {bytes} refusal e long (too_long over is) =
    let byte : refusal.1 ≡ NETLIST_LIMIT = ap (λ (r : NetKind × ℕ). r.1) is in
    (too_long long is, rw byte (ap (λ (b : Text). place_of b NETLIST_LIMIT) e ∙ place_read NETLIST_LIMIT all))
long_refused {all} {bytes} refusal e long (by_grammar before phrases short are stops) = absurd (long_read NETLIST_LIMIT all bytes e long short)
long_refused {all} {bytes} refusal e long (by_second phrases n text twice is) = absurd (long_read NETLIST_LIMIT all bytes e long text.short)
long_refused {all} {bytes} refusal e long (by_missing phrases n text once missing is) = absurd (long_read NETLIST_LIMIT all bytes e long text.short)

refused_long : {all bytes console : Text} → bytes ≡ read_of NETLIST_LIMIT all → NETLIST_LIMIT < length all → IsRefused bytes console → IsRefused all console
refused_long {all} {bytes} {console} e long (by_text kind byte refused is) =
    let r = long_refused (kind, byte) e long refused in
    by_text kind byte r.0 (is ∙ ap (refusal_text kind) r.1)
refused_long {all} {bytes} {console} e long (by_loop netlist place names accepted loops is) = absurd (long_read NETLIST_LIMIT all bytes e long accepted.is_text.short)

pub refused_read : {all bytes console : Text} → bytes ≡ read_of NETLIST_LIMIT all → IsRefused bytes console → IsRefused all console
refused_read {all} {bytes} {console} e refused = read_as_file (λ (b : Text). IsRefused b console) e (refused_long e) refused
