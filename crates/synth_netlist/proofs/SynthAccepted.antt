-- The netlist of a number is accepted, and its cut has no loop.
use Rattle.std.proofs.Common.{◌≡◌, ℕ, ◌≤◌, List, sym, subst}
use Rattle.std.proofs.lemmas.List.Elements.{All-contains}
use Rattle.net_model.specs.Circuit.{Reaches}
use Rattle.net_model.specs.Laws.{NoLoopIsCircuit}
use Rattle.bench_reader.specs.declared.fault.Place.{Place}
use Rattle.bench_reader.specs.Netlist.{Netlist}
use Rattle.bench_reader.specs.Reading.{IsNetlist}
use Rattle.bench_reader.specs.Spelled.{IsAsWritten, Spells}
use Rattle.bench_reader.specs.Laws.{NeverAcceptedAndRefused, OneNetlist, SpelledIsAccepted, LinesSpell}
use Rattle.scan_cut.specs.Cut.{cut_circuit, IsNetlistLoop}
use Rattle.bench_reader.proofs.DriverLemmas.{netlist_driven}
use Rattle.scan_cut.specs.Laws.{OrderedHasNoLoop}
use Rattle.scan_cut.proofs.FitLemmas.{fits}
use Rattle.synth_netlist.specs.Synth.{synth_text, synth_statements}
use Rattle.synth_netlist.specs.Laws.{HasAcceptedNetlist, NeverRefused}
use Rattle.synth_netlist.proofs.LoopWalks.{walk_first}
use Rattle.synth_netlist.proofs.SynthStatements.{synth_lines, are_right, have_runs, text_is_short}
use Rattle.synth_netlist.proofs.SynthOrder.{are_ordered, synth_known, have_kinds}

-- The laws by which it is accepted.
pub record SynthLaws : Type 0 where
  pub accepted : SpelledIsAccepted
  pub lines : LinesSpell
  pub ordered : OrderedHasNoLoop

module _ (laws : SynthLaws) (n : ℕ) (small : n ≤ 2000) where
  reads : (netlist : Netlist) × IsNetlist (synth_text n) netlist × IsAsWritten (synth_statements n) netlist
  reads =
      let ws = synth_statements n in
      laws.accepted (synth_text n) ws (text_is_short n small) (subst (λ (t : List ℕ). Spells t ws) (sym (synth_lines n)) (laws.lines ws (have_runs n small))) (are_right n small)

  no_loop : (netlist : Netlist) → IsAsWritten (synth_statements n) netlist → (line : ℕ) → Reaches (cut_circuit netlist) line line → ⊥
  no_loop netlist written line = laws.ordered netlist line (are_ordered netlist.names (synth_statements n) netlist.statements written.each (have_kinds n) (synth_known n))

  pub number_accepted : NoLoopIsCircuit → HasAcceptedNetlist n
  number_accepted no_loop_is_circuit = record {
    lines = synth_lines n;
    netlist = reads.0;
    accepted = reads.1;
    written = reads.2;
    circuit = no_loop_is_circuit (cut_circuit reads.0) (fits reads.0 (netlist_driven (synth_text n) reads.0 reads.1)) (no_loop reads.0 reads.2);
  }

  loops_never : OneNetlist → (netlist : Netlist) (place : Place) (names : List (List ℕ)) → IsNetlist (synth_text n) netlist → IsNetlistLoop netlist place names → ⊥
  loops_never one netlist place names accepted loops =
      let first = walk_first loops.is_walk in
      let same : reads.0 ≡ netlist = one (synth_text n) reads.0 netlist reads.1 accepted in
      let written : IsAsWritten (synth_statements n) netlist = subst (λ (m : Netlist). IsAsWritten (synth_statements n) m) same reads.2 in
      no_loop netlist written first.0 (All-contains (λ line. Reaches (cut_circuit netlist) line line) loops.walk first.0 loops.reaching first.1)

  pub never_refused : NeverAcceptedAndRefused → OneNetlist → NeverRefused (synth_text n)
  never_refused never one = record { text = λ refusal refused. never (synth_text n) reads.0 refusal reads.1 refused; loops = loops_never one }
