use Rattle.std.proofs.Common.{◌≡◌, ◌∙◌, ℕ, ◌+◌, ◌-◌, Bool, List, refl, sym, ap, subst, arith}
use Rattle.std.proofs.lemmas.Bool.{false≢true}
use Rattle.std.proofs.lemmas.Result.{err_from_is_err_and}
use Rattle.net_model.specs.FaultList.{fault_count}
use Rattle.net_model.specs.Circuit.{Circuit}
use Rattle.word_sim.specs.Block.{Block}
use Rattle.word_sim.specs.StreamState.{StreamState, stream_at}
use Rattle.word_sim.specs.Stream.{stream}
use Rattle.kept_vectors.specs.Kept.{Keeps, KeepsFirst}
use Rattle.kept_vectors.specs.Keeper.{Keeper}
use Rattle.kept_vectors.specs.Scan.{kept_now}
use Rattle.kept_vectors.specs.Notes.{AreRootsOf}
use Rattle.kept_vectors.proofs.RootLemmas.{keeper_together}
use Rattle.class_refine.proofs.PatternTables.{table_numbers}
use Rattle.kept_vectors.proofs.KeepLemmas.{keeps_none, keeper_after, keeper_first_after}
use Rattle.kept_vectors.proofs.StreamLemmas.{blocks_from, stream_widths, next_blocks, some_of, stream_more, stream_some}
use Rattle.kept_vectors.proofs.keeper.Keeper.keep_stream.Goals as goal

pub loop-left-init : goal.loop-left-init
loop-left-init c =
    let circuit = c.self.inside.scan.good.circuit in
    let old = kept_now c.self.inside.kept in
    let none : 0 ≡ c.args.blocks - c.args.blocks = omega arith in
    record {
      left = omega arith;
      place = c.new-stream.ensures ∙ ap (λ n. stream_at n 0) (c.sources.ensures.value ∙ c.self.invariant.scan.block) ∙ ap (stream_at circuit.sources) none;
      drawn = c.self.invariant.stream;
      circuit = refl;
      scan = c.self.invariant.scan;
      stands = refl;
      keeper = c.self.invariant.keeper;
      keeps = subst (λ (n : ℕ). Keeps circuit (stream circuit.sources n) old old) none (keeps_none circuit old);
    }

pub invariant_of-self-2 : goal.invariant_of-self-2
invariant_of-self-2 c = record {
  scan = c.loop-left.invariant.scan;
  keeper = rw c.loop-left.invariant.circuit c.loop-left.invariant.keeper;
  stream = rw c.loop-left.invariant.circuit (c.args.blocks - c.loop-left.left, c.loop-left.invariant.place);
  stands = λ is. absurd (false≢true (sym c.loop-left.invariant.stands ∙ is));
}

pub fill-left-requires-clause-sources : goal.fill-left-requires-clause-sources
fill-left-requires-clause-sources c =
    ap (λ (b : Block). b.sources) c.clear.ensures ∙ c.loop-left.invariant.scan.block ∙ ap (λ (k : Circuit). k.sources) c.loop-left.invariant.circuit ∙ ap (λ (s : StreamState). s.sources) (sym c.loop-left.invariant.place)

pub keep_block-requires-clause-scan : goal.keep_block-requires-clause-scan
keep_block-requires-clause-scan c =
    let scan = c.loop-left.invariant.scan in
    record {
      circuit = scan.circuit;
      faults_are = scan.faults_are;
      block = c.fill-left.ensures.sources ∙ ap (λ (s : StreamState). s.sources) c.loop-left.invariant.place ∙ ap (λ (k : Circuit). k.sources) (sym c.loop-left.invariant.circuit);
      differences = scan.differences;
      lanes = scan.lanes;
      rows = scan.rows;
    }

pub keep_block-requires-clause-together : goal.keep_block-requires-clause-together
keep_block-requires-clause-together c =
    let so_far = c.loop-left.invariant in
    keeper_together so_far.keeper c.loop-left.self-inside.scan.differences.units.roots.now (subst (λ (k : Circuit). AreRootsOf k c.loop-left.self-inside.scan.differences.units.roots.now) so_far.circuit so_far.scan.differences.roots)

pub keep_block-requires-clause-numbers : goal.keep_block-requires-clause-numbers
keep_block-requires-clause-numbers c = table_numbers c.loop-left.invariant.keeper.table ∙ ap fault_count (sym c.loop-left.invariant.circuit)

pub loop-left-preserved : goal.loop-left-preserved
loop-left-preserved c =
    let circuit = c.self.inside.scan.good.circuit in
    let so_far = c.loop-left.invariant in
    let done = c.args.blocks - c.loop-left.left in
    let count = c.fill-left.result in
    let old = kept_now c.loop-left.self-inside.kept in
    let new = kept_now c.keep_block.new.kept in
    let now : c.args.blocks - (c.loop-left.left - count) ≡ done + count = omega (arith, so_far.left, c.fill-left.ensures.count) in
    let part = next_blocks circuit.sources circuit.sources done count (c.fill-left.ensures.block circuit.sources done so_far.place) refl in
    let keeps : Keeps circuit (blocks_from circuit.sources done count) old new =
    subst (λ (vs : List (List Bool)). Keeps circuit vs old new) part (subst (λ (k : Circuit). Keeps k c.fill-left.new.block.vectors old new) so_far.circuit c.in_ok-keep_block.ensures.ok) in
    record {
      left = omega (arith, so_far.left);
      place = c.fill-left.ensures.stream circuit.sources done so_far.place ∙ ap (stream_at circuit.sources) (sym now);
      drawn = so_far.drawn;
      circuit = c.in_ok-keep_block.ensures.circuit ∙ so_far.circuit;
      scan = c.in_ok-keep_block.ensures.scan;
      stands = so_far.stands;
      keeper = keeper_after circuit (blocks_from circuit.sources done count) old new so_far.keeper (stream_widths circuit.sources _) keeps;
      keeps = rw now (stream_more c.stream_continues.ensures done count so_far.keeps keeps);
    }

pub invariant_of-self : goal.invariant_of-self
invariant_of-self c =
    let circuit = c.self.inside.scan.good.circuit in
    let so_far = c.loop-left.invariant in
    let done = c.args.blocks - c.loop-left.left in
    let old = kept_now c.loop-left.self-inside.kept in
    let new = kept_now c.keep_block.new.kept in
    let some = some_of (next_blocks circuit.sources circuit.sources done c.fill-left.result (c.fill-left.ensures.block circuit.sources done so_far.place) refl) so_far.circuit c.in_err-keep_block.ensures.err in
    record {
      scan = c.in_err-keep_block.ensures.scan;
      keeper = rw (c.in_err-keep_block.ensures.circuit, c.loop-left.invariant.circuit)
          (keeper_first_after circuit (blocks_from circuit.sources done c.fill-left.result) old new so_far.keeper (stream_widths circuit.sources _) some);
      stream = rw (c.in_err-keep_block.ensures.circuit, c.loop-left.invariant.circuit) c.loop-left.invariant.drawn;
      stands = λ is. absurd (false≢true (sym c.loop-left.invariant.stands ∙ is));
    }

pub returns-in_err-keep_block-clause-circuit : goal.returns-in_err-keep_block-clause-circuit
returns-in_err-keep_block-clause-circuit c = c.in_err-keep_block.ensures.circuit ∙ c.loop-left.invariant.circuit ∙ ap (λ (k : Keeper). k.circuit) c.self.view_is

pub returns-in_err-keep_block-clause-err : goal.returns-in_err-keep_block-clause-err
returns-in_err-keep_block-clause-err c =
    let p = err_from_is_err_and c.from_residual.result c.from_residual.ensures.1 in
    let circuit = c.self.inside.scan.good.circuit in
    let so_far = c.loop-left.invariant in
    let done = c.args.blocks - c.loop-left.left in
    let count = c.fill-left.result in
    let old = kept_now c.self.inside.kept in
    let new = kept_now c.keep_block.new.kept in
    let some = some_of (next_blocks circuit.sources circuit.sources done count (c.fill-left.ensures.block circuit.sources done so_far.place) refl) so_far.circuit c.in_err-keep_block.ensures.err in
    let left = c.args.blocks - (done + count) in
    let whole : done + count + left ≡ c.args.blocks = omega (arith, so_far.left, c.fill-left.ensures.count) in
    let kept : KeepsFirst circuit (stream circuit.sources c.args.blocks) old new = subst (λ (n : ℕ). KeepsFirst circuit (stream circuit.sources n) old new) whole (stream_some c.stream_continues.ensures done count left so_far.keeps some) in
    rw p.1 (subst (λ (k : Keeper). KeepsFirst k.circuit (stream k.circuit.sources c.args.blocks) k.kept new) c.self.view_is kept)

pub returns-clause-circuit : goal.returns-clause-circuit
returns-clause-circuit c = c.loop-left.invariant.circuit ∙ ap (λ (k : Keeper). k.circuit) c.self.view_is

pub returns-clause-ok : goal.returns-clause-ok
returns-clause-ok c =
    let done : c.args.blocks - c.loop-left.left ≡ c.args.blocks = omega arith in
    subst (λ (k : Keeper). Keeps k.circuit (stream k.circuit.sources c.args.blocks) k.kept (kept_now c.loop-left.self-inside.kept)) c.self.view_is
    (subst (λ (n : ℕ). Keeps c.self.inside.scan.good.circuit (stream c.self.inside.scan.good.circuit.sources n) (kept_now c.self.inside.kept) (kept_now c.loop-left.self-inside.kept)) done c.loop-left.invariant.keeps)
