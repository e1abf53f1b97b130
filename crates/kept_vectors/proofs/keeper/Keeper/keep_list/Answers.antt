use Rattle.std.proofs.Common.{◌≡◌, ◌∙◌, Bool, List, length, refl, sym, ap, subst, arith}
use Rattle.std.specs.Prelude.{All}
use Rattle.std.proofs.lemmas.List.{take_all}
use Rattle.std.proofs.lemmas.List.Elements.{All-take, All-drop}
use Rattle.std.proofs.lemmas.Bool.{false≢true}
use Rattle.std.proofs.lemmas.Result.{err_from_is_err_and}
use Rattle.net_model.specs.FaultList.{fault_count}
use Rattle.net_model.specs.Circuit.{Circuit}
use Rattle.word_sim.specs.Block.{Block}
use Rattle.kept_vectors.specs.Kept.{Keeps, KeepsFirst}
use Rattle.kept_vectors.specs.Keeper.{Keeper}
use Rattle.kept_vectors.specs.Scan.{kept_now}
use Rattle.kept_vectors.specs.Notes.{AreRootsOf}
use Rattle.class_refine.proofs.PatternTables.{table_numbers}
use Rattle.kept_vectors.proofs.RootLemmas.{keeper_together}
use Rattle.kept_vectors.proofs.KeepLemmas.{keeps_none, keeper_after, keeper_first_after}
use Rattle.kept_vectors.proofs.StreamLemmas.{some_of}
use Rattle.kept_vectors.proofs.ListLemmas.{part_of, list_more, list_some}
use Rattle.kept_vectors.proofs.keeper.Keeper.keep_list.Goals as goal
use Rattle.kept_vectors.proofs.keeper.Keeper.keep_list.Goals.{After-min, After-keep_block}

-- ---- facts of the steps

-- the part that is looked at in a round
abbrev part : After-min → List (List Bool)
part c = part_of c.args.vectors.now c.loop-first.first c.min.result

part_widths : (c : After-min) → All (λ v. length v ≡ c.self.inside.scan.good.circuit.sources) (part c)
part_widths c =
    let vectors = c.args.vectors.now in
    let HasWidth : List Bool → Type 0 = λ v. length v ≡ c.self.inside.scan.good.circuit.sources in
    All-take HasWidth _ _ (All-drop HasWidth c.loop-first.first vectors (λ k d below. c.requires k d below ∙ ap (λ (k : Keeper). k.circuit.sources) (sym c.self.view_is)))

-- ---- answers

pub loop-first-init : goal.loop-first-init
loop-first-init c =
    let circuit = c.self.inside.scan.good.circuit in
    record {
      within = omega arith;
      drawn = c.self.invariant.stream;
      circuit = refl;
      scan = c.self.invariant.scan;
      stands = refl;
      keeper = c.self.invariant.keeper;
      keeps = keeps_none circuit (kept_now c.self.inside.kept);
    }

pub invariant_of-self : goal.invariant_of-self
invariant_of-self c = record {
  scan = c.loop-first.invariant.scan;
  keeper = rw c.loop-first.invariant.circuit c.loop-first.invariant.keeper;
  stream = rw c.loop-first.invariant.circuit c.loop-first.invariant.drawn;
  stands = λ is. absurd (false≢true (sym c.loop-first.invariant.stands ∙ is));
}

pub fill-requires-clause-widths : goal.fill-requires-clause-widths
fill-requires-clause-widths c = λ k d below. part_widths ((goal.at.fill-requires-clause-widths c).After-min) k d below ∙ ap (λ (k : Circuit). k.sources) (sym c.loop-first.invariant.circuit) ∙ sym c.loop-first.invariant.scan.block

pub keep_block-requires-clause-scan : goal.keep_block-requires-clause-scan
keep_block-requires-clause-scan c =
    let scan = c.loop-first.invariant.scan in
    record {
      circuit = scan.circuit;
      faults_are = scan.faults_are;
      block = ap (λ (b : Block). b.sources) c.fill.ensures ∙ scan.block;
      differences = scan.differences;
      lanes = scan.lanes;
      rows = scan.rows;
    }

pub keep_block-requires-clause-whole : goal.keep_block-requires-clause-whole
keep_block-requires-clause-whole c = c.loop-first.invariant.keeper.whole

pub keep_block-requires-clause-numbers : goal.keep_block-requires-clause-numbers
keep_block-requires-clause-numbers c = table_numbers c.loop-first.invariant.keeper.table ∙ ap fault_count (sym c.loop-first.invariant.circuit)

pub keep_block-requires-clause-together : goal.keep_block-requires-clause-together
keep_block-requires-clause-together c =
    let so_far = c.loop-first.invariant in
    keeper_together so_far.keeper c.loop-first.self-inside.scan.differences.units.roots.now (subst (λ (k : Circuit). AreRootsOf k c.loop-first.self-inside.scan.differences.units.roots.now) so_far.circuit so_far.scan.differences.roots)

pub invariant_of-self-in_err-keep_block : goal.invariant_of-self-in_err-keep_block
invariant_of-self-in_err-keep_block c =
    let so_far = c.loop-first.invariant in
    let keeper =
    keeper_first_after c.self.inside.scan.good.circuit (part_of c.args.vectors.now c.loop-first.first c.min.result) (kept_now c.loop-first.self-inside.kept) (kept_now c.keep_block.new.kept) so_far.keeper
    (part_widths ((goal.at.invariant_of-self-in_err-keep_block c).After-min)) (some_of (ap (λ (b : Block). b.vectors) c.fill.ensures) so_far.circuit c.in_err-keep_block.ensures.err) in
    record {
      scan = c.in_err-keep_block.ensures.scan;
      keeper = rw (c.in_err-keep_block.ensures.circuit, so_far.circuit) keeper;
      stream = rw (c.in_err-keep_block.ensures.circuit, so_far.circuit) so_far.drawn;
      stands = λ is. absurd (false≢true (sym c.loop-first.invariant.stands ∙ is));
    }

pub returns-in_err-keep_block-clause-circuit : goal.returns-in_err-keep_block-clause-circuit
returns-in_err-keep_block-clause-circuit c = c.in_err-keep_block.ensures.circuit ∙ c.loop-first.invariant.circuit ∙ ap (λ (k : Keeper). k.circuit) c.self.view_is

pub returns-in_err-keep_block-clause-err : goal.returns-in_err-keep_block-clause-err
returns-in_err-keep_block-clause-err c =
    let p = err_from_is_err_and c.from_residual.result c.from_residual.ensures.1 in
    let so_far = c.loop-first.invariant in
    let new = kept_now c.keep_block.new.kept in
    let some = list_some c.args.vectors.now c.loop-first.first c.min.result so_far.keeps (some_of (ap (λ (b : Block). b.vectors) c.fill.ensures) so_far.circuit c.in_err-keep_block.ensures.err) in
    rw p.1 (subst (λ (k : Keeper). KeepsFirst k.circuit c.args.vectors.now k.kept new) c.self.view_is some)

pub loop-first-preserved : goal.loop-first-preserved
loop-first-preserved c =
    let circuit = c.self.inside.scan.good.circuit in
    let so_far = c.loop-first.invariant in
    let vectors = c.args.vectors.now in
    let old = kept_now c.loop-first.self-inside.kept in
    let new = kept_now c.keep_block.new.kept in
    let keeps : Keeps circuit (part_of vectors c.loop-first.first c.min.result) old new =
    subst (λ (vs : List (List Bool)). Keeps circuit vs old new) (ap (λ (b : Block). b.vectors) c.fill.ensures) (subst (λ (k : Circuit). Keeps k c.fill.new.block.vectors old new) so_far.circuit c.in_ok-keep_block.ensures.ok) in
    record {
      within = omega (arith, c.min.ensures);
      drawn = so_far.drawn;
      circuit = c.in_ok-keep_block.ensures.circuit ∙ so_far.circuit;
      scan = c.in_ok-keep_block.ensures.scan;
      stands = so_far.stands;
      keeper = keeper_after circuit (part_of vectors c.loop-first.first c.min.result) old new so_far.keeper (part_widths ((goal.at.loop-first-preserved c).After-min)) keeps;
      keeps = list_more vectors c.loop-first.first c.min.result so_far.keeps keeps;
    }

pub returns-clause-circuit : goal.returns-clause-circuit
returns-clause-circuit c = c.loop-first.invariant.circuit ∙ ap (λ (k : Keeper). k.circuit) c.self.view_is

pub returns-clause-ok : goal.returns-clause-ok
returns-clause-ok c =
    let all = take_all c.loop-first.first c.args.vectors.now c.loop-first-test.false in
    let new = kept_now c.loop-first.self-inside.kept in
    subst (λ (k : Keeper). Keeps k.circuit c.args.vectors.now k.kept new) c.self.view_is
    (subst (λ (vs : List (List Bool)). Keeps c.self.inside.scan.good.circuit vs (kept_now c.self.inside.kept) new) all c.loop-first.invariant.keeps)
