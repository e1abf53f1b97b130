use Rattle.std.proofs.Common.{◌≡◌, ◌<◌, [], false, length, ap, arith, ◌∙◌, sym, inl, inr}
use Rattle.std.proofs.lemmas.Bool.{cases_eq}
use Rattle.std.proofs.lemmas.List.{get_or-set_same, get_or-set_other, get_or_read, length-replicate, length-set}
use Rattle.net_model.specs.Answer.{bit_at}
use Rattle.word_sim.specs.Block.{Block}
use Rattle.word_sim.proofs.Columns.{length-columns, columns_at, column_is}
use Rattle.word_sim.proofs.block.Block.vector.Goals as goal

pub get-requires : goal.get-requires
get-requires c =
    omega (arith, c.requires, c.self.invariant.few, length-columns c.self.inside.rows.items c.self.inside.live, ap (λ (b : Block). length b.vectors) c.self.view_is)

pub returns-clause-value : goal.returns-clause-value
returns-clause-value c =
    let rows = c.self.inside.rows.items in
    let live = c.self.inside.live in
    let within : c.args.lane < live = omega (arith, c.requires, length-columns rows live, ap (λ (b : Block). length b.vectors) c.self.view_is) in
    let wide : length c.loop-source.v ≡ length rows = c.loop-source.invariant.wide in
    rw (← c.self.view_is)
    (sym (column_is rows c.args.lane c.loop-source.v wide (λ k h. sym (c.loop-source.invariant.set k (omega (arith, c.self.inside.rows.ok.0)))))
    ∙ sym (columns_at rows live c.args.lane [] within))

pub loop-source-init : goal.loop-source-init
loop-source-init c = record {
  wide = omega (arith, ap length c.in_ok-v.ensures, length-replicate c.len.result false, c.len.ensures, c.self.inside.rows.ok.0);
  set = λ k low. absurd (omega (arith, low));
}

pub set-requires : goal.set-requires
set-requires c = omega (arith, c.loop-source-test.true, c.len-source-end.ensures, c.self.inside.rows.ok.0, c.loop-source.invariant.wide)

pub loop-source-preserved : goal.loop-source-preserved
loop-source-preserved c =
    let rows = c.self.inside.rows.items in
    let source = c.loop-source.source in
    let v = c.loop-source.v in
    let inside : source < length rows = omega (arith, c.loop-source-test.true, c.len-source-end.ensures, c.self.inside.rows.ok.0) in
    let here = get_or-set_same v source c.get.result false (omega (arith, inside, c.loop-source.invariant.wide)) ∙ c.get.ensures.value
    ∙ ap (λ row. bit_at row c.args.lane) (get_or_read rows source c.index.result.now inside c.index.ensures []) in
    record {
      wide = ap length c.set.ensures ∙ length-set v source c.get.result ∙ c.loop-source.invariant.wide;
      set = λ k low. ap (λ xs. bit_at xs k) c.set.ensures ∙ elim (cases_eq k source) [
        | inl same ↦ rw same here
        | inr ne ↦ get_or-set_other v source k c.get.result false ne ∙ c.loop-source.invariant.set k (omega (arith, low, ne))
      ];
    }

pub returns-clause-width : goal.returns-clause-width
returns-clause-width c = c.loop-source.invariant.wide ∙ ap (λ (b : Block). b.sources) c.self.view_is
