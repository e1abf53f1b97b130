use Rattle.std.proofs.Common.{◌∙◌, ◌∷◌, [], ◌++◌, length, sym, ap, arith}
use Rattle.std.proofs.lemmas.List.FromFn.{length-range_with_len}
use Rattle.net_model.proofs.Ranges.{range_more}
use Rattle.pair_scope.proofs.places.ordered_lines.Goals as goal

pub push_reserved-requires : goal.push_reserved-requires
push_reserved-requires c =
    omega (
      arith,
      ap length c.loop-source.invariant.lines,
      length-range_with_len 0 c.loop-source.source,
      c.loop-source.invariant.room,
      c.loop-source-test.true,
      c.loop-source.lines.ok.0,
    )

pub loop-source-preserved : goal.loop-source-preserved
loop-source-preserved c = record {
  lines = c.push_reserved.ensures.items ∙ ap (λ xs. xs ++ c.loop-source.source ∷ []) c.loop-source.invariant.lines ∙ sym (range_more c.loop-source.source);
  room = omega (arith, c.loop-source.invariant.room, c.push_reserved.ensures.capacity);
}
