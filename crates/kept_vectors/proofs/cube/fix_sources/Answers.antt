use Rattle.std.proofs.Common.{◌≡◌, ◌∙◌, ◌<◌, [], length, sym, ap, arith, inl, inr}
use Rattle.std.proofs.lemmas.Bool.{cases_Bool}
use Rattle.std.proofs.lemmas.List.Elements.{All-from_get_or}
use Rattle.net_model.specs.Answer.{bit_at}
use Rattle.kept_vectors.proofs.cube.fix_sources.Goals as goal

pub returns-clause-block : goal.returns-clause-block
returns-clause-block c =
    let old = c.sources-source-end.ensures.block in
    let so_far = c.loop-source.invariant in
    record {
      few = omega (arith, old.few, so_far.count);
      widths = All-from_get_or (λ v. length v ≡ c.loop-source.block.sources) c.loop-source.block.vectors [] (λ lane below.
          let inside : lane < length c.args.block.now.vectors = omega (arith, below, so_far.count) in
          elim (cases_Bool (bit_at c.args.lanes lane)) [
            | inl one ↦ (so_far.fixed lane inside one).width ∙ c.requires ∙ sym so_far.sources
            | inr zero ↦ ap length (so_far.others lane inside zero) ∙ old.widths lane [] inside ∙ sym so_far.sources
          ]);
    }
