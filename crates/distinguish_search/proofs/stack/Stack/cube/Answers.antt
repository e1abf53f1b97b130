use Rattle.std.proofs.Common.{◌≡◌, ◌∙◌, ◌≤◌, ℕ, List, length, length-set, get_or, sym, ap, arith, subst}
use Rattle.std.specs.Prelude.{Bool, Option, None, Some, replicate, reverse}
use Rattle.std.proofs.lemmas.List.{take_all, length-replicate}
use Rattle.net_model.proofs.Elements.{get_or-replicate_anywhere}
use Rattle.pair_sets.specs.Cube.{fixed_bit, FixesOnce}
use Rattle.distinguish_search.specs.declared.frames.Frame.{Frame}
use Rattle.distinguish_search.specs.Frames.{tried_cube}
use Rattle.distinguish_search.proofs.FrameLemmas.{source_within, bits_more}
use Rattle.distinguish_search.proofs.stack.Stack.cube.Goals as goal

once_of_items : (sources : ℕ) (items own frames : List Frame) → items ≡ own → reverse own ≡ frames → FixesOnce sources (tried_cube frames) → FixesOnce sources (tried_cube (reverse items))
once_of_items sources items own frames e d once = subst (λ xs. FixesOnce sources (tried_cube xs)) (sym (ap reverse e ∙ d)) once

pub loop-frame-init : goal.loop-frame-init
loop-frame-init c =
    let none : Option Bool = None in
    let made : c.in_ok-cube.cube.items ≡ replicate c.args.sources none = c.in_ok-cube.ensures in (
      ap length made ∙ length-replicate c.args.sources none,
      λ source. (λ i. get_or (made i) source none) ∙ get_or-replicate_anywhere c.args.sources source none,
    )

pub index_mut-requires : goal.index_mut-requires
index_mut-requires c =
    let once = once_of_items c.args.sources c.deref-frame-items.result.now c.self.inside.frames.items c.args.self.now c.deref-frame-items.ensures.value c.self.view_is c.requires in
    omega (arith, source_within c.deref-frame-items.result.now c.loop-frame.frame-index c.frame-item.result c.loop-frame-test.true c.frame-item.is c.args.sources once, c.loop-frame.invariant.0)

pub loop-frame-preserved : goal.loop-frame-preserved
loop-frame-preserved c =
    let frame = c.frame-item.result in
    let bits = c.loop-frame.cube.items in
    let once = once_of_items c.args.sources c.deref-frame-items.result.now c.self.inside.frames.items c.args.self.now c.deref-frame-items.ensures.value c.self.view_is c.requires in (
      length-set bits frame.source (Some frame.bit) ∙ c.loop-frame.invariant.0,
      bits_more c.deref-frame-items.result.now c.loop-frame.frame-index frame c.loop-frame-test.true c.frame-item.is c.args.sources bits once c.loop-frame.invariant.0 c.loop-frame.invariant.1,
    )

pub returns-clause-bits : goal.returns-clause-bits
returns-clause-bits c source =
    let items = c.deref-frame-items.result.now in
    let all : length items ≤ c.loop-frame.frame-index = c.loop-frame-test.false in
    c.loop-frame.invariant.1 source ∙ ap (λ xs. fixed_bit (tried_cube xs) source) (ap reverse (take_all c.loop-frame.frame-index items all ∙ c.deref-frame-items.ensures.value) ∙ c.self.view_is)
