use Rattle.std.proofs.Common.{◌≡◌, ◌∙◌, ◌-◌, ◌≤◌, ◌<◌, sym, ap, arith, leb, ltb}
use Rattle.std.proofs.lemmas.Bool.{and_parts, and_from, leb-true, ltb-true, le-leb, lt-ltb}
use Rattle.sim_listing.specs.VectorTexts.{VectorTexts}
use Rattle.sim_listing.proofs.vector_texts.VectorTexts.has.Goals as goal

pub returns : goal.returns
returns c =
    let a = c.self.inside in
    let number = c.args.number in
    let first : a.first ≡ c.args.self.now.first = ap (λ (t : VectorTexts). t.first) c.self.view_is in
    let count : a.count ≡ c.args.self.now.count = ap (λ (t : VectorTexts). t.count) c.self.view_is in (
      λ yes.
          let both = and_parts (leb a.first number) (ltb (number - a.first) a.count) (sym c.is_among.ensures ∙ yes) in
          let low : a.first ≤ number = leb-true a.first number both.0 in
          let high : number - a.first < a.count = ltb-true (number - a.first) a.count both.1 in
          record { from = omega (arith, low, first); below = omega (arith, low, high, first, count) },
      λ has.
          let low : a.first ≤ number = omega (arith, has.from, first) in
          let high : number - a.first < a.count = omega (arith, has.below, first, count, low) in
          c.is_among.ensures ∙ and_from (leb a.first number) (ltb (number - a.first) a.count) (le-leb a.first number low) (lt-ltb (number - a.first) a.count high),
    )
