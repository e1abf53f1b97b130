use Rattle.std.proofs.Common.{◌≡◌, ◌∙◌, ◌+◌, ◌++◌, ℕ, List, sym, ap, subst, arith}
use Rattle.std.specs.Prelude.{slice_range}
use Rattle.std.specs.String.{string_bytes}
use Rattle.net_model.specs.PatternRows.{IsAnswerRow}
use Rattle.answer_numbers.specs.AnswerNumbers.{vector_in}
use Rattle.sim_listing.specs.SimText.{vector_text, IsSimTextFrom}
use Rattle.sim_listing.specs.VectorTexts.{VectorTexts}
use Rattle.sim_listing.proofs.SimulatedLemmas.{lane_known, lane_is}
use Rattle.sim_listing.proofs.vector_texts.VectorTexts.lane_text.Goals as goal

pub lane_of-requires : goal.lane_of-requires
lane_of-requires c = record {
  from = omega (arith, c.requires.from, ap (λ (t : VectorTexts). t.first) c.self.view_is);
  below = omega (arith, c.requires.below, ap (λ (t : VectorTexts). t.first) c.self.view_is, ap (λ (t : VectorTexts). t.count) c.self.view_is);
}

pub push_vector-requires : goal.push_vector-requires
push_vector-requires c =
    let a = c.self.inside in
    record {
      equal = lane_known a.numbers a.places.now a.vectors.now a.first (a.first + a.count) c.self.invariant.roots c.self.invariant.widths c.self.invariant.numbered;
      lane = omega (arith, c.lane_of.ensures, c.self.invariant.long, c.requires.from, c.requires.below, ap (λ (t : VectorTexts). t.first) c.self.view_is, ap (λ (t : VectorTexts). t.count) c.self.view_is);
    }

pub returns : goal.returns
returns c =
    let a = c.self.inside in
    let number = c.args.number in
    let text = string_bytes c.push_vector.new.text in
    let first : a.first ≡ c.args.self.now.first = ap (λ (t : VectorTexts). t.first) c.self.view_is in
    let count : a.count ≡ c.args.self.now.count = ap (λ (t : VectorTexts). t.count) c.self.view_is in
    subst (λ (t : VectorTexts). IsSimTextFrom t.circuit number (slice_range t.vectors number (number + 1)) text) c.self.view_is
    (lane_is a.numbers a.vectors.now a.first a.count number text c.self.invariant.roots.circuit c.self.invariant.numbered c.self.invariant.within (omega (arith, c.requires.from, first)) (omega (arith, c.requires.below, first, count))
    (λ row is. c.in_ok-push_vector.ensures row (subst (λ (lane : ℕ). IsAnswerRow a.numbers.circuit (vector_in a.numbers lane) row) (sym c.lane_of.ensures) is) ∙ ap (λ (bytes : List ℕ). bytes ++ vector_text row number) c.new-text.ensures.bytes))
