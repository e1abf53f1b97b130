use Rattle.std.proofs.Common.{◌≡◌, ◌∙◌, ◌+◌, ◌-◌, ℕ, Bool, List, Some, None, length, take, drop, sym, ap, subst, arith, All}
use Rattle.answer_numbers.specs.AnswerNumbers.{AnswerNumbers, answer_numbers_with, numbered_vectors}
use Rattle.table_dicts.proofs.BlockLemmas.{block_length}
use Rattle.sim_listing.specs.LaneAnswers.{AreEqualRoots}
use Rattle.sim_listing.specs.VectorTexts.{VectorTexts}
use Rattle.sim_listing.proofs.vector_texts.VectorTexts.simulate.Goals as goal

pub fill_from-count-requires : goal.fill_from-count-requires
fill_from-count-requires c =
    let a = c.self.inside in
    record {
      widths = subst (λ (s : ℕ). All (λ (v : List Bool). length v ≡ s) a.vectors.now) (sym c.self.invariant.sources) c.self.invariant.widths;
      first = omega (arith, c.requires, ap (λ (t : VectorTexts). length t.vectors) c.self.view_is);
    }

pub number_block-requires : goal.number_block-requires
number_block-requires c = c.fill_from-count.ensures.sources ∙ c.self.invariant.sources

pub invariant_of-self-2 : goal.invariant_of-self-2
invariant_of-self-2 c =
    let a = c.self.inside in
    let number = c.args.number in
    let count = c.fill_from-count.result in
    let vs = c.fill_from-count.new.block.vectors in
    let made : c.number_block.new.self ≡ answer_numbers_with a.numbers.circuit a.numbers.leads (Some vs) = c.in_ok-number_block.ensures.ok in
    let long = block_length a.vectors.now number (number + count) (omega arith) c.fill_from-count.ensures.within in
    record {
      roots = subst (λ (n : AnswerNumbers). AreEqualRoots n.circuit n.leads a.places.now) (sym made) c.self.invariant.roots;
      widths = subst (λ (n : AnswerNumbers). All (λ (v : List Bool). length v ≡ n.circuit.sources) a.vectors.now) (sym made) c.self.invariant.widths;
      sources = c.fill_from-count.ensures.sources ∙ (c.self.invariant.sources ∙ ap (λ (n : AnswerNumbers). n.circuit.sources) (sym made));
      within = c.fill_from-count.ensures.within;
      long = omega (arith, long, ap (λ (n : AnswerNumbers). length (numbered_vectors n)) made, ap length c.fill_from-count.ensures.vectors);
      numbered = ap (λ (n : AnswerNumbers). numbered_vectors n) made ∙ c.fill_from-count.ensures.vectors;
    }

pub invariant_of-self : goal.invariant_of-self
invariant_of-self c =
    let a = c.self.inside in
    let number = c.args.number in
    let made : c.number_block.new.self ≡ answer_numbers_with a.numbers.circuit a.numbers.leads None = c.in_err-number_block.ensures.err in
    let none : 0 ≡ (number + 0) - number = omega arith in
    record {
      roots = subst (λ (n : AnswerNumbers). AreEqualRoots n.circuit n.leads a.places.now) (sym made) c.self.invariant.roots;
      widths = subst (λ (n : AnswerNumbers). All (λ (v : List Bool). length v ≡ n.circuit.sources) a.vectors.now) (sym made) c.self.invariant.widths;
      sources = c.fill_from-count.ensures.sources ∙ (c.self.invariant.sources ∙ ap (λ (n : AnswerNumbers). n.circuit.sources) (sym made));
      within = omega (arith, c.fill_from-count.ensures.within);
      long = ap (λ (n : AnswerNumbers). length (numbered_vectors n)) made;
      numbered = ap (λ (n : AnswerNumbers). numbered_vectors n) made ∙ ap (λ (k : ℕ). take k (drop number a.vectors.now)) none;
    }
