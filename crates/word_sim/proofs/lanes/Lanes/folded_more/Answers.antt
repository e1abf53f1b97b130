use Rattle.std.proofs.Common.{◌≡◌, ℕ, ◌+◌, ◌%◌, List, [], ◌∷◌, ◌++◌, refl, sym, ap, arith, ◌∙◌}
use Rattle.std.specs.Prelude.{Bool, true, false, not, count_by, ◌==◌, if◌then◌else◌}
use Rattle.std.proofs.lemmas.Bool.Decides.{nat_tests}
use Rattle.std.proofs.lemmas.List.Sums.{sum_by-append}
use Rattle.net_model.specs.Gate.{odd_ones, folded_bit}
use Rattle.net_model.specs.Answer.{bit_at}
use Rattle.word_sim.proofs.lanes.Lanes.folded_more.Goals as goal

odd_one : (n : ℕ) → ((n + 1) % 2 == 1) ≡ (if n % 2 == 1 then false else true)
odd_one n = grind (arith, nat_tests)

same_odd : (odd : Bool) → odd ≡ (if odd then true else false)
same_odd true = refl
same_odd false = refl

odd_more : (bits : List Bool) (bit : Bool) → odd_ones (bits ++ bit ∷ []) ≡ (if odd_ones bits then not bit else bit)
odd_more bits true = ap (λ n. n % 2 == 1) (sum_by-append (λ b. if b then 1 else 0) bits (true ∷ [])) ∙ odd_one (count_by (λ b. b) bits)
odd_more bits false =
    let none : count_by (λ b. b) bits + 0 ≡ count_by (λ b. b) bits = omega arith in
    ap (λ n. n % 2 == 1) (sum_by-append (λ b. if b then 1 else 0) bits (false ∷ []) ∙ none) ∙ same_odd (odd_ones bits)

pub returns-in-OddOf : goal.returns-in-OddOf
returns-in-OddOf c = λ lane bits h e.
    let other = bit_at c.args.other lane in
    c.xor.ensures lane h ∙ ap (λ s. if s then not other else other) (e ∙ ap (λ fold. folded_bit fold bits) c.in-OddOf.is) ∙ sym (odd_more bits other)
    ∙ sym (ap (λ fold. folded_bit fold (bits ++ other ∷ [])) c.in-OddOf.is)
