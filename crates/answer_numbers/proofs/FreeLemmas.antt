-- Answers by where they differ from the fault-free one.
use Rattle.std.proofs.Common.{All, ◌≡◌, ◌≢◌, ◌∙◌, ℕ, zero, suc, ◌<◌, ◌≤◌, Bool, true, false, not, cond, eqb, ltb, ◌||◌, ◌&&◌, List, [], ◌∷◌, length, get_or, set, refl, sym, ap, arith, inl, inr, IsTrue, ◌↔◌}
use Rattle.std.specs.List.{list_any}
use Rattle.std.proofs.lemmas.Bool.{cases_lt, cases_eq, false≢true, true≢false, eq-eqb, ne_eqb, lt-ltb, le-ltb}
use Rattle.std.proofs.lemmas.Bool.Decides.{same_from_decides}
use Rattle.std.proofs.lemmas.List.{length-set, get_or-set_same, get_or-set_other}
use Rattle.std.proofs.lemmas.List.Elements.{All-nil, All-cons, All-weaker}
use Rattle.net_model.specs.declared.fault.Fault.{Fault}
use Rattle.net_model.specs.declared.fault.Fault.TheVariants.{Free}
use Rattle.net_model.specs.Circuit.{Circuit, IsCircuit}
use Rattle.net_model.specs.Fault.{stuck_position}
use Rattle.net_model.specs.Answer.{bit_at, shown_bits, Agrees, IsAnswer}
use Rattle.net_model.proofs.Copies.{same_bits_same_list}
use Rattle.net_model.proofs.Evaluation.{Agrees-exists}
use Rattle.net_model.proofs.Seen.{length-seen_bits}
use Rattle.fault_heads.proofs.SeenPins.{seen_at}
use Rattle.answer_numbers.specs.Growing.{passing_below}
use Rattle.answer_numbers.specs.Trees.{turned}

-- ---- answers

pub answer_exists : (c : Circuit) → IsCircuit c → (f : Fault) (v : List Bool) → (answer : List Bool) × IsAnswer c f v answer
answer_exists c is f v =
    let made = Agrees-exists c f v is in
    (shown_bits c f made.0, record { bits = made.0; agrees = made.1; shows = refl })

pub length-answer : {c : Circuit} {f : Fault} {v answer : List Bool} → IsAnswer c f v answer → length answer ≡ length c.positions
length-answer {c} {f} {v} {answer} is = ap length is.shows ∙ length-seen_bits (stuck_position f) is.bits c.positions

-- the fault-free answer, by the bits of the lines that the positions show
pub free_is : (c : Circuit) → IsCircuit c → (v answer : List Bool) → length answer ≡ length c.positions
    → ((k : ℕ) (bits : List Bool) → k < length c.positions → Agrees c Free v bits → bit_at answer k ≡ bit_at bits (get_or c.positions k 0)) → IsAnswer c Free v answer
free_is c is v answer long each =
    let made = Agrees-exists c Free v is in
    record {
      bits = made.0;
      agrees = made.1;
      shows = same_bits_same_list answer (shown_bits c Free made.0) (long ∙ sym (length-seen_bits (stuck_position Free) made.0 c.positions)) (λ k h.
          let low : k < length c.positions = omega (arith, h, long) in
          each k made.0 low made.1 ∙ sym (seen_at (stuck_position Free) made.0 c.positions k low));
    }

-- two answers with the same bits are the same
pub same_answers : {c : Circuit} {f g : Fault} {v answer other : List Bool} → IsAnswer c f v answer → IsAnswer c g v other
    → ((position : ℕ) → position < length c.positions → bit_at answer position ≡ bit_at other position) → answer ≡ other
same_answers {c} {f} {g} {v} {answer} {other} a b same =
    let long : length answer ≡ length c.positions = length-answer a in
    same_bits_same_list answer other (long ∙ sym (length-answer b)) (λ position h. same position (omega (arith, h, long)))

-- ---- bits that say where others differ

-- a bit by whether it differs from another
pub bit_by : (turn bit free : Bool) → IsTrue turn ↔ (bit ≢ free) → bit ≡ cond turn (not free) free
bit_by true true true h = absurd (h.0 refl refl)
bit_by true true false h = refl
bit_by true false true h = refl
bit_by true false false h = absurd (h.0 refl refl)
bit_by false true true h = refl
bit_by false true false h = absurd (false≢true (h.1 true≢false))
bit_by false false true h = absurd (false≢true (h.1 false≢true))
bit_by false false false h = refl

-- two bits that say whether the same bits differ are the same
pub turn_by : (turn other bit free : Bool) → IsTrue turn ↔ (bit ≢ free) → IsTrue other ↔ (bit ≢ free) → turn ≡ other
turn_by turn other bit free h k = same_from_decides turn other h k

-- ---- the numbers that pass a test

-- whether a number is in a list
abbrev pub is_on : ℕ → List ℕ → Bool
is_on k xs = list_any (λ x. eqb x k) xs

-- one number more matters to that number alone
limit_more : (k n : ℕ) → k ≢ n → ltb k n ≡ ltb k (suc n)
limit_more k n ne = elim (cases_lt k n) [
  | inl low ↦ lt-ltb k n low ∙ sym (lt-ltb k (suc n) (omega (arith, low)))
  | inr high ↦ le-ltb k n high ∙ sym (le-ltb k (suc n) (omega (arith, ne, high)))
]

test_past : (test : ℕ → Bool) (n k : ℕ) → k ≡ n → (ltb k n && test k) ≡ false
test_past test n k e = ap (λ b. b && test k) (le-ltb k n (omega (arith, e)))

test_last : (test : ℕ → Bool) (n k : ℕ) → k ≡ n → (ltb k (suc n) && test k) ≡ test n
test_last test n k e = ap (λ b. b && test k) (lt-ltb k (suc n) (omega (arith, e))) ∙ ap test e

on_more : (test : ℕ → Bool) (k n : ℕ) (b : Bool) → test n ≡ b → is_on k (passing_below test n) ≡ (ltb k n && test k) → is_on k (cond b (n ∷ passing_below test n) (passing_below test n)) ≡ (ltb k (suc n) && test k)
on_more test k n true e so_far = elim (cases_eq k n) [
  | inl same ↦ ap (λ b. b || is_on k (passing_below test n)) (eq-eqb n k (sym same)) ∙ sym (test_last test n k same ∙ e)
  | inr ne ↦
      let apart : n ≢ k = λ e. ne (sym e) in
      ap (λ b. b || is_on k (passing_below test n)) (ne_eqb n k apart) ∙ (so_far ∙ ap (λ b. b && test k) (limit_more k n ne))
]
on_more test k n false e so_far = elim (cases_eq k n) [
  | inl same ↦ so_far ∙ (test_past test n k same ∙ sym (test_last test n k same ∙ e))
  | inr ne ↦ so_far ∙ ap (λ b. b && test k) (limit_more k n ne)
]

pub on_passing : (test : ℕ → Bool) (k n : ℕ) → is_on k (passing_below test n) ≡ (ltb k n && test k)
on_passing test k zero = sym (ap (λ b. b && test k) (le-ltb k 0 (omega arith)))
on_passing test k (suc n) = on_more test k n (test n) refl (on_passing test k n)

-- the numbers are the same exactly if the tests are
pub passing-same : (test other : ℕ → Bool) (n : ℕ) → ((k : ℕ) → k < n → test k ≡ other k) → passing_below test n ≡ passing_below other n
passing-same test other zero same = refl
passing-same test other (suc n) same =
    let here : test n ≡ other n = same n (omega arith) in
    let rest : passing_below test n ≡ passing_below other n = passing-same test other n (λ k h. same k (omega (arith, h))) in
    λ i. cond (here i) (n ∷ rest i) (rest i)

pub same_tests : (test other : ℕ → Bool) (n : ℕ) → passing_below test n ≡ passing_below other n → (k : ℕ) → k < n → test k ≡ other k
same_tests test other n same k h =
    let here : ltb k n ≡ true = lt-ltb k n h in
    ap (λ b. b && test k) (sym here) ∙ (sym (on_passing test k n) ∙ (ap (is_on k) same ∙ (on_passing other k n ∙ ap (λ b. b && other k) here)))

-- each is below the limit
low_more : (n : ℕ) (xs : List ℕ) (b : Bool) → All (λ x. x < n) xs → All (λ x. x < suc n) (cond b (n ∷ xs) xs)
low_more n xs true low = All-cons (λ x. x < suc n) n xs (omega arith) (All-weaker (λ x. x < n) (λ x. x < suc n) (λ x h. omega (arith, h)) xs low)
low_more n xs false low = All-weaker (λ x. x < n) (λ x. x < suc n) (λ x h. omega (arith, h)) xs low

pub passing_low : (test : ℕ → Bool) (n : ℕ) → All (λ x. x < n) (passing_below test n)
passing_low test zero = All-nil (λ x. x < 0)
passing_low test (suc n) = low_more n (passing_below test n) (test n) (passing_low test n)

-- ---- bits turned at the numbers that pass

pub length-turned : (xs : List ℕ) (bits : List Bool) → length (turned xs bits) ≡ length bits
length-turned [] bits = refl
length-turned (x ∷ xs) bits = length-turned xs (set bits x (not (bit_at bits x))) ∙ length-set bits x (not (bit_at bits x))

-- the bit at a number, turned if the test says so
abbrev turned_bit : Bool → List Bool → ℕ → Bool
turned_bit turn bits k = cond turn (not (bit_at bits k)) (bit_at bits k)

turn_more : (test : ℕ → Bool) (n k : ℕ) (b : Bool) (bits : List Bool) → test n ≡ b → n < length bits
    → ((more : List Bool) → n ≤ length more → bit_at (turned (passing_below test n) more) k ≡ turned_bit (ltb k n && test k) more k)
    → bit_at (turned (cond b (n ∷ passing_below test n) (passing_below test n)) bits) k ≡ turned_bit (ltb k (suc n) && test k) bits k
turn_more test n k true bits e h so_far =
    let more = set bits n (not (bit_at bits n)) in
    let rest : bit_at (turned (passing_below test n) more) k ≡ turned_bit (ltb k n && test k) more k = so_far more (omega (arith, h, length-set bits n (not (bit_at bits n)))) in
    rest ∙ elim (cases_eq k n) [
      | inl same ↦
          ap (λ t. turned_bit t more k) (test_past test n k same)
          ∙ (ap (bit_at more) same ∙ (get_or-set_same bits n (not (bit_at bits n)) false h ∙ (ap (λ j. not (bit_at bits j)) (sym same) ∙ sym (ap (λ t. turned_bit t bits k) (test_last test n k same ∙ e)))))
      | inr ne ↦
          let kept : bit_at more k ≡ bit_at bits k = get_or-set_other bits n k (not (bit_at bits n)) false ne in
          λ i. cond (limit_more k n ne i && test k) (not (kept i)) (kept i)
    ]
turn_more test n k false bits e h so_far =
    let rest : bit_at (turned (passing_below test n) bits) k ≡ turned_bit (ltb k n && test k) bits k = so_far bits (omega (arith, h)) in
    rest ∙ elim (cases_eq k n) [
      | inl same ↦ ap (λ t. turned_bit t bits k) (test_past test n k same) ∙ sym (ap (λ t. turned_bit t bits k) (test_last test n k same ∙ e))
      | inr ne ↦ ap (λ t. turned_bit (t && test k) bits k) (limit_more k n ne)
    ]

-- if the numbers are below the length
pub turned_at : (test : ℕ → Bool) (n k : ℕ) (bits : List Bool) → n ≤ length bits → bit_at (turned (passing_below test n) bits) k ≡ turned_bit (ltb k n && test k) bits k
turned_at test zero k bits h = sym (ap (λ b. turned_bit (b && test k) bits k) (le-ltb k 0 (omega arith)))
turned_at test (suc n) k bits h = turn_more test n k (test n) bits refl (omega (arith, h)) (λ more l. turned_at test n k more l)
