-- Three numbers that leave a class of five, and what they answer.
use Rattle.std.proofs.Common.{◌≡◌, ◌≢◌, ◌<◌, ◌≤◌, ◌↔◌, ℕ, zero, suc, Bool, true, false, List, [], ◌∷◌, map, refl, arith, inr, All, AllPairs, Contains}
use Rattle.std.proofs.lemmas.List.Elements.{All-cons, All-nil}
use Rattle.std.proofs.lemmas.List.Kept.{AllPairs-cons}
use Rattle.net_model.specs.ClassTable.{ClassTable, first_table, class_at, representative, answer_at}
use Rattle.class_refine.specs.declared.leaver.Leaver.{Leaver}
use Rattle.class_refine.specs.Laws.{ComesBefore}
use Rattle.class_refine.specs.Leavers.{told, LeavesClass, AreLeavers}

abbrev leaver_of : ℕ → ℕ → ℕ → Leaver
leaver_of number start end = record { number = number; start = start; end = end }

abbrev first : Leaver
first = leaver_of 1 0 1

abbrev second : Leaver
second = leaver_of 2 1 1

abbrev third : Leaver
third = leaver_of 3 1 2

abbrev pub three : List Leaver
three = first ∷ second ∷ third ∷ []

-- the answers of the five: number 4 answers as number 0, and number 3 as number 1
abbrev pub answers : List (List Bool)
answers = (false ∷ []) ∷ (true ∷ []) ∷ [] ∷ (true ∷ []) ∷ (false ∷ []) ∷ []

abbrev t : ClassTable
t = first_table 5

abbrev positions : List ℕ
positions = 7 ∷ 7 ∷ []

lead : representative t 0 ≡ 0
unfolding representative
lead = refl

leaves : (n : ℕ) → n < 5 → class_at t n ≡ 0 → answer_at t answers n ≢ false ∷ [] → LeavesClass t answers n
leaves n below class other = record { below = below; differs = rw (class, lead) other }

stays : (n : ℕ) → class_at t n ≡ 0 → answer_at t answers n ≡ false ∷ [] → LeavesClass t answers n → ⊥
stays n class same leaves = (rw (class, lead) at leaves.differs) same

abbrev Each : (Leaver → Type 0) → Type 0
Each P = P first × P second × P third

each : (P : Leaver → Type 0) → Each P → All P three
each P (a, b, c) = All-cons P first (second ∷ third ∷ []) a (All-cons P second (third ∷ []) b (All-cons P third [] c (All-nil P)))

pairs : (R : Leaver → Leaver → Type 0) → R first second → R first third → R second third → AllPairs R three
pairs R a b c =
    AllPairs-cons R first (second ∷ third ∷ []) (All-cons (R first) second (third ∷ []) a (All-cons (R first) third [] b (All-nil (R first))))
    (AllPairs-cons R second (third ∷ []) (All-cons (R second) third [] c (All-nil (R second))) (AllPairs-cons R third [] (All-nil (R third)) (λ i j d l h. absurd (omega (arith, l, h)))))

all_leave : (n : ℕ) → LeavesClass t answers n → Contains (map (λ (leaver : Leaver). leaver.number) three) n
all_leave zero l = absurd (stays 0 refl refl l)
all_leave (suc zero) l = (0, omega arith, refl)
all_leave (suc (suc zero)) l = (1, omega arith, refl)
all_leave (suc (suc (suc zero))) l = (2, omega arith, refl)
all_leave (suc (suc (suc (suc zero)))) l = absurd (stays 4 refl refl l)
all_leave (suc (suc (suc (suc (suc n))))) l = let below = l.below in absurd (omega (arith, below))

pub three_leave : AreLeavers t answers three positions
three_leave = record {
  parts = each (λ leaver. (leaver.start ≤ leaver.end) × (leaver.end ≤ 2)) ((omega arith, omega arith), (omega arith, omega arith), (omega arith, omega arith));
  ordered = pairs (λ a b. ComesBefore t a.number b.number) (inr (refl, omega arith)) (inr (refl, omega arith)) (inr (refl, omega arith));
  only = each (λ leaver. LeavesClass t answers leaver.number) (leaves 1 (omega arith) refl (λ e. cc), leaves 2 (omega arith) refl (λ e. cc), leaves 3 (omega arith) refl (λ e. cc));
  all = all_leave;
  alike = pairs (λ a b. class_at t a.number ≡ class_at t b.number → (told positions a ≡ told positions b) ↔ (answer_at t answers a.number ≡ answer_at t answers b.number))
      (λ same. (λ e. cc, λ e. cc)) (λ same. (λ e. refl, λ e. refl)) (λ same. (λ e. cc, λ e. cc));
}
