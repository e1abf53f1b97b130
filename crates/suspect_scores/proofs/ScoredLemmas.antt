-- The score of lines by which bits are changed, wrong and right is that of the definitions.
use Rattle.std.proofs.Common.{◌≡◌, ◌∙◌, ℕ, zero, suc, ◌+◌, ◌<◌, ◌≤◌, Bool, true, false, not, cond, List, [], ◌∷◌, length, take, get_or, refl, sym, ap, ap₂, arith}
use Rattle.std.specs.Prelude.{sum_by, count_by, zip, nat_lt, ◌&&◌, ◌==◌, filter}
use Rattle.std.specs.Bool.{beq, Decides}
use Rattle.std.specs.List.{range_with_len}
use Rattle.std.proofs.lemmas.Bool.{ltb-true, eqb-true, lt-ltb, eq-eqb}
use Rattle.std.proofs.lemmas.Bool.Decides.{same_from_decides, nat_tests}
use Rattle.std.proofs.lemmas.List.{take_more}
use Rattle.std.proofs.lemmas.List.Sums.{sum_by-append, sum_by-cons}
use Rattle.net_model.specs.Answer.{bit_at}
use Rattle.dict_rows.specs.AnswerTable.{Answers, answer_to}
use Rattle.ranked_diag.specs.declared.partial.Seen.{Seen}
use Rattle.ranked_diag.specs.declared.partial.Seen.TheVariants.{Zero, One, Unseen}
use Rattle.ranked_diag.specs.Seen.{is_seen, differs, differing_bits}
use Rattle.ranked_diag.specs.PartialLog.{Line}
use Rattle.net_model.proofs.Ranges.{sum_by-range_more}
use Rattle.suspect_scores.specs.declared.scoring.LineScore.{LineScore}
use Rattle.suspect_scores.specs.declared.suspect.Suspect.{Suspect}
use Rattle.suspect_scores.specs.Scores.{SeenBits, is_hit, is_missed, is_false, told_of, is_failing, failing, explains, explained_count, hit_bits, missed_bits, false_bits}
use Rattle.suspect_scores.specs.Listed.{suspect_of}
use Rattle.suspect_scores.specs.Scored.{count_to, score_to, does_explain, meets_all}
use Rattle.suspect_scores.specs.Columns.{HasBlockMore}
use Rattle.suspect_scores.specs.Marks.{logged_line}
use Rattle.suspect_scores.proofs.Tests.{both_true}
use Rattle.suspect_scores.proofs.ScoreLemmas.{count_more, hit_or_missed}
use Rattle.suspect_scores.proofs.RangeSums.{one_of, count_listed}

-- ---- by the definitions

-- what a position says
told_at : (seen : List Seen) (free own : List Bool) (k : ℕ) → length free ≡ length seen → length own ≡ length seen → k < length seen → get_or (zip seen (zip free own)) k (Unseen, (false, false)) ≡ (get_or seen k Unseen, (bit_at free k, bit_at own k))
told_at [] free own k f o h = absurd (omega (arith, h))
told_at (s ∷ seen) [] own k f o h = absurd (omega (arith, f))
told_at (s ∷ seen) (x ∷ free) [] k f o h = absurd (omega (arith, o))
told_at (s ∷ seen) (x ∷ free) (y ∷ own) zero f o h = refl
told_at (s ∷ seen) (x ∷ free) (y ∷ own) (suc k) f o h = told_at seen free own k (omega (arith, f)) (omega (arith, o)) (omega (arith, h))

told_long : (seen : List Seen) (free own : List Bool) → length free ≡ length seen → length own ≡ length seen → length (zip seen (zip free own)) ≡ length seen
told_long [] free own f o = refl
told_long (s ∷ seen) [] own f o = absurd (omega (arith, f))
told_long (s ∷ seen) (x ∷ free) [] f o = absurd (omega (arith, o))
told_long (s ∷ seen) (x ∷ free) (y ∷ own) f o = omega (arith, told_long seen free own (omega (arith, f)) (omega (arith, o)))

-- a position is missed or false exactly if what was seen isn't the answer's bit
one_unlike : (s : Seen) (f o : Bool) → ◌≡◌ {A = ℕ} (cond (is_missed (s, (f, o))) 1 0 + cond (is_false (s, (f, o))) 1 0) (cond (differs s o) 1 0)
one_unlike Zero true true = refl
one_unlike Zero true false = refl
one_unlike Zero false true = refl
one_unlike Zero false false = refl
one_unlike One true true = refl
one_unlike One true false = refl
one_unlike One false true = refl
one_unlike One false false = refl
one_unlike Unseen true true = refl
one_unlike Unseen true false = refl
one_unlike Unseen false true = refl
one_unlike Unseen false false = refl

pub missed_or_false : (seen : List Seen) (free own : List Bool) → length own ≡ length free → count_by is_missed (zip seen (zip free own)) + count_by is_false (zip seen (zip free own)) ≡ differing_bits seen own
missed_or_false [] free own same = refl
missed_or_false (s ∷ seen) [] [] same = refl
missed_or_false (s ∷ seen) [] (o ∷ own) same = absurd (omega (arith, same))
missed_or_false (s ∷ seen) (f ∷ free) [] same = absurd (omega (arith, same))
missed_or_false (s ∷ seen) (f ∷ free) (o ∷ own) same =
    let rest = zip seen (zip free own) in
    let a = count_more is_missed (s, (f, o)) rest in
    let b = count_more is_false (s, (f, o)) rest in
    let d = count_more (λ x. differs x.0 x.1) (s, o) (zip seen own) in
    omega (arith, a, b, d, one_unlike s f o, missed_or_false seen free own (omega (arith, same)))

-- a line is explained exactly if something is hit and nothing is missed or false
abbrev IsMet : ℕ → ℕ → ℕ → Type 0
IsMet hit missed wrong = (0 < hit) × ((missed ≡ 0) × (wrong ≡ 0))

explained_is : (hit missed wrong failed unlike : ℕ) → hit + missed ≡ failed → missed + wrong ≡ unlike → (nat_lt 0 hit && (missed == 0 && wrong == 0)) ≡ (nat_lt 0 failed && unlike == 0)
explained_is hit missed wrong failed unlike a b = same_from_decides (nat_lt 0 hit && (missed == 0 && wrong == 0)) (nat_lt 0 failed && unlike == 0) by_bits by_sums
  where
    by_bits : Decides (nat_lt 0 hit && (missed == 0 && wrong == 0)) (IsMet hit missed wrong)
    by_bits = (
      (λ e. let p = both_true (nat_lt 0 hit) (missed == 0 && wrong == 0) e in let q = both_true (missed == 0) (wrong == 0) p.1 in (ltb-true 0 hit p.0, (eqb-true missed 0 q.0, eqb-true wrong 0 q.1))),
      (λ h. λ i. lt-ltb 0 hit h.0 i && (eq-eqb missed 0 h.1.0 i && eq-eqb wrong 0 h.1.1 i)),
    )

    by_sums : Decides (nat_lt 0 failed && unlike == 0) (IsMet hit missed wrong)
    by_sums = (
      (λ e. let p = both_true (nat_lt 0 failed) (unlike == 0) e in let f = ltb-true 0 failed p.0 in let u = eqb-true unlike 0 p.1 in (omega (arith, a, b, f, u), (omega (arith, b, u), omega (arith, b, u)))),
      (λ h. let f : 0 < failed = omega (arith, a, h.0) in let u : unlike ≡ 0 = omega (arith, b, h.1.0, h.1.1) in λ i. lt-ltb 0 failed f i && eq-eqb unlike 0 u i),
    )

count_filtered : {X : Type 0} (p q : X → Bool) (xs : List X) → count_by q (filter p xs) ≡ count_by (λ x. p x && q x) xs
count_filtered p q [] = refl
count_filtered {X} p q (x ∷ xs) = by (count_filtered p q xs) (p x) refl
  where
    by : count_by q (filter p xs) ≡ count_by (λ y. p y && q y) xs → (b : Bool) → p x ≡ b → count_by q (filter p (x ∷ xs)) ≡ count_by (λ y. p y && q y) (x ∷ xs)
    by rest true e =
        let kept : filter p (x ∷ xs) ≡ x ∷ filter p xs = ap (λ (b : Bool). cond b (x ∷ filter p xs) (filter p xs)) e in
        let one : one_of (λ y. p y && q y) x ≡ one_of q x = ap (λ (b : Bool). cond {A = ℕ} (b && q x) 1 0) e in
        ap (count_by q) kept ∙ omega (arith, count_more q x (filter p xs), count_more (λ y. p y && q y) x xs, one, rest)
    by rest false e =
        let kept : filter p (x ∷ xs) ≡ filter p xs = ap (λ (b : Bool). cond b (x ∷ filter p xs) (filter p xs)) e in
        let none : one_of (λ y. p y && q y) x ≡ 0 = ap (λ (b : Bool). cond {A = ℕ} (b && q x) 1 0) e in
        ap (count_by q) kept ∙ omega (arith, count_more (λ y. p y && q y) x xs, none, rest)

-- ---- a line

-- It is the score of a line for a number.
pub record IsScoreOf (table : Answers) (number : ℕ) (line : Line) (s : LineScore) : Type 0 where
  pub hit : s.hit_bits ≡ count_by is_hit (told_of table number line)
  pub missed : s.missed_bits ≡ count_by is_missed (told_of table number line)
  pub wrong : s.false_bits ≡ count_by is_false (told_of table number line)
  pub explains_it : does_explain s ≡ (is_failing table line && explains table number line)

module _ (table : Answers) (number : ℕ) (line : Line) (frees : length (answer_to table line.0 0) ≡ length line.1) (owns : length (answer_to table line.0 number) ≡ length line.1) where
  abbrev free : List Bool
  free = answer_to table line.0 0

  abbrev own : List Bool
  own = answer_to table line.0 number

  abbrev seen : ℕ → Seen
  seen k = get_or line.1 k Unseen

  module _ (changed wrong right : ℕ → Bool) (changes : (k : ℕ) → k < length line.1 → changed k ≡ not (beq (bit_at own k) (bit_at free k))) (wrongs : (k : ℕ) → k < length line.1 → wrong k ≡ differs (seen k) (bit_at free k))
      (rights : (k : ℕ) → k < length line.1 → right k ≡ (is_seen (seen k) && not (differs (seen k) (bit_at free k)))) where
    counted : (p : ℕ → Bool) (test : SeenBits → Bool) → ((k : ℕ) → k < length line.1 → p k ≡ test (seen k, (bit_at free k, bit_at own k))) → count_to p (length line.1) ≡ count_by test (told_of table number line)
    counted p test same =
        let long = told_long line.1 free own frees owns in
        ap (count_to p) (sym long)
        ∙ count_listed p test (Unseen, (false, false)) (told_of table number line)
        (λ k low. let inside : k < length line.1 = omega (arith, low, long) in same k inside ∙ ap test (sym (told_at line.1 free own k frees owns inside)))

    both_and : (a b : Bool) (s : Bool) → (a && (b && s)) ≡ ((a && b) && s)
    both_and true b s = refl
    both_and false b s = refl

    hit_is : count_to (λ k. wrong k && changed k) (length line.1) ≡ count_by is_hit (told_of table number line)
    hit_is = counted (λ k. wrong k && changed k) is_hit (λ k low. ap₂ (λ (a b : Bool). a && b) (wrongs k low) (changes k low))

    missed_is : count_to (λ k. wrong k && not (changed k)) (length line.1) ≡ count_by is_missed (told_of table number line)
    missed_is = counted (λ k. wrong k && not (changed k)) is_missed (λ k low. ap₂ (λ (a b : Bool). a && not b) (wrongs k low) (changes k low))

    false_is : count_to (λ k. right k && changed k) (length line.1) ≡ count_by is_false (told_of table number line)
    false_is = counted (λ k. right k && changed k) is_false
        (λ k low. ap₂ (λ (a b : Bool). a && b) (rights k low) (changes k low) ∙ sym (both_and (is_seen (seen k)) (not (differs (seen k) (bit_at free k))) (not (beq (bit_at own k) (bit_at free k)))))

    pub line_right : IsScoreOf table number line (score_to changed wrong right (length line.1))
    unfolding score_to
    line_right =
        let same = owns ∙ sym frees in
        record {
          hit = hit_is;
          missed = missed_is;
          wrong = false_is;
          explains_it = (λ i. nat_lt 0 (hit_is i) && (missed_is i == 0 && false_is i == 0)) ∙ explained_is _ _ _ _ _ (hit_or_missed line.1 free own same) (missed_or_false line.1 free own same);
        }

-- a line fits exactly if nothing is missed or false
both_zero : (missed wrong unlike : ℕ) → missed + wrong ≡ unlike → (missed == 0 && wrong == 0) ≡ (unlike == 0)
both_zero missed wrong unlike e = grind (arith, nat_tests, e)

-- two answers to one pattern
abbrev two_answers : List Seen → List Bool → List Bool → Answers
two_answers seen free own = record { numbers = 2; positions = length seen; rows = (free ∷ own ∷ []) ∷ [] }

pub fits_told : (seen : List Seen) (free own : List Bool) → length free ≡ length seen → length own ≡ length seen → (changed wrong right : ℕ → Bool) (positions : ℕ) → length seen ≡ positions
    → ((k : ℕ) → k < length seen → changed k ≡ not (beq (bit_at own k) (bit_at free k))) → ((k : ℕ) → k < length seen → wrong k ≡ differs (get_or seen k Unseen) (bit_at free k))
    → ((k : ℕ) → k < length seen → right k ≡ (is_seen (get_or seen k Unseen) && not (differs (get_or seen k Unseen) (bit_at free k)))) → meets_all (score_to changed wrong right positions) ≡ (differing_bits seen own == 0)
fits_told seen free own free_long own_long changed wrong right positions many changes wrongs rights =
    let score = score_to changed wrong right (length seen) in
    let told = line_right (two_answers seen free own) 1 (0, seen) free_long own_long changed wrong right changes wrongs rights in
    let sums = missed_or_false seen free own (own_long ∙ sym free_long) in
    (λ i. meets_all (score_to changed wrong right (sym many i))) ∙ both_zero score.missed_bits score.false_bits (differing_bits seen own) (omega (arith, told.missed, told.wrong, sums))

-- ---- more lines

-- the sum over `count` more lines
sum_block : (g : Line → ℕ) (h : ℕ → ℕ) (lines : List Line) (first count : ℕ) → first + count ≤ length lines → ((k : ℕ) → k < count → h k ≡ g (logged_line lines (first + k)))
    → sum_by g (take (first + count) lines) ≡ sum_by g (take first lines) + sum_by h (range_with_len 0 count)
sum_block g h lines first zero inside same = let none : first + 0 ≡ first = omega arith in omega (arith, ap (λ (n : ℕ). sum_by g (take n lines)) none)
sum_block g h lines first (suc n) inside same =
    let before = sum_block g h lines first n (omega (arith, inside)) (λ k low. same k (omega (arith, low))) in
    let at = first + n in
    let next : first + suc n ≡ at + 1 = omega arith in
    let more : suc n ≡ n + 1 = omega arith in
    let line = logged_line lines at in
    let taken : sum_by g (take (first + suc n) lines) ≡ sum_by g (take at lines) + sum_by g (line ∷ []) =
    (λ i. sum_by g (take (next i) lines)) ∙ (ap (sum_by g) (take_more lines at (0, []) (omega (arith, inside))) ∙ sum_by-append g (take at lines) (line ∷ [])) in
    let last : sum_by h (range_with_len 0 (suc n)) ≡ sum_by h (range_with_len 0 n) + h n = (λ i. sum_by h (range_with_len 0 (more i))) ∙ sum_by-range_more h n in
    omega (arith, taken, before, last, same n (omega arith), sum_by-cons g line [])

explained_lines : (table : Answers) (number : ℕ) (lines : List Line) → explained_count table number (failing table lines) ≡ count_by (λ line. is_failing table line && explains table number line) lines
unfolding explained_count
explained_lines table number lines = count_filtered (is_failing table) (explains table number) lines

module _ (table : Answers) (lines : List Line) (number first count : ℕ) (inside : first + count ≤ length lines) (score : ℕ → LineScore)
    (scores : (lane : ℕ) → lane < count → IsScoreOf table number (logged_line lines (first + lane)) (score lane)) where
  abbrev is_explained : Line → Bool
  is_explained line = is_failing table line && explains table number line

  -- the score of `count` more lines
  pub suspect_more : (old new : Suspect) → old ≡ suspect_of table (take first lines) number → HasBlockMore score count old new → new ≡ suspect_of table (take (first + count) lines) number
  unfolding suspect_of hit_bits missed_bits false_bits
  suspect_more old new is more =
      let explained : new.explained ≡ explained_count table number (failing table (take (first + count) lines)) =
      omega (
        arith,
        more.explained,
        ap (λ (s : Suspect). s.explained) is,
        explained_lines table number (take first lines),
        explained_lines table number (take (first + count) lines),
        sum_block (one_of is_explained) (one_of (λ lane. does_explain (score lane))) lines first count inside (λ k low. ap (λ (b : Bool). cond {A = ℕ} b 1 0) (scores k low).explains_it),
      ) in
      let hit : new.hit_bits ≡ hit_bits table (take (first + count) lines) number =
      omega (arith, more.hit, ap (λ (s : Suspect). s.hit_bits) is, sum_block (λ line. count_by is_hit (told_of table number line)) (λ lane. (score lane).hit_bits) lines first count inside (λ k low. (scores k low).hit)) in
      let missed : new.missed_bits ≡ missed_bits table (take (first + count) lines) number =
      omega (arith, more.missed, ap (λ (s : Suspect). s.missed_bits) is, sum_block (λ line. count_by is_missed (told_of table number line)) (λ lane. (score lane).missed_bits) lines first count inside (λ k low. (scores k low).missed)) in
      let wrong : new.false_bits ≡ false_bits table (take (first + count) lines) number =
      omega (arith, more.wrong, ap (λ (s : Suspect). s.false_bits) is, sum_block (λ line. count_by is_false (told_of table number line)) (λ lane. (score lane).false_bits) lines first count inside (λ k low. (scores k low).wrong)) in
      λ i. record { number = (more.number ∙ ap (λ (s : Suspect). s.number) is) i; explained = explained i; hit_bits = hit i; missed_bits = missed i; false_bits = wrong i }
