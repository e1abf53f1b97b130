-- A number's answers to a block, written position by position.
use Rattle.std.proofs.Common.{◌≡◌, ◌≢◌, ◌∙◌, ℕ, ◌+◌, ◌<◌, ◌≤◌, ◌↔◌, Bool, true, false, not, cond, List, [], ◌∷◌, ◌++◌, length, get_or, refl, sym, ap, subst, arith, inl, inr, IsTrue}
use Rattle.std.proofs.lemmas.Bool.{cases_eq, false≢true, false_from_ne_true}
use Rattle.std.proofs.lemmas.List.{length_push, get_or_append_left, get_or_push}
use Rattle.net_model.specs.Answer.{bit_at}
use Rattle.word_sim.specs.declared.lanes.TheConstants.{LANES}
use Rattle.dict_rows.specs.AnswerTable.{Answers, answer_bit, HasBitSet, HasSizes, IsNumberSet}
use Rattle.table_dicts.specs.Blocks.{IsColumnSet, HasLanes}
use Rattle.dict_rows.proofs.BlockWordLemmas.{number_as}
use Rattle.table_dicts.proofs.BlockLemmas.{same_sizes, sizes_later}

-- ---- one position, lane by lane

pub column_none : (lanes : List Bool) (t : Answers) (number first position : ℕ) → IsColumnSet lanes 0 t t number first position
column_none lanes t number first position = record { sizes = same_sizes t; here = λ lane h. absurd (omega (arith, h)); others = λ p n k hp hn hk apart. refl }

pub column_more : {lanes : List Bool} {lane : ℕ} {old mid new : Answers} {number first position : ℕ} {bit : Bool} → IsColumnSet lanes lane old mid number first position → HasBitSet mid new (first + lane) number position bit → bit ≡ bit_at lanes lane
    → first + lane < length old.rows → number < old.numbers → position < old.positions → IsColumnSet lanes (lane + 1) old new number first position
column_more {lanes} {lane} {old} {mid} {new} {number} {first} {position} {bit} so_far one is hp hn hk = record {
  sizes = sizes_later old mid new so_far.sizes one.sizes;
  here = λ j h. elim (cases_eq j lane) [
    | inl same ↦ subst (λ i. answer_bit new (first + i) number position ≡ bit_at lanes i) (sym same) (one.here ∙ is)
    | inr ne ↦
        one.others (first + j) number position (omega (arith, h, hp, so_far.sizes.patterns_are)) (omega (arith, hn, so_far.sizes.numbers_are)) (omega (arith, hk, so_far.sizes.positions_are)) (inl (λ e. omega (arith, e, ne)))
        ∙ so_far.here j (omega (arith, h, ne))
  ];
  others = λ p n k lp ln lk apart.
      one.others p n k (omega (arith, lp, so_far.sizes.patterns_are)) (omega (arith, ln, so_far.sizes.numbers_are)) (omega (arith, lk, so_far.sizes.positions_are))
      (elim apart [ inl low ↦ inl (λ e. omega (arith, e, low)) | inr rest ↦ inr rest ]) ∙ so_far.others p n k lp ln lk apart;
}

same_lane : (a b x : Bool) → x ≡ cond a (not b) b → x ≡ false → a ≡ b
same_lane true true x is off = refl
same_lane true false x is off = absurd (false≢true (sym off ∙ is))
same_lane false true x is off = absurd (false≢true (sym off ∙ is))
same_lane false false x is off = refl

-- If the lanes are those already written, nothing has to be written.
pub column_stands : (free lanes differ : List Bool) (any : Bool) (count : ℕ) (t : Answers) (number first position : ℕ) → any ≡ false → (IsTrue any ↔ ((lane : ℕ) × (lane < LANES) × IsTrue (bit_at differ lane)))
    → ((lane : ℕ) → lane < LANES → bit_at differ lane ≡ cond (bit_at lanes lane) (not (bit_at free lane)) (bit_at free lane)) → count ≤ LANES
    → ((lane : ℕ) → lane < count → answer_bit t (first + lane) number position ≡ bit_at free lane) → IsColumnSet lanes count t t number first position
column_stands free lanes differ any count t number first position none found is few stands = record {
  sizes = same_sizes t;
  here = λ lane h.
      let inside : lane < LANES = omega (arith, h, few) in
      let off : bit_at differ lane ≡ false = false_from_ne_true (bit_at differ lane) (λ e. false≢true (sym none ∙ found.1 (lane, inside, e))) in
      stands lane h ∙ sym (same_lane (bit_at lanes lane) (bit_at free lane) (bit_at differ lane) (is lane inside) off);
  others = λ p n k hp hn hk apart. refl;
}

-- ---- a table of one number, position by position

-- The table has the first `done` lanes, and no bit of a later position is set.
pub record HasLanesBegun (width : ℕ) (lanes : List (List Bool)) (t : Answers) (done : ℕ) : Type 0 where
  pub sizes : HasSizes t LANES 1 width
  pub long : length lanes ≡ done
  pub begun : (lane k : ℕ) → lane < LANES → k < done → answer_bit t lane 0 k ≡ bit_at (get_or lanes k []) lane
  pub clear : (lane k : ℕ) → lane < LANES → done ≤ k → k < width → answer_bit t lane 0 k ≡ false

pub lanes_more : {width position : ℕ} {lanes : List (List Bool)} {column : List Bool} {old new : Answers} → HasLanesBegun width lanes old position → IsColumnSet column LANES old new 0 0 position → position < width
    → HasLanesBegun width (lanes ++ column ∷ []) new (position + 1)
lanes_more {width} {position} {lanes} {column} {old} {new} so_far one inside =
    let was = so_far.sizes in
    let kept : (lane k : ℕ) → lane < LANES → k < width → k ≢ position → answer_bit new lane 0 k ≡ answer_bit old lane 0 k =
    λ lane k h hk ne. one.others lane 0 k (omega (arith, h, was.patterns_are)) (omega (arith, was.numbers_are)) (omega (arith, hk, was.positions_are)) (inr (inr ne)) in
    record {
      sizes = record { patterns_are = one.sizes.patterns_are ∙ was.patterns_are; numbers_are = one.sizes.numbers_are ∙ was.numbers_are; positions_are = one.sizes.positions_are ∙ was.positions_are };
      long = omega (arith, length_push lanes column, so_far.long);
      begun = λ lane k h low. elim (cases_eq k position) [
        | inl same ↦
            let first : lane ≡ 0 + lane = omega arith in
            subst (λ j. answer_bit new lane 0 j ≡ bit_at (get_or (lanes ++ column ∷ []) j []) lane) (sym same)
            (ap (λ n. answer_bit new n 0 position) first ∙ (one.here lane h ∙ sym (ap (λ (bits : List Bool). bit_at bits lane) (get_or_push lanes column [] position so_far.long))))
        | inr ne ↦
            let before : k < position = omega (arith, low, ne) in
            kept lane k h (omega (arith, before, inside)) ne
            ∙ (so_far.begun lane k h before ∙ sym (ap (λ (bits : List Bool). bit_at bits lane) (get_or_append_left lanes (column ∷ []) [] k (omega (arith, before, so_far.long)))))
      ];
      clear = λ lane k h past hk. kept lane k h hk (λ e. omega (arith, e, past)) ∙ so_far.clear lane k h (omega (arith, past)) hk;
    }

-- ---- all positions, one after another

-- Below a limit the bits are right; at and above it they are those of the free lanes.
pub record IsEither (right : ℕ → ℕ → Bool → Type 0) (free : List (List Bool)) (limit lane number k : ℕ) (bit : Bool) : Type 0 where
  pub written : k < limit → right lane k bit
  pub copied : limit ≤ k → bit ≡ bit_at (get_or free k []) lane

pub either_none : (right : ℕ → ℕ → Bool → Type 0) {block old new : Answers} {free : List (List Bool)} {count number first positions : ℕ} → HasLanes block free → length free ≡ positions → count ≤ LANES
    → IsNumberSet (λ lane n k bit. bit ≡ answer_bit block lane 0 k) count old new number first positions → IsNumberSet (IsEither right free 0) count old new number first positions
either_none right {block} {old} {new} {free} {count} {number} {first} {positions} has long few set =
    number_as (IsEither right free 0) (λ lane k bit hl hk e. record { written = λ low. absurd (omega (arith, low)); copied = λ over. e ∙ has.same lane k (omega (arith, hl, few)) (omega (arith, hk, long)) }) set

pub either_more : (right : ℕ → ℕ → Bool → Type 0) {free : List (List Bool)} {column : List Bool} {count position number first positions : ℕ} {old mid new : Answers} → IsNumberSet (IsEither right free position) count old mid number first positions
    → IsColumnSet column count mid new number first position → ((lane : ℕ) → lane < count → right lane position (bit_at column lane)) → positions ≡ old.positions → first + count ≤ length old.rows → number < old.numbers
    → IsNumberSet (IsEither right free (position + 1)) count old new number first positions
either_more right {free} {column} {count} {position} {number} {first} {positions} {old} {mid} {new} so_far one is all inside hn = record {
  sizes = sizes_later old mid new so_far.sizes one.sizes;
  here = λ lane k hl hk. elim (cases_eq k position) [
    | inl same ↦ record {
      written = λ low. subst (λ j. right lane j (answer_bit new (first + lane) number j)) (sym same) (subst (right lane position) (sym (one.here lane hl)) (is lane hl));
      copied = λ over. absurd (omega (arith, over, same));
    }
    | inr ne ↦
        let kept = one.others (first + lane) number k (omega (arith, hl, inside, so_far.sizes.patterns_are)) (omega (arith, hn, so_far.sizes.numbers_are)) (omega (arith, hk, all, so_far.sizes.positions_are)) (inr (inr ne)) in
        let before = so_far.here lane k hl hk in
        record { written = λ low. subst (right lane k) (sym kept) (before.written (omega (arith, low, ne))); copied = λ over. kept ∙ before.copied (omega (arith, over)) }
  ];
  others = λ p n k hp hm hk apart.
      one.others p n k (omega (arith, hp, so_far.sizes.patterns_are)) (omega (arith, hm, so_far.sizes.numbers_are)) (omega (arith, hk, so_far.sizes.positions_are)) (elim apart [ inl low ↦ inl low | inr ne ↦ inr (inl ne) ])
      ∙ so_far.others p n k hp hm hk apart;
}

pub either_all : (right : ℕ → ℕ → Bool → Type 0) {free : List (List Bool)} {count limit number first positions : ℕ} {old new : Answers} → IsNumberSet (IsEither right free limit) count old new number first positions → positions ≤ limit
    → IsNumberSet (λ lane n. right lane) count old new number first positions
either_all right {free} {count} {limit} {number} {first} {positions} {old} {new} set over = number_as (λ lane n. right lane) (λ lane k bit hl hk either. either.written (omega (arith, hk, over))) set
