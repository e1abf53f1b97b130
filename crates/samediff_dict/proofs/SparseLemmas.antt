-- What is true of marks, counts and others, and what stays if a list gets a word of marks or a number.
use Rattle.std.proofs.Common.{◌≡◌, ◌∙◌, ℕ, zero, suc, ◌+◌, ◌-◌, ◌*◌, ◌/◌, ◌%◌, ◌<◌, ◌≤◌, ◌^◌, ◌⊎◌, List, [], ◌∷◌, ◌++◌, map, length, get_or, set, count_ones, refl, sym, ap, subst, inl, inr, arith, length-set}
use Rattle.std.specs.Int.{bit_at}
use Rattle.std.specs.List.{range_with_len}
use Rattle.std.proofs.lemmas.Bool.{cases_lt, cases_eq}
use Rattle.std.proofs.lemmas.List.{get_or_append_left, get_or-append_right, get_or_push, get_or-set_same, get_or-set_other, length_push}
use Rattle.std.proofs.lemmas.List.Elements.{All-push}
use Rattle.std.proofs.lemmas.List.FromFn.{fill_by_all, length-map-range_with_len, get_or-map-range_with_len, map-range_with_len_more}
use Rattle.std.proofs.lemmas.Nat.{ones_le_self, pow_pos}
use Rattle.std.proofs.lemmas.Nat.Bits.{bit_at-lt, bit_at_above}
use Rattle.std.proofs.Math.Nat.{pow-le-pow_right, pow-suc, mod-eq_of_lt}
use Rattle.samediff_dict.specs.Sparse.{is_marked, marks_before, sparse_number, sparse_list, AreSparse}
use Rattle.samediff_dict.proofs.WordLemmas.{fewer_below, ones_with, bit_with, low_bit_with, low_bits_with}

-- ---- the number at a place

-- a marked place has one of the others
pub marked_inside : (marks before others : List ℕ) (len place : ℕ) → AreSparse marks before others len → place < len → bit_at (get_or marks (place / 64) 0) (place % 64) ≡ 1 → marks_before marks before place < length others
unfolding marks_before
marked_inside marks before others len place s h is_set =
    let at : place / 64 < length marks = omega (arith, s.enough) in
    omega (arith, s.inside (place / 64) at, fewer_below (get_or marks (place / 64) 0) (place % 64) is_set)

pub unmarked_number : (marks before others : List ℕ) (place : ℕ) → bit_at (get_or marks (place / 64) 0) (place % 64) ≡ 0 → sparse_number marks before others place ≡ 0
unfolding sparse_number is_marked
unmarked_number marks before others place e = rw e refl

pub marked_number : (marks before others : List ℕ) (place : ℕ) → bit_at (get_or marks (place / 64) 0) (place % 64) ≡ 1 → sparse_number marks before others place ≡ get_or others (marks_before marks before place) 0
unfolding sparse_number is_marked
marked_number marks before others place e = rw e refl

pub marks_before_is : (marks before : List ℕ) (place : ℕ) → marks_before marks before place ≡ get_or before (place / 64) 0 + count_ones (get_or marks (place / 64) 0 % 2 ^ (place % 64))
unfolding marks_before
marks_before_is marks before place = refl

-- ---- the list

pub list_length : (marks before others numbers : List ℕ) (len : ℕ) → sparse_list marks before others len ≡ numbers → length numbers ≡ len
list_length marks before others numbers len e = ap length (sym e) ∙ length-map-range_with_len (sparse_number marks before others) 0 len

pub list_number : (marks before others numbers : List ℕ) (len place : ℕ) → sparse_list marks before others len ≡ numbers → place < len → get_or numbers place 0 ≡ sparse_number marks before others place
list_number marks before others numbers len place e h =
    ap (λ xs. get_or xs place 0) (sym e) ∙ get_or-map-range_with_len (sparse_number marks before others) 0 len place place 0 h (omega arith)

-- the lists are equal if the numbers at each place are
same_numbers : (marks before others marks' before' others' : List ℕ) (len : ℕ) → ((place : ℕ) → place < len → sparse_number marks' before' others' place ≡ sparse_number marks before others place) → sparse_list marks' before' others' len ≡ sparse_list marks before others len
same_numbers marks before others marks' before' others' len same =
    let new = sparse_number marks' before' others' in
    fill_by_all (sparse_number marks before others) (map new (range_with_len 0 len)) len 0 (length-map-range_with_len new 0 len) (λ k h. get_or-map-range_with_len new 0 len k k 0 h (omega arith) ∙ same k h)

-- ---- one word more

none_in_zero : count_ones 0 ≡ 0
none_in_zero = let few = ones_le_self 0 in omega (arith, few)

zero_past : (k : ℕ) → get_or {A = ℕ} (0 ∷ []) k 0 ≡ 0
zero_past zero = refl
zero_past (suc k) = refl

word_past : (marks : List ℕ) (at : ℕ) → length marks ≤ at → get_or (marks ++ 0 ∷ []) at 0 ≡ 0
word_past marks at h = get_or-append_right marks (0 ∷ []) (length marks) at 0 refl h ∙ zero_past (at - length marks)

read_same : (marks before others : List ℕ) (m n place : ℕ) → place / 64 < length marks → place / 64 < length before → sparse_number (marks ++ m ∷ []) (before ++ n ∷ []) others place ≡ sparse_number marks before others place
unfolding sparse_number is_marked marks_before
read_same marks before others m n place h k = rw (get_or_append_left marks (m ∷ []) 0 (place / 64) h, get_or_append_left before (n ∷ []) 0 (place / 64) k) refl

pub room_same : (marks before others : List ℕ) (n len : ℕ) → AreSparse marks before others len → sparse_list (marks ++ 0 ∷ []) (before ++ n ∷ []) others len ≡ sparse_list marks before others len
room_same marks before others n len s =
    same_numbers marks before others (marks ++ 0 ∷ []) (before ++ n ∷ []) others len (λ place h. read_same marks before others 0 n place (omega (arith, s.enough, h)) (omega (arith, s.enough, s.counts, h)))

pub room_sparse : (marks before others : List ℕ) (len : ℕ) → AreSparse marks before others len → length marks ≤ len / 64 → AreSparse (marks ++ 0 ∷ []) (before ++ length others ∷ []) others len
room_sparse marks before others len s full =
    let longer = length_push marks 0 in
    let level : length marks ≡ len / 64 = omega (arith, s.enough, full) in
    record {
      counts = omega (arith, longer, length_push before (length others), s.counts);
      enough = omega (arith, longer, s.enough);
      tight = omega (arith, longer, full);
      clear = λ at. elim (cases_lt at (length marks)) [
        | inl below ↦ rw (get_or_append_left marks (0 ∷ []) 0 at below) (s.clear at)
        | inr past ↦ rw (word_past marks at past) (pow_pos (len - 64 * at))
      ];
      inside = λ at h. elim (cases_lt at (length marks)) [
        | inl below ↦ rw (get_or_append_left marks (0 ∷ []) 0 at below, get_or_append_left before (length others ∷ []) 0 at (omega (arith, below, s.counts))) (s.inside at below)
        | inr past ↦ rw (word_past marks at past, get_or_push before (length others) 0 at (omega (arith, longer, h, past, s.counts))) (omega (arith, none_in_zero))
      ];
      last = λ h. rw (word_past marks (len / 64) (omega (arith, level)), get_or_push before (length others) 0 (len / 64) (omega (arith, level, s.counts))) (omega (arith, none_in_zero));
      few = s.few;
      some = s.some;
    }

-- ---- a 0 more

-- the next place is in the same word, if there is no word after it
next_word : (count len : ℕ) → 64 * count ≤ len + 64 → (len + 1) / 64 < count → (len + 1) / 64 ≡ len / 64
next_word count len tight h = omega arith

wider : (word len at : ℕ) → word < 2 ^ (len - 64 * at) → word < 2 ^ (len + 1 - 64 * at)
wider word len at h =
    let more : 2 ^ (len - 64 * at) ≤ 2 ^ (len + 1 - 64 * at) = pow-le-pow_right {n = 2} (omega arith) {i = len - 64 * at} {j = len + 1 - 64 * at} (omega arith) in
    omega (arith, h, more)

-- the word of the next place has no marks at that place or above
pub next_clear : (marks : List ℕ) (len : ℕ) → ((at : ℕ) → get_or marks at 0 < 2 ^ (len - 64 * at)) → get_or marks (len / 64) 0 < 2 ^ (len % 64)
next_clear marks len clear =
    let left : len - 64 * (len / 64) ≡ len % 64 = omega arith in
    let P : ℕ → Type 0 = λ n. get_or marks (len / 64) 0 < 2 ^ n in
    subst P left (clear (len / 64))

pub zero_sparse : (marks before others : List ℕ) (len : ℕ) → AreSparse marks before others len → len / 64 < length marks → AreSparse marks before others (len + 1)
zero_sparse marks before others len s h =
    record {
      counts = s.counts;
      enough = omega (arith, h);
      tight = omega (arith, s.tight);
      clear = λ at. wider (get_or marks at 0) len at (s.clear at);
      inside = s.inside;
      last = λ k. rw (next_word (length marks) len s.tight k) (s.last h);
      few = omega (arith, s.few);
      some = s.some;
    }

pub zero_list : (marks before others : List ℕ) (len : ℕ) → AreSparse marks before others len → sparse_list marks before others (len + 1) ≡ sparse_list marks before others len ++ 0 ∷ []
zero_list marks before others len s =
    map-range_with_len_more (sparse_number marks before others) 0 len len (omega arith)
    ∙ ap (λ n. sparse_list marks before others len ++ n ∷ []) (unmarked_number marks before others len (bit_at_above (get_or marks (len / 64) 0) (len % 64) (len % 64) (next_clear marks len s.clear) (omega arith)))

-- ---- another number more

zero_or_one : (n : ℕ) → n < 2 → (n ≡ 0) ⊎ (n ≡ 1)
zero_or_one zero h = inl refl
zero_or_one (suc zero) h = inr refl
zero_or_one (suc (suc n)) h = absurd (omega arith)

-- the marks with that of the next place
abbrev pub marked_next : List ℕ → ℕ → List ℕ
marked_next marks len = set marks (len / 64) (2 ^ (len % 64) + get_or marks (len / 64) 0)

module _ (marks before others : List ℕ) (len number : ℕ) (s : AreSparse marks before others len) (h : len / 64 < length marks) where
  abbrev word : ℕ
  word = get_or marks (len / 64) 0

  abbrev bit : ℕ
  bit = len % 64

  small : word < 2 ^ bit
  small = next_clear marks len s.clear

  here : get_or (marked_next marks len) (len / 64) 0 ≡ 2 ^ bit + word
  here = get_or-set_same marks (len / 64) (2 ^ bit + word) 0 h

  beside : (at : ℕ) → (at ≡ len / 64 → ⊥) → get_or (marked_next marks len) at 0 ≡ get_or marks at 0
  beside at ne = get_or-set_other marks (len / 64) at (2 ^ bit + word) 0 ne

  clear_next : (at : ℕ) → get_or (marked_next marks len) at 0 < 2 ^ (len + 1 - 64 * at)
  clear_next at =
      elim (cases_eq at (len / 64)) [
        | inl same ↦
            let left : len + 1 - 64 * (len / 64) ≡ suc bit = omega arith in
            let P : ℕ → Type 0 = λ n. 2 ^ bit + word < 2 ^ n in
            rw (same, here) (subst P (sym left) (omega (arith, small, pow-suc 2 bit)))
        | inr ne ↦ rw (beside at ne) (wider (get_or marks at 0) len at (s.clear at))
      ]

  inside_next : (at : ℕ) → at < length marks → get_or before at 0 + count_ones (get_or (marked_next marks len) at 0) ≤ length others + 1
  inside_next at k =
      elim (cases_eq at (len / 64)) [
        | inl same ↦ rw (same, here) (omega (arith, ones_with word bit small, s.inside (len / 64) h))
        | inr ne ↦ rw (beside at ne) (omega (arith, s.inside at k))
      ]

  pub other_sparse : 0 < number → AreSparse (marked_next marks len) before (others ++ number ∷ []) (len + 1)
  other_sparse some =
      let count = length-set marks (len / 64) (2 ^ bit + word) in
      let longer = length_push others number in
      record {
        counts = s.counts ∙ sym count;
        enough = omega (arith, count, h);
        tight = omega (arith, count, s.tight);
        clear = clear_next;
        inside = λ at k. omega (arith, longer, inside_next at (omega (arith, k, count)));
        last = λ k. rw (next_word (length marks) len s.tight (omega (arith, k, count)), here) (omega (arith, longer, ones_with word bit small, s.last h));
        few = omega (arith, longer, s.few);
        some = All-push (λ n. 0 < n) others number s.some some;
      }

  -- a place before keeps its mark and the number of marks before it
  digit_kept : (place : ℕ) → place < len → bit_at (get_or (marked_next marks len) (place / 64) 0) (place % 64) ≡ bit_at (get_or marks (place / 64) 0) (place % 64)
  digit_kept place before_len =
      elim (cases_eq (place / 64) (len / 64)) [
        | inl same ↦ rw (same, here) (low_bit_with word bit (place % 64) (omega arith))
        | inr ne ↦ ap (λ w. bit_at w (place % 64)) (beside (place / 64) ne)
      ]

  marks_kept : (place : ℕ) → place < len → marks_before (marked_next marks len) before place ≡ marks_before marks before place
  unfolding marks_before
  marks_kept place before_len =
      elim (cases_eq (place / 64) (len / 64)) [
        | inl same ↦ rw (same, here) (ap (λ n. get_or before (len / 64) 0 + count_ones n) (low_bits_with word bit (place % 64) (omega arith)))
        | inr ne ↦ ap (λ w. get_or before (place / 64) 0 + count_ones (w % 2 ^ (place % 64))) (beside (place / 64) ne)
      ]

  number_kept : (place : ℕ) → place < len → sparse_number (marked_next marks len) before (others ++ number ∷ []) place ≡ sparse_number marks before others place
  number_kept place before_len =
      elim (zero_or_one (bit_at (get_or marks (place / 64) 0) (place % 64)) (bit_at-lt (get_or marks (place / 64) 0) (place % 64))) [
        | inl none ↦
            unmarked_number (marked_next marks len) before (others ++ number ∷ []) place (digit_kept place before_len ∙ none)
            ∙ sym (unmarked_number marks before others place none)
        | inr one ↦
            marked_number (marked_next marks len) before (others ++ number ∷ []) place (digit_kept place before_len ∙ one)
            ∙ ap (λ k. get_or (others ++ number ∷ []) k 0) (marks_kept place before_len)
            ∙ get_or_append_left others (number ∷ []) 0 (marks_before marks before place) (marked_inside marks before others len place s before_len one)
            ∙ sym (marked_number marks before others place one)
      ]

  all_before : marks_before (marked_next marks len) before len ≡ length others
  unfolding marks_before
  all_before =
      ap (λ w. get_or before (len / 64) 0 + count_ones (w % 2 ^ bit)) here
      ∙ ap (λ n. get_or before (len / 64) 0 + count_ones n) (low_bits_with word bit bit (omega arith) ∙ mod-eq_of_lt small)
      ∙ s.last h

  last_number : sparse_number (marked_next marks len) before (others ++ number ∷ []) len ≡ number
  last_number =
      marked_number (marked_next marks len) before (others ++ number ∷ []) len (ap (λ w. bit_at w bit) here ∙ bit_with word bit small)
      ∙ ap (λ k. get_or (others ++ number ∷ []) k 0) all_before
      ∙ get_or_push others number 0 (length others) refl

  pub other_list : sparse_list (marked_next marks len) before (others ++ number ∷ []) (len + 1) ≡ sparse_list marks before others len ++ number ∷ []
  other_list =
      map-range_with_len_more (sparse_number (marked_next marks len) before (others ++ number ∷ [])) 0 len len (omega arith)
      ∙ ap (λ xs. xs ++ sparse_number (marked_next marks len) before (others ++ number ∷ []) len ∷ []) (same_numbers marks before others (marked_next marks len) before (others ++ number ∷ []) len number_kept)
      ∙ ap (λ n. sparse_list marks before others len ++ n ∷ []) last_number
