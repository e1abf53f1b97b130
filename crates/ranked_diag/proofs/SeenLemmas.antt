-- What was seen of the bits of an entry, one after another.
use Rattle.std.proofs.Common.{◌≡◌, ◌∙◌, ℕ, zero, suc, ◌+◌, ◌*◌, ◌/◌, ◌%◌, ◌<◌, ◌≤◌, Bool, true, false, cond, List, [], ◌∷◌, ◌++◌, length, get_or, set, take, drop, refl, ap, subst, arith}
use Rattle.std.specs.Prelude.{All, zip}
use Rattle.std.proofs.lemmas.Bool.{ne_eqb}
use Rattle.std.proofs.lemmas.List.{length-take-le, take_all, take_more, drop-drop}
use Rattle.std.proofs.lemmas.List.Elements.{All-set, All-push}
use Rattle.std.proofs.lemmas.List.Sums.{sum_by-cons, sum_by-set, sum_by_push}
use Rattle.net_model.specs.Answer.{bit_at}
use Rattle.net_model.specs.Rows.{bit_of}
use Rattle.ranked_diag.specs.declared.partial.Seen.{Seen}
use Rattle.ranked_diag.specs.declared.partial.Seen.TheVariants.{Zero, One, Unseen}
use Rattle.ranked_diag.specs.declared.seen_word.SeenWord.{SeenWord}
use Rattle.ranked_diag.specs.Seen.{seen_of, differs, differing_bits}
use Rattle.ranked_diag.specs.SeenWords.{word_mismatches, seen_mismatches, AreSeenBefore, IsSeenToo, IsBitSeen}
use Rattle.ranked_diag.proofs.CountLemmas.{mismatches-more, mismatches-none}

-- ---- bits that differ

abbrev pub one_differs : Seen × Bool → ℕ
one_differs x = cond (differs x.0 x.1) 1 0

pub differing-cons : (s : Seen) (bit : Bool) (seen : List Seen) (bits : List Bool) → differing_bits (s ∷ seen) (bit ∷ bits) ≡ one_differs (s, bit) + differing_bits seen bits
differing-cons s bit seen bits = sum_by-cons one_differs (s, bit) (zip seen bits)

pub differing-append : (first second : List Seen) (bits : List Bool) → differing_bits (first ++ second) bits ≡ differing_bits first bits + differing_bits second (drop (length first) bits)
differing-append [] second bits = omega arith
differing-append (s ∷ first) [] [] = refl
differing-append (s ∷ first) (t ∷ second) [] = refl
differing-append (s ∷ first) second (bit ∷ bits) =
    let whole = differing-cons s bit (first ++ second) bits in
    let front = differing-cons s bit first bits in
    omega (arith, whole, front, differing-append first second bits)

-- of one bit
pub differing-one : (s : Seen) (bits : List Bool) → 0 < length bits → differing_bits (s ∷ []) bits ≡ one_differs (s, bit_at bits 0)
differing-one s [] some = absurd (omega (arith, some))
differing-one s (bit ∷ []) some = differing-cons s bit [] [] ∙ omega arith
differing-one s (bit ∷ other ∷ bits) some = differing-cons s bit [] (other ∷ bits) ∙ omega arith

pub differing-one_at : (s : Seen) (entry : List Bool) (place : ℕ) → place < length entry → differing_bits (s ∷ []) (drop place entry) ≡ one_differs (s, bit_at entry place)
differing-one_at s [] place h = absurd (omega (arith, h))
differing-one_at s (bit ∷ entry) zero h = differing-one s (bit ∷ entry) (omega arith)
differing-one_at s (bit ∷ entry) (suc place) h = differing-one_at s entry place (omega (arith, h))

-- one more
pub differing-more : (seen : List Seen) (k : ℕ) (s : Seen) (bits : List Bool) → k < length seen → k < length bits → get_or seen k s ≡ s → differing_bits (take (k + 1) seen) bits ≡ differing_bits (take k seen) bits + one_differs (s, bit_at bits k)
differing-more seen k s bits in_seen in_bits is =
    ap (λ (xs : List Seen). differing_bits xs bits) (take_more seen k s in_seen ∙ ap (λ (x : Seen). take k seen ++ x ∷ []) is)
    ∙ (differing-append (take k seen) (s ∷ []) bits
    ∙ ap (λ (n : ℕ). differing_bits (take k seen) bits + n) (ap (λ (n : ℕ). differing_bits (s ∷ []) (drop n bits)) (length-take-le k seen (omega (arith, in_seen))) ∙ differing-one_at s bits k in_bits))

one_at_most : (s : Seen) (bit : Bool) → one_differs (s, bit) ≤ 1
one_at_most Zero true = omega arith
one_at_most Zero false = omega arith
one_at_most One true = omega arith
one_at_most One false = omega arith
one_at_most Unseen bit = omega arith

-- ---- what was seen before a place

abbrev IsBegun : ℕ → SeenWord → Type 0
IsBegun place w = w.word * 64 < place

abbrev IsFree : ℕ → SeenWord → Type 0
IsFree place w = (k : ℕ) → k < 64 → place ≤ w.word * 64 + k → bit_of w.seen k ≡ false

pub nothing_before : (place : ℕ) → AreSeenBefore place []
nothing_before place = record { begun = λ k d h. absurd (omega (arith, h)); free = λ k d h. absurd (omega (arith, h)); few = λ entry. omega arith }

pub before_more : (place more : ℕ) (words : List SeenWord) → AreSeenBefore place words → place ≤ more → AreSeenBefore more words
before_more place more words before le = record {
  begun = λ k d h. omega (arith, before.begun k d h, le);
  free = λ k d h at below past. before.free k d h at below (omega (arith, past, le));
  few = λ entry. omega (arith, before.few entry, le);
}

-- The new words have one bit more.
pub record AreOneMore (old new : List SeenWord) (place : ℕ) (s : Seen) : Type 0 where
  pub begun : All (IsBegun (place + 1)) new
  pub free : All (IsFree (place + 1)) new
  pub more : (entry : List Bool) → seen_mismatches new entry ≡ seen_mismatches old entry + one_differs (s, bit_at entry place)

seen_too : (old new : List SeenWord) (place : ℕ) (s : Seen) → AreSeenBefore place old → AreOneMore old new place s → IsSeenToo old new place (s ∷ [])
seen_too old new place s before one = record {
  before = record { begun = one.begun; free = one.free; few = λ entry. omega (arith, before.few entry, one.more entry, one_at_most s (bit_at entry place)) };
  counts = λ entry within. omega (arith, one.more entry, differing-one_at s entry place (omega (arith, within)));
}

pub unseen_too : (words : List SeenWord) (place : ℕ) → AreSeenBefore place words → IsSeenToo words words place (Unseen ∷ [])
unseen_too words place before =
    let later = before_more place (place + 1) words before (omega arith) in
    seen_too words words place Unseen before (record { begun = later.begun; free = later.free; more = λ entry. omega arith })

word_place : (word place : ℕ) → word ≡ place / 64 → word * 64 + place % 64 ≡ place
word_place word place e = omega (arith, e)

module _ (place : ℕ) (one : Bool) (old new : SeenWord) (word : old.word ≡ place / 64) (is : IsBitSeen old new (place % 64) one) where
  begun_too : IsBegun (place + 1) new
  begun_too = omega (arith, word, is.word)

  free_too : IsFree place old → IsFree (place + 1) new
  free_too free k below past =
      let apart : k ≡ place % 64 → ⊥ = λ e. omega (arith, e, past, word, is.word) in
      is.seen k below ∙ (ap (λ (b : Bool). cond b true (bit_of old.seen k)) (ne_eqb k (place % 64) apart) ∙ free k below (omega (arith, past, is.word)))

  bit_too : IsFree place old → (entry : List Bool) → word_mismatches entry new ≡ word_mismatches entry old + one_differs (seen_of one, bit_at entry place)
  bit_too free entry =
      let at = word_place old.word place word in
      mismatches-more entry old new (place % 64) one (omega arith) is (free (place % 64) (omega arith) (omega (arith, at)))
      ∙ ap (λ (n : ℕ). word_mismatches entry old + one_differs (seen_of one, bit_at entry n)) at

-- the last word that was begun, or another one
pub set_too : (words : List SeenWord) (place last : ℕ) (one : Bool) (old new : SeenWord) → AreSeenBefore place words → last < length words → get_or words last old ≡ old → old.word ≡ place / 64 → IsBitSeen old new (place % 64) one
    → IsSeenToo words (set words last new) place (seen_of one ∷ [])
set_too words place last one old new before inside here word is =
    let later = before_more place (place + 1) words before (omega arith) in
    let free : IsFree place old = subst (IsFree place) here (before.free last old inside) in
    seen_too words (set words last new) place (seen_of one) before (record {
      begun = All-set (IsBegun (place + 1)) words last new (begun_too place one old new word is) later.begun;
      free = All-set (IsFree (place + 1)) words last new (free_too place one old new word is free) later.free;
      more = λ entry.
          let same : word_mismatches entry (get_or words last old) ≡ word_mismatches entry old = ap (word_mismatches entry) here in
          omega (arith, sum_by-set (word_mismatches entry) words last new old inside, same, bit_too place one old new word is free entry);
    })

pub push_too : (words : List SeenWord) (place : ℕ) (one : Bool) (old new : SeenWord) → AreSeenBefore place words → old.word ≡ place / 64 → old.seen ≡ 0 → IsFree place old → IsBitSeen old new (place % 64) one
    → IsSeenToo words (words ++ new ∷ []) place (seen_of one ∷ [])
push_too words place one old new before word none free is =
    let later = before_more place (place + 1) words before (omega arith) in
    seen_too words (words ++ new ∷ []) place (seen_of one) before (record {
      begun = All-push (IsBegun (place + 1)) words new later.begun (begun_too place one old new word is);
      free = All-push (IsFree (place + 1)) words new later.free (free_too place one old new word is free);
      more = λ entry. omega (arith, sum_by_push (word_mismatches entry) words new, bit_too place one old new word is free entry, mismatches-none entry old none);
    })

-- ---- some bits, one after another

pub see_none : (words : List SeenWord) (place : ℕ) → AreSeenBefore place words → IsSeenToo words words place []
see_none words place before = record { before = before_more place (place + 0) words before (omega arith); counts = λ entry within. omega arith }

pub see_more : (old mid new : List SeenWord) (place k : ℕ) (seen : List Seen) (s : Seen) → IsSeenToo old mid place (take k seen) → k < length seen → get_or seen k s ≡ s → IsSeenToo mid new (place + k) (s ∷ []) → IsSeenToo old new place (take (k + 1) seen)
see_more old mid new place k seen s so_far inside is one =
    let whole : length (take (k + 1) seen) ≡ k + 1 = length-take-le (k + 1) seen (omega (arith, inside)) in
    let front : length (take k seen) ≡ k = length-take-le k seen (omega (arith, inside)) in
    record {
      before = before_more (place + k + 1) (place + length (take (k + 1) seen)) new one.before (omega (arith, whole));
      counts = λ entry within.
          let all : take (k + 1) seen ≡ take k seen ++ s ∷ [] = take_more seen k s inside ∙ ap (λ (x : Seen). take k seen ++ x ∷ []) is in
          let split : differing_bits (take (k + 1) seen) (drop place entry) ≡ differing_bits (take k seen) (drop place entry) + differing_bits (s ∷ []) (drop (place + k) entry) =
          ap (λ (xs : List Seen). differing_bits xs (drop place entry)) all
          ∙ (differing-append (take k seen) (s ∷ []) (drop place entry)
          ∙ ap (λ (bits : List Bool). differing_bits (take k seen) (drop place entry) + differing_bits (s ∷ []) bits) (ap (λ (n : ℕ). drop n (drop place entry)) front ∙ (drop-drop k place entry ∙ ap (λ (n : ℕ). drop n entry) (omega arith)))) in
          omega (arith, split, so_far.counts entry (omega (arith, within, whole, front)), one.counts entry (omega (arith, within, whole)));
    }

pub see_all : (old new : List SeenWord) (place k : ℕ) (seen : List Seen) → IsSeenToo old new place (take k seen) → length seen ≤ k → IsSeenToo old new place seen
see_all old new place k seen so_far past = subst (IsSeenToo old new place) (take_all k seen past) so_far
