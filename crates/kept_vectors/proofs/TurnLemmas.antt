-- Notes of two numbers in a lane, by the lanes in which what they turn shows.
use Rattle.std.proofs.Common.{◌≡◌, ◌↔◌, ℕ, Bool, true, false, ◌&&◌, ◌||◌, not, List, [], Option, refl, sym, ap, ◌∙◌}
use Rattle.std.specs.Prelude.{if◌then◌else◌}
use Rattle.std.proofs.lemmas.Bool.{false≢true}
use Rattle.kept_vectors.specs.declared.notes.Note.{Note}
use Rattle.net_model.specs.Answer.{bit_at}
use Rattle.fault_heads.specs.declared.head.Turn.{Turn}
use Rattle.kept_vectors.specs.Notes.{Noted, AreNotedAlike, row_of, turn_notes, lane_notes}

-- notes that count only if the lane is turned
pub masked_alike : (lane : ℕ) (turned any bit : Bool) (notes : List Note) → bit ≡ (turned && any) → (any ≡ false) ↔ AreNotedAlike lane notes [] → (bit ≡ false) ↔ AreNotedAlike lane (if turned then notes else []) []
masked_alike lane true any bit notes is by = (λ off. by.0 (sym is ∙ off), λ same. is ∙ by.1 same)
masked_alike lane false any bit notes is by = (λ off position. refl, λ same. is)

-- if both show their notes decide, and else whether one of them shows
pub apart_by : (lane : ℕ) (left right bit : Bool) (one other : List Note) → (left ≡ false) ↔ AreNotedAlike lane one [] → (right ≡ false) ↔ AreNotedAlike lane other []
    → ((left && right) ≡ false → bit ≡ (if left then not right else right)) → (left ≡ true → right ≡ true → (bit ≡ false) ↔ AreNotedAlike lane one other) → (bit ≡ false) ↔ AreNotedAlike lane one other
apart_by lane true true bit one other first second alone both = both refl refl
apart_by lane true false bit one other first second alone both = (
  λ off. absurd (false≢true (sym off ∙ alone refl)),
  λ same. absurd (false≢true (sym (first.1 (λ position. same position ∙ second.0 refl position)))),
)
apart_by lane false true bit one other first second alone both = (
  λ off. absurd (false≢true (sym off ∙ alone refl)),
  λ same. absurd (false≢true (sym (second.1 (λ position. sym (same position) ∙ first.0 refl position)))),
)
apart_by lane false false bit one other first second alone both = (λ off position. first.0 refl position ∙ sym (second.0 refl position), λ same. alone refl)

-- the bits of the result
pub alone_bit : (left right told bit : Bool) → bit ≡ ((if left then not right else right) || ((left && right) && told)) → (left && right) ≡ false → bit ≡ (if left then not right else right)
alone_bit true true told bit is none = absurd (false≢true (sym none))
alone_bit true false told bit is none = is
alone_bit false true told bit is none = is
alone_bit false false told bit is none = is

pub both_bit : (left right told bit : Bool) → bit ≡ ((if left then not right else right) || ((left && right) && told)) → left ≡ true → right ≡ true → bit ≡ told
both_bit true true told bit is a b = is
both_bit true false told bit is a b = absurd (false≢true b)
both_bit false right told bit is a b = absurd (false≢true a)

pub neither_bit : (left right : Bool) → left ≡ true → right ≡ true → (if left then not right else right) ≡ false
neither_bit true true a b = refl
neither_bit true false a b = absurd (false≢true b)
neither_bit false right a b = absurd (false≢true a)

-- if a number's row has the lane, its notes are all notes of its head
pub all_notes : (noted : Noted) (turn : Option Turn) (lane : ℕ) → bit_at (row_of turn) lane ≡ true → lane_notes noted turn lane ≡ turn_notes noted turn
all_notes noted turn lane on = ap (λ (b : Bool). if b then turn_notes noted turn else []) on
