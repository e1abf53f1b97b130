use Rattle.std.proofs.Common.{◌≡◌, ◌↔◌, ◌∙◌, ◌&&◌, ◌||◌, not, Bool, false, true, List, [], sym, ap}
use Rattle.std.specs.Prelude.{if◌then◌else◌}
use Rattle.std.proofs.lemmas.Bool.{and_from, false≢true}
use Rattle.net_model.specs.Answer.{bit_at}
use Rattle.kept_vectors.specs.declared.notes.Note.{Note}
use Rattle.kept_vectors.specs.Notes.{AreNotedAlike, is_noted, noted_by, row_of, turn_of, turn_notes, lane_notes}
use Rattle.kept_vectors.proofs.TurnLemmas.{apart_by, alone_bit, both_bit, neither_bit, all_notes}
use Rattle.kept_vectors.proofs.differences.Differences.apart.Goals as goal
use Rattle.kept_vectors.proofs.differences.Differences.apart.Goals.{then-not-any-via-then-not-any, then-not-any-via-else-not-any+then-have_one_head}

pub returns-then-not-any : goal.returns-then-not-any
returns-then-not-any c lane h =
    let noted = noted_by c.args.self.now in
    let one = turn_of noted c.args.one in
    let other = turn_of noted c.args.other in
    let left = bit_at c.lanes_of-left.result lane in
    let right = bit_at c.lanes_of-right.result lane in
    let first : (left ≡ false) ↔ AreNotedAlike lane (lane_notes noted one lane) [] = rw c.turn_of-first.ensures at (c.lanes_of-left.ensures.shows lane h) in
    let second : (right ≡ false) ↔ AreNotedAlike lane (lane_notes noted other lane) [] = rw c.turn_of-second.ensures at (c.lanes_of-right.ensures.shows lane h) in
    apart_by lane left right (bit_at c.xor-alone.result lane) (lane_notes noted one lane) (lane_notes noted other lane) first second (λ none. c.xor-alone.ensures lane h) (λ a b. elim c.then-not-any.branch [
      | then-not-any-via-then-not-any w ↦ absurd (false≢true (sym w.if-not-any.true ∙ c.any.ensures.1 (lane, h, c.and-both.ensures lane h ∙ and_from left right a b)))
      | then-not-any-via-else-not-any+then-have_one_head w ↦
          let on : bit_at (row_of one) lane ≡ true = rw c.turn_of-first.ensures at (c.lanes_of-left.ensures.turned lane h a) in
          let on_too : bit_at (row_of other) lane ≡ true = rw c.turn_of-second.ensures at (c.lanes_of-right.ensures.turned lane h b) in
          let same : turn_notes noted one ≡ turn_notes noted other = rw (c.turn_of-first.ensures, c.turn_of-second.ensures) at (w.have_one_head.ensures w.if-have_one_head.true noted) in
          let all : lane_notes noted one lane ≡ lane_notes noted other lane = all_notes noted one lane on ∙ same ∙ sym (all_notes noted other lane on_too) in
          (λ off position. ap (λ (ns : List Note). is_noted ns lane position) all, λ alike. c.xor-alone.ensures lane h ∙ neither_bit left right a b)
    ])

pub returns : goal.returns
returns c lane h =
    let noted = noted_by c.args.self.now in
    let one = turn_of noted c.args.one in
    let other = turn_of noted c.args.other in
    let left = bit_at c.lanes_of-left.result lane in
    let right = bit_at c.lanes_of-right.result lane in
    let told = bit_at c.apart-told.result lane in
    let bit = bit_at c.or.result lane in
    let first : (left ≡ false) ↔ AreNotedAlike lane (lane_notes noted one lane) [] = rw c.turn_of-first.ensures at (c.lanes_of-left.ensures.shows lane h) in
    let second : (right ≡ false) ↔ AreNotedAlike lane (lane_notes noted other lane) [] = rw c.turn_of-second.ensures at (c.lanes_of-right.ensures.shows lane h) in
    let both : bit_at c.and.result lane ≡ ((left && right) && told) = c.and.ensures lane h ∙ ap (λ (b : Bool). b && told) (c.and-both.ensures lane h) in
    let is : bit ≡ ((if left then not right else right) || ((left && right) && told)) = c.or.ensures lane h ∙ (λ i. c.xor-alone.ensures lane h i || both i) in
    apart_by lane left right bit (lane_notes noted one lane) (lane_notes noted other lane) first second (alone_bit left right told bit is) (λ a b.
    let on : bit_at (row_of one) lane ≡ true = rw c.turn_of-first.ensures at (c.lanes_of-left.ensures.turned lane h a) in
    let on_too : bit_at (row_of other) lane ≡ true = rw c.turn_of-second.ensures at (c.lanes_of-right.ensures.turned lane h b) in
    let here : lane_notes noted one lane ≡ c.turn_notes.result.now = all_notes noted one lane on ∙ sym (c.turn_notes.ensures ∙ ap (turn_notes noted) c.turn_of-first.ensures) in
    let there : lane_notes noted other lane ≡ c.turn_notes-2.result.now = all_notes noted other lane on_too ∙ sym (c.turn_notes-2.ensures ∙ ap (turn_notes noted) c.turn_of-second.ensures) in
    let bit_is = both_bit left right told bit is a b in
    let by_notes = c.apart-told.ensures lane h in (
      λ off position. ap (λ (ns : List Note). is_noted ns lane position) here ∙ by_notes.0 (sym bit_is ∙ off) position ∙ sym (ap (λ (ns : List Note). is_noted ns lane position) there),
      λ alike. bit_is ∙ by_notes.1 (λ position. sym (ap (λ (ns : List Note). is_noted ns lane position) here) ∙ alike position ∙ ap (λ (ns : List Note). is_noted ns lane position) there),
    ))
