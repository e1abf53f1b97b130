use Rattle.std.proofs.Common.{◌≡◌, ◌∙◌, ◌++◌, Bool, List, [], get_or, set, sym, ap, subst, inl, inr, arith}
use Rattle.std.proofs.lemmas.Bool.{cases_Bool, false≢true}
use Rattle.std.proofs.lemmas.List.{append-nil, get_or_default}
use Rattle.net_model.specs.Answer.{bit_at}
use Rattle.net_model.specs.Circuit.{Circuit, line_count}
use Rattle.fault_heads.specs.declared.head.Head.{Head}
use Rattle.fault_sim.specs.Rows.{IsFalse}
use Rattle.kept_vectors.specs.declared.notes.Note.{Note}
use Rattle.kept_vectors.specs.declared.notes.Shown.{Shown}
use Rattle.kept_vectors.specs.declared.differences.Differences.{Differences}
use Rattle.kept_vectors.specs.Notes.{head_at, IsShownAs, IsPlaceNoted}
use Rattle.kept_vectors.proofs.NoteLemmas.{place_here, place_later, nothing_needed}
use Rattle.kept_vectors.proofs.differences.Differences.show.Goals as goal
use Rattle.kept_vectors.proofs.differences.Differences.show.Goals.{After-self-1, then-any+in_ok-shown, else-any}

-- what was added to the notes, and what is shown
record IsShowing (c : After-self-1) : Type 0 where
  more : List Note
  longer : c.if-any.self.notes.items ≡ c.args.self.now.notes.items ++ more
  others : c.if-any.self.shown.items ≡ c.args.self.now.shown.items
  shows : IsShownAs c.args.good.now (head_at (line_count c.args.good.now.circuit) c.args.place) (get_or c.args.self.now.needs.items c.args.place []) c.if-any.self.notes.items c.if-any.shown

showing : (c : After-self-1) → IsShowing c
showing c =
    let good = c.args.good.now in
    let place = c.args.place in
    let needs = c.args.self.now.needs.items in
    let old = c.args.self.now.notes.items in
    let head = head_at (line_count good.circuit) place in
    let need : c.index-needed.result.now ≡ get_or needs place [] = c.index-needed.ensures ∙ get_or_default needs place c.index-needed.result.now [] c.requires.place in
    elim c.if-any.branch [
      | then-any+in_ok-shown w ↦
          let notes : c.if-any.self.notes.items ≡ w.show_head.new.notes.items = ap (λ (d : Differences). d.notes.items) w.self-is in
          let head_is : w.head_of-head.result ≡ head = w.head_of-head.ensures.value ∙ ap (λ (k : Circuit). head_at (line_count k) place) w.circuit.ensures in
          let made = w.in_ok-shown.ensures in
          let by_head = subst (λ (k : Head). IsShownAs good k c.index-needed.result.now w.show_head.new.notes.items w.in_ok-shown.shown) head_is made.shown in
          let by_need = subst (λ (row : List Bool). IsShownAs good head row w.show_head.new.notes.items w.in_ok-shown.shown) need by_head in
          record {
            more = made.more.0;
            longer = notes ∙ made.more.1;
            others = ap (λ (d : Differences). d.shown.items) w.self-is;
            shows = subst (λ (s : Shown). IsShownAs good head (get_or needs place []) c.if-any.self.notes.items s) (sym w.shown-is)
                (subst (λ (ns : List Note). IsShownAs good head (get_or needs place []) ns w.in_ok-shown.shown) (sym notes) by_need);
          }
      | else-any w ↦
          let none : IsFalse (get_or needs place []) = λ lane h. elim (cases_Bool (bit_at (get_or needs place []) lane)) [
            | inr off ↦ off
            | inl on ↦ absurd (false≢true (sym w.if-any.false ∙ c.any.ensures.1 (lane, h, ap (λ (row : List Bool). bit_at row lane) need ∙ on)))
          ] in
          record {
            more = [];
            longer = ap (λ (d : Differences). d.notes.items) w.self-is ∙ sym (append-nil old);
            others = ap (λ (d : Differences). d.shown.items) w.self-is;
            shows = subst (λ (s : Shown). IsShownAs good head (get_or needs place []) c.if-any.self.notes.items s) (sym w.shown-is)
                (nothing_needed good c.requires.circuit head (get_or needs place []) c.if-any.self.notes.items c.all.result none c.all.ensures);
          }
    ]

pub returns-clause-later : goal.returns-clause-later
returns-clause-later c other less is =
    let s = showing c in
    let old = c.args.self.now in
    subst (λ (ss : List Shown). IsPlaceNoted c.args.good.now old.needs.items c.if-any.self.notes.items (set ss c.args.place c.if-any.shown) other) (sym s.others)
    (place_later c.args.good.now old.needs.items old.notes.items s.more c.if-any.self.notes.items old.shown.items c.args.place c.if-any.shown s.longer other less is)

pub returns-clause-here : goal.returns-clause-here
returns-clause-here c =
    let s = showing c in
    let old = c.args.self.now in
    subst (λ (ss : List Shown). IsPlaceNoted c.args.good.now old.needs.items c.if-any.self.notes.items (set ss c.args.place c.if-any.shown) c.args.place) (sym s.others)
    (place_here c.args.good.now old.needs.items c.if-any.self.notes.items old.shown.items c.args.place c.if-any.shown (omega (arith, c.requires.place, c.requires.of.needs, c.requires.of.shown)) s.shows)
