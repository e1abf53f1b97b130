-- The rest of a file, piece by piece.
use Rattle.std.proofs.Common.{◌≡◌, ◌∙◌, Bool, true, false, IsTrue, ℕ, ◌+◌, ◌<◌, ◌≤◌, List, [], ◌++◌, length, take, Option, Some, inl, inr, refl, sym, ap, subst, append_assoc, arith}
use Rattle.std.specs.Prelude.{unwrap_or, IsSome, drop}
use Rattle.std.proofs.lemmas.List.{append-nil}
use Rattle.std.proofs.Math.Seq.{drop_at}
use Rattle.std.proofs.Math.ListN.{drop_of_length-le}
use Rattle.diag_shelf.specs.World.{World}
use Rattle.diag_shelf.specs.Calls.{Takes, Same, OnlyReads, ReadsUpTo}
use Rattle.diag_shelf.proofs.Steps.{left_by, reads_on_few}
use Rattle.net_model.specs.Circuit.{Circuit}
use Rattle.result_records.specs.declared.limits.TheConstants.{RESULT_LIMIT}
use Rattle.result_file.specs.declared.fault.ResultFault.{ResultFault}
use Rattle.text_fields.specs.Fields.{Text}
use Rattle.result_file.specs.Refusal.{FileRefused}
use Rattle.dia_check.specs.Left.{rest_of, ReadsRest}
use Rattle.dia_check.specs.Reader.{IsRefusedEnd}
use Rattle.dia_check.specs.Rest.{TakesText, TakesAll}

-- At first nothing is taken.
pub takes_nothing : (world : World) → IsSome world.rest → TakesText [] world world
takes_nothing world some = record { opened = some; rest = refl }

-- One piece more.
pub takes_more : {fed : Text} {old mid new : World} (piece : List ℕ) (count : ℕ) → TakesText fed old mid → Takes piece count mid new → TakesText (fed ++ take count piece) old new
takes_more {fed} {old} {mid} {new} piece count so_far takes = record {
  opened = takes.still_opened;
  rest = so_far.rest ∙ ap (λ (t : Text). fed ++ t) (ap (λ (o : Option Text). unwrap_or o []) takes.rest) ∙ sym (append_assoc fed (take count piece) (rest_of new));
}

-- At most `most` bytes were taken.
pub takes_few : {fed : Text} {most : ℕ} {old new : World} → IsSome old.rest → OnlyReads old new → TakesText fed old new → length fed ≤ most → ReadsUpTo most old new
takes_few {fed} {most} {old} {new} some only taken few = reads_on_few fed most few only taken.opened (left_by old.rest some ∙ ap (λ (t : Text). Some t) taken.rest)

-- A call that changes nothing takes no more.
pub takes_no_more : {most : ℕ} {old mid new : World} → ReadsUpTo most old mid → Same mid new → ReadsUpTo most old new
takes_no_more so_far same = (
  so_far.0,
  so_far.1,
  record {
    only = record { files = same.files ∙ so_far.2.only.files; written = same.written ∙ so_far.2.only.written; console = same.console ∙ so_far.2.only.console };
    rest = same.rest ∙ so_far.2.rest;
  },
)

-- At first nothing is read.
pub reads_nothing : (most : ℕ) (world : World) → IsSome world.rest → ReadsUpTo most world world
reads_nothing most world some = takes_few some (record { files = refl; written = refl; console = refl }) (takes_nothing world some) (omega arith)

-- The end is found if a piece has no byte.
pub takes_end : {fed : Text} {old mid new : World} (piece : List ℕ) (count : ℕ) → TakesText fed old mid → Takes piece count mid new → count ≡ 0 → 0 < length piece → TakesAll fed old new
takes_end {fed} {old} {mid} {new} piece count so_far takes zero some =
    let more = takes_more piece count so_far takes in
    let none : take count piece ≡ [] = rw zero refl in
    let was : mid.rest ≡ Some [] = takes.end zero some in
    let both : take count piece ++ rest_of new ≡ [] = ap (λ (o : Option Text). unwrap_or o []) (sym takes.rest ∙ was) in
    let end : rest_of new ≡ [] = ap (λ (t : Text). t ++ rest_of new) (sym none) ∙ both in
    record {
      taken = record { opened = more.opened; rest = more.rest ∙ ap (λ (t : Text). (fed ++ t) ++ rest_of new) none ∙ ap (λ (t : Text). t ++ rest_of new) (append-nil fed) };
      end = inr end;
    }

-- The end is found if one byte beyond the limit is taken.
pub takes_limit : {fed : Text} {old new : World} → TakesText fed old new → length fed ≡ RESULT_LIMIT + 1 → TakesAll fed old new
takes_limit taken full = record { taken = taken; end = inl full }

module _ {fed : Text} {old new : World} (all : TakesAll fed old new) where
  pub rest_read : length fed ≤ RESULT_LIMIT + 1 → ReadsRest old new
  rest_read few =
      let now : new.rest ≡ Some (rest_of new) = left_by new.rest all.taken.opened in
      record {
        rest = now ∙ ap (λ (t : Text). Some t) (elim all.end [
          | inl full ↦
              sym (ap (λ (t : Text). drop (RESULT_LIMIT + 1) t) all.taken.rest ∙ drop_at fed (rest_of new) (RESULT_LIMIT + 1) full)
          | inr none ↦
              let whole : rest_of old ≡ fed = all.taken.rest ∙ ap (λ (t : Text). fed ++ t) none ∙ append-nil fed in
              none ∙ sym (drop_of_length-le (rest_of old) {i = RESULT_LIMIT + 1} (omega (arith, few, ap length whole)))
        ]);
      }

  pub rest_whole : length fed ≤ RESULT_LIMIT → rest_of old ≡ fed
  rest_whole short = elim all.end [
    | inl full ↦ absurd (omega (arith, short, full))
    | inr none ↦ all.taken.rest ∙ ap (λ (t : Text). fed ++ t) none ∙ append-nil fed
  ]

  pub rest_refused : {c : Circuit} {fault : ResultFault} → IsRefusedEnd c fed fault → FileRefused c (rest_of old) fault
  rest_refused {c} {fault} is =
      let P : Text → Type 0 = λ t. FileRefused c t fault in
      elim all.end [
        | inl full ↦ subst P (sym all.taken.rest) ((is.beyond (omega (arith, full))).refused (rest_of new))
        | inr none ↦ subst P (sym (all.taken.rest ∙ ap (λ (t : Text). fed ++ t) none ∙ append-nil fed)) is.whole
      ]

-- Some text is refused with this fault, and it is the rest if the shelf tells its files.
pub text_refused : (tells : Bool) {fed : Text} {old new : World} {c : Circuit} {fault : ResultFault} → (IsTrue tells → TakesAll fed old new) → IsRefusedEnd c fed fault → (text : Text) × FileRefused c text fault × (IsTrue tells → rest_of old ≡ text)
text_refused true {fed} {old} {new} all is = (rest_of old, rest_refused (all refl) is, λ told. refl)
text_refused false {fed} {old} {new} all is = (fed, is.whole, λ told. absurd (cc))
