-- A plan ends in one way if none of its files is both refused and accepted.
use Rattle.std.proofs.Common.{◌≡◌, ◌≢◌, List, refl, sym, ap, subst, ◌∙◌}
use Rattle.std.proofs.lemmas.Option.{same_Some}
use Rattle.diag_shelf.specs.World.{Files}
use Rattle.text_fields.specs.Fields.{Text}
use Rattle.run_steps.specs.declared.ending.FileKind.{FileKind}
use Rattle.run_steps.specs.Ending.{done, refused}
use Rattle.run_steps.specs.Outcome.{Outcome}
use Rattle.run_steps.specs.Plan.{Plan, finish, judged, refused_file, accepted_file, IsClear, EndsIn, CallsFor, IsRefusedWith}

module _ (files : Files) where
  -- What follows from two facts of where a plan ends.
  module _ (R S : FileKind → Text → Type 0) (E F : (Outcome → Type 0) → (List (Text × Text) → Text → Type 0) → Type 0) {T : Type 0} (at_refusal : (kind : FileKind) (text other : Text) → R kind text → S kind other → T)
      (at_end : (Done : Outcome → Type 0) (Cut : List (Text × Text) → Text → Type 0) → ((o : Outcome) → Done o → o.ending ≡ done) → E Done Cut → F Done Cut → T) where
    pub both_end : (plan : Plan) → IsClear plan → EndsIn files R E plan → EndsIn files S F plan → T
    both_end (finish Done Cut) clear first second = at_end Done Cut clear first second
    both_end (judged name kind X Refused Accepted next) clear (refused_file bytes text held refused is) (refused_file bytes' text' held' refused' is') = at_refusal kind text text' is is'
    both_end (judged name kind X Refused Accepted next) clear (refused_file bytes text held refused is) (accepted_file bytes' x held' accepted ends) =
        absurd (clear.0.apart bytes' text x accepted (subst (λ (b : Text). Refused b text) (same_Some bytes bytes' (sym held ∙ held')) refused))
    both_end (judged name kind X Refused Accepted next) clear (accepted_file bytes x held accepted ends) (refused_file bytes' text' held' refused' is') =
        absurd (clear.0.apart bytes text' x accepted (subst (λ (b : Text). Refused b text') (same_Some bytes' bytes (sym held' ∙ held)) refused'))
    both_end (judged name kind X Refused Accepted next) clear (accepted_file bytes x held accepted ends) (accepted_file bytes' y held' accepted' ends') =
        let one : x ≡ y = clear.0.once bytes x y accepted (subst (λ (b : Text). Accepted b y) (same_Some bytes' bytes (sym held' ∙ held)) accepted') in
        both_end (next y) (clear.1 bytes' y accepted') (subst (λ (z : X). EndsIn files R E (next z)) one ends) ends'

  -- If an outcome that is called for isn't that the work is done, a file is refused.
  pub refused_where : (o : Outcome) (plan : Plan) → IsClear plan → CallsFor files plan o → o.ending ≢ done → (kind : FileKind) × (o.ending ≡ refused kind) × IsRefusedWith files plan kind o.console
  refused_where o (finish Done Cut) clear does not = absurd (not (clear o does))
  refused_where o (judged name kind X Refused Accepted next) clear (refused_file bytes text held wrong is) not = (kind, ap (λ (p : Outcome). p.ending) is, refused_file bytes text held wrong (refl, ap (λ (p : Outcome). p.console) is))
  refused_where o (judged name kind X Refused Accepted next) clear (accepted_file bytes x held accepted then) not =
      let r = refused_where o (next x) (clear.1 bytes x accepted) then not in
      (r.0, r.1, accepted_file bytes x held accepted r.2)
