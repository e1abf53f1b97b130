-- The endings of requests, by the files that they read, and the ends of plans.
use Rattle.std.proofs.Common.{List, [], ◌∷◌, refl, inl, inr}
use Rattle.diag_shelf.specs.World.{State}
use Rattle.text_fields.specs.Fields.{Text}
use Rattle.run_steps.specs.Texts.{not_understood_text}
use Rattle.run_steps.specs.Outcome.{Outcome, said, saved, IsPartOf}
use Rattle.run_steps.specs.Plans.{words_plan, words_endings, makes_file, says}
use Rattle.run_steps.specs.Ending.{Ending, done, not_understood}
use Rattle.run_steps.specs.Ran.{written_endings, netlist_endings, list_endings, result_endings, result_log_endings, dictionary_endings, dictionary_log_endings, walk_endings, IsAmong, Ends, Follows}
use Rattle.run_steps.proofs.Runs.{MayBreak, cut_among, ran}
use Rattle.run_steps.proofs.Followed.{MayRead}

-- ---- endings

pub no_read : MayBreak written_endings
no_read = record { write = inr (inl refl); memory = inr (inr (inl refl)) }

pub one_read : MayRead netlist_endings
one_read = record { failed = inr (inr (inl refl)); breaks = record { write = inr (inr (inr (inl refl))); memory = inr (inr (inr (inr (inl refl)))) } }

pub two_read : MayRead result_endings
two_read = record { failed = inr (inr (inr (inl refl))); breaks = record { write = inr (inr (inr (inr (inl refl)))); memory = inr (inr (inr (inr (inr (inl refl))))) } }

pub dictionary_read : MayRead dictionary_endings
dictionary_read = record { failed = inr (inr (inl refl)); breaks = record { write = inr (inr (inr (inl refl))); memory = inr (inr (inr (inr (inl refl)))) } }

pub log_read : MayRead dictionary_log_endings
log_read = record { failed = inr (inr (inr (inl refl))); breaks = record { write = inr (inr (inr (inr (inl refl)))); memory = inr (inr (inr (inr (inr (inl refl))))) } }

pub list_read : MayRead list_endings
list_read = record { failed = inr (inr (inr (inl refl))); breaks = record { write = inr (inr (inr (inr (inl refl)))); memory = inr (inr (inr (inr (inr (inl refl))))) } }

pub three_read : MayRead result_log_endings
three_read = record { failed = inr (inr (inr (inr (inl refl)))); breaks = record { write = inr (inr (inr (inr (inr (inl refl))))); memory = inr (inr (inr (inr (inr (inr (inl refl)))))) } }

pub walk_read : MayRead walk_endings
walk_read = record { failed = inr (inr (inr (inl refl))); breaks = record { write = inr (inr (inr (inr (inl refl)))); memory = inr (inr (inr (inr (inr (inl refl))))) } }

-- ---- a file and a text

pub makes_follows : (AreMade : Text → Text → Type 0) {name file text : Text} {endings : List Ending} {outputs : List Text} {ending : Ending} {a b : State} → MayBreak endings → IsAmong done endings → IsAmong name outputs → AreMade file text
    → Ends (saved ((name, file) ∷ []) text) (IsPartOf (saved ((name, file) ∷ []) text)) ending a b → Follows (makes_file name AreMade) endings outputs ending a b
makes_follows AreMade {name} {file} {text} {endings} {outputs} {ending} {a} {b} breaks zero among is ends =
    ran (record { decided = tt; among = zero; breaks = breaks; names = λ made t part. cut_among made ((name, file) ∷ []) outputs part.files (among, tt) })
    (λ s. (file, text, is, refl)) (λ made t part. inl (saved ((name, file) ∷ []) text, (file, text, is, refl), part)) ends

-- ---- texts

pub says_follows : (IsText : Text → Type 0) {text : Text} {endings : List Ending} {outputs : List Text} {ending : Ending} {a b : State} → MayBreak endings → IsAmong done endings → IsText text → Ends (said done text) (IsPartOf (said done text)) ending a b → Follows (says IsText) endings outputs ending a b
says_follows IsText {text} {endings} {outputs} {ending} {a} {b} breaks zero is ends =
    ran (record { decided = tt; among = zero; breaks = breaks; names = λ made t part. cut_among made [] outputs part.files tt }) (λ s. (text, is, refl)) (λ made t part. inl (said done text, (text, is, refl), part)) ends

abbrev words_refused : Outcome
words_refused = said not_understood not_understood_text

pub refused_words : {ending : Ending} {a b : State} → Ends words_refused (IsPartOf words_refused) ending a b → Follows words_plan words_endings [] ending a b
refused_words {ending} {a} {b} ends =
    ran (record { decided = tt; among = inl refl; breaks = record { write = inr (inl refl); memory = inr (inr (inl refl)) }; names = λ made t part. cut_among made [] [] part.files tt }) (λ s. refl)
    (λ made t part. inl (words_refused, refl, part)) ends
