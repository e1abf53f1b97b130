-- Lines of bytes: what is taken and what is held are what was fed, and they are the same however it was cut.
use Rattle.std.proofs.Common.{◌≡◌, ◌∙◌, List, [], ◌∷◌, ◌++◌, refl, sym, ap, ap₂, arith}
use Rattle.std.specs.Prelude.{All, Contains}
use Rattle.std.proofs.lemmas.List.{append_assoc, append-nil}
use Rattle.std.proofs.lemmas.List.Elements.{All-nil, All-cons, All-head, All-tail, Contains-append_right}
use Rattle.text_fields.specs.Fields.{Text}
use Rattle.result_records.specs.Held.{Event, LeadTo, fed_text, taken_lines, lines_text}
use Rattle.result_records.specs.Held.Event.{fed, taken}
use Rattle.text_fields.proofs.Cuts.{cut_once}

-- bytes without an LF have no line
pub no_line_in : (held a x : Text) → ¬ Contains held 10 → held ≡ a ++ 10 ∷ x → ⊥
no_line_in held a x none e = none (rw e (Contains-append_right a (10 ∷ x) 10 (0, omega arith, refl)))

-- the lines and what is held are what was held before, and what was fed
pub all_given : (before : Text) (events : List Event) (held : Text) → LeadTo before events held → lines_text (taken_lines events) ++ held ≡ before ++ fed_text events
all_given before [] held lead = lead ∙ sym (append-nil before)
all_given before (fed piece ∷ events) held lead =
    let rest = all_given lead.0 events held lead.2 in
    rest ∙ ap (λ (next : Text). next ++ fed_text events) lead.1 ∙ append_assoc before piece (fed_text events)
all_given before (taken line ∷ events) held lead =
    let rest = all_given lead.0 events held lead.2 in
    let lines = lines_text (taken_lines events) in
    append_assoc (line ++ 10 ∷ []) lines held
    ∙ append_assoc line (10 ∷ []) (lines ++ held)
    ∙ ap (λ (bytes : Text). line ++ 10 ∷ bytes) rest
    ∙ sym (append_assoc line (10 ∷ lead.0) (fed_text events))
    ∙ ap (λ (bytes : Text). bytes ++ fed_text events) (sym lead.1.cut)

one_lines : (before : Text) (events : List Event) (held : Text) → LeadTo before events held → All (λ line. ¬ Contains line 10) (taken_lines events)
one_lines before [] held lead = All-nil (λ line. ¬ Contains line 10)
one_lines before (fed piece ∷ events) held lead = one_lines lead.0 events held lead.2
one_lines before (taken line ∷ events) held lead = All-cons (λ line. ¬ Contains line 10) line (taken_lines events) lead.1.one (one_lines lead.0 events held lead.2)

behind : (line : Text) (lines : List Text) (held : Text) → lines_text (line ∷ lines) ++ held ≡ line ++ 10 ∷ (lines_text lines ++ held)
behind line lines held = append_assoc (line ++ 10 ∷ []) (lines_text lines) held ∙ append_assoc line (10 ∷ []) (lines_text lines ++ held)

lines_once : (lines others : List Text) (held other : Text) → All (λ line. ¬ Contains line 10) lines → All (λ line. ¬ Contains line 10) others → ¬ Contains held 10 → ¬ Contains other 10
    → lines_text lines ++ held ≡ lines_text others ++ other → (lines ≡ others) × (held ≡ other)
lines_once [] [] held other first second none none' e = (refl, e)
lines_once [] (m ∷ ms) held other first second none none' e = absurd (no_line_in held m (lines_text ms ++ other) none (e ∙ behind m ms other))
lines_once (l ∷ ls) [] held other first second none none' e = absurd (no_line_in other l (lines_text ls ++ held) none' (sym e ∙ behind l ls held))
lines_once (l ∷ ls) (m ∷ ms) held other first second none none' e =
    let P : Text → Type 0 = λ line. ¬ Contains line 10 in
    let cut = cut_once 10 l m (lines_text ls ++ held) (lines_text ms ++ other) (All-head P l ls first) (All-head P m ms second) (sym (behind l ls held) ∙ e ∙ behind m ms other) in
    let rest = lines_once ls ms held other (All-tail P l ls first) (All-tail P m ms second) none none' cut.1 in
    (ap₂ (λ (line : Text) (lines : List Text). line ∷ lines) cut.0 rest.0, rest.1)

pub lines_alike : (events others : List Event) (held other : Text) → LeadTo [] events held → LeadTo [] others other → fed_text events ≡ fed_text others
    → ¬ Contains held 10 → ¬ Contains other 10 → (taken_lines events ≡ taken_lines others) × (held ≡ other)
lines_alike events others held other lead lead' same none none' =
    lines_once (taken_lines events) (taken_lines others) held other (one_lines [] events held lead) (one_lines [] others other lead') none none' (all_given [] events held lead ∙ same ∙ sym (all_given [] others other lead'))
