-- The pieces of a text.
use Rattle.std.proofs.Common.{◌≡◌, ◌∙◌, ℕ, ◌+◌, ◌<◌, ◌≤◌, Bool, List, [], ◌∷◌, ◌++◌, length, map, take, get_or, Option, Some, None, refl, sym, ap, append_assoc}
use Rattle.std.specs.Prelude.{filter_map, slice_range}
use Rattle.std.specs.Option.{option_to_list}
use Rattle.std.specs.List.{range_with_len, cons_option}
use Rattle.std.proofs.lemmas.List.{map-append, take_more}
use Rattle.std.proofs.lemmas.List.Elements.{filter_map-append}
use Rattle.net_model.specs.ClassTable.{ClassTable}
use Rattle.net_model.proofs.Ranges.{range_more}
use Rattle.result_records.specs.declared.record.Evidence.{Evidence}
use Rattle.result_records.specs.declared.record.Record.{Record}
use Rattle.result_records.specs.declared.record.Record.TheVariants.{Pattern, Same, End}
use Rattle.text_fields.specs.Fields.{Text}
use Rattle.result_records.specs.Spelling.{text_of}
use Rattle.result_records.proofs.RecordLists.{text-append}
use Rattle.compact_tests.specs.declared.lines.Span.{Span}
use Rattle.compact_tests.specs.ThinResult.{evidence_for}
use Rattle.compact_tests.specs.Stated.{IsEvidenceLine}

-- ---- the line of some evidence

pub needed_line : (bytes : Text) (e : Option Evidence) (span : Span) → IsEvidenceLine bytes e (Some span) → slice_range bytes span.start span.end ≡ text_of (map Same (option_to_list e))
needed_line bytes None span is = absurd is
needed_line bytes (Some e) span is = is.text

pub no_line : (bytes : Text) (e : Option Evidence) → IsEvidenceLine bytes e None → text_of (map Same (option_to_list e)) ≡ []
no_line bytes None is = refl
no_line bytes (Some e) is = absurd is

pub line_within : (bytes : Text) (e : Option Evidence) (span : Span) → IsEvidenceLine bytes e (Some span) → (span.start ≤ span.end) × (span.end ≤ length bytes)
line_within bytes None span is = absurd is
line_within bytes (Some e) span is = (is.order, is.within)

one_listed : {Y : Type 0} (o : Option Y) → cons_option o [] ≡ option_to_list o
one_listed None = refl
one_listed (Some y) = refl

one_mapped : {X Y : Type 0} (f : X → Option Y) (x : X) → filter_map f (x ∷ []) ≡ option_to_list (f x)
one_mapped f x = one_listed (f x)

-- The evidence of one number more.
pub evidence_more : (t : ClassTable) (evidence : List Evidence) (number : ℕ) (first : Text) {so_far text : Text} → so_far ≡ first ++ text_of (map Same (filter_map (evidence_for t evidence) (range_with_len 0 number)))
    → text ≡ so_far ++ text_of (map Same (option_to_list (evidence_for t evidence number))) → text ≡ first ++ text_of (map Same (filter_map (evidence_for t evidence) (range_with_len 0 (number + 1))))
evidence_more t evidence number first {so_far} {text} before line =
    let f = evidence_for t evidence in
    let one = option_to_list (f number) in
    let more : filter_map f (range_with_len 0 (number + 1)) ≡ filter_map f (range_with_len 0 number) ++ one =
    ap (filter_map f) (range_more number) ∙ (filter_map-append f (range_with_len 0 number) (number ∷ []) ∙ ap (λ (es : List Evidence). filter_map f (range_with_len 0 number) ++ es) (one_mapped f number)) in
    let lines : text_of (map Same (filter_map f (range_with_len 0 (number + 1)))) ≡ text_of (map Same (filter_map f (range_with_len 0 number))) ++ text_of (map Same one) =
    ap (λ (es : List Evidence). text_of (map Same es)) more ∙ (ap text_of (map-append Same (filter_map f (range_with_len 0 number)) one) ∙ text-append (map Same (filter_map f (range_with_len 0 number))) (map Same one)) in
    line ∙ ap (λ (bs : Text). bs ++ text_of (map Same one)) before ∙ append_assoc first (text_of (map Same (filter_map f (range_with_len 0 number)))) (text_of (map Same one)) ∙ ap (λ (bs : Text). first ++ bs) (sym lines)

-- The line of one pattern more.
pub pattern_more : (vectors : List (List Bool)) (k : ℕ) (v : List Bool) → k < length vectors → v ≡ get_or vectors k [] → (first : Text) {so_far text : Text} → so_far ≡ first ++ text_of (map Pattern (take k vectors)) → text ≡ so_far ++ text_of (Pattern v ∷ []) → text ≡ first ++ text_of (map Pattern (take (k + 1) vectors))
pattern_more vectors k v h is first {so_far} {text} before line =
    let more : take (k + 1) vectors ≡ take k vectors ++ v ∷ [] = take_more vectors k [] h ∙ ap (λ (x : List Bool). take k vectors ++ x ∷ []) (sym is) in
    let lines : text_of (map Pattern (take (k + 1) vectors)) ≡ text_of (map Pattern (take k vectors)) ++ text_of (Pattern v ∷ []) =
    ap (λ (vs : List (List Bool)). text_of (map Pattern vs)) more ∙ (ap text_of (map-append Pattern (take k vectors) (v ∷ [])) ∙ text-append (map Pattern (take k vectors)) (Pattern v ∷ [])) in
    line ∙ ap (λ (t : Text). t ++ text_of (Pattern v ∷ [])) before ∙ append_assoc first (text_of (map Pattern (take k vectors))) (text_of (Pattern v ∷ [])) ∙ ap (λ (t : Text). first ++ t) (sym lines)

-- ---- the whole text

pub text_parts : (front evidence classes members end : List Record) → text_of ((((front ++ evidence) ++ classes) ++ members) ++ end) ≡ text_of front ++ text_of evidence ++ text_of ((classes ++ members) ++ end)
text_parts front evidence classes members end =
    ap text_of (ap (λ (rs : List Record). rs ++ end) (append_assoc (front ++ evidence) classes members) ∙ append_assoc (front ++ evidence) (classes ++ members) end)
    ∙ (text-append (front ++ evidence) ((classes ++ members) ++ end) ∙ ap (λ (t : Text). t ++ text_of ((classes ++ members) ++ end)) (text-append front evidence))

pub last_text : (classes members : List Record) {none first second text : Text} → none ≡ [] → first ≡ none ++ text_of classes → second ≡ first ++ text_of members → text ≡ second ++ text_of (End ∷ []) → text ≡ text_of ((classes ++ members) ++ End ∷ [])
last_text classes members {none} {first} {second} {text} e0 e1 e2 e3 =
    let one : first ≡ text_of classes = e1 ∙ ap (λ (t : Text). t ++ text_of classes) e0 in
    let two : second ≡ text_of (classes ++ members) = e2 ∙ (ap (λ (t : Text). t ++ text_of members) one ∙ sym (text-append classes members)) in
    e3 ∙ (ap (λ (t : Text). t ++ text_of (End ∷ [])) two ∙ sym (text-append (classes ++ members) (End ∷ [])))
