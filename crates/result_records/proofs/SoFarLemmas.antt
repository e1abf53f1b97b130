-- Logs, steps and trees that are read so far, and what the fields after them spell.
use Rattle.std.proofs.Common.{◌≡◌, ◌∙◌, ℕ, ◌+◌, ◌-◌, ◌<◌, ◌≤◌, Bool, List, [], ◌∷◌, ◌++◌, map, length, take, drop, get_or, length-drop, take-append-drop, drop-drop, refl, sym, ap, subst, arith}
use Rattle.std.specs.Prelude.{All, flat_map, codes, decimal}
use Rattle.std.proofs.lemmas.List.{append_assoc, append-nil, drop_more, drop_all, length-map, take-map, drop-map, take_rest}
use Rattle.std.proofs.lemmas.List.Concat.{flat_map-append}
use Rattle.std.proofs.lemmas.List.Elements.{All-head, All-tail, All-push}
use Rattle.clause_pool.specs.Literal.{Literal}
use Rattle.pair_sets.specs.declared.tree.Token.{Token}
use Rattle.pair_miter.specs.ChainView.{ChainView}
use Rattle.text_fields.specs.Fields.{Text, IsNumber}
use Rattle.result_records.specs.Spelling.{literal_field, token_field, step_fields, chain_fields, log_fields, evidence_fields, IsLiteral, HasStepSpelling, HasTreeSpelling}
use Rattle.result_records.specs.Reading.{IsChainOf}
use Rattle.text_fields.proofs.Cuts.{Begins, tails}
use Rattle.result_records.proofs.OnceLemmas.{tree_unmarked, IsUnmarked, IsMark, spelled_chain, chain_unmarked, begins_chain, cut_chain}

-- ---- logs

-- Some log of such chains has these fields.
abbrev pub SomeLog : Bool → List Text → Type 0
SomeLog fresh texts = (log : List ChainView) × All (IsChainOf fresh) log × (log_fields log ≡ texts)

-- The log is what the fields before place `at` spell, and if the fields spell a log, so do those from that place up.
pub record IsLogSoFar (fresh : Bool) (texts : List Text) (at : ℕ) (log : List ChainView) : Type 0 where
  pub inside : at ≤ length texts
  pub all : All (IsChainOf fresh) log
  pub spelled : log_fields log ++ drop at texts ≡ texts
  pub goes_on : SomeLog fresh texts → SomeLog fresh (drop at texts)

-- After a mark `n` fields are those of its chain.
pub record IsChainEnd (rest : List Text) (n : ℕ) : Type 0 where
  pub within : n ≤ length rest
  pub before : All IsUnmarked (take n rest)
  pub at : n < length rest → get_or rest n [] ≡ codes ";"

-- the fields up to the next mark, of a list that has these texts
pub chain_end_of : {B : Type 0} (now : B → Text) (xs : List B) (n : ℕ) → n ≤ length xs → All IsUnmarked (take n (map now xs)) → (n < length xs → get_or (map now xs) n [] ≡ codes ";") → IsChainEnd (map now xs) n
chain_end_of now xs n within before at = record { within = omega (arith, within, length-map xs now); before = before; at = λ low. at (omega (arith, low, length-map xs now)) }

-- There is a mark at place `at`, and `n` fields after it are those of its chain.
pub record BeginsChain (texts : List Text) (at n : ℕ) : Type 0 where
  pub below : at < length texts
  pub mark : get_or texts at [] ≡ codes ";"
  pub is : IsChainEnd (drop (at + 1) texts) n

-- the fields after a mark, and `n` of them, cut out of a list that has these texts
module _ {B : Type 0} (now : B → Text) (fields : List B) (at n : ℕ) where
  abbrev pub behind : List B
  behind = take (length fields - (at + 1)) (drop (at + 1) fields)

  pub chain_begins : at < length fields → get_or (map now fields) at [] ≡ codes ";" → n ≤ length behind → All IsUnmarked (take n (map now behind)) → (n < length behind → get_or (map now behind) n [] ≡ codes ";") → BeginsChain (map now fields) at n
  chain_begins below mark within before here =
      let moved : map now behind ≡ drop (at + 1) (map now fields) = ap (map now) (take_rest fields (at + 1)) ∙ sym (drop-map now (at + 1) fields) in
      record { below = omega (arith, below, length-map fields now); mark = mark; is = subst (λ (ts : List Text). IsChainEnd ts n) moved (chain_end_of now behind n within before here) }

  pub chain_cut : map now (take (at + 1 + n - (at + 1)) (drop (at + 1) fields)) ≡ take n (drop (at + 1) (map now fields))
  chain_cut =
      let same : at + 1 + n - (at + 1) ≡ n = omega arith in
      ap (λ (k : ℕ). map now (take k (drop (at + 1) fields))) same ∙ sym (take-map now n (drop (at + 1) fields)) ∙ ap (take n) (sym (drop-map now (at + 1) fields))

begins_by : (rest : List Text) (n : ℕ) → IsChainEnd rest n → (xs : List Text) → drop n rest ≡ xs → Begins IsUnmarked IsMark xs
begins_by rest n is [] e = tt
begins_by rest n is (x ∷ xs) e =
    let below : n < length rest = omega (arith, ap length e, length-drop n rest) in
    let here : get_or rest n [] ∷ drop (n + 1) rest ≡ x ∷ xs = sym (drop_more rest n [] below) ∙ e in
    sym (tails here).0 ∙ is.at below

begins_rest : (rest : List Text) (n : ℕ) → IsChainEnd rest n → Begins IsUnmarked IsMark (drop n rest)
begins_rest rest n is = begins_by rest n is (drop n rest) refl

-- the first chain of a log that the fields after a mark spell
abbrev FirstChain : Bool → List Text → ℕ → Type 0
FirstChain fresh rest n = ((chain : ChainView) × IsChainOf fresh chain × (chain_fields chain ≡ take n rest)) × SomeLog fresh (drop n rest)

first_by : (fresh : Bool) (rest : List Text) (n : ℕ) → IsChainEnd rest n → (log : List ChainView) → All (IsChainOf fresh) log → log_fields log ≡ codes ";" ∷ rest → FirstChain fresh rest n
first_by fresh rest n is [] all e = absurd (cc)
first_by fresh rest n is (chain ∷ log) all e =
    let one = All-head (IsChainOf fresh) chain log all in
    let parts = cut_chain (chain_fields chain) (take n rest) (log_fields log) (drop n rest) (chain_unmarked chain (spelled_chain fresh chain one)) is.before (begins_chain log) (begins_rest rest n is)
    ((tails e).1 ∙ sym (take-append-drop n rest)) in
    ((chain, one, parts.0), (log, All-tail (IsChainOf fresh) chain log all, parts.1))

first_chain : (fresh : Bool) (rest : List Text) (n : ℕ) → IsChainEnd rest n → SomeLog fresh (codes ";" ∷ rest) → FirstChain fresh rest n
first_chain fresh rest n is some = first_by fresh rest n is some.0 some.1 some.2

-- fields that begin with no mark spell no log
no_by : (text : Text) (rest : List Text) → (text ≡ codes ";" → ⊥) → (log : List ChainView) → log_fields log ≡ text ∷ rest → ⊥
no_by text rest other [] e = cc
no_by text rest other (chain ∷ log) e = other (sym (tails e).0)

module _ (fresh : Bool) (texts : List Text) (at : ℕ) (log : List ChainView) (so_far : IsLogSoFar fresh texts at log) where
  pub refused_mark : at < length texts → (get_or texts at [] ≡ codes ";" → ⊥) → SomeLog fresh texts → ⊥
  refused_mark below other some = let more = so_far.goes_on some in no_by (get_or texts at []) (drop (at + 1) texts) other more.0 (more.2 ∙ drop_more texts at [] below)

  module _ (n : ℕ) (begins : BeginsChain texts at n) where
    behind_mark : drop at texts ≡ codes ";" ∷ drop (at + 1) texts
    behind_mark = drop_more texts at [] begins.below ∙ ap (λ (text : Text). text ∷ drop (at + 1) texts) begins.mark

    pub refused_chain : ((chain : ChainView) → IsChainOf fresh chain → chain_fields chain ≡ take n (drop (at + 1) texts) → ⊥) → SomeLog fresh texts → ⊥
    refused_chain never some =
        let first = first_chain fresh (drop (at + 1) texts) n begins.is (subst (SomeLog fresh) behind_mark (so_far.goes_on some)) in
        never first.0.0 first.0.1 first.0.2

    pub log_more : (chain : ChainView) → IsChainOf fresh chain → chain_fields chain ≡ take n (drop (at + 1) texts) → IsLogSoFar fresh texts (at + 1 + n) (log ++ chain ∷ [])
    log_more chain one e =
        let rest = drop (at + 1) texts in
        let chains = log_fields log in
        let after : drop n rest ≡ drop (at + 1 + n) texts = drop-drop n (at + 1) texts in
        let fields : log_fields (log ++ chain ∷ []) ≡ chains ++ (codes ";" ∷ chain_fields chain ++ []) = flat_map-append (λ chain. codes ";" ∷ chain_fields chain) log (chain ∷ []) in
        record {
          inside = omega (arith, begins.is.within, length-drop (at + 1) texts, begins.below);
          all = All-push (IsChainOf fresh) log chain so_far.all one;
          spelled =
              ap (λ (xs : List Text). xs ++ drop (at + 1 + n) texts) (fields ∙ ap (λ (xs : List Text). chains ++ (codes ";" ∷ xs)) (append-nil (chain_fields chain) ∙ e))
              ∙ append_assoc chains (codes ";" ∷ take n rest) (drop (at + 1 + n) texts)
              ∙ ap (λ (xs : List Text). chains ++ (codes ";" ∷ take n rest ++ xs)) (sym after)
              ∙ ap (λ (xs : List Text). chains ++ (codes ";" ∷ xs)) (take-append-drop n rest)
              ∙ ap (λ (xs : List Text). chains ++ xs) (sym behind_mark)
              ∙ so_far.spelled;
          goes_on = λ some. subst (SomeLog fresh) after (first_chain fresh rest n begins.is (subst (SomeLog fresh) behind_mark (so_far.goes_on some))).1;
        }

-- the fields of a tree, and those of the log after it
pub parts_of : (fresh : Bool) (texts : List Text) (n : ℕ) → IsChainEnd texts n → (tree : List Token) (log : List ChainView) → HasTreeSpelling tree → All (IsChainOf fresh) log → evidence_fields tree log ≡ texts
    → (map token_field tree ≡ take n texts) × (log_fields log ≡ drop n texts)
parts_of fresh texts n is tree log spelled all e =
    cut_chain (map token_field tree) (take n texts) (log_fields log) (drop n texts) (tree_unmarked tree spelled.each) is.before (begins_chain log) (begins_rest texts n is) (e ∙ sym (take-append-drop n texts))

-- ---- steps

abbrev pub SomeSteps : List Text → Type 0
SomeSteps texts = (steps : List (Literal × ℕ)) × All HasStepSpelling steps × (flat_map step_fields steps ≡ texts)

pub record AreStepsSoFar (texts : List Text) (at : ℕ) (steps : List (Literal × ℕ)) : Type 0 where
  pub inside : at ≤ length texts
  pub all : All HasStepSpelling steps
  pub spelled : flat_map step_fields steps ++ drop at texts ≡ texts
  pub goes_on : SomeSteps texts → SomeSteps (drop at texts)

first_step : (l n : Text) (rest : List Text) (steps : List (Literal × ℕ)) → All HasStepSpelling steps → flat_map step_fields steps ≡ l ∷ n ∷ rest
    → (step : Literal × ℕ) × HasStepSpelling step × (literal_field step.0 ≡ l) × (decimal step.1 ≡ n) × SomeSteps rest
first_step l n rest [] all e = absurd (cc)
first_step l n rest (step ∷ steps) all e =
    (step, All-head HasStepSpelling step steps all, (tails e).0, (tails (tails e).1).0, (steps, All-tail HasStepSpelling step steps all, (tails (tails e).1).1))

no_half : (text : Text) (steps : List (Literal × ℕ)) → flat_map step_fields steps ≡ text ∷ [] → ⊥
no_half text [] e = cc
no_half text (step ∷ steps) e = let rest = (tails e).1 in cc

-- one more field spells no step
pub half_step : (texts : List Text) (at : ℕ) (steps : List (Literal × ℕ)) → AreStepsSoFar texts at steps → at < length texts → length texts ≤ at + 1 → SomeSteps texts → ⊥
half_step texts at steps so_far below last some =
    let more = so_far.goes_on some in
    no_half (get_or texts at []) more.0 (more.2 ∙ drop_more texts at [] below ∙ ap (λ (rest : List Text). get_or texts at [] ∷ rest) (drop_all (at + 1) texts last))

module _ (texts : List Text) (at : ℕ) (steps : List (Literal × ℕ)) (so_far : AreStepsSoFar texts at steps) (below : at + 1 < length texts) where
  two_here : drop at texts ≡ get_or texts at [] ∷ get_or texts (at + 1) [] ∷ drop (at + 2) texts
  two_here =
      drop_more texts at [] (omega (arith, below)) ∙ ap (λ (rest : List Text). get_or texts at [] ∷ rest) (drop_more texts (at + 1) [] below ∙ ap (λ (k : ℕ). get_or texts (at + 1) [] ∷ drop k texts) (omega arith))

  pub refused_pivot : ((l : Literal) → IsLiteral l → literal_field l ≡ get_or texts at [] → ⊥) → SomeSteps texts → ⊥
  refused_pivot never some =
      let more = so_far.goes_on some in
      let first = first_step (get_or texts at []) (get_or texts (at + 1) []) (drop (at + 2) texts) more.0 more.1 (more.2 ∙ two_here) in
      never first.0.0 first.1.0 first.2

  pub refused_number : ((n : ℕ) → IsNumber n → decimal n ≡ get_or texts (at + 1) [] → ⊥) → SomeSteps texts → ⊥
  refused_number never some =
      let more = so_far.goes_on some in
      let first = first_step (get_or texts at []) (get_or texts (at + 1) []) (drop (at + 2) texts) more.0 more.1 (more.2 ∙ two_here) in
      never first.0.1 first.1.1 first.3

  pub steps_more : (l : Literal) (n : ℕ) → IsLiteral l → IsNumber n → literal_field l ≡ get_or texts at [] → decimal n ≡ get_or texts (at + 1) [] → AreStepsSoFar texts (at + 2) (steps ++ (l, n) ∷ [])
  steps_more l n small low pivot clause =
      let done = flat_map step_fields steps in
      let two : literal_field l ∷ decimal n ∷ drop (at + 2) texts ≡ drop at texts = (λ i. pivot i ∷ clause i ∷ drop (at + 2) texts) ∙ sym two_here in
      record {
        inside = omega (arith, below);
        all = All-push HasStepSpelling steps (l, n) so_far.all (small, low);
        spelled = ap (λ (xs : List Text). xs ++ drop (at + 2) texts) (flat_map-append step_fields steps ((l, n) ∷ [])) ∙ append_assoc done (literal_field l ∷ decimal n ∷ []) (drop (at + 2) texts)
            ∙ ap (λ (xs : List Text). done ++ xs) two ∙ so_far.spelled;
        goes_on = λ some.
            let more = so_far.goes_on some in
            (first_step (get_or texts at []) (get_or texts (at + 1) []) (drop (at + 2) texts) more.0 more.1 (more.2 ∙ two_here)).4;
      }
