use Rattle.std.proofs.Common.{◌≡◌, List, [], ◌∷◌, refl, ◌∙◌, ap, true, false}
use Rattle.std.specs.Prelude.{Bool, Option, Some, None, codes, find, option_map, if◌then◌else◌}
use Rattle.std.specs.Str.{str_eq_ignore_ascii_case}
use Rattle.net_model.specs.declared.gate.Kind.TheVariants.{And, Nand, Or, Nor, Xor, Xnor, Not, Buff, Mux, Const0, Const1}
use Rattle.text_fields.specs.Fields.{Text}
use Rattle.bench_reader.specs.Grammar.{Driver, gate_driver, flip_flop_driver, driver_of, is_word}
use Rattle.bench_reader.proofs.word.driver_of.Goals as goal

-- the meaning of a word by some of the table's entries
abbrev said : Text → List (Text × Driver) → Option Driver
said word entries = option_map (λ x. x.1) (find (λ x. str_eq_ignore_ascii_case word x.0) entries)

record Says (word : Text) (entries : List (Text × Driver)) (o : Option Driver) : Type 0 where
  said_is : o ≡ said word entries

nothing : (word : Text) → Says word [] None
nothing word = record { said_is = refl }

-- one entry before others
before : {rest : List (Text × Driver)} {found result : Option Driver} (word : Text) (entry : Text × Driver)
    → Says word rest found → result ≡ (if is_word entry.0 word then Some entry.1 else found) → Says word (entry ∷ rest) result
before {rest} {found} word entry e f = record { said_is = f ∙ ap (λ o. if is_word entry.0 word then Some entry.1 else o) e.said_is ∙ by (is_word entry.0 word) }
  where
    by : (test : Bool) → (if test then Some entry.1 else said word rest) ≡ option_map (λ x. x.1) (if test then Some entry else find (λ x. str_eq_ignore_ascii_case word x.0) rest)
    by true = refl
    by false = refl

pub returns : goal.returns
unfolding driver_of
returns c =
    let word = c.args.word.now in
    let o1 = before word (codes "CONST1", gate_driver Const1) (nothing word) (rw c.as_slice.ensures at c.says-found.ensures) in
    let o2 = before word (codes "CONST0", gate_driver Const0) o1 (rw c.as_slice-2.ensures at c.says-found-2.ensures) in
    let o3 = before word (codes "MUX", gate_driver Mux) o2 (rw c.as_slice-3.ensures at c.says-found-3.ensures) in
    let o4 = before word (codes "DFF", flip_flop_driver) o3 (rw c.as_slice-4.ensures at c.says-found-4.ensures) in
    let o5 = before word (codes "BUF", gate_driver Buff) o4 (rw c.as_slice-5.ensures at c.says-found-5.ensures) in
    let o6 = before word (codes "BUFF", gate_driver Buff) o5 (rw c.as_slice-6.ensures at c.says-found-6.ensures) in
    let o7 = before word (codes "NOT", gate_driver Not) o6 (rw c.as_slice-7.ensures at c.says-found-7.ensures) in
    let o8 = before word (codes "XNOR", gate_driver Xnor) o7 (rw c.as_slice-8.ensures at c.says-found-8.ensures) in
    let o9 = before word (codes "XOR", gate_driver Xor) o8 (rw c.as_slice-9.ensures at c.says-found-9.ensures) in
    let o10 = before word (codes "NOR", gate_driver Nor) o9 (rw c.as_slice-10.ensures at c.says-found-10.ensures) in
    let o11 = before word (codes "OR", gate_driver Or) o10 (rw c.as_slice-11.ensures at c.says-found-11.ensures) in
    let o12 = before word (codes "NAND", gate_driver Nand) o11 (rw c.as_slice-12.ensures at c.says-found-12.ensures) in
    let o13 = before word (codes "AND", gate_driver And) o12 (rw c.as_slice-13.ensures at c.says-found-13.ensures) in
    o13.said_is
