use Rattle.std.proofs.Common.{◌≡◌, ℕ, subst, Option, List, Result, arith}
use Rattle.std.specs.Str.Parse.{ParsesUnsigned, ExplainsUnsignedError, HasUnsignedDigitsIfOk}
use Rattle.std.specs.declared.num.ParseIntError.{ParseIntError}
use Rattle.clap.specs.Words.{found_of, rows_of, one_text, one_of}
use Rattle.clap.specs.declared.parser.matches.ArgMatches.{ArgMatches}
use Rattle.clap.proofs.WalkLemmas.{one_text-rows}
use Rattle.request_words.specs.Arguments.{number_from}
use Rattle.request_words.proofs.NumberWords.{number_read, number_unread}
use Rattle.request_words.proofs.arguments.number_in.Goals as goal

abbrev gives : List ℕ → Result ℕ ParseIntError → Type 0
gives t r = ParsesUnsigned 32 10 t r × ExplainsUnsignedError 10 t r × HasUnsignedDigitsIfOk t r

-- what is read of an id, as the definition has it
read_by : (P : Option (List ℕ) → Type 0) (m : ArgMatches) (id : List ℕ) → P (one_text (found_of m) id) → P (one_of id (rows_of (found_of m)))
read_by P m id h = subst P (one_text-rows (found_of m) id) h

pub returns-in-Some-clause-number : goal.returns-in-Some-clause-number
returns-in-Some-clause-number c =
    read_by (λ (o : Option (List ℕ)). c.in-Some.number ≡ number_from c.args.least c.args.most o) c.args.matches.now c.args.id.now
    (number_read gives (λ t x g. g.0) c.args.least c.args.most (omega arith) _ c.get_one.result c.in-Some.number c.get_one.ensures.none c.get_one.ensures.value c.in-Some.is (omega arith) (omega arith))

pub returns-in_default-clause-number : goal.returns-in_default-clause-number
returns-in_default-clause-number c =
    read_by (λ (o : Option (List ℕ)). c.args.least ≡ number_from c.args.least c.args.most o) c.args.matches.now c.args.id.now
    (number_unread gives (λ t x g. g.0) c.args.least c.args.most (omega arith) _ c.get_one.result c.get_one.ensures.value (λ v is low high. let same : v ≡ c.in-Some.number = (cc) in omega arith))

pub returns-in_default-2-clause-number : goal.returns-in_default-2-clause-number
returns-in_default-2-clause-number c =
    read_by (λ (o : Option (List ℕ)). c.args.least ≡ number_from c.args.least c.args.most o) c.args.matches.now c.args.id.now
    (number_unread gives (λ t x g. g.0) c.args.least c.args.most (omega arith) _ c.get_one.result c.get_one.ensures.value (λ v is low high. let same : v ≡ c.in-Some.number = (cc) in omega arith))

pub returns-in_default-3-clause-number : goal.returns-in_default-3-clause-number
returns-in_default-3-clause-number c =
    read_by (λ (o : Option (List ℕ)). c.args.least ≡ number_from c.args.least c.args.most o) c.args.matches.now c.args.id.now
    (number_unread gives (λ t x g. g.0) c.args.least c.args.most (omega arith) _ c.get_one.result c.get_one.ensures.value (λ v is low high. absurd (cc)))
