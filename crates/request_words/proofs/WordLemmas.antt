-- What a command's words ask for, by the definition of the command.
use Rattle.std.proofs.Common.{◌≡◌, ◌≢◌, Bool, true, false, List, [], ◌∷◌, Option, Some, None, Result, Ok, Err, inl, inr, refl, sym, ap, ap₂, ◌∙◌, ◌==◌, length, arith, if◌then◌else◌}
use Rattle.std.proofs.lemmas.Bool.{eqb-true, false_from_ne_true}
use Rattle.clap.specs.Words.{App, Rule, Row, app_of, rule_of, with_rule, fault_of, matches_of, is_simple_and_free, HasKind, Kinds, kind_of}
use Rattle.clap.specs.declared.error.Error.{Error}
use Rattle.clap.specs.declared.error.ErrorKind.TheVariants.{OutOfMemory}
use Rattle.clap.specs.Built.{AddsArg}
use Rattle.clap.specs.declared.builder.command.Command.{Command}
use Rattle.clap.specs.declared.builder.arg.Arg.{Arg}
use Rattle.std.specs.Result.{IfOk, IsErrAnd}
use Rattle.std.proofs.lemmas.Result.{IfOk-weaker}
use Rattle.clap.specs.Walk.{is_empty}
use Rattle.text_fields.specs.Fields.{Text}
use Rattle.request_words.specs.Request.{Request, asked_by, app_for, request_by, gen_app, check_app, dict_app, convert_app, diagnose_app, faults_app, sim_app, synth_app, compact_app, rank_app, adapt_app, follow_app, expect_app, suspects_app, cover_app, grade_app, topup_app, bridges_app}
use Rattle.request_words.specs.declared.request.Verb.{Verb}
use Rattle.request_words.specs.declared.request.Verb.TheVariants.{Gen, Check, Dict, Convert, Diagnose, Faults, Sim, Synth, Compact, Rank, Adapt, Follow, Expect, Suspects, Cover, Grade, TopUp, Bridges}

-- ---- each command is simple, and no argument has a rule on another

pub is_simple : (verb : Verb) → is_simple_and_free (app_for verb) ≡ true
unfolding gen_app check_app dict_app convert_app diagnose_app faults_app sim_app synth_app compact_app rank_app adapt_app follow_app expect_app suspects_app cover_app grade_app topup_app bridges_app
is_simple Gen = refl
is_simple Check = refl
is_simple Dict = refl
is_simple Convert = refl
is_simple Diagnose = refl
is_simple Faults = refl
is_simple Sim = refl
is_simple Synth = refl
is_simple Compact = refl
is_simple Rank = refl
is_simple Adapt = refl
is_simple Follow = refl
is_simple Expect = refl
is_simple Suspects = refl
is_simple Cover = refl
is_simple Grade = refl
is_simple TopUp = refl
is_simple Bridges = refl

-- a command with one more argument
pub added : {old new : Command} {arg : Arg} {app : App} {rule : Rule} → AddsArg old arg new → app_of old ≡ app → rule_of arg ≡ rule → arg.global ≡ false → app_of new ≡ with_rule app rule
added adds app_is rule_is local = adds.shape local ∙ ap₂ with_rule app_is rule_is

-- a command whose last argument is added by the call that returns it
pub added_last : {E : Type 0} (old : Command) (arg : Arg) {app : App} {rule : Rule} (r : Result Command E) → IfOk r (λ new. AddsArg old arg new)
    → app_of old ≡ app → rule_of arg ≡ rule → arg.global ≡ false → IfOk r (λ new. app_of new ≡ with_rule app rule)
added_last old arg {app} {rule} r adds app_is rule_is local =
    IfOk-weaker r (λ new. AddsArg old arg new) (λ new. app_of new ≡ with_rule app rule) (λ new one. added one app_is rule_is local) adds

-- a command that gets more rules, by a function of what it has
pub more_rules : {E : Type 0} (old : Command) {app : App} (more : App → App) (r : Result Command E) → app_of old ≡ app → IfOk r (λ new. app_of new ≡ more (app_of old)) → IfOk r (λ new. app_of new ≡ more app)
more_rules old {app} more r is = IfOk-weaker r (λ new. app_of new ≡ more (app_of old)) (λ new. app_of new ≡ more app) (λ new e. e ∙ ap more is)

-- a command that gets one more rule, by a call that returns it
pub rule_more : {E : Type 0} (old : Command) {app : App} (rule : Rule) (r : Result Command E) → app_of old ≡ app → IfOk r (λ new. app_of new ≡ with_rule (app_of old) rule) → IfOk r (λ new. app_of new ≡ with_rule app rule)
rule_more old {app} rule r is = more_rules old (λ (a : App). with_rule a rule) r is

pub named_more : {E : Type 0} (old : Command) {app : App} (first second : Rule) (r : Result Command E) → app_of old ≡ app → IfOk r (λ new. app_of new ≡ with_rule (with_rule (app_of old) first) second)
    → IfOk r (λ new. app_of new ≡ with_rule (with_rule app first) second)
named_more old first second r is = more_rules old (λ (a : App). with_rule (with_rule a first) second) r is

-- ---- words that are taken, and words that aren't

some_fault : {A : Type 0} (kinds : List A) → kinds ≢ [] → is_empty kinds ≡ false
some_fault [] some = absurd (some refl)
some_fault (k ∷ kinds) some = false_from_ne_true (length (k ∷ kinds) == 0) (λ e. absurd (omega (arith, eqb-true (length (k ∷ kinds)) 0 e)))

module _ (verb : Verb) (words : List Text) where
  abbrev asked_where : Bool → Option Request
  asked_where taken = if taken then request_by verb (matches_of (app_for verb) words) else None

  pub asked_taken : {rows : List Row} {r : Option Request} → fault_of (app_for verb) words ≡ [] → rows ≡ matches_of (app_for verb) words → r ≡ request_by verb rows → asked_by (Some verb) words ≡ r
  asked_taken {rows} {r} taken is asks = ap (λ kinds. asked_where (is_empty kinds)) taken ∙ ap (request_by verb) (sym is) ∙ sym asks

  pub asked_refused : fault_of (app_for verb) words ≢ [] → asked_by (Some verb) words ≡ None
  asked_refused some = ap asked_where (some_fault (fault_of (app_for verb) words) some)

-- an error other than missing memory has a kind
pub kind_left : (kinds : Kinds) (error : Error) → HasKind kinds error → kind_of error ≢ OutOfMemory → kinds ≢ []
kind_left [] error (inl memory) other none = absurd (other memory)
kind_left [] error (inr among) other none = absurd among
kind_left (k ∷ kinds) error has other none = absurd (cc)

-- a fault that `?` passed on
pub same_fault : {U E : Type 0} {x y : E} → ◌≡◌ {A = Result U E} (Err x) (Err y) → x ≡ y
same_fault e = cc

pub passed_on : {T U E : Type 0} (r : Result U E) (fault want : E) → IsErrAnd r (λ y. y ≡ fault) → r ≡ Err want → ◌≡◌ {A = Result T E} (Err fault) (Err want)
passed_on (Ok x) fault want and is = absurd and
passed_on (Err y) fault want same is = ap Err (sym same ∙ same_fault is)
