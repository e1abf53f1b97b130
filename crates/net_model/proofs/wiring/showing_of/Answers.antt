use Rattle.std.proofs.Common.{◌≡◌, ◌∙◌, ◌+◌, ◌<◌, ◌≤◌, [], ◌∷◌, ◌++◌, ℕ, List, length, get_or, set, refl, sym, ap, subst, arith, mul-zero, length-append}
use Rattle.std.proofs.lemmas.List.{length-set, length-replicate, take_all}
use Rattle.std.specs.Prelude.{sum_by}
use Rattle.std.proofs.lemmas.List.Folds.{sum_by-replicate}
use Rattle.std.proofs.lemmas.List.Sums.{sum_by-set}
use Rattle.std.proofs.lemmas.Result.{IfOk-weaker}
use Rattle.net_model.specs.Circuit.{line_count}
use Rattle.net_model.specs.Topological.{parts_circuit, count_of, users_at}
use Rattle.net_model.specs.Wiring.{AreUsers, shows_at}
use Rattle.net_model.proofs.Elements.{get_or-replicate_anywhere}
use Rattle.net_model.proofs.UserLemmas.{longer_more}
use Rattle.net_model.proofs.WiringLemmas.{users_none, users_more}
use Rattle.net_model.proofs.wiring.showing_of.Goals as goal

pub loop-position-init : goal.loop-position-init
loop-position-init c =
    let lines = c.args.parts.now.sources + c.len.result in
    let none = c.in_ok-users.ensures in
    record {
      users = users_none (shows_at (parts_circuit c.args.parts.now)) lines c.in_ok-users.users none;
      whole = omega (arith, ap length none, length-replicate {A = List ℕ} lines [], c.len.ensures, c.args.parts.now.gates.ok.0);
      total = ap (sum_by length) none ∙ sum_by-replicate length lines [] ∙ mul-zero lines;
      long = λ line. ap (λ us. length (users_at us line)) none ∙ ap length (get_or-replicate_anywhere {A = List ℕ} lines line []);
    }

pub add-requires : goal.add-requires
add-requires c =
    let shown = c.deref-line-items.ensures.value in
    let position = c.loop-position.position in
    omega (arith, ap (λ ps. get_or ps position 0) shown, c.requires.positions position 0 (omega (arith, c.loop-position-test.true, ap length shown)), c.loop-position.invariant.whole)

pub loop-position-preserved : goal.loop-position-preserved
loop-position-preserved c =
    let circuit = parts_circuit c.args.parts.now in
    let positions = c.args.parts.now.positions.items in
    let position = c.loop-position.position in
    let users = c.loop-position.users in
    let line = get_or positions position 0 in
    let more = users_at users line ++ position ∷ [] in
    let there : get_or c.deref-line-items.result.now position 0 ≡ line = ap (λ ps. get_or ps position 0) c.deref-line-items.ensures.value in
    let under : position < length positions = omega (arith, c.loop-position-test.true, ap length c.deref-line-items.ensures.value) in
    let inside : line < length users = omega (arith, c.requires.positions position 0 under, c.loop-position.invariant.whole) in
    let now : c.add.new.self ≡ set users line more = c.in_ok-add.ensures.ok ∙ ap (λ l. set users l (users_at users l ++ position ∷ [])) there in
    rw now
    record {
      users = users_more (shows_at circuit) users line position refl inside c.loop-position.invariant.users;
      whole = length-set users line more ∙ c.loop-position.invariant.whole;
      total = omega (arith, sum_by-set length users line more [] inside, length-append (users_at users line) (position ∷ []), c.loop-position.invariant.total);
      long = λ l. let was = c.loop-position.invariant.long l in omega (arith, longer_more positions position position users under inside l 0 (omega (arith, was)));
    }

pub of_users-requires : goal.of_users-requires
of_users-requires c =
    let was = c.loop-position.invariant in
    record {
      lines = omega (arith, was.whole, c.requires.small);
      numbers = omega (arith, was.total, c.loop-position.auto.position-end, ap length c.deref-line-items.ensures.value, c.requires.small);
    }

pub returns-clause-users : goal.returns-clause-users
returns-clause-users c =
    let shown = shows_at (parts_circuit c.args.parts.now) in
    let count = length c.args.parts.now.positions.items in
    let users = AreUsers count shown in
    let all : c.loop-position.position ≡ count = omega (arith, c.loop-position-test.false, c.loop-position.auto.position-end, ap length c.deref-line-items.ensures.value) in
    let found = subst (λ n. AreUsers n shown c.loop-position.users) all c.loop-position.invariant.users in
    IfOk-weaker c.of_users.result (λ lists. lists ≡ c.loop-position.users) users (λ lists same. subst users (sym same) found) c.of_users.ensures

pub returns-clause-long : goal.returns-clause-long
returns-clause-long c =
    let positions = c.args.parts.now.positions.items in
    let all : length positions ≤ c.loop-position.position = omega (arith, c.loop-position-test.false, c.loop-position.auto.position-end, ap length c.deref-line-items.ensures.value) in
    IfOk-weaker c.of_users.result (λ lists. lists ≡ c.loop-position.users) (λ lists. (line : ℕ) → length (users_at lists line) ≡ count_of line positions)
    (λ lists same line. ap (λ us. length (users_at us line)) same ∙ (c.loop-position.invariant.long line ∙ ap (count_of line) (take_all c.loop-position.position positions all))) c.of_users.ensures

pub returns-clause-whole : goal.returns-clause-whole
returns-clause-whole c = IfOk-weaker c.of_users.result (λ lists. lists ≡ c.loop-position.users) (λ lists. length lists ≡ line_count (parts_circuit c.args.parts.now)) (λ lists same. ap length same ∙ c.loop-position.invariant.whole) c.of_users.ensures
