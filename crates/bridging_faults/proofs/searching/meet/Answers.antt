use Rattle.std.proofs.Common.{◌≡◌, ◌∙◌, sym, subst, inl}
use Rattle.std.specs.Prelude.{true, OnOk, Result, Ok, Err}
use Rattle.bridging_faults.specs.declared.bridge.Bridge.{Bridge}
use Rattle.bridging_faults.specs.Bridge.{IsBridgeOf}
use Rattle.bridging_faults.specs.Met.{is_apart, IsFoundBy}
use Rattle.bridging_faults.specs.Told.{IsTold}
use Rattle.bridging_faults.specs.Tried.{IsTried}
use Rattle.bridging_faults.proofs.Computed.{apart_facts}
use Rattle.bridging_faults.proofs.MetLemmas.{met_line}
use Rattle.bridging_faults.proofs.searching.meet.Goals as goal

all_ok : {T E : Type 0} (r : Result T E) (A B C P : Type 0) → OnOk r A → OnOk r B → OnOk r C → (A → B → C → P) → OnOk r P
all_ok (Ok x) A B C P a b d f = f a b d
all_ok (Err e) A B C P a b d f = tt

pub add-requires-clause-new : goal.add-requires-clause-new
add-requires-clause-new c = c.requires.new c.in-Some.scored c.in-Some.ensures.some.bridge (c.meets.ensures.0 c.if-not-meets.false)

pub is_apart-requires-clause-one : goal.is_apart-requires-clause-one
is_apart-requires-clause-one c =
    met_line c.args.cones.now.circuit.now c.args.sought.now.rows c.args.sought.now.chosen.items c.args.x c.args.bridge (c.meets.ensures.0 c.if-not-meets.false)

pub returns-clause-tried : goal.returns-clause-tried
returns-clause-tried c =
    let circuit = c.args.cones.now.circuit.now in
    let b = c.args.bridge in
    let m = c.args.sought.now.rows in
    let s = c.in-Some.scored in
    let told = c.in-Some.ensures.some in
    let apart : is_apart circuit b ≡ true = sym c.is_apart.ensures ∙ c.if-not-is_apart.false in
    let facts = apart_facts circuit c.requires.ready.circuit b apart c.requires.first c.requires.second in
    let back = sym told.bridge in
    let Told : Bridge → Type 0 = λ z. IsTold m z c.args.sought.now.within s in
    let Apart : Bridge → Type 0 = λ z. is_apart circuit z ≡ true in
    let found : IsFoundBy circuit m c.args.sought.now.within s = record { bridge = subst (IsBridgeOf circuit) back facts.0; apart = subst Apart back apart; told = subst Told back told } in
    all_ok c.add.result _ _ _ (IsTried circuit c.args.sought.now b c.args.x c.args.best.now c.add.new.self) c.add.ensures.listed c.add.ensures.found c.add.ensures.exact
    (λ listed one exact. inl record {
      s = s;
      found = found;
      bridge = told.bridge;
      at = c.meets.ensures.0 c.if-not-meets.false;
      listed = listed;
      most = c.add.ensures.most;
      one_found = one;
      exact = exact;
    })
