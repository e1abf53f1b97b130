use Rattle.std.proofs.Common.{◌≡◌, ◌∙◌, ◌++◌, ◌↔◌, Bool, Option, None, List, length, take, drop, get_or, sym, ap, subst, arith}
use Rattle.std.proofs.lemmas.Bool.{false≢true}
use Rattle.std.proofs.Math.Seq.{take-append_seam}
use Rattle.kept_vectors.specs.Cube.{IsOfCube}
use Rattle.kept_vectors.proofs.CubeLemmas.{DoAgree, IsBound, of_both}
use Rattle.kept_vectors.proofs.cube.Cube.join.Goals as goal
use Rattle.kept_vectors.proofs.cube.Cube.join.Goals.{After-bind}

bound : (c : After-bind) → IsBound c.args.self.now c.args.other.now c.bind.new.cube
bound c =
    let other = c.args.other.now in
    let old : c.as_slice.result.now ≡ c.args.self.now = c.as_slice.ensures.value ∙ c.self.view_is in
    let before : c.as_mut_slice.result.now ≡ c.args.self.now = c.as_mut_slice.ensures.value ∙ c.self.view_is in
    record {
      width = c.bind.ensures.width ∙ ap length before;
      also = c.requires;
      agree = λ source. subst (λ (xs : List (Option Bool)). DoAgree xs other source) old (c.contradict.ensures.agree (λ is. false≢true (sym c.if-contradict.false ∙ is)) source);
      bound = c.bind.ensures.bound;
      free = λ source none. c.bind.ensures.free source none ∙ ap (λ (xs : List (Option Bool)). get_or xs source None) before;
    }

pub returns-clause-joined : goal.returns-clause-joined
returns-clause-joined c = λ is v.
    let new = c.bind.new.cube in
    let items = c.self.inside.bits.items in
    let one = bound (goal.at.returns-clause-joined c).After-bind in
    let long : c.self.inside.bits.len ≡ length new = omega (arith, one.width, ap length c.self.view_is, c.self.inside.bits.ok.0) in
    let written : new ≡ take c.self.inside.bits.len (new ++ drop (length new) items) = sym (ap (λ n. take n (new ++ drop (length new) items)) long ∙ take-append_seam new (drop (length new) items)) in
    subst (λ (xs : List (Option Bool)). IsOfCube xs v ↔ (IsOfCube c.args.self.now v × IsOfCube c.args.other.now v)) written (of_both one v)
