-- A walk through a tree: what is right at its cube, and how it continues.
use Rattle.std.proofs.Common.{◌≡◌, ℕ, zero, suc, ◌+◌, ◌<◌, List, [], ◌∷◌, ◌++◌, length, take, drop, below_more, refl, sym, ◌∙◌, ap, subst, arith}
use Rattle.std.specs.Prelude.{Bool, true, false, Option, None, Some, Vec, slice_get, reverse, cond, is_some, option_map, find, ◌==◌, ◌||◌, if◌then◌else◌}
use Rattle.std.specs.List.{list_any}
use Rattle.std.proofs.lemmas.List.{take_more, take_all, reverse-append}
use Rattle.std.proofs.lemmas.List.Sums.{fold-append}
use Rattle.std.proofs.lemmas.List.Sorted.{IsPermutation-reverse, list_any-IsPermutation}
use Rattle.std.specs.declared.alloc.Global.{Global}
use Rattle.net_model.specs.declared.fault.Fault.{Fault}
use Rattle.net_model.specs.Circuit.{Circuit}
use Rattle.net_model.specs.Scope.{is_relevant}
use Rattle.net_model.proofs.Elements.{none_is}
use Rattle.pair_sets.specs.declared.state.PairState.{PairState}
use Rattle.pair_sets.specs.declared.state.PairState.TheVariants.{AllSame, Undecided}
use Rattle.pair_sets.specs.declared.tree.Token.{Token}
use Rattle.pair_sets.specs.declared.tree.Token.TheVariants.{Split, Closed, Rest}
use Rattle.pair_sets.specs.Cube.{Cube, FixesOnce, fixed_bit}
use Rattle.pair_sets.specs.CubeState.{IsState}
use Rattle.pair_sets.specs.PairSim.{PairSim, pair_sim, with_cube}
use Rattle.pair_scope.specs.PairScope.{PairScope}
use Rattle.pair_sets.specs.Tree.{IsRightAt, IsTree, after_token, waiting_after, cube_at, token_at}
use Rattle.pair_sets.proofs.DecidedLemmas.{one_state}
use Rattle.pair_sets.proofs.TreeLemmas.{free_token}
use Rattle.evidence_rules.specs.declared.refusal.EvidenceKind.{EvidenceKind}
use Rattle.evidence_rules.specs.declared.refusal.EvidenceKind.TheVariants.{Covered, Refuted, Spent}
use Rattle.evidence_rules.specs.declared.refusal.RefusalKind.{RefusalKind}
use Rattle.evidence_rules.specs.declared.refusal.RefusalKind.TheVariants.{BadTree, LeafOpen, WrongCount}
use Rattle.refute_check.specs.declared.tree.Walk.{Walk}
use Rattle.evidence_rules.specs.TreeRefusal.{token_refusal, IsRightToken, IsRightTree, TreeRefused, at_token, too_short, wrong_count}
use Rattle.refute_check.specs.Walk.{second_halves, waiting_in, IsTreeWalk, IsRightIn, IsVerdict, HasGoneOn, AreRightCounts}

-- ---- a source on the path

any_fixed : (cube : Cube) (source : ℕ) → list_any (λ half. half.0 == source) cube ≡ is_some (fixed_bit cube source)
any_fixed [] source = refl
any_fixed (fixed ∷ cube) source = by (fixed.0 == source) (any_fixed cube source)
  where
    by : (b : Bool) → list_any (λ half. half.0 == source) cube ≡ is_some (fixed_bit cube source) → (b || list_any (λ half. half.0 == source) cube) ≡ is_some (option_map (λ half. half.1) (cond b (Some fixed) (find (λ half. half.0 == source) cube)))
    by true e = refl
    by false e = e

on_path : (path : Cube) (source : ℕ) → list_any (λ half. half.0 == source) path ≡ is_some (fixed_bit (reverse path) source)
on_path path source = list_any-IsPermutation (λ half. half.0 == source) path (reverse path) (IsPermutation-reverse path) ∙ any_fixed (reverse path) source

-- ---- the rules of the tokens

waiting_is : (walk : Walk) (cube : Cube) → walk.whole ≡ false → reverse walk.path.items ≡ cube → waiting_in walk ≡ cube ∷ second_halves cube
waiting_is walk cube whole r = λ i. if whole i then [] else (r i ∷ second_halves (r i))

module _ (walk : Walk) (w : IsTreeWalk walk) where
  path_free : (source : ℕ) → list_any (λ half. half.0 == source) walk.path.items ≡ is_some (fixed_bit walk.sim.cube source)
  path_free source = on_path walk.path.items source ∙ ap (λ cube. is_some (fixed_bit cube source)) (sym w.stands)

  same_state : (s t : PairState) → IsState walk.sim.circuit walk.sim.f walk.sim.g walk.sim.cube s → IsState walk.sim.circuit walk.sim.f walk.sim.g walk.sim.cube t → s ≡ t
  same_state s t p q = one_state walk.sim.circuit walk.sim.f walk.sim.g walk.sim.cube s t w.circuit p q

  relevant_is : (source : ℕ) → is_relevant walk.scope.circuit walk.scope.f walk.scope.g source ≡ is_relevant walk.sim.circuit walk.sim.f walk.sim.g source
  relevant_is source = ap (λ (s : PairScope). is_relevant s.circuit s.f s.g source) w.scope

  pub undecided_only : (s : PairState) → IsState walk.sim.circuit walk.sim.f walk.sim.g walk.sim.cube s → (s ≡ Undecided → ⊥) → IsState walk.sim.circuit walk.sim.f walk.sim.g walk.sim.cube Undecided → ⊥
  undecided_only s state other undecided = other (same_state s Undecided state undecided)

  pub leaf_open : (token : Token) → walk.whole ≡ false → token ≡ Closed → (s : PairState) → IsState walk.sim.circuit walk.sim.f walk.sim.g walk.sim.cube s → (s ≡ AllSame → ⊥) → IsVerdict walk token (Some LeafOpen)
  leaf_open token inside is s state other = (
    sym (λ i. token_refusal (slice_get (waiting_is walk walk.sim.cube inside (sym w.stands) i) 0) (is i)),
    λ right. other (same_state s AllSame state (subst (λ t. IsRightAt walk.sim.circuit walk.sim.f walk.sim.g t walk.sim.cube) is right.1)),
  )

  -- What a split needs besides an undecided cube.
  pub record IsFree (source : ℕ) : Type 0 where
    pub inside : source < walk.sources
    pub relevant : is_relevant walk.scope.circuit walk.scope.f walk.scope.g source ≡ true
    pub free : list_any (λ half. half.0 == source) walk.path.items ≡ false

  pub split_right : (source : ℕ) → IsFree source → IsState walk.sim.circuit walk.sim.f walk.sim.g walk.sim.cube Undecided → IsRightAt walk.sim.circuit walk.sim.f walk.sim.g (Split source) walk.sim.cube
  split_right source free undecided = (
    omega (arith, free.inside, w.sources),
    sym (relevant_is source) ∙ free.relevant,
    none_is (fixed_bit walk.sim.cube source) (sym (path_free source) ∙ free.free),
    undecided,
  )

  pub split_free : (source : ℕ) → IsRightAt walk.sim.circuit walk.sim.f walk.sim.g (Split source) walk.sim.cube → IsFree source
  split_free source right =
      let inside : source < walk.sources = omega (arith, right.0, w.sources) in
      record { inside = inside; relevant = relevant_is source ∙ right.1; free = path_free source ∙ ap is_some right.2 }

-- ---- the way up

-- The walk is higher up, and as many second halves wait as at first.
pub record GoesUp (start now : Walk) : Type 0 where
  pub walk : IsTreeWalk now
  pub same : now.sim ≡ with_cube start.sim now.sim.cube
  pub inside : now.whole ≡ false
  pub halves : second_halves now.sim.cube ≡ second_halves start.sim.cube

module _ (start walk : Walk) (up : GoesUp start walk) (rest : Vec (ℕ × Bool) Global) (half : ℕ × Bool) (split : walk.path.items ≡ rest.items ++ half ∷ []) where
  pub last_first : walk.sim.cube ≡ half ∷ reverse rest.items
  last_first = up.walk.stands ∙ (ap reverse split ∙ reverse-append rest.items (half ∷ []))

  pub last_once : FixesOnce walk.sim.circuit.sources (half ∷ reverse rest.items)
  last_once = subst (FixesOnce walk.sim.circuit.sources) last_first up.walk.once

  halves_of : (bit : Bool) → half.1 ≡ bit → (if bit then second_halves (reverse rest.items) else ((half.0, true) ∷ reverse rest.items) ∷ second_halves (reverse rest.items)) ≡ second_halves start.sim.cube
  halves_of bit e =
      sym (ap second_halves last_first ∙ ap (λ bit. if bit then second_halves (reverse rest.items) else ((half.0, true) ∷ reverse rest.items) ∷ second_halves (reverse rest.items)) e) ∙ up.halves

  module _ (sim : PairSim) (undone : sim ≡ with_cube walk.sim (drop 1 walk.sim.cube)) where
    pub is_undone : sim ≡ with_cube walk.sim (reverse rest.items)
    is_undone = undone ∙ ap (λ cube. with_cube walk.sim (drop 1 cube)) last_first

    pub up_more : half.1 ≡ true → GoesUp start (record walk { sim = sim; path = rest })
    up_more bit = subst (λ sim. GoesUp start (record walk { sim = sim; path = rest })) (sym is_undone) (record {
      walk = record { circuit = up.walk.circuit; stands = refl; once = last_once.2; scope = up.walk.scope; sources = up.walk.sources };
      same = ap (λ sim. with_cube sim (reverse rest.items)) up.same;
      inside = up.inside;
      halves = halves_of true bit;
    })

    pub second_half : half.1 ≡ false → (path : Vec (ℕ × Bool) Global) (down : PairSim) → path.items ≡ rest.items ++ (half.0, true) ∷ [] → down ≡ with_cube sim ((half.0, true) ∷ sim.cube)
        → HasGoneOn start (record walk { sim = down; path = path }) (second_halves start.sim.cube)
    second_half bit path down pushed assigned =
        let cube = (half.0, true) ∷ reverse rest.items in
        let new = record walk { sim = with_cube walk.sim cube; path = path } in
        let stands : reverse path.items ≡ cube = ap reverse pushed ∙ reverse-append rest.items ((half.0, true) ∷ []) in
        subst (λ sim. HasGoneOn start (record walk { sim = sim; path = path }) (second_halves start.sim.cube)) (sym (assigned ∙ ap (λ (sim : PairSim). with_cube sim ((half.0, true) ∷ sim.cube)) is_undone)) (record {
          walk = record { circuit = up.walk.circuit; stands = sym stands; once = last_once; scope = up.walk.scope; sources = up.walk.sources };
          same = ap (λ sim. with_cube sim cube) up.same;
          waiting = waiting_is new cube up.inside stands ∙ halves_of false bit;
        })

-- ---- the whole tree

-- The tokens before the step are right, and the walk is after them.
pub record HasCome (c : Circuit) (f g : Fault) (tokens : List Token) (step : ℕ) (walk : Walk) : Type 0 where
  pub walk_is : IsTreeWalk walk
  pub same : walk.sim ≡ pair_sim c f g walk.sim.cube
  pub waiting : waiting_in walk ≡ waiting_after (take step tokens)
  pub right : (k : ℕ) → k < step → IsRightToken c f g tokens k

module _ (c : Circuit) (f g : Fault) (tokens : List Token) (tree : IsTree c f g tokens) where
  counts_of : (kind : EvidenceKind) (limit : ℕ) → IsRightTree c f g kind limit tokens → AreRightCounts kind limit tokens
  counts_of Covered limit right = (right.covered, right.few)
  counts_of Refuted limit right = (right.open_leaf, right.full)
  counts_of Spent limit right = (right.open_leaf, right.full)

  -- a tree with the right counts is right, and with others is refused
  pub tree_counted : (kind : EvidenceKind) (limit : ℕ) → AreRightCounts kind limit tokens → IsRightTree c f g kind limit tokens
  tree_counted Covered limit counts = record { tree = tree; covered = counts.0; few = counts.1 }
  tree_counted Refuted limit counts = record { tree = tree; open_leaf = counts.0; full = counts.1 }
  tree_counted Spent limit counts = record { tree = tree; open_leaf = counts.0; full = counts.1 }

  pub tree_miscounted : (kind : EvidenceKind) (limit : ℕ) → (AreRightCounts kind limit tokens → ⊥) → TreeRefused c f g kind limit tokens (record { kind = WrongCount; step = length tokens })
  tree_miscounted kind limit wrong = wrong_count tree (λ right. wrong (counts_of kind limit right)) refl

-- an open leaf alone is a tree
pub leaf_is_tree : (c : Circuit) (f g : Fault) (tokens : List Token) → tokens ≡ Rest ∷ [] → IsTree c f g tokens
leaf_is_tree c f g tokens is =
    subst (IsTree c f g) (sym is)
    (record {
      shape = record { whole = refl; free = λ at h. let r = only at h in (r.0, r.1, free_token c f g (token_at (Rest ∷ []) at) r.0 r.2) };
      each = only;
    })
  where
    only : (at : ℕ) → at < length (Rest ∷ []) → (cube : Cube) × (cube_at (Rest ∷ []) at ≡ Some cube) × IsRightAt c f g (token_at (Rest ∷ []) at) cube
    only zero h = ([], refl, tt)
    only (suc at) h = absurd (omega (arith, h))

module _ (c : Circuit) (f g : Fault) (tokens : List Token) where
  module _ (step : ℕ) (walk : Walk) (come : HasCome c f g tokens step walk) where
    cube_here : walk.whole ≡ false → cube_at tokens step ≡ Some walk.sim.cube
    cube_here inside = sym (ap (λ cubes. slice_get cubes 0) come.waiting) ∙ ap (λ cubes. slice_get cubes 0) (waiting_is walk walk.sim.cube inside (sym come.walk_is.stands))

    right_here : (token : Token) → token ≡ token_at tokens step → IsRightIn walk token → IsRightToken c f g tokens step
    right_here token is right = (
      walk.sim.cube,
      cube_here right.0,
      subst (λ t. IsRightAt c f g t walk.sim.cube) is (subst (λ (s : PairSim). IsRightAt s.circuit s.f s.g token walk.sim.cube) come.same right.1),
    )

    no_cube : walk.whole ≡ true → (cube : Cube) → cube_at tokens step ≡ Some cube → ⊥
    no_cube whole cube e =
        let none : ◌≡◌ {A = Option Cube} None (Some cube) =
        ap (λ cubes. slice_get cubes 0) (sym (λ i. if whole i then [] else (reverse walk.path.items ∷ second_halves (reverse walk.path.items)))) ∙ ap (λ cubes. slice_get cubes 0) come.waiting ∙ e in
        cc

    right_from : (token : Token) → token ≡ token_at tokens step → IsRightToken c f g tokens step → IsRightIn walk token
    right_from token is right = by walk.whole refl
      where
        by : (whole : Bool) → walk.whole ≡ whole → IsRightIn walk token
        by true e = absurd (no_cube e right.0 right.1)
        by false e =
            let both : ◌≡◌ {A = Option Cube} (Some right.0) (Some walk.sim.cube) = sym right.1 ∙ cube_here e in
            let same : right.0 ≡ walk.sim.cube = cc in (
              e,
              subst (λ (s : PairSim). IsRightAt s.circuit s.f s.g token walk.sim.cube) (sym come.same)
                  (subst (λ t. IsRightAt c f g t walk.sim.cube) (sym is) (subst (IsRightAt c f g (token_at tokens step)) same right.2)),
            )

    pub come_more : (token : Token) (new : Walk) → step < length tokens → token ≡ token_at tokens step → IsRightIn walk token → HasGoneOn walk new (after_token (waiting_in walk) token) → HasCome c f g tokens (step + 1) new
    come_more token new inside is right goes = record {
      walk_is = goes.walk;
      same = goes.same ∙ (λ i. with_cube (come.same i) new.sim.cube);
      waiting =
          goes.waiting ∙ (λ i. after_token (come.waiting i) (is i))
          ∙ sym (ap waiting_after (take_more tokens step Rest inside) ∙ fold-append after_token ([] ∷ []) (take step tokens) (token_at tokens step ∷ []));
      right = below_more (IsRightToken c f g tokens) step come.right (right_here token is right);
    }

    pub token_refused : (kind : EvidenceKind) (limit : ℕ) (token : Token) (why : RefusalKind) → step < length tokens → token ≡ token_at tokens step → IsVerdict walk token (Some why)
        → TreeRefused c f g kind limit tokens (record { kind = why; step = step })
    token_refused kind limit token why inside is verdict =
        at_token step (record { inside = inside; before = come.right; wrong = λ right. verdict.1 (right_from token is right) })
        (λ i. record { kind = (verdict.0 ∙ (λ j. token_refusal (slice_get (come.waiting j) 0) (is j))) i; step = step })

  module _ (step : ℕ) (walk : Walk) (come : HasCome c f g tokens step walk) (all : step ≡ length tokens) (kind : EvidenceKind) (limit : ℕ) where
    waiting_all : waiting_in walk ≡ waiting_after tokens
    waiting_all = come.waiting ∙ ap waiting_after (take_all step tokens (omega (arith, all)))

    right_all : (k : ℕ) → k < length tokens → IsRightToken c f g tokens k
    right_all k h = come.right k (omega (arith, h, all))

    pub end_refused : walk.whole ≡ false → TreeRefused c f g kind limit tokens (record { kind = BadTree; step = length tokens })
    end_refused inside = too_short right_all
        (λ none. let e : ◌≡◌ {A = List Cube} (walk.sim.cube ∷ second_halves walk.sim.cube) [] = sym (waiting_is walk walk.sim.cube inside (sym come.walk_is.stands)) ∙ waiting_all ∙ none in cc) refl

    tree_is : walk.whole ≡ true → IsTree c f g tokens
    tree_is whole = record {
      shape = record {
        whole = sym waiting_all ∙ (λ i. if whole i then [] else (reverse walk.path.items ∷ second_halves (reverse walk.path.items)));
        free = λ at h. let right = right_all at h in (right.0, right.1, free_token c f g (token_at tokens at) right.0 right.2);
      };
      each = right_all;
    }

    pub counts_refused : walk.whole ≡ true → (AreRightCounts kind limit tokens → ⊥) → TreeRefused c f g kind limit tokens (record { kind = WrongCount; step = length tokens })
    counts_refused whole wrong = tree_miscounted c f g tokens (tree_is whole) kind limit wrong

    pub tree_right : walk.whole ≡ true → AreRightCounts kind limit tokens → IsRightTree c f g kind limit tokens
    tree_right whole counts = tree_counted c f g tokens (tree_is whole) kind limit counts
