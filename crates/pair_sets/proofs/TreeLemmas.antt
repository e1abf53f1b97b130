-- Trees: their tokens one after another, two trees joined by a split, and what the leaves say.
use Rattle.std.proofs.Common.{◌≡◌, ℕ, zero, suc, ◌+◌, ◌-◌, ◌^◌, ◌<◌, ◌≤◌, refl, sym, ◌∙◌, ap, subst, arith, length, take, inl, inr}
use Rattle.std.specs.Prelude.{Bool, true, false, List, [], ◌∷◌, ◌++◌, fold, slice_get, Option, None, Some, ◌⊎◌, cond, Contains, ⊤}
use Rattle.std.proofs.Math.Nat.{one-le-pow, two-pow-succ}
use Rattle.std.proofs.lemmas.Bool.{false≢true}
use Rattle.std.proofs.lemmas.List.Sums.{fold-append, sum_by-cons}
use Rattle.net_model.specs.declared.fault.Fault.{Fault}
use Rattle.net_model.specs.Circuit.{Circuit, IsCircuit}
use Rattle.net_model.specs.Answer.{bit_at, AreEqual}
use Rattle.net_model.proofs.Copies.{later}
use Rattle.net_model.proofs.Elements.{first_or_later, none_in}
use Rattle.pair_sets.specs.declared.state.PairState.TheVariants.{AllSame}
use Rattle.pair_sets.specs.declared.tree.Token.{Token}
use Rattle.pair_sets.specs.declared.tree.Token.TheVariants.{Split, Closed, Rest}
use Rattle.pair_sets.specs.Cube.{Cube, FixesOnce, InCube, IsClosed}
use Rattle.pair_sets.specs.CubeState.{IsState}
use Rattle.pair_sets.specs.Laws.{LiesInLeaf, HasVector}
use Rattle.pair_sets.specs.Tree.{after_token, cube_at, token_at, is_leaf, is_closed, closed_count, IsLeafAt, SplitsFree, HasTreeShape, IsRightAt, IsTree, IsCovering, IsSpending}
use Rattle.pair_sets.specs.Subtree.{EachAt, IsSubtree}
use Rattle.pair_sets.proofs.CubeLemmas.{few_fixed, vector_of}
use Rattle.pair_sets.proofs.StateLemmas.{same_closed}

-- ---- closed leaves counted

pub closed_after_split : (source : ℕ) (tokens : List Token) → closed_count (Split source ∷ tokens) ≡ closed_count tokens
closed_after_split source tokens = omega (arith, sum_by-cons (λ token. cond (is_closed token) 1 0) (Split source) tokens)

pub closed_after_closed : (tokens : List Token) → closed_count (Closed ∷ tokens) ≡ 1 + closed_count tokens
closed_after_closed tokens = sum_by-cons (λ token. cond (is_closed token) 1 0) Closed tokens

pub closed_after_open : (tokens : List Token) → closed_count (Rest ∷ tokens) ≡ closed_count tokens
closed_after_open tokens = omega (arith, sum_by-cons (λ token. cond (is_closed token) 1 0) Rest tokens)

-- ---- token by token

-- the token at the place has the property at the first cube that waits for it
abbrev HasAt : (Token → Cube → Type 0) → List Cube → List Token → ℕ → Type 0
HasAt P waiting tokens at = (cube : Cube) × (slice_get (fold after_token waiting (take at tokens)) 0 ≡ Some cube) × P (token_at tokens at) cube

module _ (P : Token → Cube → Type 0) where
  has_at : (waiting : List Cube) (tokens : List Token) → EachAt P waiting tokens → (at : ℕ) → at < length tokens → HasAt P waiting tokens at
  has_at waiting [] r at h = absurd (omega (arith, h))
  has_at [] (token ∷ tokens) r at h = absurd r
  has_at (cube ∷ waiting) (token ∷ tokens) r zero h = (cube, refl, r.0)
  has_at (cube ∷ waiting) (token ∷ tokens) r (suc at) h = has_at (after_token (cube ∷ waiting) token) tokens r.1 at (omega (arith, h))

  each_at : (waiting : List Cube) (tokens : List Token) → ((at : ℕ) → at < length tokens → HasAt P waiting tokens at) → EachAt P waiting tokens
  each_at waiting [] h = tt
  each_at [] (token ∷ tokens) h = let none : ◌≡◌ {A = Option Cube} None (Some (h 0 (omega arith)).0) = (h 0 (omega arith)).1 in cc
  each_at (cube ∷ waiting) (token ∷ tokens) h =
      let first = h 0 (omega arith) in
      let same : ◌≡◌ {A = Option Cube} (Some cube) (Some first.0) = first.1 in
      let here : first.0 ≡ cube = cc in (
        subst (P token) here first.2,
        each_at (after_token (cube ∷ waiting) token) tokens (λ at k. h (suc at) (omega (arith, k))),
      )

  each_both : (waiting : List Cube) (first second : List Token) → EachAt P waiting first → EachAt P (fold after_token waiting first) second → EachAt P waiting (first ++ second)
  each_both waiting [] second r s = s
  each_both [] (token ∷ tokens) second r s = absurd r
  each_both (cube ∷ waiting) (token ∷ tokens) second r s = (r.0, each_both (after_token (cube ∷ waiting) token) tokens second r.1 s)

-- ---- leaves

module _ (v : List Bool) where
  -- one of the cubes has the vector
  abbrev InSome : List Cube → Type 0
  InSome [] = ⊥
  InSome (cube ∷ cubes) = InCube cube v ⊎ InSome cubes

  -- no two of the cubes have the vector
  abbrev AreApart : List Cube → Type 0
  AreApart [] = ⊤
  AreApart (cube ∷ cubes) = (InCube cube v → InSome cubes → ⊥) × AreApart cubes

  come_from : (waiting : List Cube) (token : Token) → InSome (after_token waiting token) → InSome waiting
  come_from [] token i = i
  come_from (cube ∷ waiting) (Split source) i = elim i [ inl low ↦ inl low.1 | inr more ↦ elim more [ inl high ↦ inl high.1 | inr rest ↦ inr rest ] ]
  come_from (cube ∷ waiting) Closed i = inr i
  come_from (cube ∷ waiting) Rest i = inr i

  first_waits : (waiting : List Cube) (cube : Cube) → slice_get waiting 0 ≡ Some cube → InCube cube v → InSome waiting
  first_waits [] cube e i = let none : ◌≡◌ {A = Option Cube} None (Some cube) = e in cc
  first_waits (other ∷ waiting) cube e i = let first : ◌≡◌ {A = Option Cube} (Some other) (Some cube) = e in let same : cube ≡ other = cc in inl (subst (λ k. InCube k v) same i)

  -- the cube of a later token lies in a cube that waits
  stood_at : (waiting : List Cube) (tokens : List Token) (at : ℕ) (cube : Cube) → slice_get (fold after_token waiting (take at tokens)) 0 ≡ Some cube → InCube cube v → InSome waiting
  stood_at waiting tokens zero cube e i = first_waits waiting cube e i
  stood_at waiting [] (suc at) cube e i = first_waits waiting cube e i
  stood_at waiting (token ∷ tokens) (suc at) cube e i = come_from waiting token (stood_at (after_token waiting token) tokens at cube e i)

  apart_after : (waiting : List Cube) (token : Token) → AreApart waiting → AreApart (after_token waiting token)
  apart_after [] token a = tt
  apart_after (cube ∷ waiting) (Split source) a = (λ low i. elim i [ inl high ↦ absurd (false≢true (sym low.0 ∙ high.0)) | inr rest ↦ a.0 low.1 rest ], (λ high rest. a.0 high.1 rest, a.1))
  apart_after (cube ∷ waiting) Closed a = a.1
  apart_after (cube ∷ waiting) Rest a = a.1

  -- after a leaf all cubes wait except the first
  behind_leaf : (cube : Cube) (waiting : List Cube) (token : Token) → is_leaf token ≡ true → after_token (cube ∷ waiting) token ≡ waiting
  behind_leaf cube waiting (Split source) leaf = cc
  behind_leaf cube waiting Closed leaf = refl
  behind_leaf cube waiting Rest leaf = refl

  first_leaf : (waiting : List Cube) (token : Token) (tokens : List Token) (here there : Cube) (other : ℕ) → AreApart waiting → slice_get waiting 0 ≡ Some here → is_leaf token ≡ true
      → slice_get (fold after_token (after_token waiting token) (take other tokens)) 0 ≡ Some there → InCube here v → InCube there v → ⊥
  first_leaf [] token tokens here there other a e leaf f i j = let none : ◌≡◌ {A = Option Cube} None (Some here) = e in cc
  first_leaf (cube ∷ waiting) token tokens here there other a e leaf f i j =
      let first : ◌≡◌ {A = Option Cube} (Some cube) (Some here) = e in
      let same : here ≡ cube = cc in
      a.0 (subst (λ k. InCube k v) same i) (subst InSome (behind_leaf cube waiting token leaf) (stood_at (after_token (cube ∷ waiting) token) tokens other there f j))

  one_leaf : (waiting : List Cube) (tokens : List Token) → AreApart waiting → (at other : ℕ) (here there : Cube) → at < length tokens → other < length tokens → is_leaf (token_at tokens at) ≡ true → is_leaf (token_at tokens other) ≡ true
      → slice_get (fold after_token waiting (take at tokens)) 0 ≡ Some here → slice_get (fold after_token waiting (take other tokens)) 0 ≡ Some there → InCube here v → InCube there v → at ≡ other
  one_leaf waiting [] a at other here there h k l m e f i j = absurd (omega (arith, h))
  one_leaf waiting (token ∷ tokens) a zero zero here there h k l m e f i j = refl
  one_leaf waiting (token ∷ tokens) a zero (suc other) here there h k l m e f i j = absurd (first_leaf waiting token tokens here there other a e l f i j)
  one_leaf waiting (token ∷ tokens) a (suc at) zero here there h k l m e f i j = absurd (first_leaf waiting token tokens there here at a f m e j i)
  one_leaf waiting (token ∷ tokens) a (suc at) (suc other) here there h k l m e f i j =
      ap suc (one_leaf (after_token waiting token) tokens (apart_after waiting token a) at other here there (omega (arith, h)) (omega (arith, k)) l m e f i j)

  -- the place of the leaf whose cube has the vector
  abbrev HasLeaf : List Cube → List Token → Type 0
  HasLeaf waiting tokens = (at : ℕ) × (cube : Cube) × (at < length tokens) × (is_leaf (token_at tokens at) ≡ true) × (slice_get (fold after_token waiting (take at tokens)) 0 ≡ Some cube) × InCube cube v

  halved : (cube : Cube) (waiting : List Cube) (source : ℕ) (bit : Bool) → bit_at v source ≡ bit → InCube cube v → InSome (((source, false) ∷ cube) ∷ ((source, true) ∷ cube) ∷ waiting)
  halved cube waiting source false e i = inl (e, i)
  halved cube waiting source true e i = inr (inl (e, i))

  leaf_later : (waiting : List Cube) (token : Token) (tokens : List Token) → HasLeaf (after_token waiting token) tokens → HasLeaf waiting (token ∷ tokens)
  leaf_later waiting token tokens found = (suc found.0, found.1, omega (arith, found.2), found.3, found.4, found.5)

  leaf_in : (waiting : List Cube) (tokens : List Token) → fold after_token waiting tokens ≡ [] → InSome waiting → HasLeaf waiting tokens
  leaf_in [] tokens e i = absurd i
  leaf_in (cube ∷ waiting) [] e i = cc
  leaf_in (cube ∷ waiting) (Split source ∷ tokens) e i =
      leaf_later (cube ∷ waiting) (Split source) tokens (leaf_in (((source, false) ∷ cube) ∷ ((source, true) ∷ cube) ∷ waiting) tokens e
      (elim i [ inl here ↦ halved cube waiting source (bit_at v source) refl here | inr more ↦ inr (inr more) ]))
  leaf_in (cube ∷ waiting) (Closed ∷ tokens) e i = elim i [
    | inl here ↦ (0, cube, omega arith, refl, refl, here)
    | inr more ↦ leaf_later (cube ∷ waiting) Closed tokens (leaf_in waiting tokens e more)
  ]
  leaf_in (cube ∷ waiting) (Rest ∷ tokens) e i = elim i [
    | inl here ↦ (0, cube, omega arith, refl, refl, here)
    | inr more ↦ leaf_later (cube ∷ waiting) Rest tokens (leaf_in waiting tokens e more)
  ]

pub leaves_apart : (c : Circuit) (tokens : List Token) (v : List Bool) (at other : ℕ) (here there : Cube) → HasTreeShape c tokens → IsLeafAt tokens at here → IsLeafAt tokens other there → InCube here v → InCube there v → at ≡ other
leaves_apart c tokens v at other here there shape a b i j = one_leaf v ([] ∷ []) tokens (λ i none. none, tt) at other here there a.within b.within a.leaf b.leaf a.stands b.stands i j

pub leaves_cover : (c : Circuit) (tokens : List Token) (v : List Bool) → HasTreeShape c tokens → LiesInLeaf tokens v
leaves_cover c tokens v shape =
    let found = leaf_in v ([] ∷ []) tokens shape.whole (inl tt) in
    record { at = found.0; cube = found.1; leaf = record { within = found.2; leaf = found.3; stands = found.4 }; inside = found.5 }

-- ---- free sources

module _ (c : Circuit) where
  abbrev AllFixOnce : List Cube → Type 0
  AllFixOnce [] = ⊤
  AllFixOnce (cube ∷ cubes) = FixesOnce c.sources cube × AllFixOnce cubes

  shape_each : (tokens : List Token) → HasTreeShape c tokens → EachAt (SplitsFree c) ([] ∷ []) tokens
  shape_each tokens shape = each_at (SplitsFree c) ([] ∷ []) tokens shape.free

  once_after : (cube : Cube) (waiting : List Cube) (token : Token) → SplitsFree c token cube → AllFixOnce (cube ∷ waiting) → AllFixOnce (after_token (cube ∷ waiting) token)
  once_after cube waiting (Split source) free once = ((free.0, free.1, once.0), ((free.0, free.1, once.0), once.1))
  once_after cube waiting Closed free once = once.1
  once_after cube waiting Rest free once = once.1

  once_at : (waiting : List Cube) (tokens : List Token) → AllFixOnce waiting → EachAt (SplitsFree c) waiting tokens → (at : ℕ) (cube : Cube) → at < length tokens → slice_get (fold after_token waiting (take at tokens)) 0 ≡ Some cube → FixesOnce c.sources cube
  once_at waiting [] once free at cube h e = absurd (omega (arith, h))
  once_at [] (token ∷ tokens) once free at cube h e = absurd free
  once_at (first ∷ waiting) (token ∷ tokens) once free zero cube h e = let same : ◌≡◌ {A = Option Cube} (Some first) (Some cube) = e in let is : first ≡ cube = cc in subst (FixesOnce c.sources) is once.0
  once_at (first ∷ waiting) (token ∷ tokens) once free (suc at) cube h e = once_at (after_token (first ∷ waiting) token) tokens (once_after first waiting token free.0 once) free.1 at cube (omega (arith, h)) e

  pub no_leaf_empty : (tokens : List Token) (at : ℕ) (cube : Cube) → HasTreeShape c tokens → IsLeafAt tokens at cube → HasVector c cube
  no_leaf_empty tokens at cube shape leaf =
      let found = vector_of c.sources cube (once_at ([] ∷ []) tokens (tt, tt) (shape_each tokens shape) at cube leaf.within leaf.stands) in
      record { vector = found.0; width = found.1; inside = found.2 }

  -- ---- no more leaves than vectors

  leaf_count : List Token → ℕ
  leaf_count [] = 0
  leaf_count (Split source ∷ tokens) = leaf_count tokens
  leaf_count (Closed ∷ tokens) = 1 + leaf_count tokens
  leaf_count (Rest ∷ tokens) = 1 + leaf_count tokens

  -- how many vectors the cubes have
  vectors_of : List Cube → ℕ
  vectors_of [] = 0
  vectors_of (cube ∷ cubes) = 2 ^ (c.sources - length cube) + vectors_of cubes

  some_vector : (n : ℕ) → 1 ≤ 2 ^ n
  some_vector n = one-le-pow n 2 (omega arith)

  halves : (n : ℕ) (cube : Cube) (source : ℕ) → length cube < n → 2 ^ (n - length cube) ≡ 2 ^ (n - length ((source, false) ∷ cube)) + 2 ^ (n - length ((source, true) ∷ cube))
  halves n cube source h =
      let below = n - (1 + length cube) in
      let whole : n - length cube ≡ suc below = omega arith in
      let low : n - length ((source, false) ∷ cube) ≡ below = omega arith in
      let high : n - length ((source, true) ∷ cube) ≡ below = omega arith in
      ap (λ k. 2 ^ k) whole ∙ two-pow-succ below ∙ (λ i. 2 ^ sym low i + 2 ^ sym high i)

  leaves_few : (waiting : List Cube) (tokens : List Token) → EachAt (SplitsFree c) waiting tokens → AllFixOnce waiting → leaf_count tokens ≤ vectors_of waiting
  unfolding leaf_count vectors_of
  leaves_few waiting [] r once = omega arith
  leaves_few [] (token ∷ tokens) r once = absurd r
  leaves_few (cube ∷ waiting) (Split source ∷ tokens) r once =
      let more = leaves_few (((source, false) ∷ cube) ∷ ((source, true) ∷ cube) ∷ waiting) tokens r.1 (once_after cube waiting (Split source) r.0 once) in
      omega (arith, more, halves c.sources cube source (few_fixed c.sources cube source once.0 r.0.0 r.0.1))
  leaves_few (cube ∷ waiting) (Closed ∷ tokens) r once = omega (arith, leaves_few waiting tokens r.1 once.1, some_vector (c.sources - length cube))
  leaves_few (cube ∷ waiting) (Rest ∷ tokens) r once = omega (arith, leaves_few waiting tokens r.1 once.1, some_vector (c.sources - length cube))

  closed_few : (tokens : List Token) → closed_count tokens ≤ leaf_count tokens
  unfolding leaf_count
  closed_few [] = omega arith
  closed_few (Split source ∷ tokens) = omega (arith, closed_few tokens, closed_after_split source tokens)
  closed_few (Closed ∷ tokens) = omega (arith, closed_few tokens, closed_after_closed tokens)
  closed_few (Rest ∷ tokens) = omega (arith, closed_few tokens, closed_after_open tokens)

  closed_fewer : (tokens : List Token) → Contains tokens Rest → closed_count tokens < leaf_count tokens
  unfolding leaf_count
  closed_fewer [] m = absurd (none_in {A = Token} Rest m)
  closed_fewer (Split source ∷ tokens) m = elim (first_or_later (Split source) tokens Rest m) [
    | inl here ↦ cc
    | inr more ↦ omega (arith, closed_fewer tokens more, closed_after_split source tokens)
  ]
  closed_fewer (Closed ∷ tokens) m = elim (first_or_later Closed tokens Rest m) [
    | inl here ↦ cc
    | inr more ↦ omega (arith, closed_fewer tokens more, closed_after_closed tokens)
  ]
  closed_fewer (Rest ∷ tokens) m = omega (arith, closed_few tokens, closed_after_open tokens)

  -- a tree with an open leaf has fewer closed ones than there are vectors
  pub closed_bounded : (tokens : List Token) → HasTreeShape c tokens → Contains tokens Rest → closed_count tokens < 2 ^ c.sources
  unfolding vectors_of
  closed_bounded tokens shape open_leaf =
      let all = leaves_few ([] ∷ []) tokens (shape_each tokens shape) (tt, tt) in
      let n : c.sources - 0 ≡ c.sources = omega arith in
      omega (arith, all, closed_fewer tokens open_leaf, ap (λ k. 2 ^ k) n)

module _ (c : Circuit) (f g : Fault) where
  -- ---- trees of a cube

  -- a right token splits a free source
  pub free_token : (token : Token) (cube : Cube) → IsRightAt c f g token cube → SplitsFree c token cube
  free_token (Split source) cube right = (right.0, right.2)
  free_token Closed cube right = tt
  free_token Rest cube right = tt

  -- a whole tree of right tokens is a tree of the two faults
  pub tree_from : (tokens : List Token) → fold after_token ([] ∷ []) tokens ≡ [] → ((at : ℕ) → at < length tokens → (cube : Cube) × (cube_at tokens at ≡ Some cube) × IsRightAt c f g (token_at tokens at) cube) → IsTree c f g tokens
  tree_from tokens whole each = record {
    shape = record { whole = whole; free = λ at h. let here = each at h in (here.0, here.1, free_token (token_at tokens at) here.0 here.2) };
    each = each;
  }

  pub subtree_is_tree : (tokens : List Token) → IsSubtree c f g [] tokens → IsTree c f g tokens
  subtree_is_tree tokens tree = tree_from tokens (tree.whole []) (has_at (IsRightAt c f g) ([] ∷ []) tokens (tree.right []))

  pub closed_leaf : (cube : Cube) → IsState c f g cube AllSame → IsSubtree c f g cube (Closed ∷ [])
  closed_leaf cube state = record { whole = λ waiting. refl; right = λ waiting. (state, tt) }

  pub open_leaf : (cube : Cube) → IsSubtree c f g cube (Rest ∷ [])
  open_leaf cube = record { whole = λ waiting. refl; right = λ waiting. (tt, tt) }

  -- a split and the trees of its two halves are a tree of the cube
  pub split_tree : (cube : Cube) (source : ℕ) (zeros ones : List Token) → IsRightAt c f g (Split source) cube → IsSubtree c f g ((source, false) ∷ cube) zeros → IsSubtree c f g ((source, true) ∷ cube) ones → IsSubtree c f g cube (Split source ∷ zeros ++ ones)
  split_tree cube source zeros ones split low high = record {
    whole = λ waiting.
        fold-append after_token (((source, false) ∷ cube) ∷ ((source, true) ∷ cube) ∷ waiting) zeros ones
        ∙ ap (λ cubes. fold after_token cubes ones) (low.whole (((source, true) ∷ cube) ∷ waiting)) ∙ high.whole waiting;
    right = λ waiting. (
      split,
      each_both (IsRightAt c f g) (((source, false) ∷ cube) ∷ ((source, true) ∷ cube) ∷ waiting) zeros ones (low.right (((source, true) ∷ cube) ∷ waiting))
          (subst (λ cubes. EachAt (IsRightAt c f g) cubes ones) (sym (low.whole (((source, true) ∷ cube) ∷ waiting))) (high.right waiting)),
    );
  }

  -- ---- what closed leaves say

  pub leaf_closed : (tokens : List Token) (at : ℕ) (cube : Cube) → IsCircuit c → IsTree c f g tokens → at < length tokens → token_at tokens at ≡ Closed → cube_at tokens at ≡ Some cube → IsClosed c f g cube
  leaf_closed tokens at cube w tree h t e =
      let here = tree.each at h in
      let both : ◌≡◌ {A = Option Cube} (Some here.0) (Some cube) = sym here.1 ∙ e in
      let same : here.0 ≡ cube = cc in
      same_closed c f g cube w (subst (λ token. IsRightAt c f g token cube) t (subst (IsRightAt c f g (token_at tokens at)) same here.2))

  closed_token : (tokens : List Token) (at : ℕ) → at < length tokens → (Contains tokens Rest → ⊥) → is_leaf (token_at tokens at) ≡ true → token_at tokens at ≡ Closed
  closed_token [] at h none leaf = absurd (omega (arith, h))
  closed_token (Split source ∷ tokens) zero h none leaf = cc
  closed_token (Closed ∷ tokens) zero h none leaf = refl
  closed_token (Rest ∷ tokens) zero h none leaf = absurd (none (0, omega arith, refl))
  closed_token (token ∷ tokens) (suc at) h none leaf = closed_token tokens at (omega (arith, h)) (λ m. none (later token tokens Rest m)) leaf

  pub covering_equal : (limit : ℕ) (tokens : List Token) → IsCircuit c → IsCovering c f g limit tokens → AreEqual c f g
  covering_equal limit tokens w covering v first second width p q =
      let found = leaves_cover c tokens v covering.tree.shape in
      leaf_closed tokens found.at found.cube w covering.tree found.leaf.within (closed_token tokens found.at found.leaf.within covering.covered found.leaf.leaf) found.leaf.stands v first second width found.inside p q

  pub spending_bounded : (limit : ℕ) (tokens : List Token) → IsCircuit c → IsSpending c f g limit tokens → limit < 2 ^ c.sources
  spending_bounded limit tokens w spending = subst (λ n. n < 2 ^ c.sources) spending.full (closed_bounded c tokens spending.tree.shape spending.open_leaf)
