-- Splits that are under way: one more, and one less.
use Rattle.std.proofs.Common.{◌≡◌, ◌≢◌, ℕ, suc, inl, inr, eq-eqb, ◌+◌, ◌-◌, ◌^◌, ◌<◌, List, [], ◌∷◌, ◌++◌, length, get_or, take, drop, refl, sym, ◌∙◌, ap, subst, arith}
use Rattle.std.specs.Prelude.{Bool, true, false, not, Option, None, Some, find, option_map, ◌==◌, reverse, slice_set, cond, unwrap_or, if◌then◌else◌}
use Rattle.std.proofs.Math.Nat.{one-le-pow, two-pow-succ}
use Rattle.std.proofs.lemmas.Bool.{cases_eq, ne_eqb}
use Rattle.std.proofs.lemmas.List.{take-append-drop, take_more, reverse-append, map-append, length-map, get_or-set_same, get_or-set_other}
use Rattle.std.proofs.lemmas.List.Sums.{sum_by-cons, sum_by-append}
use Rattle.std.proofs.Math.Bool.{not-not}
use Rattle.net_model.specs.declared.fault.Fault.{Fault}
use Rattle.net_model.specs.Circuit.{Circuit}
use Rattle.net_model.specs.Answer.{bit_at}
use Rattle.pair_sets.specs.declared.tree.Token.{Token}
use Rattle.pair_sets.specs.declared.tree.Token.TheVariants.{Split}
use Rattle.pair_sets.specs.Cube.{Cube, fixed_bit, InCube, FixesOnce}
use Rattle.pair_sets.specs.PairSim.{PairSim, pair_sim, with_cube}
use Rattle.pair_sets.specs.Subtree.{IsSubtree}
use Rattle.pair_sets.specs.Tree.{IsRightAt, is_closed, closed_count}
use Rattle.pair_sets.proofs.CubeLemmas.{few_fixed}
use Rattle.pair_sets.proofs.TreeLemmas.{split_tree}
use Rattle.distinguish_search.specs.declared.frames.Frame.{Frame}
use Rattle.distinguish_search.specs.Frames.{tried_cube, AreFrames, IsUnderWay, is_open_leaf, open_leaves, closed_in, open_in, vectors_ahead, SplitsOn, IsWholeTree, GoesOn}

abbrev pub frame_with : ℕ → Bool → Option (List Token) → ℕ → Frame
frame_with source bit half place = record { source = source; bit = bit; half = half; place = place }

-- ---- the cube of the bits

fixed_here : (cube : Cube) (source : ℕ) (bit : Bool) → fixed_bit ((source, bit) ∷ cube) source ≡ Some bit
fixed_here cube source bit =
    let t : (source == source) ≡ true = eq-eqb source source refl in
    ap (λ b. option_map (λ (fixed : ℕ × Bool). fixed.1) (cond b (Some (source, bit)) (find (λ (fixed : ℕ × Bool). fixed.0 == source) cube))) t

fixed_beside : (cube : Cube) (source : ℕ) (bit : Bool) (other : ℕ) → source ≢ other → fixed_bit ((source, bit) ∷ cube) other ≡ fixed_bit cube other
fixed_beside cube source bit other ne =
    let t : (source == other) ≡ false = ne_eqb source other ne in
    ap (λ b. option_map (λ (fixed : ℕ × Bool). fixed.1) (cond b (Some (source, bit)) (find (λ (fixed : ℕ × Bool). fixed.0 == other) cube))) t

-- a vector that has all bits of a cube is in it
pub has_fixed : (n : ℕ) (cube : Cube) (v : List Bool) → FixesOnce n cube → ((source : ℕ) (bit : Bool) → fixed_bit cube source ≡ Some bit → bit_at v source ≡ bit) → InCube cube v
has_fixed n [] v once each = tt
has_fixed n (fixed ∷ cube) v once each = (
  each fixed.0 fixed.1 (fixed_here cube fixed.0 fixed.1),
  has_fixed n cube v once.2 (λ source bit e.
      let ne : fixed.0 ≢ source = λ same. (let clash : Some bit ≡ None = sym e ∙ subst (λ k. fixed_bit cube k ≡ None) same once.1 in cc) in
      each source bit (fixed_beside cube fixed.0 fixed.1 source ne ∙ e)),
)

once_after : (n : ℕ) (before cube : Cube) → FixesOnce n (before ++ cube) → FixesOnce n cube
once_after n [] cube once = once
once_after n (fixed ∷ before) cube once = once_after n before cube once.2

module _ (items : List Frame) (i : ℕ) (frame : Frame) (h : i < length items) (is : frame ≡ get_or items i frame) where
  taken : reverse (take (i + 1) items) ≡ frame ∷ reverse (take i items)
  taken = ap reverse (take_more items i frame h) ∙ reverse-append (take i items) (get_or items i frame ∷ []) ∙ ap (λ x. x ∷ reverse (take i items)) (sym is)

  cube_parts : tried_cube (reverse items) ≡ tried_cube (reverse (drop (i + 1) items)) ++ tried_cube (frame ∷ reverse (take i items))
  cube_parts =
      ap (λ xs. tried_cube (reverse xs)) (sym (take-append-drop (i + 1) items)) ∙ ap tried_cube (reverse-append (take (i + 1) items) (drop (i + 1) items))
      ∙ map-append (λ (frame : Frame). (frame.source, frame.bit)) (reverse (drop (i + 1) items)) (reverse (take (i + 1) items))
      ∙ ap (λ xs. tried_cube (reverse (drop (i + 1) items)) ++ tried_cube xs) taken

  once_here : (sources : ℕ) → FixesOnce sources (tried_cube (reverse items)) → FixesOnce sources (tried_cube (frame ∷ reverse (take i items)))
  once_here sources once = once_after sources (tried_cube (reverse (drop (i + 1) items))) (tried_cube (frame ∷ reverse (take i items))) (subst (FixesOnce sources) cube_parts once)

  pub source_within : (sources : ℕ) → FixesOnce sources (tried_cube (reverse items)) → frame.source < sources
  source_within sources once = (once_here sources once).0

  pub bits_more : (sources : ℕ) (bits : List (Option Bool)) → FixesOnce sources (tried_cube (reverse items)) → length bits ≡ sources → ((source : ℕ) → get_or bits source None ≡ fixed_bit (tried_cube (reverse (take i items))) source)
      → (source : ℕ) → get_or (slice_set bits frame.source (Some frame.bit)) source None ≡ fixed_bit (tried_cube (reverse (take (i + 1) items))) source
  bits_more sources bits once width are source =
      let before = tried_cube (reverse (take i items)) in
      let set = slice_set bits frame.source (Some frame.bit) in
      let within : frame.source < length bits = omega (arith, source_within sources once, width) in
      subst (λ xs. get_or set source None ≡ fixed_bit (tried_cube xs) source) (sym taken) (elim (cases_eq source frame.source) [
        | inl same ↦ subst (λ k. get_or set k None ≡ fixed_bit ((frame.source, frame.bit) ∷ before) k) (sym same) (get_or-set_same bits frame.source (Some frame.bit) None within ∙ sym (fixed_here before frame.source frame.bit))
        | inr ne ↦ get_or-set_other bits frame.source source (Some frame.bit) None ne ∙ are source ∙ sym (fixed_beside before frame.source frame.bit source (λ e. ne (sym e)))
      ])

-- ---- leaves

pub closed_joined : (source : ℕ) (zeros ones : List Token) → closed_count (Split source ∷ zeros ++ ones) ≡ closed_count zeros + closed_count ones
closed_joined source zeros ones = omega (arith, sum_by-cons (λ token. cond (is_closed token) 1 0) (Split source) (zeros ++ ones), sum_by-append (λ token. cond (is_closed token) 1 0) zeros ones)

pub open_joined : (source : ℕ) (zeros ones : List Token) → open_leaves (Split source ∷ zeros ++ ones) ≡ open_leaves zeros + open_leaves ones
open_joined source zeros ones = omega (arith, sum_by-cons (λ token. cond (is_open_leaf token) 1 0) (Split source) (zeros ++ ones), sum_by-append (λ token. cond (is_open_leaf token) 1 0) zeros ones)

pub closed_in_more : (frame : Frame) (frames : List Frame) → closed_in (frame ∷ frames) ≡ closed_count (unwrap_or frame.half []) + closed_in frames
closed_in_more frame frames = sum_by-cons (λ (frame : Frame). closed_count (unwrap_or frame.half [])) frame frames

pub open_in_more : (frame : Frame) (frames : List Frame) → open_in (frame ∷ frames) ≡ open_leaves (unwrap_or frame.half []) + open_in frames
open_in_more frame frames = sum_by-cons (λ (frame : Frame). open_leaves (unwrap_or frame.half [])) frame frames

closed_either : (bit : Bool) (source : ℕ) (half tree : List Token) → closed_count (if bit then Split source ∷ half ++ tree else Split source ∷ tree ++ half) ≡ closed_count half + closed_count tree
closed_either true source half tree = closed_joined source half tree
closed_either false source half tree = omega (arith, closed_joined source tree half)

open_either : (bit : Bool) (source : ℕ) (half tree : List Token) → open_leaves (if bit then Split source ∷ half ++ tree else Split source ∷ tree ++ half) ≡ open_leaves half + open_leaves tree
open_either true source half tree = open_joined source half tree
open_either false source half tree = omega (arith, open_joined source tree half)

-- ---- splits

pub splits_twice : (sources : ℕ) (a b d : List Frame) → SplitsOn sources a b → SplitsOn sources b d → SplitsOn sources a d
splits_twice sources a b d p q = record { closed = q.closed ∙ p.closed; left_open = q.left_open ∙ p.left_open; left = q.left ∙ p.left }

module _ (c : Circuit) (f g : Fault) where
  -- a split that is right for the simulation is right for the splits under way
  pub right_here : (sim : PairSim) (frames : List Frame) (source : ℕ) → IsUnderWay c f g sim frames → IsRightAt sim.circuit sim.f sim.g (Split source) sim.cube → IsRightAt c f g (Split source) (tried_cube frames)
  right_here sim frames source under_way right = subst (λ (s : PairSim). IsRightAt s.circuit s.f s.g (Split source) s.cube) under_way.stands right

  pub once_of : (frames : List Frame) → AreFrames c f g frames → FixesOnce c.sources (tried_cube frames)
  once_of [] are = tt
  once_of (frame ∷ frames) are = (are.0.0, are.0.2, once_of frames are.2)

  module _ (frames : List Frame) (source : ℕ) (bit : Bool) (place : ℕ) (right : IsRightAt c f g (Split source) (tried_cube frames)) (are : AreFrames c f g frames) where
    -- a source is free, so not all are fixed
    pub few_frames : length frames < c.sources
    few_frames = omega (arith, few_fixed c.sources (tried_cube frames) source (once_of frames are) right.0 right.2, length-map {B = ℕ × Bool} frames (λ (frame : Frame). (frame.source, frame.bit)))

    pub split_more : (sim new : PairSim) → IsUnderWay c f g sim frames → new ≡ with_cube sim ((source, bit) ∷ sim.cube) → IsUnderWay c f g new (frame_with source bit None place ∷ frames)
    split_more sim new under_way e = record { stands = e ∙ ap (λ (s : PairSim). with_cube s ((source, bit) ∷ s.cube)) under_way.stands; right = (right, tt, are) }

    pub splits_on : SplitsOn c.sources frames (frame_with source bit None place ∷ frames)
    splits_on =
        let below = c.sources - length (frame_with source bit None place ∷ frames) in
        let whole : c.sources - length frames ≡ suc below = omega (arith, few_frames) in
        record {
          closed = closed_in_more (frame_with source bit None place) frames ∙ omega arith;
          left_open = open_in_more (frame_with source bit None place) frames ∙ omega arith;
          left = omega (arith, ap (λ n. 2 ^ n) whole ∙ two-pow-succ below);
        }

  -- ---- halves

  module _ (frames : List Frame) (source : ℕ) (bit : Bool) (place : ℕ) (tree : List Token) (right : IsRightAt c f g (Split source) (tried_cube frames)) (here : IsSubtree c f g ((source, bit) ∷ tried_cube frames) tree) (are : AreFrames c f g frames) where
    -- the first half of a split is finished, and the second one begins
    pub half_more : (sim new : PairSim) → sim ≡ pair_sim c f g (tried_cube frames) → new ≡ with_cube sim ((source, not bit) ∷ sim.cube) → IsUnderWay c f g new (frame_with source (not bit) (Some tree) place ∷ frames)
    half_more sim new stands e = record {
      stands = e ∙ ap (λ (s : PairSim). with_cube s ((source, not bit) ∷ s.cube)) stands;
      right = (right, subst (λ b. IsSubtree c f g ((source, b) ∷ tried_cube frames) tree) (sym (not-not bit)) here, are);
    }

    -- both halves are finished
    pub split_whole : (other : List Token) → IsSubtree c f g ((source, not bit) ∷ tried_cube frames) other → IsSubtree c f g (tried_cube frames) (if bit then Split source ∷ other ++ tree else Split source ∷ tree ++ other)
    split_whole other half = by bit here half
      where
        by : (bit : Bool) → IsSubtree c f g ((source, bit) ∷ tried_cube frames) tree → IsSubtree c f g ((source, not bit) ∷ tried_cube frames) other → IsSubtree c f g (tried_cube frames) (if bit then Split source ∷ other ++ tree else Split source ∷ tree ++ other)
        by true here half = split_tree c f g (tried_cube frames) source other tree right half here
        by false here half = split_tree c f g (tried_cube frames) source tree other right here half

-- ---- the way up from a tree

-- The splits that are left and the tree have all leaves of the first splits and the first tree.
pub record ClimbsFrom (c : Circuit) (f g : Fault) (first : List Token) (start : List Frame) (sim : PairSim) (frames : List Frame) (tree : List Token) : Type 0 where
  pub under_way : IsUnderWay c f g sim frames
  pub right : IsSubtree c f g (tried_cube frames) tree
  pub closed : closed_count tree + closed_in frames ≡ closed_count first + closed_in start
  pub left_open : open_leaves tree + open_in frames ≡ open_leaves first + open_in start
  pub ahead : vectors_ahead c.sources frames ≡ vectors_ahead c.sources start

module _ (c : Circuit) (f g : Fault) (first : List Token) (start : List Frame) (sim : PairSim) (tree : List Token) where
  pub climb_begins : IsUnderWay c f g sim start → IsSubtree c f g sim.cube tree → ClimbsFrom c f g tree start sim start tree
  climb_begins under_way right = record {
    under_way = under_way;
    right = subst (λ (s : PairSim). IsSubtree c f g s.cube tree) under_way.stands right;
    closed = refl;
    left_open = refl;
    ahead = refl;
  }

  pub climb_ends : ClimbsFrom c f g first start sim [] tree → IsWholeTree c f g first start tree
  climb_ends climbs = record { right = climbs.right; closed = omega (arith, climbs.closed); left_open = omega (arith, climbs.left_open) }

  module _ (frames : List Frame) (source : ℕ) (bit : Bool) (place : ℕ) (new : PairSim) (undone : PairSim) (back : undone ≡ with_cube sim (drop 1 sim.cube)) where
    stands_back : (half : Option (List Token)) → sim ≡ pair_sim c f g (tried_cube (frame_with source bit half place ∷ frames)) → undone ≡ pair_sim c f g (tried_cube frames)
    stands_back half stands = back ∙ ap (λ (s : PairSim). with_cube s (drop 1 s.cube)) stands

    pub climb_turns : ClimbsFrom c f g first start sim (frame_with source bit None place ∷ frames) tree → new ≡ with_cube undone ((source, not bit) ∷ undone.cube) → GoesOn c f g first start new (frame_with source (not bit) (Some tree) place ∷ frames)
    climb_turns climbs e =
        let right = climbs.under_way.right in record {
          under_way = half_more c f g frames source bit place tree right.0 climbs.right right.2 undone new (stands_back None climbs.under_way.stands) e;
          closed = closed_in_more (frame_with source (not bit) (Some tree) place) frames ∙ omega (arith, climbs.closed, closed_in_more (frame_with source bit None place) frames);
          left_open = open_in_more (frame_with source (not bit) (Some tree) place) frames ∙ omega (arith, climbs.left_open, open_in_more (frame_with source bit None place) frames);
          fewer = omega (arith, climbs.ahead, one-le-pow (c.sources - length start) 2 (omega arith));
        }

    pub climb_more : (half joined : List Token) → ClimbsFrom c f g first start sim (frame_with source bit (Some half) place ∷ frames) tree → joined ≡ (if bit then Split source ∷ half ++ tree else Split source ∷ tree ++ half) → ClimbsFrom c f g first start undone frames joined
    climb_more half joined climbs e =
        let right = climbs.under_way.right in record {
          under_way = record { stands = stands_back (Some half) climbs.under_way.stands; right = right.2 };
          right = subst (IsSubtree c f g (tried_cube frames)) (sym e) (split_whole c f g frames source bit place tree right.0 climbs.right right.2 half right.1);
          closed = omega (arith, ap closed_count e, closed_either bit source half tree, climbs.closed, closed_in_more (frame_with source bit (Some half) place) frames);
          left_open = omega (arith, ap open_leaves e, open_either bit source half tree, climbs.left_open, open_in_more (frame_with source bit (Some half) place) frames);
          ahead = omega (arith, climbs.ahead);
        }
