-- One lane: the numbers that leave there, what is kept, and the numbers that wait after it.
use Rattle.std.proofs.Common.{◌≡◌, ℕ, ◌+◌, ◌<◌, ◌≤◌, Bool, List, [], ◌∷◌, length, get_or, sym, ap, subst, ◌∙◌, arith}
use Rattle.std.specs.Prelude.{All, Contains}
use Rattle.std.specs.List.{AllPairs}
use Rattle.std.proofs.lemmas.List.Elements.{Contains-get_or}
use Rattle.net_model.specs.ClassTable.{refined_table}
use Rattle.net_model.specs.PatternRows.{IsAnswerRow}
use Rattle.class_refine.specs.Fields.{IsWhole}
use Rattle.class_refine.specs.Laws.{ComesBefore, IsRefinement}
use Rattle.class_refine.specs.declared.leaver.Leaver.{Leaver}
use Rattle.class_refine.specs.Leavers.{LeavesClass, AreLeavers}
use Rattle.class_refine.proofs.Refinement.{refined_is}
use Rattle.word_sim.specs.GoodSim.{GoodSim, vectors_of}
use Rattle.fault_heads.specs.Turned.{vector_at}
use Rattle.kept_vectors.specs.Kept.{KeptSoFar, with_vector, Keeps, IsFiner}
use Rattle.kept_vectors.specs.Leaves.{AreToldAt}
use Rattle.kept_vectors.specs.Notes.{Noted, AreTold, AreMatesNoted}
use Rattle.kept_vectors.specs.Units.{AreTogether, AreOfUnits}
use Rattle.kept_vectors.specs.Waits.{AreWaiting}
use Rattle.class_refine.proofs.PatternTables.{row_exists}
use Rattle.kept_vectors.proofs.KeepLemmas.{ran_vectors, keeps_one, skipped_lane, whole_after}
use Rattle.kept_vectors.proofs.LeaveLemmas.{alike_in_row, first_here, some_leaves, all_leave, mates_of, are_leavers, waits_behind, waits_on, alike_there, cut_table}

-- The vector of the lane is kept after the old ones, and the numbers that left are left to wait after it.
pub record IsLaneKept (good : GoodSim) (roots : List ℕ) (lane limit : ℕ) (lists : List (List ℕ)) (left : List ℕ) (old new : KeptSoFar) : Type 0 where
  pub together : AreTogether roots new.table
  pub keeps : Keeps good.circuit (vector_at good lane ∷ []) old new
  pub whole : IsWhole new.table
  pub finer : IsFiner old.table new.table
  pub waits : AreWaiting good roots new.table (lane + 1) limit lists left

module _ {good : GoodSim} {vectors : List (List Bool)} {noted : Noted} (old : KeptSoFar) (told : AreTold good vectors noted old.table) (lane limit : ℕ) (below : lane < limit) (within : limit ≤ length vectors)
    (lists : List (List ℕ)) (waits : AreWaiting good noted.roots old.table lane limit lists []) (ns : List ℕ) (of : AreOfUnits noted.roots (get_or lists lane []) ns) where
  live : lane < length (vectors_of good)
  live = subst (λ (vs : List (List Bool)). lane < length vs) (sym (ran_vectors good vectors told.ran)) (omega (arith, below, within))

  row_of : (row : List (List Bool)) × IsAnswerRow good.circuit (vector_at good lane) row
  row_of = row_exists good.circuit told.circuit (vector_at good lane)

  left_here : (row : List (List Bool)) → IsAnswerRow good.circuit (vector_at good lane) row → (n : ℕ) → LeavesClass old.table row n → Contains ns n
  left_here row answers n leaves =
      all_leave good told.circuit old.table told.whole told.numbers lane live row answers noted.roots told.roots told.units lists limit below waits ns of n (first_here good told.circuit old.table told.whole told.numbers lane live row answers n leaves)

  -- all numbers of a leaver's class are noted
  pub mates_here : (n : ℕ) → Contains ns n → AreMatesNoted good noted old.table n
  mates_here n has =
      let r = row_of in
      mates_of good told.circuit old.table told.whole told.numbers lane live r.0 r.1 noted.roots told.roots told.units lists limit below waits ns of noted told.mates n
      (some_leaves good told.circuit old.table told.whole told.numbers lane live r.0 r.1 noted.roots told.roots told.units lists limit below waits ns of n has)

  pub leaver_below : (n : ℕ) → Contains ns n → n < length old.table.class_of
  leaver_below n has = omega (arith, (of.only n has).0, told.roots)

  -- if none leaves, nothing changes
  pub none_kept_here : ns ≡ [] → Keeps good.circuit (vector_at good lane ∷ []) old old
  none_kept_here none =
      let r = row_of in
      skipped_lane good told.circuit old told.numbers lane live told.whole (alike_there good told.circuit old.table told.whole told.numbers lane live r.0 r.1 noted.roots lists limit below waits ns (left_here r.0 r.1) none)

  pub none_moved_here : ns ≡ [] → AreWaiting good noted.roots old.table (lane + 1) limit lists []
  none_moved_here none = let r = row_of in waits_on good told.circuit old.table told.whole told.numbers lane live r.0 r.1 noted.roots lists limit below waits ns (left_here r.0 r.1) none

  module _ (leavers : List Leaver) (positions : List ℕ) (ordered : AllPairs (ComesBefore old.table) ns) (tells : AreToldAt noted lane ns leavers positions) where
    -- they are the leavers by the row of answers
    pub leavers_here : (row : List (List Bool)) → IsAnswerRow good.circuit (vector_at good lane) row → AreLeavers old.table row leavers positions
    leavers_here row answers =
        are_leavers good told.circuit old.table told.whole told.numbers lane live row answers noted.roots told.roots told.units lists limit below waits ns of noted told.mates leavers positions ordered tells.numbers_are tells.parts tells.tells

    pub some_leavers : (row : List (List Bool)) × AreLeavers old.table row leavers positions
    some_leavers = let r = row_of in (r.0, leavers_here r.0 r.1)

    -- the vector is kept
    pub lane_kept : 0 < length leavers → (new : KeptSoFar) → ((row : List (List Bool)) → AreLeavers old.table row leavers positions → new ≡ with_vector old (vector_at good lane, row)) → IsLaneKept good noted.roots lane limit lists ns old new
    lane_kept some new offered =
        let r = row_of in
        let v = vector_at good lane in
        let keeps = keeps_one good.circuit v old new (λ row answers. offered row (leavers_here row answers)) in
        let after = whole_after good.circuit told.circuit (v ∷ []) old new told.whole keeps in
        let are = leavers_here r.0 r.1 in
        let tables : new.table ≡ refined_table old.table r.0 = ap (λ (k : KeptSoFar). k.table) (offered r.0 are ∙ cut_table old v r.0 leavers positions told.whole some are) in
        let refined : IsRefinement old.table r.0 new.table = subst (IsRefinement old.table r.0) (sym tables) (refined_is old.table r.0 told.whole) in
        record {
          together = λ n h.
              let inside : n < length old.table.class_of = omega (arith, h, refined.numbers) in
              let unit = told.units n inside in
              let root = get_or noted.roots n 0 in
              (refined.together root n unit.below inside).1 (unit.together, sym (alike_in_row good told.circuit old.table told.whole told.numbers lane live r.0 r.1 n root inside unit.below (unit.alike lane live)));
          keeps = keeps;
          whole = after.0;
          finer = after.1;
          waits = waits_behind good told.circuit old.table told.whole told.numbers lane live r.0 r.1 noted.roots lists limit below waits ns (left_here r.0 r.1) new.table refined;
        }

    -- all numbers of the new classes of the leavers are noted
    pub mates_behind : (new : KeptSoFar) → IsLaneKept good noted.roots lane limit lists ns old new → All (λ n. (n < length new.table.class_of) × AreMatesNoted good noted new.table n) ns
    mates_behind new kept k d h =
        let n = get_or ns k d in
        let has = Contains-get_or ns k d h in
        let numbers = kept.finer.numbers in
        let inside = leaver_below n has in
        (omega (arith, inside, numbers), λ other less same. mates_here n has other (omega (arith, less, numbers)) (kept.finer.together other n (omega (arith, less, numbers)) inside same))
