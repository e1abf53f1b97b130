-- The vectors of a block, judged one after another.
use Rattle.std.proofs.Common.{◌≡◌, ℕ, ◌+◌, ◌<◌, Bool, true, false, List, [], ◌∷◌, ◌++◌, length, length-append, get_or, take, Some, sym, ap, subst, ◌∙◌, arith, IsTrue, inl, inr}
use Rattle.std.specs.Prelude.{All, if◌then◌else◌}
use Rattle.std.proofs.lemmas.Bool.{false≢true}
use Rattle.std.proofs.lemmas.List.{append-nil, append_assoc, take-take, take_more, get_or-take, get_or-append-add, length-take-le}
use Rattle.std.proofs.lemmas.List.Elements.{All-take}
use Rattle.std.proofs.Math.Seq.{take-append-add}
use Rattle.net_model.specs.Circuit.{Circuit}
use Rattle.net_model.specs.ClassTable.{ClassTable, class_at, new_lowest, refined_table, SplitBy}
use Rattle.net_model.specs.PatternRows.{SplitsClass}
use Rattle.class_refine.specs.Fields.{IsWhole}
use Rattle.class_refine.proofs.Refined.{sound_from, split_adds, cuts_from}
use Rattle.word_sim.specs.GoodSim.{GoodSim}
use Rattle.fault_heads.specs.Turned.{vector_at}
use Rattle.kept_vectors.specs.Kept.{KeptSoFar, Keeps, KeepsFirst, KeepsRun, IsFiner}
use Rattle.kept_vectors.specs.Keeper.{keeper_with, IsKeeper}
use Rattle.kept_vectors.specs.Units.{AreTogether}
use Rattle.kept_vectors.specs.Notes.{Noted, AreTold}
use Rattle.kept_vectors.specs.Scan.{IsOffered, HasJudged}
use Rattle.net_model.proofs.OneAnswer.{one_table}
use Rattle.kept_vectors.proofs.KeepLemmas.{ran_vectors, keeps_none, keeps_lane, keeper_after}

-- what is noted for a table is noted for one in which more numbers are apart
pub told_later : {good : GoodSim} {vectors : List (List Bool)} {noted : Noted} {t u : ClassTable} → IsWhole u → IsFiner t u → AreTogether noted.roots u → AreTold good vectors noted t → AreTold good vectors noted u
told_later {t = t} {u = u} whole finer together told =
    let numbers = finer.numbers in
    let same : (m n : ℕ) → m < length u.class_of → n < length u.class_of → class_at u m ≡ class_at u n → (m < length t.class_of) × (class_at t m ≡ class_at t n) =
    λ m n hm hn e. (omega (arith, hm, numbers), finer.together m n (omega (arith, hm, numbers)) (omega (arith, hn, numbers)) e) in
    record {
      circuit = told.circuit;
      ran = told.ran;
      whole = whole;
      numbers = numbers ∙ told.numbers;
      roots = told.roots ∙ sym numbers;
      units = λ n hn.
          let one = told.units n (omega (arith, hn, numbers)) in
          record { below = omega (arith, one.below, numbers); itself = one.itself; together = together n hn; alike = one.alike };
      mates = λ n hn. elim (told.mates n (omega (arith, hn, numbers))) [
        | inl mates ↦ inl (λ m hm e. let old = same m n hm hn e in mates m old.0 old.1)
        | inr alike ↦ inr (λ m lane hm e live. let old = same m n hm hn e in alike m lane old.0 old.1 live)
      ];
    }

-- ---- one vector

kept_by : (splits : Bool) (v : List Bool) (old new : KeptSoFar) → IsOffered splits v old new → IsTrue splits → new.vectors ≡ old.vectors ++ v ∷ []
kept_by true v old new offered is = offered
kept_by false v old new offered is = absurd (false≢true is)

-- a vector that changes nothing splits no class
pub splits_none : (c : Circuit) (k : KeptSoFar) (v : List Bool) → IsKeeper (keeper_with c k) → Keeps c (v ∷ []) k k → SplitsClass c k.vectors v → ⊥
splits_none c k v is keeps s =
    let split : SplitBy k.table s.row = subst (λ (t : ClassTable). SplitBy t s.row) (one_table c is.circuit s.table is.table) s.split in
    let adds : 0 < length (new_lowest k.table s.row) = split_adds k.table s.row (sound_from k.table is.whole) split in
    let after : KeptSoFar = record { vectors = k.vectors ++ v ∷ []; table = refined_table k.table s.row } in
    let same : k ≡ after = keeps.by_rows (s.row ∷ []) (s.answers, tt) ∙ ap (λ (b : Bool). if b then after else k) (cuts_from k.table s.row adds) in
    omega (arith, ap (λ (x : KeptSoFar). length x.vectors) same, length-append k.vectors (v ∷ []))

-- ---- one after another

pub judged_none : (c : Circuit) (vectors : List (List Bool)) (run : Bool) (k : KeptSoFar) → HasJudged c vectors run 0 k k
judged_none c vectors run k = record { within = omega arith; keeps = keeps_none c k; kept = λ is. sym (append-nil k.vectors) }

-- one more, which splits a class if it is of a run
pub judged_more : {old mid new : KeptSoFar} (good : GoodSim) (all : List (List Bool)) (run splits : Bool) (lane : ℕ) → good.ran ≡ Some all → lane < length all → HasJudged good.circuit all run lane old mid
    → Keeps good.circuit (vector_at good lane ∷ []) mid new → IsOffered splits (vector_at good lane) mid new → (IsTrue run → IsTrue splits) → HasJudged good.circuit all run (lane + 1) old new
judged_more {old} {mid} {new} good all run splits lane ran inside before one offered must =
    let v : get_or all lane [] ≡ vector_at good lane = ap (λ (vs : List (List Bool)). get_or vs lane []) (sym (ran_vectors good all ran)) in
    let more : take (lane + 1) all ≡ take lane all ++ vector_at good lane ∷ [] = take_more all lane [] inside ∙ ap (λ (x : List Bool). take lane all ++ x ∷ []) v in
    record {
      within = omega arith;
      keeps = keeps_lane good all lane ran inside before.keeps one;
      kept = λ is.
          kept_by splits (vector_at good lane) mid new offered (must is)
          ∙ ap (λ (vs : List (List Bool)). vs ++ vector_at good lane ∷ []) (before.kept is)
          ∙ append_assoc old.vectors (take lane all) (vector_at good lane ∷ [])
          ∙ ap (λ (vs : List (List Bool)). old.vectors ++ vs) (sym more);
    }

module _ {c : Circuit} {vectors : List (List Bool)} {run : Bool} {count : ℕ} {old new : KeptSoFar} (judged : HasJudged c vectors run count old new) where
  -- the vectors that were judged are the first, if they are not all
  pub first_judged : count < length vectors → KeepsFirst c vectors old new
  first_judged short = record { count = count; short = short; keeps = judged.keeps }

  module _ (is : IsKeeper (keeper_with c old)) (widths : All (λ v. length v ≡ c.sources) vectors) where
    pub keeper_judged : IsKeeper (keeper_with c new)
    keeper_judged = keeper_after c (take count vectors) old new is (All-take (λ v. length v ≡ c.sources) count vectors widths) judged.keeps

    -- each of a run splits a class
    pub run_judged : IsTrue run → KeepsRun c vectors count old new
    run_judged isrun = record {
      within = judged.within;
      keeps = judged.keeps;
      kept = judged.kept isrun;
      splits = λ at below.
          let kept = judged.kept isrun in
          let low = length old.vectors in
          let inside : low + at < length new.vectors = omega (arith, below, judged.within, ap length kept, length-append old.vectors (take count vectors), length-take-le count vectors judged.within) in
          let before : take (low + at) new.vectors ≡ old.vectors ++ take at vectors =
          ap (take (low + at)) kept ∙ take-append-add old.vectors (take count vectors) at ∙ ap (λ (vs : List (List Bool)). old.vectors ++ vs) (take-take at count vectors (omega arith)) in
          let own : get_or new.vectors (low + at) [] ≡ get_or vectors at [] =
          ap (λ (vs : List (List Bool)). get_or vs (low + at) []) kept ∙ get_or-append-add old.vectors (take count vectors) at [] ∙ get_or-take count vectors at [] below in
          let split : SplitsClass c (take (low + at) new.vectors) (get_or new.vectors (low + at) []) = keeper_judged.splits.splits (low + at) inside in
          rw (before, own) at split;
    }
