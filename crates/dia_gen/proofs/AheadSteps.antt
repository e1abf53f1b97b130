-- A draft that looks at a block of the vectors of a cube.
use Rattle.std.proofs.Common.{◌≡◌, ◌∙◌, Bool, List, ◌++◌, Option, sym, subst}
use Rattle.diag_shelf.specs.World.{State}
use Rattle.net_model.specs.declared.fault.Fault.{Fault}
use Rattle.kept_vectors.specs.Cube.{IsOfCube}
use Rattle.kept_vectors.specs.Kept.{KeptSoFar}
use Rattle.kept_vectors.specs.Keeper.{Keeper, keeper_with, IsKeeper}
use Rattle.member_marks.specs.Given.{AreGiven}
use Rattle.result_records.specs.declared.record.Record.{Record}
use Rattle.result_records.specs.Marks.{patterns_in, evidence_in}
use Rattle.dia_gen.specs.declared.draft.Draft.{Draft}
use Rattle.dia_gen.specs.declared.pair.PairSpace.{PairSpace}
use Rattle.dia_gen.specs.GenerationSetting.{GenerationSetting}
use Rattle.dia_gen.specs.Settled.{AreApartBy, IsSpaceFor}
use Rattle.dia_gen.specs.Draft.{IsDrafted, IsDraft}

module _ {s : GenerationSetting} {d : Draft} {f g : Fault} {cube : List (Option Bool)} (apart : AreApartBy s.circuit f g s.budgets cube) where
  -- The draft stays right if a block of the cube is looked at.
  drafted_looked : {kept : List (List Bool)} {later : List Record} (space : PairSpace) → IsSpaceFor s.circuit s.budgets space → (keeper : Keeper) → keeper.circuit ≡ d.keeper.circuit → keeper.kept ≡ d.keeper.kept → (v : List Bool) → IsOfCube cube v
      → IsDrafted s d kept later → IsDrafted s (record d { keeper = keeper; space = space }) kept later
  drafted_looked {kept} {later} space is_space keeper circuit kept_is v of is = record {
    first = is.first;
    lines = is.lines;
    few = is.few;
    circuit = circuit ∙ is.circuit;
    keeper = subst (λ (k : KeptSoFar). IsKeeper (keeper_with s.circuit k)) (sym kept_is) is.keeper;
    patterns = subst (λ (k : KeptSoFar). k.vectors ≡ kept ++ patterns_in later) (sym kept_is) is.patterns;
    marks = subst (λ (k : KeptSoFar). AreGiven k.table (evidence_in later) d.marks) (sym kept_is) is.marks;
    space = is_space;
    looked = λ w there. (apart.each v of).budget;
  }

  pub draft_looked : (space : PairSpace) → IsSpaceFor s.circuit s.budgets space → (keeper : Keeper) → keeper.circuit ≡ d.keeper.circuit → keeper.kept ≡ d.keeper.kept → (v : List Bool) → IsOfCube cube v
      → (start now : State) → IsDraft s d start now → IsDraft s (record d { keeper = keeper; space = space }) start now
  draft_looked space is_space keeper circuit kept_is v of start now draft = record {
    kept = draft.kept;
    later = draft.later;
    is = drafted_looked space is_space keeper circuit kept_is v of draft.is;
    written = draft.written;
  }
