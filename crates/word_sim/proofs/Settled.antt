-- What the lanes of a simulator's rows show after every gate has its value.
use Rattle.std.proofs.Common.{◌≡◌, ℕ, ◌<◌, List, [], length, get_or, refl, sym, ◌∙◌, ap, subst, arith}
use Rattle.std.specs.Prelude.{Bool, Option, None, Some, option_map, unwrap_or}
use Rattle.std.proofs.lemmas.List.{get_or_read}
use Rattle.net_model.specs.declared.fault.Fault.TheVariants.{Free}
use Rattle.net_model.specs.Circuit.{Circuit, IsCircuit}
use Rattle.net_model.specs.Answer.{bit_at, Agrees}
use Rattle.net_model.proofs.Copies.{Agrees-unique}
use Rattle.word_sim.specs.BlockFields.{column, columns}
use Rattle.word_sim.specs.GoodSim.{good_sim_with, IsGoodBit}
use Rattle.word_sim.specs.GoodSimFields.{source_rows}
use Rattle.word_sim.proofs.Columns.{column_at, length-columns, columns_at}

pub length-ran : (rows : List (List Bool)) (live : Option ℕ) → length (unwrap_or (option_map (columns rows) live) []) ≡ unwrap_or live 0
length-ran rows None = refl
length-ran rows (Some live) = length-columns rows live

ran_at : (rows : List (List Bool)) (live : Option ℕ) (lane : ℕ) → lane < unwrap_or live 0 → get_or (unwrap_or (option_map (columns rows) live) []) lane [] ≡ column rows lane
ran_at rows None lane h = absurd (omega arith)
ran_at rows (Some live) lane h = columns_at rows live lane [] h

-- a row has its line's bit in each live lane
pub good_bit : (c : Circuit) → IsCircuit c → (rows : List (List Bool)) (live : Option ℕ)
    → ((lane : ℕ) → lane < unwrap_or live 0 → Agrees c Free (column (source_rows c rows) lane) (column rows lane))
    → (line lane : ℕ) (row : List Bool) → line < length rows → row ≡ get_or rows line row → lane < length (unwrap_or (option_map (columns (source_rows c rows)) live) [])
    → IsGoodBit (good_sim_with c (option_map (columns (source_rows c rows)) live)) line lane (bit_at row lane)
good_bit c is rows live agrees line lane row inside read h bits agreed =
    let sources = source_rows c rows in
    let within : lane < unwrap_or live 0 = subst (λ n. lane < n) (length-ran sources live) h in
    let settled : Agrees c Free (get_or (unwrap_or (option_map (columns sources) live) []) lane []) (column rows lane) =
    subst (λ v. Agrees c Free v (column rows lane)) (sym (ran_at sources live lane within)) (agrees lane within) in
    let same : column rows lane ≡ bits = Agrees-unique c is Free (get_or (unwrap_or (option_map (columns sources) live) []) lane []) (column rows lane) bits settled agreed in
    ap (λ r. bit_at r lane) (get_or_read rows line row inside read []) ∙ sym (column_at rows lane line) ∙ ap (λ b. bit_at b line) same
