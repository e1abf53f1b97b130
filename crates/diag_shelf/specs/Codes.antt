-- What distinguishes the views of shelves in memory: their fields, as nested pairs.
use Rattle.std.specs.Prelude.{ℕ, List, Option, refl}
use Rattle.std.specs.Coded.{Coded, code_by, coded×, coded_ℕ, coded_list, coded_option}
use Rattle.std.specs.FinMap as map
use Rattle.diag_shelf.specs.World.{Files, World}
use Rattle.diag_shelf.specs.Memory.{SureView, MemoryView}

abbrev pub bytes_code : Coded (List ℕ)
bytes_code = coded_list coded_ℕ

abbrev pub world_code : Coded World
world_code =
    code_by (Files × (Option (List ℕ) × (Option (List ℕ) × List ℕ)))
    (coded× (map.code bytes_code bytes_code) (coded× (coded_option bytes_code) (coded× (coded_option bytes_code) bytes_code)))
    (λ w. (w.files, (w.rest, (w.written, w.console))))
    (λ p. record { files = p.0; rest = p.1.0; written = p.1.1.0; console = p.1.1.1 })
    (λ _. refl)

abbrev pub sure_code : Coded SureView
sure_code =
    code_by (World × (ℕ × (ℕ × ℕ)))
    (coded× world_code (coded× coded_ℕ (coded× coded_ℕ coded_ℕ)))
    (λ s. (s.world, (s.read_faults, (s.write_faults, s.chunk))))
    (λ p. record { world = p.0; read_faults = p.1.0; write_faults = p.1.1.0; chunk = p.1.1.1 })
    (λ _. refl)

abbrev pub memory_code : Coded MemoryView
memory_code =
    code_by (World × (ℕ × (ℕ × (ℕ × (List ℕ × ℕ)))))
    (coded× world_code (coded× coded_ℕ (coded× coded_ℕ (coded× coded_ℕ (coded× (coded_list coded_ℕ) coded_ℕ)))))
    (λ s. (s.world, (s.read_faults, (s.write_faults, (s.chunk, (s.failing, s.calls))))))
    (λ p. record { world = p.0; read_faults = p.1.0; write_faults = p.1.1.0; chunk = p.1.1.1.0; failing = p.1.1.1.1.0; calls = p.1.1.1.1.1 })
    (λ _. refl)
