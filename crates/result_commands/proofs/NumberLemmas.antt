-- A text that no rule refuses is refused with no text of the console.
use Rattle.synth_netlist.specs.Laws.{NeverRefused}
use Rattle.text_fields.specs.Fields.{Text}
use Rattle.run_steps.specs.Netlists.{IsRefused, by_text, by_loop}

pub never_with_text : {bytes console : Text} → NeverRefused bytes → IsRefused bytes console → ⊥
never_with_text never (by_text kind byte refused is) = never.text (kind, byte) refused
never_with_text never (by_loop netlist place names accepted loops is) = never.loops netlist place names accepted loops
