-- What the fields of a `Wiring` show.
use Rattle.net_model.specs.declared.wiring.Wiring.TheInside.{Inside}
use Rattle.net_model.specs.Wiring.{Wiring, wiring_with}

abbrev pub wiring_of : Inside → Wiring
wiring_of a = wiring_with a.order.items a.readers a.showing
