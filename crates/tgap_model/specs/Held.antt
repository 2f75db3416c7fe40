-- The arcs of a base map, whoever holds them.
use Rattle.std.specs.Prelude.{List}
use Rattle.std.specs.Arc.{arc_value}
use Rattle.tgap_model.specs.declared.base.BaseArc.{BaseArc}
use Rattle.tgap_model.specs.declared.held_arcs.Holding.{Holding}
use Rattle.tgap_model.specs.declared.held_arcs.Holding.TheVariants.{Alone, Together}

abbrev pub arcs_of : Holding → List BaseArc
arcs_of (Alone arcs) = arcs
arcs_of (Together arcs) = arc_value arcs
