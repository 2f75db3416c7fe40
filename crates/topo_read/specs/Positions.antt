-- What a topology tells of its positions, and a transform of whole numbers.
use Rattle.std.specs.Prelude.{Option, option_map, option_and_then}
use Rattle.serde_json.specs.Data.{Num}
use Rattle.tgap_model.specs.declared.base.Transform.{Transform}
use Rattle.topology_forms.specs.Topology.{Quantized, words_of}
use Rattle.topo_read.specs.declared.transform.Positions.{Positions}

-- what a topology tells of its positions, as the definitions see it
abbrev pub quantized_seen : Positions → Quantized
quantized_seen positions = record { deltas = positions.deltas; transform = positions.transform }

-- four whole numbers
abbrev pub whole_transform : Num × Num → Num × Num → Option Transform
whole_transform scale translate =
    option_and_then
    (λ s. option_map (λ t. record { sx = s.0; sy = s.1; tx = t.0; ty = t.1 }) (words_of translate))
    (words_of scale)
