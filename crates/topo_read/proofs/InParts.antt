-- A topology in two steps is the same topology.
use Rattle.std.proofs.Common.{◌≡◌, ℕ, ◌<◌, Bool, true, false, List, Option, Some, None, option_and_then, Result, Ok, Err, refl, subst, ap, ◌∙◌}
use Rattle.std.specs.Prelude.{codes}
use Rattle.std.specs.Option.{ok_or, is_some}
use Rattle.serde_json.specs.Data.{Data, Members}
use Rattle.serde_json.specs.Find.{get, as_object}
use Rattle.tgap_model.specs.declared.topology.RawMap.{RawMap}
use Rattle.tgap_model.specs.declared.fault.MapFault.{MapFault}
use Rattle.tgap_model.specs.declared.fault.MapFault.TheVariants.{Shape, NotJson}
use Rattle.line_forms.specs.Lines.{◌>>=◌}
use Rattle.line_forms.specs.Json.{tree, ensured, items_at, text_at}
use Rattle.topology_forms.specs.Topology.{Quantized, quantized, chosen, is_format, topology_of, topology}
use Rattle.plain_io.proofs.Steps.{bound, ok_or_is}
use Rattle.topo_read.specs.Parts.{PartsSeen, format_of, parts_of, map_of}
use Rattle.topo_read.specs.Sizes.{size, count_positions}
use Rattle.topo_read.proofs.Steps.{ok_same}
use Rattle.topo_read.proofs.Sizes.{few_positions}

-- the parts from what is found of each
abbrev parts_from : Bool → Bool → Option Members → Option (List Data) → Option Quantized → (Members → Result Data MapFault) → Result PartsSeen MapFault
parts_from top typed objects arcs positions choose = do
  format ← ensured top (Shape 1 0) >>= λ held. ensured typed (Shape 2 0)
  m ← ok_or objects (Shape 3 0)
  ds ← ok_or arcs (Shape 4 0)
  q ← ok_or positions (Shape 5 0)
  geometry ← choose m
  Ok (record { positions = q; arcs = ds; geometry = geometry })

-- the whole from what is found of each part
abbrev whole_from : Bool → Bool → Option Members → Option (List Data) → Option Quantized → (Members → Result Data MapFault) → (PartsSeen → Result RawMap MapFault) → Result RawMap MapFault
whole_from top typed objects arcs positions choose rest = do
  held ← ensured top (Shape 1 0)
  format ← ensured typed (Shape 2 0)
  m ← ok_or objects (Shape 3 0)
  ds ← ok_or arcs (Shape 4 0)
  q ← ok_or positions (Shape 5 0)
  geometry ← choose m
  rest (record { positions = q; arcs = ds; geometry = geometry })

in_two_steps : (top typed : Bool) (objects : Option Members) (arcs : Option (List Data)) (positions : Option Quantized) (choose : Members → Result Data MapFault) (rest : PartsSeen → Result RawMap MapFault)
    → whole_from top typed objects arcs positions choose rest ≡ (parts_from top typed objects arcs positions choose >>= rest)
in_two_steps false typed objects arcs positions choose rest = refl
in_two_steps true false objects arcs positions choose rest = refl
in_two_steps true true None arcs positions choose rest = refl
in_two_steps true true (Some m) None positions choose rest = refl
in_two_steps true true (Some m) (Some ds) None choose rest = refl
in_two_steps true true (Some m) (Some ds) (Some q) choose rest = by_choice (choose m)
  where
    by_choice : (r : Result Data MapFault)
        → (r >>= λ geometry. rest (record { positions = q; arcs = ds; geometry = geometry })) ≡ ((r >>= λ geometry. Ok (record { positions = q; arcs = ds; geometry = geometry })) >>= rest)
    by_choice (Ok geometry) = refl
    by_choice (Err f) = refl

-- the parts of a topology, and the map of these
pub topology_in_parts : (d : Data) (object property : List ℕ) → topology_of d object property ≡ (parts_of d object >>= λ parts. map_of parts property)
unfolding topology_of parts_of map_of
topology_in_parts d object property =
    in_two_steps (is_some (as_object d)) (is_format (text_at (codes "type") d)) (option_and_then as_object (get (codes "objects") d)) (items_at (codes "arcs") d) (quantized (get (codes "transform") d)) (chosen object)
    (λ parts. map_of parts property)

-- a topology that stops at its parts
pub parts_stop : (d : Data) (object property : List ℕ) (f : MapFault) → parts_of d object ≡ Err f → topology_of d object property ≡ Err f
parts_stop d object property f e = topology_in_parts d object property ∙ ap (λ r. r >>= λ parts. map_of parts property) e

-- a topology whose parts are found
pub parts_go_on : (d : Data) (object property : List ℕ) (parts : PartsSeen) → parts_of d object ≡ Ok parts → topology_of d object property ≡ map_of parts property
parts_go_on d object property parts e = topology_in_parts d object property ∙ ap (λ r. r >>= λ p. map_of p property) e

-- the positions of the arcs are fewer than all that it holds
pub few_in_parts : (d : Data) (object : List ℕ) (parts : PartsSeen) → parts_of d object ≡ Ok parts → count_positions parts.arcs < size d
unfolding parts_of
few_in_parts d object parts e =
    bound _ (format_of d) parts e (λ typed e0 r0.
    bound _ (ok_or (option_and_then as_object (get (codes "objects") d)) (Shape 3 0)) parts r0 (λ objects e1 r1.
    bound _ (ok_or (items_at (codes "arcs") d) (Shape 4 0)) parts r1 (λ arcs e2 r2.
    bound _ (ok_or (quantized (get (codes "transform") d)) (Shape 5 0)) parts r2 (λ positions e3 r3.
    bound _ (chosen object objects) parts r3 (λ geometry e4 r4.
    let found = ok_or_is (items_at (codes "arcs") d) (Shape 4 0) arcs e2 in
    let few = few_positions (codes "arcs") d arcs found in
    let same = ok_same (record { positions = positions; arcs = arcs; geometry = geometry }) parts r4 in
    subst (λ (p : PartsSeen). count_positions p.arcs < size d) same few)))))

-- ---- the bytes

-- a topology whose bytes are a JSON value
pub tree_goes_on : (bytes object property : List ℕ) (d : Data) → tree bytes ≡ Some d → topology bytes object property ≡ topology_of d object property
unfolding topology
tree_goes_on bytes object property d e = rw e refl

-- bytes that are none
pub tree_stops : (bytes object property : List ℕ) → tree bytes ≡ None → topology bytes object property ≡ Err NotJson
unfolding topology
tree_stops bytes object property e = rw e refl
