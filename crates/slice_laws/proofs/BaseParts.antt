-- What the test of a base map tells of its arcs.
use Rattle.std.proofs.Common.{◌≡◌, ℕ, nat_le, ◌<◌, Bool, true, length}
use Rattle.std.specs.List.{list_all}
use Rattle.std.proofs.lemmas.Bool.{le-leb}
use Rattle.tgap_model.specs.declared.base.BaseArc.{BaseArc}
use Rattle.tgap_model.specs.Base.{BaseMap, is_arc, is_base}
use Rattle.tgap_model.specs.Chains.{arc_number}
use Rattle.tgap_model.proofs.BaseFacts.{ArcFacts, arc_facts, base_facts}
use Rattle.map_laws.proofs.ChainMembers.{Among, all_among}
use Rattle.map_laws.proofs.Lists.{all_from}
use Rattle.slice_laws.proofs.Coverage.{number_among}

-- each arc is one of a map with so many faces
pub base_arc : (m : BaseMap) → is_base m ≡ true → (a : BaseArc) → Among a m.arcs → ArcFacts (length m.classes) a
base_arc m base a n = arc_facts (length m.classes) a (all_among (is_arc (length m.classes)) m.arcs a (base_facts m base).arcs n)

-- so it has a segment
abbrev pub has_segment : BaseArc → Bool
has_segment a = nat_le 2 (length a.points)

pub arcs_have_segments : (m : BaseMap) → is_base m ≡ true → list_all has_segment m.arcs ≡ true
arcs_have_segments m base = all_from has_segment m.arcs (λ a n. le-leb 2 (length a.points) (base_arc m base a n).two_points)

pub arc_has_segment : (m : BaseMap) → is_base m ≡ true → (i : ℕ) → i < length m.arcs → has_segment (arc_number m.arcs i) ≡ true
arc_has_segment m base i l =
    le-leb 2 (length (arc_number m.arcs i).points) (base_arc m base (arc_number m.arcs i) (number_among m.arcs i l)).two_points
