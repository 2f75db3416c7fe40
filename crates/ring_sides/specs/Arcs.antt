-- The arcs of a topology that was read, with the shoelace sum of each.
use Rattle.std.specs.Prelude.{◌≡◌, ◌≤◌, ℕ, ◌+◌, ℤ, pos, nat_lt, Bool, List, length, map, sum_by, slice_index_or, IsTrue, if◌then◌else◌}
use Rattle.std.specs.List.{list_all}
use Rattle.tgap_model.specs.declared.geometry.Point.{Point}
use Rattle.tgap_model.specs.declared.limits.TheConstants.{MAX_ARCS, MAX_POINTS}
use Rattle.tgap_model.specs.Base.{same_point}
use Rattle.tgap_model.specs.Point.{shoelace}
use Rattle.topology_forms.specs.Rings.{is_raw_arc, points_named}

-- arcs that were read: each has its form, and they and their points are within the limits
pub record AreRawArcs (arcs : List (List Point)) : Type 0 where
  pub formed : IsTrue (list_all is_raw_arc arcs)
  pub few : length arcs ≤ MAX_ARCS
  pub short : sum_by length arcs ≤ MAX_POINTS

-- arcs that were read, and their shoelace sums
pub record AreMeasured (arcs : List (List Point)) (sums : List ℤ) : Type 0 where
  pub raw : AreRawArcs arcs
  pub measured : sums ≡ map shoelace arcs

-- all points of these arcs are one place
abbrev pub are_at : List (List Point) → List ℤ → Point → Bool
are_at arcs ring place = list_all (λ i. list_all (same_point place) (points_named arcs i)) ring

-- the index after a place of a ring; after the last one comes the first
abbrev pub index_after : List ℤ → ℕ → ℤ
index_after ring place =
    if nat_lt (place + 1) (length ring) then slice_index_or ring (place + 1) (pos 0) else slice_index_or ring 0 (pos 0)
