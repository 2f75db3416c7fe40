use Rattle.std.proofs.Common.{◌≡◌, length, map, take, flat_map, All}
use Rattle.topo_write.specs.Polygons.{face_polygons, lines_of}
use Rattle.topo_write.specs.Building.{HasPlaces, rings_in, told}
use Rattle.topo_write.proofs.parts.parts_of.Given as goal

abbrev pub invariant-loop-row : goal.invariant-loop-row
invariant-loop-row l = record {
  told : map (told l.rings.rings) l.parts.items ≡ flat_map (λ row. face_polygons (lines_of l.edges) row (rings_in l.rings.rings l.rings.groups row.face)) (take l.row-index l.rows);
  within : All (HasPlaces (length l.rings.rings)) l.parts.items;
}
