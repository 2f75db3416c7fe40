-- Edges that have the same segments with the same faces, some of them turned round, have the same faces down each line, and the
-- same points are inside each face.
use Rattle.std.proofs.Common.{◌≡◌, ℕ, Bool, true, cond, ◌&&◌, pos, ◌<ℤ◌, List, map, get_or, All, AllPairs, Contains, filter, sym, ap, ap₂, ◌∙◌, subst}
use Rattle.std.proofs.lemmas.List.Elements.{All-map}
use Rattle.lemmas.specs.Parity.{is_odd}
use Rattle.lemmas.specs.Sorting.{is_sorted_by}
use Rattle.lemmas.proofs.Sorting.{map-is_sorted, sorted_same, Contains-sort_by, Contains-from_sort_by}
use Rattle.lemmas.proofs.Members.{Contains-filter, Contains-from_filter, Contains-map, Contains-from_map}
use Rattle.tgap_model.specs.declared.geometry.Fraction.{Fraction}
use Rattle.tgap_model.specs.declared.geometry.Seg.{Seg}
use Rattle.tgap_model.specs.declared.slice.Edge.{Edge}
use Rattle.tgap_model.specs.declared.segment.LabelledSegment.{LabelledSegment}
use Rattle.tgap_model.specs.Segment.{Line, IsBetweenColumns, run}
use Rattle.tgap_model.specs.Partition.{sides, stack, agree_from, edge_segments, AreApart}
use Rattle.map_laws.specs.Inside.{borders, is_inside}
use Rattle.removal_laws.specs.StackLaws.{AgreeOn}
use Rattle.map_laws.proofs.Inside.{run_positive}
use Rattle.planar_stack.proofs.Heights.{crossed, higher, stack_is_crossed, stack_is_sorted}
use Rattle.slice_laws.proofs.Mirrored.{meets_ray, meets_ray_flip, borders_flip}
use Rattle.slice_laws.proofs.Places.{at_among, among_at}
use Rattle.slice_laws.proofs.SliceStacks.{Strand, strand, is_over, over_order, higher_strands, mirror_strand, mirror_crossed, strand_sides, contains_at, at_contains}
use Rattle.step_laws.proofs.StepEdges.{HaveSame}
use Rattle.step_laws.proofs.SameEdges.{AreThere, same_back}

-- ---- the strands down a line

module _ (l : Line) (rational : pos 0 <ℤ l.c) where
  -- the strands of the segments that the line crosses, from top to bottom
  abbrev strands : List LabelledSegment → List Strand
  strands ss = map strand (stack l ss)

  strands_run : (ss : List LabelledSegment) → All (λ (x : Strand). pos 0 <ℤ run x.segment) (strands ss)
  strands_run ss =
      All-map (λ (x : Strand). pos 0 <ℤ run x.segment) strand (stack l ss)
      (λ i d n. run_positive l (get_or (stack l ss) i d).segment rational (stack_is_crossed l ss i d n))

  strands_sorted : (ss : List LabelledSegment) → AllPairs AreApart ss → is_sorted_by (is_over l) (strands ss) ≡ true
  strands_sorted ss apart =
      map-is_sorted (λ s. Unit {0}) (higher l) (is_over l) strand (λ s t p q. higher_strands l s t) (stack l ss) (λ i d n. tt)
      ∙ stack_is_sorted l rational ss apart

  -- a strand of segments that are there is a strand of the others
  strands_there : (ss ts : List LabelledSegment) → AreThere ss ts → (z : Strand) → Contains (strands ss) z → Contains (strands ts) z
  strands_there ss ts there z c =
      let s = Contains-from_map strand (stack l ss) z c in
      let f = Contains-from_filter (crossed l) ss s.0 (Contains-from_sort_by (higher l) (filter (crossed l) ss) s.0 s.1) in
      let n = at_contains ss s.0 f.0 in
      let t = there s.0 (at_among ss n.0 s.0 n.1) in
      let m = among_at ts t.0 t.1 in
      subst (Contains (strands ts)) (mirror_strand l (λ n. n) s.0 t.0 f.1 t.2 ∙ s.2)
      (Contains-map strand (stack l ts) t.0
      (Contains-sort_by (higher l) (filter (crossed l) ts) t.0
      (Contains-filter (crossed l) ts t.0 (contains_at ts m.0 t.0 m.1) (mirror_crossed l (λ n. n) s.0 t.0 t.2 ∙ f.1))))

  same_strands : (ss ts : List LabelledSegment) → AllPairs AreApart ss → AllPairs AreApart ts → AreThere ss ts → AreThere ts ss
      → strands ss ≡ strands ts
  same_strands ss ts apart others there back =
      sorted_same (over_order l) (strands ss) (strands ts) (strands_run ss) (strands_run ts) (strands_sorted ss apart) (strands_sorted ts others)
      (strands_there ss ts there) (strands_there ts ss back)

-- ---- the laws

-- the faces down the line are the same
same_sides : (es fs : List Edge) → AllPairs AreApart (edge_segments es) → AllPairs AreApart (edge_segments fs) → HaveSame es fs
    → (l : Line) → pos 0 <ℤ l.c → map sides (stack l (edge_segments es)) ≡ map sides (stack l (edge_segments fs))
same_sides es fs apart others same l rational =
    sym (strand_sides (stack l (edge_segments es)))
    ∙ ap (map (λ (x : Strand). record { upper = x.upper; lower = x.lower }))
    (same_strands l rational (edge_segments es) (edge_segments fs) apart others same.there
    (λ t m. let s = same.back t m in (s.0, s.1, same_back s.0 t s.2)))
    ∙ strand_sides (stack l (edge_segments fs))

-- so they agree
pub same_agree : (es fs : List Edge) → AllPairs AreApart (edge_segments es) → AllPairs AreApart (edge_segments fs) → HaveSame es fs
    → (l : Line) → IsBetweenColumns l → AgreeOn l es → AgreeOn l fs
same_agree es fs apart others same l between h = ap (agree_from 0) (sym (same_sides es fs apart others same l between.rational)) ∙ h

-- and the same points are inside
pub same_inside : (es fs : List Edge) → HaveSame es fs → (f : ℕ) (p : Fraction)
    → is_inside (edge_segments es) f p ≡ is_inside (edge_segments fs) f p
unfolding is_inside
same_inside es fs same f p =
    ap is_odd (same.sums (λ (s : Seg) (l r : ℕ). cond (meets_ray p s && borders f l r) 1 0)
    (λ s l r. ap₂ (λ (a b : Bool). cond (a && b) 1 0) (meets_ray_flip p s) (borders_flip f l r)))
