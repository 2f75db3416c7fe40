-- The arcs of a base map and the points of a new arc as rows within the limits, and the arcs as spans.
use Rattle.std.proofs.Common.{◌≡◌, ◌≢◌, ℕ, zero, suc, ◌+◌, ◌-◌, ◌<◌, ◌≤◌, true, not, List, [], ◌∷◌, length, get_or, sym, ap, ◌∙◌, subst, arith}
use Rattle.std.specs.List.{list_all, list_any}
use Rattle.std.proofs.lemmas.Bool.{and_parts, not-true, false≢true}
use Rattle.std.proofs.lemmas.List.{get_or-map, length-map}
use Rattle.std.proofs.lemmas.List.Folds.{list_any_at}
use Rattle.std.proofs.lemmas.List.Sums.{AllPass-from_list_all, sum_by-cons}
use Rattle.tgap_model.specs.declared.geometry.Point.{Point}
use Rattle.tgap_model.specs.declared.base.BaseArc.{BaseArc}
use Rattle.tgap_model.specs.declared.limits.TheConstants.{MAX_POINTS}
use Rattle.tgap_model.specs.Base.{BaseMap, same_point, in_limits, is_arc, no_repeat, count_points}
use Rattle.tgap_model.specs.Chains.{last_point}
use Rattle.tgap_model.proofs.BaseFacts.{ArcFacts, BaseFacts, arc_facts}
use Rattle.tgap_model.proofs.Points.{near_point, same_point-from}
use Rattle.ring_walk.specs.Sides.{origin}
use Rattle.ring_walk.specs.Spans.{IsSpan, AreSpans}
use Rattle.ring_probe.specs.Rows.{IsLine}
use Rattle.face_cuts.specs.Sectors.{point_at, span_of, spans_of}
use Rattle.face_cuts.specs.Outcomes.{has_room}
use Rattle.face_cuts.specs.Cuts.{all_different, are_free}
use Rattle.face_cuts.specs.NewRings.{AreLines, IsNewLine}
use Rattle.face_cuts.specs.Spokes.{IsDirection}
use Rattle.face_cuts.proofs.Cases.{first_is, last_is}
use Rattle.face_cuts.proofs.Maps.{room_facts}

-- ---- points within the limits, and different ones

limit_at : (ps : List Point) (i : ℕ) (d : Point) → list_all in_limits ps ≡ true → i < length ps → in_limits (get_or ps i d) ≡ true
limit_at ps i d h l = AllPass-from_list_all in_limits ps h i d l

pub line_from : (ps : List Point) → list_all in_limits ps ≡ true → 2 ≤ length ps → length ps ≤ MAX_POINTS → IsLine ps
line_from ps h long short = record { near = λ k d l. near_point (get_or ps k d) (limit_at ps k d h l); some = omega (arith, long); short = short }

pub different_at : (ps : List Point) (i j : ℕ) (d : Point) → all_different ps ≡ true → i < j → j < length ps → get_or ps i d ≢ get_or ps j d
different_at [] i j d h less l e = absurd (omega (arith, l))
different_at (p ∷ ps) zero zero d h less l e = absurd (omega (arith, less))
different_at (p ∷ ps) zero (suc j) d h less l e =
    let parts = and_parts (not (list_any (same_point p) ps)) (all_different ps) h in
    false≢true (sym (not-true (list_any (same_point p) ps) parts.0) ∙ list_any_at (same_point p) ps j d (omega (arith, l)) (same_point-from p (get_or ps j d) e))
different_at (p ∷ ps) (suc i) zero d h less l e = absurd (omega (arith, less))
different_at (p ∷ ps) (suc i) (suc j) d h less l e = different_at ps i j d (and_parts (not (list_any (same_point p) ps)) (all_different ps) h).1 (omega (arith, less)) (omega (arith, l)) e

apart_at : (ps : List Point) (i : ℕ) (d : Point) → no_repeat ps ≡ true → i + 1 < length ps → get_or ps i d ≢ get_or ps (i + 1) d
apart_at [] i d h l e = absurd (omega (arith, l))
apart_at (p ∷ []) i d h l e = absurd (omega (arith, l))
apart_at (p ∷ q ∷ ps) zero d h l e =
    let parts = and_parts (not (same_point p q)) (no_repeat (q ∷ ps)) h in
    false≢true (sym (not-true (same_point p q) parts.0) ∙ same_point-from p q e)
apart_at (p ∷ q ∷ ps) (suc i) d h l e =
    let next : suc i + 1 ≡ suc (i + 1) = omega arith in
    apart_at (q ∷ ps) i d (and_parts (not (same_point p q)) (no_repeat (q ∷ ps)) h).1 (omega (arith, l)) (e ∙ ap (λ k. get_or (p ∷ q ∷ ps) k d) next)

-- the direction in which a new arc leaves its last point
pub last_direction : (ps : List Point) → IsNewLine ps → IsDirection (last_point ps) (point_at ps (length ps - 2))
last_direction ps h =
    let long = h.long in
    let last = last_is ps origin (omega (arith, long)) in
    record {
      node = subst (λ (p : Point). in_limits p ≡ true) (sym last) (limit_at ps (length ps - 1) origin h.limits (omega (arith, long)));
      toward = limit_at ps (length ps - 2) origin h.limits (omega (arith, long));
      apart = λ e. different_at ps (length ps - 2) (length ps - 1) origin h.different (omega (arith, long)) (omega (arith, long)) (sym e ∙ last);
    }

-- ---- the arcs of a base map

part_of_sum : (arcs : List BaseArc) (k : ℕ) (d : BaseArc) → k < length arcs → length (get_or arcs k d).points ≤ count_points arcs
part_of_sum [] k d l = absurd (omega (arith, l))
part_of_sum (a ∷ arcs) zero d l = let e = sum_by-cons (λ (b : BaseArc). length b.points) a arcs in omega (arith, e)
part_of_sum (a ∷ arcs) (suc k) d l =
    let e = sum_by-cons (λ (b : BaseArc). length b.points) a arcs in
    let rest = part_of_sum arcs k d (omega (arith, l)) in
    omega (arith, e, rest)

module _ (m : BaseMap) (b : BaseFacts m) where
  facts : (k : ℕ) (d : BaseArc) → k < length m.arcs → ArcFacts (length m.classes) (get_or m.arcs k d)
  facts k d l = arc_facts (length m.classes) (get_or m.arcs k d) (AllPass-from_list_all (is_arc (length m.classes)) m.arcs b.arcs k d l)

  pub are_lines : AreLines m.arcs
  are_lines = record {
    few = b.few_arcs;
    each = λ k d l.
        let f = facts k d l in
        let few = b.few_points in
        let part = part_of_sum m.arcs k d l in
        line_from (get_or m.arcs k d).points f.in_limits f.two_points (omega (arith, part, few));
  }

  is_span : (a : BaseArc) → ArcFacts (length m.classes) a → IsSpan (span_of a)
  is_span a f =
      let ps = a.points in
      let long = f.two_points in
      let first = first_is ps origin (omega (arith, long)) in
      let last = last_is ps origin (omega (arith, long)) in
      let next : length ps - 2 + 1 ≡ length ps - 1 = omega (arith, long) in
      record {
        first = (
          subst (λ (p : Point). in_limits p ≡ true) (sym first) (limit_at ps 0 origin f.in_limits (omega (arith, long))),
          limit_at ps 1 origin f.in_limits (omega (arith, long)),
        );
        last = (
          subst (λ (p : Point). in_limits p ≡ true) (sym last) (limit_at ps (length ps - 1) origin f.in_limits (omega (arith, long))),
          limit_at ps (length ps - 2) origin f.in_limits (omega (arith, long)),
        );
        leaves_first = λ e. apart_at ps 0 origin f.apart (omega (arith, long)) (sym first ∙ e);
        leaves_last = λ e. apart_at ps (length ps - 2) origin f.apart (omega (arith, long)) (sym e ∙ last ∙ ap (λ k. get_or ps k origin) (sym next));
      }

  pub are_spans : AreSpans (spans_of m.arcs)
  are_spans =
      let long : length (spans_of m.arcs) ≡ length m.arcs = length-map m.arcs span_of in
      let few = b.few_arcs in
      record {
        few = omega (arith, long, few);
        each = λ k d l.
            let inside : k < length m.arcs = omega (arith, l, long) in
            let a : BaseArc = record { left = 0; right = 0; points = [] } in
            subst IsSpan (sym (get_or-map span_of m.arcs k a d inside)) (is_span (get_or m.arcs k a) (facts k a inside));
      }

-- the points of a new arc that has passed the tests
pub new_line : (m : BaseMap) (ps : List Point) → 2 ≤ length ps → list_all in_limits ps ≡ true → has_room m 1 1 (length ps) ≡ true → are_free m.arcs ps ≡ true → IsNewLine ps
new_line m ps long limits room free =
    let few = (room_facts m 1 1 (length ps) room).points in
    record { line = line_from ps limits long (omega (arith, few)); long = long; limits = limits; different = (and_parts (all_different ps) _ free).0 }
