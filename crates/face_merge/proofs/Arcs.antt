-- The loops over the arcs: the labels of an arc are faces, there is room for its measures, and the end.
use Rattle.std.proofs.Common.{◌≡◌, ◌<◌, ◌≤◌, ℕ, ◌+◌, ℤ, pos, unsigned_abs, List, length, get_or, take, ◌∙◌, ap}
use Rattle.std.specs.List.{All}
use Rattle.std.proofs.lemmas.List.{take_all}
use Rattle.std.proofs.lemmas.List.Elements.{All-get_or}
use Rattle.tgap_model.specs.declared.merge.LabelledArc.{LabelledArc}
use Rattle.tgap_model.specs.declared.limits.TheConstants.{MAX_ARCS}
use Rattle.tgap_model.specs.Bounds.{max_area, max_arc_area}
use Rattle.tgap_model.specs.History.{area_of}
use Rattle.face_merge.specs.Measures.{IsMeasured}
use Rattle.face_merge.specs.Merging.{IsLabelled, AreAreas}
use Rattle.face_merge.proofs.Sums.{area_so_far}

-- the arc at place i, beside the areas by the arcs before it
pub record ArcFacts (faces : ℕ) (arcs : List LabelledArc) (i : ℕ) (a : LabelledArc) : Type 0 where
  pub labels : IsLabelled faces a
  pub sizes : IsMeasured a
  pub room : (f : ℕ) → unsigned_abs (area_of (take i arcs) f) + max_arc_area ≤ max_area
  pub few : length arcs ≤ MAX_ARCS

pub arc_facts : (faces : ℕ) (arcs : List LabelledArc) (i : ℕ) (d : LabelledArc) → All (IsLabelled faces) arcs → All IsMeasured arcs → length arcs ≤ MAX_ARCS → i < length arcs
    → ArcFacts faces arcs i (get_or arcs i d)
arc_facts faces arcs i d labels sizes few inside =
    record {
      labels = All-get_or (IsLabelled faces) arcs i d inside labels;
      sizes = All-get_or IsMeasured arcs i d inside sizes;
      room = λ f. area_so_far f arcs i sizes inside few;
      few = few;
    }

-- the areas by all arcs
pub all_areas : (faces : ℕ) (arcs : List LabelledArc) (i : ℕ) (areas : List ℤ) → length arcs ≤ i
    → length areas ≡ faces + 1 → ((f : ℕ) → f ≤ faces → get_or areas f (pos 0) ≡ area_of (take i arcs) f) → AreAreas faces arcs areas
all_areas faces arcs i areas end count value =
    let whole : take i arcs ≡ arcs = take_all i arcs end in
    record {
      count = count;
      value = λ f p. value f p ∙ ap (λ (xs : List LabelledArc). area_of xs f) whole;
    }
