-- Outside the triangle of a removed vertex the parity of the borders above a point stays.
use Rattle.std.proofs.Common.{◌≡◌, ℕ, ◌+◌, ◌==◌, ◌&&◌, Bool, true, false, cond, List, [], ◌∷◌, ◌++◌, All, ℤ, refl, sym, ap, ap₂, ◌∙◌, true≢false}
use Rattle.std.specs.Prelude.{count_by}
use Rattle.std.proofs.lemmas.List.Elements.{All-head, All-tail}
use Rattle.lemmas.specs.Parity.{is_odd, either_alone}
use Rattle.lemmas.proofs.Counts.{is_odd-count_by-append}
use Rattle.tgap_model.specs.declared.geometry.Point.{Point}
use Rattle.tgap_model.specs.declared.geometry.Fraction.{Fraction}
use Rattle.tgap_model.specs.declared.slice.Edge.{Edge}
use Rattle.tgap_model.specs.declared.segment.LabelledSegment.{LabelledSegment}
use Rattle.tgap_model.specs.Partition.{is_empty, path_segments, edge_segments}
use Rattle.tgap_model.specs.Merged.{step_number}
use Rattle.map_laws.specs.Inside.{borders, crosses_ray, is_inside}
use Rattle.removal_laws.specs.Trace.{Taken, edges_without, trace_edges, swept_edges, trace_at, edges_before_sweep, edges_after_sweep, step_area}
use Rattle.removal_laws.specs.TraceLaws.{IsTakenByRule, LeadTo}
use Rattle.removal_laws.specs.InsideLaws.{is_over, is_in_triangle, IsOutside, ReplacedInside, SweepKeepsInside, StepKeepsInside}
use Rattle.removal_laws.proofs.Places.{place_after, front_segments}
use Rattle.removal_laws.proofs.Replaced.{edges_in_parts}
use Rattle.removal_laws.proofs.Tracing.{at_step, follow_edges}

module _ (p : Fraction) (f : ℕ) where
  -- the border segments of the face above the point are odd in number
  odd : List LabelledSegment → Bool
  odd ss = is_odd (count_by (λ s. crosses_ray p s && borders f s.left s.right) ss)

  odd_append : (xs ys : List LabelledSegment) → odd (xs ++ ys) ≡ either_alone (odd xs) (odd ys)
  unfolding odd
  odd_append xs ys = is_odd-count_by-append (λ s. crosses_ray p s && borders f s.left s.right) xs ys

  odd_one : (s : LabelledSegment) → odd (s ∷ []) ≡ (crosses_ray p s && borders f s.left s.right)
  unfolding odd
  odd_one s = by (crosses_ray p s && borders f s.left s.right)
    where
      by : (v : Bool) → is_odd (0 + cond {A = ℕ} v 1 0) ≡ v
      by true = refl
      by false = refl

  -- places do not count
  odd_path : (arc left right i j : ℕ) (points : List Point) → odd (path_segments arc left right i points) ≡ odd (path_segments arc left right j points)
  odd_path arc left right i j [] = refl
  odd_path arc left right i j (a ∷ []) = refl
  odd_path arc left right i j (a ∷ b ∷ points) =
      odd_append (segment i ∷ []) (path_segments arc left right (i + 1) (b ∷ points))
      ∙ ap₂ either_alone (odd_one (segment i) ∙ sym (odd_one (segment j))) (odd_path arc left right (i + 1) (j + 1) (b ∷ points))
      ∙ sym (odd_append (segment j ∷ []) (path_segments arc left right (j + 1) (b ∷ points)))
    where
      segment : ℕ → LabelledSegment
      segment n = record { segment = record { a = a; b = b }; left = left; right = right; arc = arc; place = n; starts = n == 0; ends = is_empty points }

-- three sides of which an even number is above the point: the third one is where exactly one of the others is
even_sides : (u v w : Bool) → is_odd (0 + cond {A = ℕ} u 1 0 + cond {A = ℕ} v 1 0 + cond {A = ℕ} w 1 0) ≡ false → w ≡ either_alone u v
even_sides true true true h = absurd (true≢false h)
even_sides true true false h = refl
even_sides true false true h = refl
even_sides true false false h = absurd (true≢false h)
even_sides false true true h = refl
even_sides false true false h = absurd (true≢false h)
even_sides false false true h = absurd (true≢false h)
even_sides false false false h = refl

alone_and : (u v g : Bool) → (either_alone u v && g) ≡ either_alone (u && g) (v && g)
alone_and true true true = refl
alone_and true true false = refl
alone_and true false true = refl
alone_and true false false = refl
alone_and false true g = refl
alone_and false false g = refl

alone_grouped : (u v w : Bool) → either_alone (either_alone u v) w ≡ either_alone u (either_alone v w)
alone_grouped true true true = refl
alone_grouped true true false = refl
alone_grouped true false w = refl
alone_grouped false v w = refl

pub replaced_inside : ReplacedInside
unfolding is_inside odd
replaced_inside before after e front rest a b c f p outside =
    ap (odd p f) (edges_in_parts before after e front a c rest)
    ∙ odd_append p f others (path_segments e.key e.left e.right n (a ∷ c ∷ rest) ++ edge_segments after)
    ∙ ap (either_alone (odd p f others)) (odd_append p f (path_segments e.key e.left e.right n (a ∷ c ∷ rest)) (edge_segments after)
    ∙ ap (λ (v : Bool). either_alone v (odd p f (edge_segments after))) replaced
    ∙ sym (odd_append p f (path_segments e.key e.left e.right n (a ∷ b ∷ c ∷ rest)) (edge_segments after)))
    ∙ sym (odd_append p f others (path_segments e.key e.left e.right n (a ∷ b ∷ c ∷ rest) ++ edge_segments after))
    ∙ ap (odd p f) (sym (edges_in_parts before after e front a b (c ∷ rest)))
  where
    n : ℕ
    n = place_after 0 front

    others : List LabelledSegment
    others = edge_segments before ++ front_segments e.key e.left e.right 0 front a

    segment : ℕ → Point → Point → List Point → LabelledSegment
    segment i u v more = record { segment = record { a = u; b = v }; left = e.left; right = e.right; arc = e.key; place = i; starts = i == 0; ends = is_empty more }

    over : Point → Point → Bool
    over u v = is_over p (record { a = u; b = v })

    border : Bool
    border = borders f e.left e.right

    replaced : odd p f (path_segments e.key e.left e.right n (a ∷ c ∷ rest)) ≡ odd p f (path_segments e.key e.left e.right n (a ∷ b ∷ c ∷ rest))
    replaced =
        odd_append p f (segment n a c rest ∷ []) (path_segments e.key e.left e.right (n + 1) (c ∷ rest))
        ∙ ap₂ either_alone (odd_one p f (segment n a c rest) ∙ ap (λ (v : Bool). v && border) (even_sides (over a b) (over b c) (over a c) outside) ∙ alone_and (over a b) (over b c) border)
        (odd_path p f e.key e.left e.right (n + 1) (n + 1 + 1) (c ∷ rest))
        ∙ alone_grouped (over a b && border) (over b c && border) (odd p f (path_segments e.key e.left e.right (n + 1 + 1) (c ∷ rest)))
        ∙ sym (odd_append p f (segment n a b (c ∷ rest) ∷ []) (segment (n + 1) b c rest ∷ path_segments e.key e.left e.right (n + 1 + 1) (c ∷ rest))
        ∙ ap₂ either_alone (odd_one p f (segment n a b (c ∷ rest)))
        (odd_append p f (segment (n + 1) b c rest ∷ []) (path_segments e.key e.left e.right (n + 1 + 1) (c ∷ rest))
        ∙ ap (λ (v : Bool). either_alone v (odd p f (path_segments e.key e.left e.right (n + 1 + 1) (c ∷ rest)))) (odd_one p f (segment (n + 1) b c rest))))

-- ---- a sweep

lead_inside : (ratio : ℕ) (area : ℤ) (made : ℕ) (f : ℕ) (p : Fraction) (edges : List Edge) (ts : List Taken) (last : List Edge) → LeadTo edges ts last
    → All (IsTakenByRule ratio area made) ts → IsOutside p ts → is_inside (edge_segments last) f p ≡ is_inside (edge_segments edges) f p
lead_inside ratio area made f p edges [] last leads rule outside = ap (λ es. is_inside (edge_segments es) f p) (sym leads)
lead_inside ratio area made f p edges (t ∷ ts) last leads rule outside =
    lead_inside ratio area made f p (edges_without t) ts last leads.1 (All-tail (IsTakenByRule ratio area made) t ts rule)
    (All-tail (λ (u : Taken). is_in_triangle u.a u.b u.c p ≡ false) t ts outside)
    ∙ replaced_inside t.before t.after t.edge t.front t.rest t.a t.b t.c f p (All-head (λ (u : Taken). is_in_triangle u.a u.b u.c p ≡ false) t ts outside)
    ∙ ap (λ ps. is_inside (edge_segments (t.before ++ record t.edge { points = ps } ∷ t.after)) f p) (sym (All-head (IsTakenByRule ratio area made) t ts rule).points)
    ∙ ap (λ es. is_inside (edge_segments es) f p) leads.0

pub sweep_keeps_inside : SweepKeepsInside
sweep_keeps_inside ratio area made step edges f p outside =
    let k = follow_edges ratio area made step [] edges in
    lead_inside ratio area made f p edges (trace_edges ratio area made step [] edges) (swept_edges ratio area made [] edges) k.leads k.rule outside

pub step_keeps_inside : StepKeepsInside
step_keeps_inside h j f p outside =
    lead_inside h.base.rules.ratio (step_area h j) (step_number h j).made f p (edges_before_sweep h j) (trace_at h j) (edges_after_sweep h j)
    (at_step h j).leads (at_step h j).rule outside
