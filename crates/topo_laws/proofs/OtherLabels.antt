-- Segments of a planar partition with other labels and other numbers of their arcs, from which the first ones can be told, are a planar
-- partition again.
use Rattle.std.proofs.Common.{◌≡◌, ℕ, ◌+◌, ◌<◌, ◌==◌, Bool, true, false, cond, ◌&&◌, ◌||◌, if◌then◌else◌, List, [], ◌∷◌, ◌++◌, length, map, filter, flat_map, get_or, All, None, refl, sym, ap, ap₂, ◌∙◌, subst, eq-eqb, eqb-true, ne_eqb, arith}
use Rattle.std.proofs.lemmas.Bool.{and_parts, and_from, true≢false}
use Rattle.std.proofs.lemmas.List.{map-append, get_or-map, length-map}
use Rattle.std.proofs.lemmas.List.Elements.{All-map}
use Rattle.lemmas.specs.Sorting.{sort_by}
use Rattle.lemmas.proofs.Sorting.{map-sort_by}
use Rattle.tgap_model.specs.declared.geometry.Point.{Point}
use Rattle.tgap_model.specs.declared.geometry.Shared.{Shared}
use Rattle.tgap_model.specs.declared.segment.LabelledSegment.{LabelledSegment}
use Rattle.tgap_model.specs.Base.{same_point}
use Rattle.tgap_model.specs.Segment.{Line, crosses, goes_right, is_higher, HaveInCommon}
use Rattle.tgap_model.specs.Partition.{AreApart, Spoke, spokes_of, spokes_at, node_fault, Sides, sides, stack, agree_from, IsPartition}
use Rattle.slice_laws.proofs.SpokeRings.{IsPath, with_faces, closed_from_ring, ring_from_closed, spoke, comes_before}

module _ (number label : ℕ → ℕ) where
  -- the segment with these
  abbrev pub with_labels : LabelledSegment → LabelledSegment
  with_labels s = record s { left = label s.left; right = label s.right; arc = number s.arc }

  -- ---- round a node

  one_spoke : (v : Point) (s : LabelledSegment) → spokes_of v (with_labels s) ≡ map (with_faces label) (spokes_of v s)
  one_spoke v s = by (s.starts && same_point s.segment.a v) (s.ends && same_point s.segment.b v)
    where
      by : (a b : Bool) → (if a then spoke s.segment.b (label s.left) (label s.right) ∷ [] else []) ++ (if b then spoke s.segment.a (label s.right) (label s.left) ∷ [] else [])
          ≡ map (with_faces label) ((if a then spoke s.segment.b s.left s.right ∷ [] else []) ++ (if b then spoke s.segment.a s.right s.left ∷ [] else []))
      by true true = refl
      by true false = refl
      by false true = refl
      by false false = refl

  all_spokes : (v : Point) (segments : List LabelledSegment) → flat_map (spokes_of v) (map with_labels segments) ≡ map (with_faces label) (flat_map (spokes_of v) segments)
  all_spokes v [] = refl
  all_spokes v (s ∷ segments) =
      ap₂ (λ (ps qs : List Spoke). ps ++ qs) (one_spoke v s) (all_spokes v segments)
      ∙ sym (map-append (with_faces label) (spokes_of v s) (flat_map (spokes_of v) segments))

  spokes_labelled : (v : Point) (segments : List LabelledSegment) → spokes_at v (map with_labels segments) ≡ map (with_faces label) (spokes_at v segments)
  spokes_labelled v segments =
      ap (sort_by (comes_before v)) (all_spokes v segments)
      ∙ sym (map-sort_by (λ (p : Spoke). Unit {0}) (comes_before v) (comes_before v) (with_faces label) (λ x y p q. refl) (flat_map (spokes_of v) segments) (λ k d l. tt))

  path_labelled : (a e : ℕ) (ps : List Spoke) → IsPath a e ps → IsPath (label a) (label e) (map (with_faces label) ps)
  path_labelled a e [] h = ap label h
  path_labelled a e (p ∷ ps) h = (ap label h.0, path_labelled p.left e ps h.1)

  node_labelled : (v : Point) (segments : List LabelledSegment) → node_fault segments v ≡ None → node_fault (map with_labels segments) v ≡ None
  node_labelled v segments e =
      let path = closed_from_ring v (spokes_at v segments) e in
      ring_from_closed v (spokes_at v (map with_labels segments)) (label path.0)
      (subst (IsPath (label path.0) (label path.0)) (sym (spokes_labelled v segments)) (path_labelled path.0 path.0 (spokes_at v segments) path.1))

  -- ---- down a line

  filter_labelled : (l : Line) (segments : List LabelledSegment) → filter (λ s. crosses l s.segment) (map with_labels segments) ≡ map with_labels (filter (λ s. crosses l s.segment) segments)
  filter_labelled l [] = refl
  filter_labelled l (s ∷ segments) = by (crosses l s.segment) (filter_labelled l segments)
    where
      by : (b : Bool) → filter (λ s. crosses l s.segment) (map with_labels segments) ≡ map with_labels (filter (λ s. crosses l s.segment) segments)
          → cond b (with_labels s ∷ filter (λ s. crosses l s.segment) (map with_labels segments)) (filter (λ s. crosses l s.segment) (map with_labels segments))
          ≡ map with_labels (cond b (s ∷ filter (λ s. crosses l s.segment) segments) (filter (λ s. crosses l s.segment) segments))
      by true e = ap (λ (ss : List LabelledSegment). with_labels s ∷ ss) e
      by false e = e

  stack_labelled : (l : Line) (segments : List LabelledSegment) → stack l (map with_labels segments) ≡ map with_labels (stack l segments)
  stack_labelled l segments =
      ap (sort_by (λ (s t : LabelledSegment). is_higher l s.segment t.segment)) (filter_labelled l segments)
      ∙ sym (map-sort_by (λ (s : LabelledSegment). Unit {0}) (λ s t. is_higher l s.segment t.segment) (λ s t. is_higher l s.segment t.segment) with_labels (λ x y p q. refl)
      (filter (λ s. crosses l s.segment) segments) (λ k d l. tt))

  abbrev faces : ℕ → ℕ → Sides
  faces upper lower = record { upper = upper; lower = lower }

  abbrev other_sides : Sides → Sides
  other_sides s = faces (label s.upper) (label s.lower)

  side_labelled : (s : LabelledSegment) → sides (with_labels s) ≡ other_sides (sides s)
  side_labelled s = by (goes_right s.segment)
    where
      by : (b : Bool) → (if b then faces (label s.left) (label s.right) else faces (label s.right) (label s.left))
          ≡ other_sides (if b then faces s.left s.right else faces s.right s.left)
      by true = refl
      by false = refl

  sides_labelled : (segments : List LabelledSegment) → map sides (map with_labels segments) ≡ map other_sides (map sides segments)
  sides_labelled [] = refl
  sides_labelled (s ∷ segments) = ap₂ (λ (t : Sides) ts. t ∷ ts) (side_labelled s) (sides_labelled segments)

  agree_labelled : (u : ℕ) (ss : List Sides) → label 0 ≡ 0 → agree_from u ss ≡ true → agree_from (label u) (map other_sides ss) ≡ true
  agree_labelled u [] none e = eq-eqb (label u) 0 (ap label (eqb-true u 0 e) ∙ none)
  agree_labelled u (s ∷ ss) none e =
      let parts = and_parts (s.upper == u) (agree_from s.lower ss) e in
      and_from _ _ (eq-eqb (label s.upper) (label u) (ap label (eqb-true s.upper u parts.0))) (agree_labelled s.lower ss none parts.1)

  -- ---- all at once

  module _ (number_back label_back : ℕ → ℕ) where
    -- the first number and labels can be told
    pub record IsTold (s : LabelledSegment) : Type 0 where
      pub arc : number_back (number s.arc) ≡ s.arc
      pub left : label_back (label s.left) ≡ s.left
      pub right : label_back (label s.right) ≡ s.right

    same_test : (back : ℕ → ℕ) (f : ℕ → ℕ) (a b : ℕ) → back (f a) ≡ a → back (f b) ≡ b → (f a == f b) ≡ (a == b)
    same_test back f a b e g = by (a == b) refl
      where
        by : (x : Bool) → (a == b) ≡ x → (f a == f b) ≡ x
        by true h = eq-eqb (f a) (f b) (ap f (eqb-true a b h))
        by false h = ne_eqb (f a) (f b) (λ same. true≢false (sym (eq-eqb a b (sym e ∙ ap back same ∙ g)) ∙ h))

    -- the ends that two segments may share, by the two tests that ask for their arcs
    abbrev shared_by : LabelledSegment → LabelledSegment → Bool → Bool → Shared
    shared_by s t x y = record {
      aa = same_point s.segment.a t.segment.a && s.starts && t.starts;
      ab = same_point s.segment.a t.segment.b && ((s.starts && t.ends) || (x && (t.place + 1 == s.place)));
      ba = same_point s.segment.b t.segment.a && ((s.ends && t.starts) || (y && (s.place + 1 == t.place)));
      bb = same_point s.segment.b t.segment.b && s.ends && t.ends;
    }

    apart_labelled : (s t : LabelledSegment) → IsTold s → IsTold t → AreApart s t → AreApart (with_labels s) (with_labels t)
    apart_labelled s t h k apart p =
        subst (λ (e : Shared). HaveInCommon s.segment t.segment e p → ⊥)
        (ap₂ (shared_by s t)
        (sym (same_test number_back number t.arc s.arc k.arc h.arc)) (sym (same_test number_back number s.arc t.arc h.arc k.arc)))
        (apart p)

    pub labelled_partition : (segments : List LabelledSegment) → label 0 ≡ 0 → All IsTold segments → IsPartition segments → IsPartition (map with_labels segments)
    labelled_partition segments none told planar = record {
      arcs = record {
        apart = λ i j d less short.
            let long = length-map segments with_labels in
            let l : j < length segments = omega (arith, short, long) in
            let k : i < length segments = omega (arith, less, l) in
            subst (λ x. AreApart x (get_or (map with_labels segments) j d)) (sym (get_or-map with_labels segments i d d k))
            (subst (AreApart (with_labels (get_or segments i d))) (sym (get_or-map with_labels segments j d d l))
            (apart_labelled (get_or segments i d) (get_or segments j d) (told i d k) (told j d l) (planar.arcs.apart i j d less l)));
        two_faces = All-map (λ s. (s.left == s.right) ≡ false) with_labels segments (λ i d l.
            let s = get_or segments i d in
            let h = told i d l in
            same_test label_back label s.left s.right h.left h.right ∙ planar.arcs.two_faces i d l);
        nodes = λ v. node_labelled v segments (planar.arcs.nodes v);
      };
      stacks = λ l between.
          ap (λ ss. agree_from 0 (map sides ss)) (stack_labelled l segments) ∙ ap (agree_from 0) (sides_labelled (stack l segments))
          ∙ subst (λ u. agree_from u (map other_sides (map sides (stack l segments))) ≡ true) none (agree_labelled 0 (map sides (stack l segments)) none (planar.stacks l between));
    }
