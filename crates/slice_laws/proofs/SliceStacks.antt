-- Down each line the segments of a slice are those of the base map whose labels differ, with their labels; so they agree.
use Rattle.std.proofs.Common.{◌≡◌, ◌≢◌, inl, inr, ℕ, Bool, true, false, not, cond, ◌==◌, pos, ◌<ℤ◌, ◌*ℤ◌, int_lt, List, [], ◌∷◌, map, filter, get_or, Contains, refl, sym, ap, ap₂, ◌∙◌, subst, ne_eqb}
use Rattle.std.proofs.lemmas.Bool.{eqb-false, not-true}
use Rattle.std.proofs.lemmas.List.Elements.{All-filter, All-map}
use Rattle.std.proofs.lemmas.Simd.{map-map}
use Rattle.lemmas.specs.Sorting.{is_sorted_by, IsStrictOrderOn}
use Rattle.lemmas.proofs.Sorting.{filter-is_sorted, map-is_sorted, sorted_same, Contains-sort_by, Contains-from_sort_by}
use Rattle.lemmas.proofs.Orders.{fraction_order, order_reversed}
use Rattle.lemmas.proofs.Members.{Contains-filter, Contains-from_filter, Contains-map, Contains-from_map}
use Rattle.tgap_model.specs.declared.geometry.Seg.{Seg}
use Rattle.tgap_model.specs.declared.segment.LabelledSegment.{LabelledSegment}
use Rattle.tgap_model.specs.Base.{BaseMap, is_base}
use Rattle.tgap_model.specs.Segment.{Line, IsBetweenColumns, crosses, goes_right, rightward, run, height, is_higher}
use Rattle.tgap_model.specs.Partition.{Sides, sides, stack, agree_from, base_segments, IsPartition}
use Rattle.tgap_model.specs.Merged.{merged, label_at}
use Rattle.tgap_model.specs.Chains.{Chain, are_chains}
use Rattle.map_laws.specs.PlaneLaws.{relabelled}
use Rattle.map_laws.proofs.Labels.{labels_agree}
use Rattle.map_laws.proofs.Inside.{run_positive}
use Rattle.planar_stack.proofs.Heights.{crossed, higher, order_of_heights, stack_is_crossed, stack_is_sorted}
use Rattle.slice_laws.proofs.Paths.{flip}
use Rattle.slice_laws.proofs.Mirrored.{crosses_flip, one_direction}
use Rattle.slice_laws.proofs.Relabelled.{with_labels, sides_with_labels}
use Rattle.slice_laws.proofs.Outside.{outside_label}
use Rattle.slice_laws.proofs.Places.{At, at_among, among_at, at_place, place_at}
use Rattle.slice_laws.proofs.SliceSegments.{shown_at, slice_apart}
use Rattle.slice_laws.proofs.Correspondence.{IsMirror, shown_mirror, piece_among, labels_differ, base_shown}
use Rattle.slice_laws.proofs.EdgeSums.{all_segments}

-- ---- members by places

pub contains_at : {A : Type 0} (xs : List A) (n : ℕ) (x : A) → At xs n x → Contains xs x
contains_at xs n x a = let p = at_place xs n x x a in (n, p.0, p.1)

pub at_contains : {A : Type 0} (xs : List A) (x : A) → Contains xs x → (n : ℕ) × At xs n x
at_contains xs x (n, l, e) = (n, subst (λ z. At xs n z) e (place_at xs n x l))

-- ---- a segment without its direction

-- a segment from left to right, with the faces above and below it
pub record Strand : Type 0 where
  pub segment : Seg
  pub upper : ℕ
  pub lower : ℕ

abbrev pub strand : LabelledSegment → Strand
strand s = record { segment = rightward s.segment; upper = (sides s).upper; lower = (sides s).lower }

abbrev pub is_over : Line → Strand → Strand → Bool
is_over l x y = int_lt (height l y.segment *ℤ run x.segment) (height l x.segment *ℤ run y.segment)

pub higher_strands : (l : Line) (s t : LabelledSegment) → is_over l (strand s) (strand t) ≡ higher l s t
unfolding is_higher
higher_strands l s t = refl

pub over_order : (l : Line) → IsStrictOrderOn (λ (x : Strand). pos 0 <ℤ run x.segment) (is_over l)
over_order l = order_reversed (fraction_order (λ (x : Strand). height l x.segment) (λ x. run x.segment))

-- the strand of a segment with these faces, where it goes to the right or not
abbrev pub facing : Bool → Seg → ℕ → ℕ → Strand
facing b g l r =
    let s : Sides = cond b (record { upper = l; lower = r }) (record { upper = r; lower = l }) in
    record { segment = cond b g (flip g); upper = s.upper; lower = s.lower }

-- turned round, with its faces exchanged, it has the same strand
pub strand_flip : (l : Line) (g : Seg) (p q : ℕ) → crosses l g ≡ true → facing (goes_right (flip g)) (flip g) q p ≡ facing (goes_right g) g p q
strand_flip l g p q h = ap (λ (b : Bool). facing b (flip g) q p) (one_direction l g h) ∙ by (goes_right g)
  where
    by : (b : Bool) → facing (not b) (flip g) q p ≡ facing b g p q
    by true = refl
    by false = refl

pub mirror_strand : (l : Line) (g : ℕ → ℕ) (b s : LabelledSegment) → crosses l b.segment ≡ true → IsMirror g b s → strand s ≡ strand (with_labels g b)
mirror_strand l g b s h (inl (e, f, k)) =
    ap (λ (x : Seg). facing (goes_right x) x s.left s.right) e ∙ ap₂ (λ (u v : ℕ). facing (goes_right b.segment) b.segment u v) f k
mirror_strand l g b s h (inr (e, f, k)) =
    ap (λ (x : Seg). facing (goes_right x) x s.left s.right) e ∙ ap₂ (λ (u v : ℕ). facing (goes_right (flip b.segment)) (flip b.segment) u v) f k
    ∙ strand_flip l b.segment (g b.left) (g b.right) h

-- and is crossed by the same lines
pub mirror_crossed : (l : Line) (g : ℕ → ℕ) (b s : LabelledSegment) → IsMirror g b s → crosses l s.segment ≡ crosses l b.segment
mirror_crossed l g b s (inl (e, f, k)) = ap (crosses l) e
mirror_crossed l g b s (inr (e, f, k)) = ap (crosses l) e ∙ crosses_flip l b.segment

-- the labels above and below a segment differ
abbrev parts : (ℕ → ℕ) → LabelledSegment → Bool
parts g s = not (g (sides s).upper == g (sides s).lower)

parts_from : (g : ℕ → ℕ) (s : LabelledSegment) → g s.left ≢ g s.right → parts g s ≡ true
parts_from g s n = by (goes_right s.segment)
  where
    by : (b : Bool)
        → not (g (let x : Sides = cond b (record { upper = s.left; lower = s.right }) (record { upper = s.right; lower = s.left }) in x.upper)
        == g (let x : Sides = cond b (record { upper = s.left; lower = s.right }) (record { upper = s.right; lower = s.left }) in x.lower)) ≡ true
    by true = ap not (ne_eqb _ _ n)
    by false = ap not (ne_eqb _ _ (λ e. n (sym e)))

parts_differ : (g : ℕ → ℕ) (s : LabelledSegment) → parts g s ≡ true → g s.left ≢ g s.right
parts_differ g s h = by (goes_right s.segment) (eqb-false _ _ (not-true _ h))
  where
    by : (b : Bool) → g (let x : Sides = cond b (record { upper = s.left; lower = s.right }) (record { upper = s.right; lower = s.left }) in x.upper)
        ≢ g
        (let x : Sides = cond b (record { upper = s.left; lower = s.right }) (record { upper = s.right; lower = s.left }) in x.lower) → g s.left ≢ g s.right
    by true n = n
    by false n = λ e. n (sym e)

-- ---- the sides down a line

pub strand_sides : (ss : List LabelledSegment) → map (λ (x : Strand). record { upper = x.upper; lower = x.lower }) (map strand ss) ≡ map sides ss
strand_sides [] = refl
strand_sides (s ∷ ss) = ap (λ xs. sides s ∷ xs) (strand_sides ss)

parts_relabelled : (g : ℕ → ℕ) (ss : List LabelledSegment) → map sides (map (with_labels g) (filter (parts g) ss)) ≡ relabelled g (map sides ss)
parts_relabelled g [] = refl
parts_relabelled g (s ∷ ss) = by (g (sides s).upper == g (sides s).lower) (parts_relabelled g ss)
  where
    by : (b : Bool) → map sides (map (with_labels g) (filter (parts g) ss)) ≡ relabelled g (map sides ss)
        → map sides (map (with_labels g) (cond (not b) (s ∷ filter (parts g) ss) (filter (parts g) ss)))
        ≡ elim b [ true ↦ relabelled g (map sides ss) | false ↦ record { upper = g (sides s).upper; lower = g (sides s).lower } ∷ relabelled g (map sides ss) ]
    by true e = e
    by false e = ap₂ (λ x xs. x ∷ xs) (sides_with_labels g s) e

-- ---- the stack of a slice

-- the segments of the base map whose labels differ, down the line
abbrev kept : BaseMap → ℕ → Line → List LabelledSegment
kept m k l = filter (parts (label_at (merged m) k)) (stack l (base_segments m))

-- their strands with the labels, and the strands of the slice
abbrev base_strands : BaseMap → ℕ → Line → List Strand
base_strands m k l = map (λ s. strand (with_labels (label_at (merged m) k) s)) (kept m k l)

abbrev slice_strands : BaseMap → ℕ → List Chain → Line → List Strand
slice_strands m k cs l = map strand (stack l (all_segments m k cs))

module _ (m : BaseMap) (base : is_base m ≡ true) (planar : IsPartition (base_segments m)) (k : ℕ) (cs : List Chain)
    (t : are_chains (merged m) k cs ≡ true) (l : Line) (rational : pos 0 <ℤ l.c) where
  slice_sorted : is_sorted_by (is_over l) (slice_strands m k cs l) ≡ true
  slice_sorted =
      map-is_sorted (λ s. Unit {0}) (higher l) (is_over l) strand (λ s u p q. higher_strands l s u) (stack l (all_segments m k cs)) (λ i d n. tt)
      ∙ stack_is_sorted l rational (all_segments m k cs) (slice_apart m base k cs t planar.arcs.apart)

  base_sorted : is_sorted_by (is_over l) (base_strands m k l) ≡ true
  base_sorted =
      let g : ℕ → ℕ = label_at (merged m) k in
      map-is_sorted (λ s. Unit {0}) (higher l) (is_over l) (λ s. strand (with_labels g s))
      (λ s u p q. higher_strands l (with_labels g s) (with_labels g u)) (kept m k l) (λ i d n. tt)
      ∙ filter-is_sorted (order_of_heights l rational) (parts g) (stack l (base_segments m)) (stack_is_crossed l (base_segments m))
      (stack_is_sorted l rational (base_segments m) planar.arcs.apart)

  -- a segment that the line crosses is a member of the stack, and no other one is
  in_stack : (segments : List LabelledSegment) (n : ℕ) (s : LabelledSegment) → At segments n s → crosses l s.segment ≡ true
      → Contains (stack l segments) s
  in_stack segments n s a c =
      Contains-sort_by (higher l) (filter (crossed l) segments) s (Contains-filter (crossed l) segments s (contains_at segments n s a) c)

  from_stack : (segments : List LabelledSegment) (s : LabelledSegment) → Contains (stack l segments) s
      → (n : ℕ) × At segments n s × (crosses l s.segment ≡ true)
  from_stack segments s c =
      let f = Contains-from_filter (crossed l) segments s (Contains-from_sort_by (higher l) (filter (crossed l) segments) s c) in
      let n = at_contains segments s f.0 in
      (n.0, n.1, f.1)

  -- the two lists have the same members
  there : (z : Strand) → Contains (slice_strands m k cs l) z
      → Contains (base_strands m k l) z
  there z c =
      let g : ℕ → ℕ = label_at (merged m) k in
      let f = Contains-from_map strand (stack l (all_segments m k cs)) z c in
      let s = from_stack (all_segments m k cs) f.0 f.1 in
      let x = shown_at m base k cs t s.0 f.0 s.1 in
      let mirror = shown_mirror m base planar.arcs.nodes k cs t s.0 f.0 x in
      let across : crosses l x.p.base.segment ≡ true = sym (mirror_crossed l g x.p.base f.0 mirror) ∙ s.2 in
      let member = among_at (base_segments m) x.p.base (piece_among m base planar.arcs.nodes k cs t x.at.stands) in
      subst (Contains (base_strands m k l)) (sym (mirror_strand l g x.p.base f.0 across mirror) ∙ f.2)
      (Contains-map (λ s. strand (with_labels g s)) (kept m k l) x.p.base
      (Contains-filter (parts g) (stack l (base_segments m)) x.p.base (in_stack (base_segments m) member.0 x.p.base member.1 across)
      (parts_from g x.p.base (labels_differ m base planar.arcs.nodes k cs t s.0 f.0 x))))

  back : (z : Strand) → Contains (base_strands m k l) z
      → Contains (slice_strands m k cs l) z
  back z c =
      let g : ℕ → ℕ = label_at (merged m) k in
      let f = Contains-from_map (λ s. strand (with_labels g s)) (kept m k l) z c in
      let d = Contains-from_filter (parts g) (stack l (base_segments m)) f.0 f.1 in
      let b = from_stack (base_segments m) f.0 d.0 in
      let s = base_shown m base planar.arcs.nodes k cs t f.0 (at_among (base_segments m) b.0 f.0 b.1) (parts_differ g f.0 d.1) in
      let mirror : IsMirror g f.0 s.1 = subst (λ x. IsMirror g x s.1) s.4 (shown_mirror m base planar.arcs.nodes k cs t s.0 s.1 s.3) in
      let across : crosses l s.1.segment ≡ true = mirror_crossed l g f.0 s.1 mirror ∙ b.2 in
      subst (Contains (slice_strands m k cs l)) (mirror_strand l g f.0 s.1 b.2 mirror ∙ f.2)
      (Contains-map strand (stack l (all_segments m k cs)) s.1 (in_stack (all_segments m k cs) s.0 s.1 s.2 across))

  -- so they are one
  runs_right : (s : LabelledSegment) → crosses l s.segment ≡ true → pos 0 <ℤ run (strand s).segment
  runs_right s c = run_positive l s.segment rational c

  one_stack : slice_strands m k cs l
      ≡ base_strands m k l
  one_stack =
      let g : ℕ → ℕ = label_at (merged m) k in
      let P : Strand → Type 0 = λ (x : Strand). pos 0 <ℤ run x.segment in
      sorted_same (over_order l) (slice_strands m k cs l) (base_strands m k l)
      (All-map P strand (stack l (all_segments m k cs)) (λ i d n. runs_right (get_or (stack l (all_segments m k cs)) i d) (stack_is_crossed l (all_segments m k cs) i d n)))
      (All-map P (λ s. strand (with_labels g s)) (kept m k l)
      (All-filter (parts g) (λ s. P (strand (with_labels g s))) (stack l (base_segments m)) (λ i d n. runs_right (get_or (stack l (base_segments m)) i d) (stack_is_crossed l (base_segments m) i d n))))
      slice_sorted base_sorted there back

  -- and have the sides of the base map with their labels, less those that became one
  pub slice_sides : map sides (stack l (all_segments m k cs)) ≡ relabelled (label_at (merged m) k) (map sides (stack l (base_segments m)))
  slice_sides =
      let g : ℕ → ℕ = label_at (merged m) k in
      sym (strand_sides (stack l (all_segments m k cs)))
      ∙ ap (map (λ (x : Strand). record { upper = x.upper; lower = x.lower })) (one_stack ∙ sym (map-map strand (with_labels g) (kept m k l)))
      ∙ strand_sides (map (with_labels g) (kept m k l))
      ∙ parts_relabelled g (stack l (base_segments m))

  pub slice_agrees : IsBetweenColumns l → agree_from 0 (map sides (stack l (all_segments m k cs))) ≡ true
  slice_agrees between =
      let g : ℕ → ℕ = label_at (merged m) k in
      ap (agree_from 0) slice_sides ∙ ap (λ u. agree_from u (relabelled g (map sides (stack l (base_segments m))))) (sym (outside_label m k))
      ∙ labels_agree g 0 (map sides (stack l (base_segments m))) (outside_label m k) (planar.stacks l between)
