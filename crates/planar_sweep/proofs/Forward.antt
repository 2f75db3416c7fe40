-- A segment from its earlier end to its later one: it goes forward, has the same points and the same ends, and the same lines cross it.
use Rattle.std.proofs.Common.{if◌then◌else◌, ◌≡◌, ◌<◌, List, length, map, get_or, All, arith, inl, inr, Bool, true, false, ◌&&◌, ◌||◌, [], ◌∷◌, ℤ, pos, ◌-ℤ◌, ◌<ℤ◌, ◌≤ℤ◌, int_lt, refl, sym, ap, ◌∙◌, subst}
use Rattle.std.specs.Ordering.{int_eq}
use Rattle.std.specs.List.{list_all}
use Rattle.std.proofs.lemmas.Bool.{and_parts, or_cases}
use Rattle.std.proofs.lemmas.List.{get_or-map, length-map}
use Rattle.std.proofs.lemmas.List.Sums.{AllPass-from_list_all}
use Rattle.std.proofs.lemmas.Bool.Decides.{Decides-int_eq}
use Rattle.std.proofs.Math.Bool.{or_comm}
use Rattle.std.proofs.Math.IntN.{*ℤ_comm}
use Rattle.lemmas.proofs.Polynomials.{same_value, var, number, ◌⊖◌, ◌⊗◌}
use Rattle.lemmas.proofs.Signs.{Decides-int_lt, int_lt-false, int_lt-from_le, by_order, le_from_lt}
use Rattle.tgap_model.specs.declared.geometry.Point.{Point}
use Rattle.tgap_model.specs.declared.geometry.Fraction.{Fraction}
use Rattle.tgap_model.specs.declared.geometry.Seg.{Seg}
use Rattle.tgap_model.specs.declared.segment.LabelledSegment.{LabelledSegment}
use Rattle.tgap_model.specs.Segment.{Line, passes, crosses, rightward, cross_at, is_on, point_before}
use Rattle.tgap_model.specs.Partition.{is_proper}
use Rattle.tgap_model.proofs.Proper.{proper_parts, near_ends}
use Rattle.grid_geo.proofs.Places.{x_gap, y_gap, IsOn, on_facts, on_from_facts}
use Rattle.planar_sweep.specs.Over.{forward, IsEnd}
use Rattle.planar_sweep.specs.Ends.{IsReady, no_segment, swept}

-- either way
abbrev either_way : Bool → Seg → Seg
either_way b s = record { a = if b then s.b else s.a; b = if b then s.a else s.b }

turned_line : (a b : Point) (p : Fraction) → cross_at a b p ≡ pos 0 → cross_at b a p ≡ pos 0
turned_line a b p e =
    same_value (a.x ∷ a.y ∷ b.x ∷ b.y ∷ p.nx ∷ p.ny ∷ p.d ∷ [])
    ((var 0 ⊖ var 2) ⊗ (var 5 ⊖ var 6 ⊗ var 3) ⊖ (var 1 ⊖ var 3) ⊗ (var 4 ⊖ var 6 ⊗ var 2))
    (number (pos 0) ⊖ ((var 2 ⊖ var 0) ⊗ (var 5 ⊖ var 6 ⊗ var 1) ⊖ (var 3 ⊖ var 1) ⊗ (var 4 ⊖ var 6 ⊗ var 0))) refl
    ∙ ap (λ (z : ℤ). pos 0 -ℤ z) e

-- it has the same points
pub on_forward : (p : Fraction) (s : Seg) → is_on p s ≡ true → is_on p (forward s) ≡ true
on_forward p s h = by (point_before s.b s.a)
  where
    on : IsOn p s
    on = on_facts p s h

    by : (b : Bool) → is_on p (either_way b s) ≡ true
    by true = on_from_facts p (either_way true s) (record {
      line = turned_line s.a s.b p on.line;
      x = subst (λ (z : ℤ). z ≤ℤ pos 0) (*ℤ_comm (x_gap p s.a) (x_gap p s.b)) on.x;
      y = subst (λ (z : ℤ). z ≤ℤ pos 0) (*ℤ_comm (y_gap p s.a) (y_gap p s.b)) on.y;
    })
    by false = on_from_facts p (either_way false s) (record { line = on.line; x = on.x; y = on.y })

-- and the same ends
pub end_from_forward : (p : Fraction) (s : Seg) → IsEnd (forward s) p → IsEnd s p
end_from_forward p s = by (point_before s.b s.a)
  where
    by : (b : Bool) → IsEnd (either_way b s) p → IsEnd s p
    by true (inl e) = inr e
    by true (inr e) = inl e
    by false h = h

-- the same lines cross it
pub crosses_forward : (l : Line) (s : Seg) → crosses l (forward s) ≡ crosses l s
crosses_forward l s = by (point_before s.b s.a)
  where
    by : (b : Bool) → crosses l (either_way b s) ≡ crosses l s
    by true = or_comm (passes l s.b.x s.a.x) (passes l s.a.x s.b.x)
    by false = refl

-- and where it goes to the right, it is the segment from left to right
pub rightward_forward : (s : Seg) → (forward s).a.x <ℤ (forward s).b.x → rightward s ≡ forward s
rightward_forward s = by (point_before s.b s.a)
  where
    by : (b : Bool) → (either_way b s).a.x <ℤ (either_way b s).b.x → rightward s ≡ either_way b s
    by true h = ap (λ (goes : Bool). if goes then s else either_way true s) (int_lt-from_le (le_from_lt h))
    by false h = ap (λ (goes : Bool). if goes then s else either_way true s) ((Decides-int_lt s.a.x s.b.x).1 h)

-- of a segment within the limits that has two ends
pub forward_is_ready : (s : LabelledSegment) → is_proper s ≡ true → IsReady (forward s.segment)
forward_is_ready s proper = by (point_before t.b t.a) refl
  where
    t : Seg
    t = s.segment

    by : (b : Bool) → point_before t.b t.a ≡ b → IsReady (either_way b t)
    by true e = record {
      a = (proper_parts s proper).second;
      b = (proper_parts s proper).first;
      near = record { a = (near_ends s proper).b; b = (near_ends s proper).a };
      apart = λ f. (proper_parts s proper).apart (sym f);
      forward = elim (or_cases (int_lt t.b.x t.a.x) (int_eq t.b.x t.a.x && int_lt t.b.y t.a.y) e) [
        | inl f ↦ inl ((Decides-int_lt t.b.x t.a.x).0 f)
        | inr f ↦
            let parts = and_parts (int_eq t.b.x t.a.x) (int_lt t.b.y t.a.y) f in
            inr ((Decides-int_eq t.b.x t.a.x).0 parts.0, le_from_lt ((Decides-int_lt t.b.y t.a.y).0 parts.1))
      ];
    }
    by false e = record {
      a = (proper_parts s proper).first;
      b = (proper_parts s proper).second;
      near = record { a = (near_ends s proper).a; b = (near_ends s proper).b };
      apart = (proper_parts s proper).apart;
      forward = by_order t.a.x t.b.x inl
          (λ same. inr (same, not_less (int_lt t.b.x t.a.x) (int_eq t.b.x t.a.x) (int_lt t.b.y t.a.y) refl e ((Decides-int_eq t.b.x t.a.x).1 (sym same))))
          (λ more. absurd (no_more (int_lt t.b.x t.a.x) (int_eq t.b.x t.a.x && int_lt t.b.y t.a.y) e ((Decides-int_lt t.b.x t.a.x).1 more)));
    }
      where
        no_more : (x y : Bool) → x || y ≡ false → x ≡ true → ⊥
        no_more true y f g = absurd cc
        no_more false y f g = absurd cc

        not_less : (x y z : Bool) → int_lt t.b.y t.a.y ≡ z → x || (y && z) ≡ false → y ≡ true → t.a.y ≤ℤ t.b.y
        not_less x y false h f g = int_lt-false t.b.y t.a.y h
        not_less true true true h f g = absurd cc
        not_less false true true h f g = absurd cc
        not_less x false true h f g = absurd cc

-- so all of them are ready
pub all_ready : (segments : List LabelledSegment) → list_all is_proper segments ≡ true → All (λ s. IsReady s) (map swept segments)
all_ready segments proper k d short =
    let inside : k < length segments = omega (arith, short, length-map segments swept) in
    subst IsReady (sym (get_or-map swept segments k no_segment d inside)) (forward_is_ready (get_or segments k no_segment) (AllPass-from_list_all is_proper segments proper k no_segment inside))
