-- The shoelace sum of a row of points that is turned round.
use Rattle.std.proofs.Common.{◌≡◌, ◌≤◌, ℕ, ◌*◌, ℤ, pos, neg_ℤ, FitsSigned, ◌+ℤ◌, ◌-ℤ◌, ◌*ℤ◌, unsigned_abs, to_z, of_z, List, [], ◌∷◌, ◌++◌, length, reverse, refl, sym, ap, ◌∙◌, arith}
use Rattle.std.specs.Int.{w128}
use Rattle.std.proofs.lemmas.Int.{ints}
use Rattle.std.proofs.lemmas.List.{reverse-append}
use Rattle.tgap_model.specs.declared.geometry.Point.{Point}
use Rattle.tgap_model.specs.declared.limits.TheConstants.{MAX_POINTS}
use Rattle.tgap_model.specs.Bounds.{max_arc_area, max_shoelace}
use Rattle.tgap_model.specs.Point.{shoelace, shoelace_term}
use Rattle.tgap_model.proofs.ShoelaceSums.{shoelace_size}
use Rattle.ring_probe.specs.Rows.{IsLine}

term_back : (a b : Point) → shoelace_term b a ≡ neg_ℤ (shoelace_term a b)
term_back a b = let p = a.x *ℤ b.y in let q = b.x *ℤ a.y in omega (arith, ints)

last_term : (ps : List Point) (b a : Point) → shoelace (ps ++ b ∷ a ∷ []) ≡ shoelace (ps ++ b ∷ []) +ℤ shoelace_term b a
last_term [] b a = let t = shoelace_term b a in omega (arith, ints)
last_term (p ∷ []) b a = let t = shoelace_term b a in let s = shoelace_term p b in omega (arith, ints)
last_term (p ∷ q ∷ ps) b a = let t = shoelace_term p q in omega (arith, ints, last_term (q ∷ ps) b a)

two_last : (ps : List Point) (b a : Point) → (ps ++ b ∷ []) ++ a ∷ [] ≡ ps ++ b ∷ a ∷ []
two_last [] b a = refl
two_last (p ∷ ps) b a = ap (λ qs. p ∷ qs) (two_last ps b a)

pub shoelace-reverse : (points : List Point) → shoelace (reverse points) ≡ neg_ℤ (shoelace points)
shoelace-reverse [] = refl
shoelace-reverse (a ∷ []) = refl
shoelace-reverse (a ∷ b ∷ points) =
    let both : reverse (a ∷ b ∷ points) ≡ reverse points ++ b ∷ a ∷ [] = reverse-cons a (b ∷ points) ∙ ap (λ qs. qs ++ a ∷ []) (reverse-cons b points) ∙ two_last (reverse points) b a in
    let one = last_term (reverse points) b a in
    let rest : shoelace (reverse points ++ b ∷ []) ≡ neg_ℤ (shoelace (b ∷ points)) = ap shoelace (sym (reverse-cons b points)) ∙ shoelace-reverse (b ∷ points) in
    let back = term_back a b in
    ap shoelace both ∙ omega (arith, ints, one, rest, back)
  where
    reverse-cons : (p : Point) (ps : List Point) → reverse (p ∷ ps) ≡ reverse ps ++ p ∷ []
    reverse-cons p ps = reverse-append (p ∷ []) ps

pub line_size : (points : List Point) → IsLine points → unsigned_abs (shoelace points) ≤ max_arc_area
line_size points h =
    let size = shoelace_size points h.near in
    let short = h.short in
    bounded (length points) (unsigned_abs (shoelace points)) short size
  where
    bounded : (n z : ℕ) → n ≤ MAX_POINTS → z ≤ n * max_shoelace → z ≤ max_arc_area
    bounded n z l m = omega (arith, l, m)

-- ---- the sum turned round, as the code has it

pub size_kept : (z : ℤ) → unsigned_abs z ≤ max_arc_area → unsigned_abs (to_z w128 (of_z w128 z)) ≤ max_arc_area
size_kept z size = omega (arith, ints)

pub minus_fits : (z : ℤ) → unsigned_abs z ≤ max_arc_area → FitsSigned w128 (pos 0 -ℤ to_z w128 (of_z w128 z))
minus_fits z size = omega (arith, ints)

pub minus_is : (z : ℤ) → unsigned_abs z ≤ max_arc_area → to_z w128 (of_z w128 (pos 0 -ℤ to_z w128 (of_z w128 z))) ≡ neg_ℤ z
minus_is z size = omega (arith, ints)

pub minus_size : (z : ℤ) → unsigned_abs z ≤ max_arc_area → unsigned_abs (neg_ℤ z) ≤ max_arc_area
minus_size z size = omega (arith, ints)
