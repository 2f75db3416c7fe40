-- The home of an inner ring, found among those outer rings alone whose boxes meet the column of its probe.
use Rattle.std.proofs.Common.{◌≡◌, ℕ, suc, ◌+◌, ◌<◌, ◌≤◌, Bool, true, false, if◌then◌else◌, int_lt, List, [], ◌∷◌, length, get_or, map, refl, sym, ap, ◌∙◌, subst, arith}
use Rattle.std.specs.Prelude.{Option, Some, None, option_map, unwrap_or, fold}
use Rattle.std.proofs.lemmas.List.{get_or-map, length-map}
use Rattle.tgap_model.specs.declared.geometry.Point.{Point}
use Rattle.tgap_model.specs.declared.geometry.Seg.{Seg}
use Rattle.tgap_model.specs.declared.geometry.Window.{Window}
use Rattle.grid_index.specs.Boxes.{meets}
use Rattle.grid_index.specs.Near.{boxes_near, cons_if, near_boxes}
use Rattle.ring_walk.specs.declared.side.Side.{Side}
use Rattle.ring_walk.specs.Areas.{are_round, ring_area, ring_segments}
use Rattle.topo_write.specs.declared.home.Home.{Home}
use Rattle.topo_write.specs.Polygons.{home_from, home_of, is_within, nearer, probe_of}
use Rattle.topo_write.specs.Building.{AreColumns, HoldsRing, column_of, home_after, ring_at}
use Rattle.topo_write.proofs.Abscissas.{round_none}

-- an outer ring at place j goes round the probe or does not
abbrev after : List (List Point) → Seg → Option Home → ℕ → List Side → Option Home
after lines s found j r = if are_round s (ring_segments lines r) then Some (nearer found (record { place = j; area = ring_area lines r })) else found

-- the step that is taken at each of these outer rings, of which the first is at place j
abbrev Steps : List (List Point) → Seg → (Option Home → ℕ → Option Home) → ℕ → List (List Side) → Type 0
Steps lines s step j rings = (k : ℕ) (found : Option Home) → k < length rings → step found (j + k) ≡ after lines s found (j + k) (get_or rings k [])

abbrev round_by : List (List Point) → List Side → Option Seg → Bool
round_by lines r o = elim o [ Some t ↦ are_round t (ring_segments lines r) | None ↦ false ]

within_is : (lines : List (List Point)) (inner r : List Side) (s : Seg) → probe_of lines inner ≡ Some s → is_within lines inner r ≡ are_round s (ring_segments lines r)
within_is lines inner r s e = ap (round_by lines r) e

near_from : (lines : List (List Point)) (inner : List Side) (s : Seg) → probe_of lines inner ≡ Some s → (step : Option Home → ℕ → Option Home) (j : ℕ) (rings : List (List Side)) (boxes : List Window) → length boxes ≡ length rings
    → ((k : ℕ) (d : Window) → k < length rings → HoldsRing lines (get_or rings k []) (get_or boxes k d)) → Steps lines s step j rings
    → (found : Option Home) → home_from lines inner found j rings ≡ fold step found (boxes_near (column_of s) j boxes)
near_from lines inner s probe step j [] [] long held steps found = refl
near_from lines inner s probe step j [] (b ∷ boxes) long held steps found = absurd (omega arith)
near_from lines inner s probe step j (r ∷ rings) [] long held steps found = absurd (omega arith)
near_from lines inner s probe step j (r ∷ rings) (b ∷ boxes) long held steps found =
    ap (λ (w : Bool). home_from lines inner (if w then Some (nearer found (record { place = j; area = ring_area lines r })) else found) (j + 1) rings) (within_is lines inner r s probe)
    ∙ near_from lines inner s probe step (j + 1) rings boxes (omega (arith, long)) (λ k d l. held (suc k) d (omega (arith, l)))
    (λ k f l. let e : j + 1 + k ≡ j + suc k = omega arith in ap (step f) e ∙ steps (suc k) f (omega (arith, l)) ∙ ap (λ (n : ℕ). after lines s f n (get_or rings k [])) (sym e))
    (after lines s found j r)
    ∙ by (meets (column_of s) b) refl
  where
    here : step found j ≡ after lines s found j r
    here = let e : j ≡ j + 0 = omega arith in ap (step found) e ∙ steps 0 found (omega arith) ∙ ap (λ (n : ℕ). after lines s found n r) (sym e)

    by : (m : Bool) → meets (column_of s) b ≡ m → fold step (after lines s found j r) (boxes_near (column_of s) (j + 1) boxes) ≡ fold step found (cons_if m j (boxes_near (column_of s) (j + 1) boxes))
    by true e = ap (λ (h : Option Home). fold step h (boxes_near (column_of s) (j + 1) boxes)) (sym here)
    by false e =
        ap (λ (w : Bool). fold step (if w then Some (nearer found (record { place = j; area = ring_area lines r })) else found) (boxes_near (column_of s) (j + 1) boxes))
        (round_none lines r b s (held 0 b (omega arith)) e)

-- The home of an inner ring with this probe.
pub near_home : (lines : List (List Point)) (rings : List (List Side)) (places : List ℕ) (boxes : List Window) (inner : List Side) (s : Seg) → probe_of lines inner ≡ Some s → AreColumns lines rings places boxes
    → home_of lines (map (ring_at rings) places) inner ≡ unwrap_or (option_map (λ h. h.place) (fold (home_after lines (map (ring_at rings) places) s) None (near_boxes (column_of s) boxes))) 0
near_home lines rings places boxes inner s probe columns =
    let outer = map (ring_at rings) places in
    ap (λ (h : Option Home). unwrap_or (option_map (λ g. g.place) h) 0)
    (near_from lines inner s probe (home_after lines outer s) 0 outer boxes (columns.long ∙ sym (length-map places (ring_at rings)))
    (λ k d l. let short : k < length places = omega (arith, l, length-map {A = ℕ} {B = List Side}) in
    subst (λ (r : List Side). HoldsRing lines r (get_or boxes k d)) (sym (get_or-map (ring_at rings) places k 0 [] short)) (columns.each k d short))
    (λ k f l. let e : 0 + k ≡ k = omega arith in ap (home_after lines outer s f) e ∙ ap (λ (n : ℕ). after lines s f n (get_or outer k [])) (sym e)) None)

-- without a probe it is the first
pub no_probe : (lines : List (List Point)) (outer : List (List Side)) (inner : List Side) → probe_of lines inner ≡ None → home_of lines outer inner ≡ 0
no_probe lines outer inner e = ap (λ (h : Option Home). unwrap_or (option_map (λ g. g.place) h) 0) (none 0 outer)
  where
    none : (j : ℕ) (rings : List (List Side)) → home_from lines inner None j rings ≡ None
    none j [] = refl
    none j (r ∷ rings) =
        ap (λ (w : Bool). home_from lines inner (if w then Some (nearer None (record { place = j; area = ring_area lines r })) else None) (j + 1) rings)
        (ap (round_by lines r) e)
        ∙ none (j + 1) rings

-- of one outer ring at most it is the first
pub one_home : (lines : List (List Point)) (outer : List (List Side)) (inner : List Side) → length outer < 2 → home_of lines outer inner ≡ 0
one_home lines [] inner l = refl
one_home lines (r ∷ q ∷ outer) inner l = absurd (omega (arith, l))
one_home lines (r ∷ []) inner l = by (is_within lines inner r)
  where
    by : (w : Bool) → unwrap_or (option_map (λ h. h.place) (if w then Some (nearer None (record { place = 0; area = ring_area lines r })) else None)) 0 ≡ 0
    by true = refl
    by false = refl

-- ---- a home is the place of an outer ring

abbrev place_or : Option Home → ℕ
place_or h = unwrap_or (option_map (λ g. g.place) h) 0

nearer_below : (n : ℕ) (found : Option Home) (h : Home) → place_or found < n → h.place < n → place_or (Some (nearer found h)) < n
nearer_below n None h f l = l
nearer_below n (Some g) h f l = by (int_lt h.area g.area)
  where
    by : (b : Bool) → (if b then h else g).place < n
    by true = l
    by false = f

home_from_below : (lines : List (List Point)) (inner : List Side) (n : ℕ) (found : Option Home) (j : ℕ) (rings : List (List Side)) → place_or found < n → j + length rings ≤ n → place_or (home_from lines inner found j rings) < n
home_from_below lines inner n found j [] f l = f
home_from_below lines inner n found j (r ∷ rings) f l =
    home_from_below lines inner n (if is_within lines inner r then Some (nearer found (record { place = j; area = ring_area lines r })) else found) (j + 1) rings (by (is_within lines inner r)) (omega (arith, l))
  where
    by : (w : Bool) → place_or (if w then Some (nearer found (record { place = j; area = ring_area lines r })) else found) < n
    by true = nearer_below n found (record { place = j; area = ring_area lines r }) f (omega (arith, l))
    by false = f

pub home_below : (lines : List (List Point)) (outer : List (List Side)) (inner : List Side) (n : ℕ) → 0 < n → length outer ≤ n → home_of lines outer inner < n
home_below lines outer inner n l m = home_from_below lines inner n None 0 outer l (omega (arith, m))
