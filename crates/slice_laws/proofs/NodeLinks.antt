-- The links that start at a node: they are the spokes there, and the degree counts those of border arcs.
use Rattle.std.proofs.Common.{◌≡◌, ℕ, suc, ◌+◌, ◌<◌, ◌≤◌, nat_le, Bool, true, false, cond, ◌&&◌, ◌==◌, List, [], ◌∷◌, ◌++◌, map, filter, length, get_or, refl, sym, ap, ap₂, ◌∙◌, subst, inl, inr, arith, if◌then◌else◌}
use Rattle.std.specs.Prelude.{sum_by, flat_map}
use Rattle.std.specs.List.{list_all}
use Rattle.std.proofs.lemmas.Grind.{flat_map-append}
use Rattle.std.proofs.lemmas.List.{append-nil, map-append, length-append, get_or_default}
use Rattle.std.proofs.lemmas.List.Elements.{filter-append}
use Rattle.std.proofs.lemmas.List.Sums.{sum_by-cons}
use Rattle.std.proofs.lemmas.Bool.{and_parts, ne_eqb, cases_eq}
use Rattle.tgap_model.specs.declared.geometry.Point.{Point}
use Rattle.tgap_model.specs.declared.base.BaseArc.{BaseArc}
use Rattle.slice_laws.proofs.BaseParts.{has_segment}
use Rattle.tgap_model.specs.Base.{same_point}
use Rattle.tgap_model.specs.Partition.{Spoke, spokes_of, path_segments, arc_segments}
use Rattle.tgap_model.specs.Chains.{Link, first_point, last_point, arc_number, ends_at}
use Rattle.map_laws.proofs.ChainMembers.{Among, among_left, among_right}
use Rattle.tgap_model.proofs.Points.{same_point-from}

-- the point before the last one of a row
abbrev pub next_to_last : List Point → Point
next_to_last [] = first_point []
next_to_last (p ∷ []) = p
next_to_last (p ∷ q ∷ []) = p
next_to_last (p ∷ q ∷ r ∷ points) = next_to_last (q ∷ r ∷ points)

-- the spokes of a row of points at a node: that of its first end, and that of its last end
abbrev pub row_spokes : Point → ℕ → ℕ → Bool → Point → Point → List Point → List Spoke
row_spokes v l r starts a b points =
    (if starts && same_point a v then record { toward = b; left = l; right = r } ∷ [] else [])
    ++ (if same_point (last_point (a ∷ b ∷ points)) v then record { toward = next_to_last (a ∷ b ∷ points); left = r; right = l } ∷ [] else [])

path_spokes : (v : Point) (i l r place : ℕ) (a b : Point) (points : List Point)
    → flat_map (spokes_of v) (path_segments i l r place (a ∷ b ∷ points)) ≡ row_spokes v l r (place == 0) a b points
path_spokes v i l r place a b [] = append-nil _
path_spokes v i l r place a b (c ∷ points) =
    let first : List Spoke = if (place == 0) && same_point a v then record { toward = b; left = l; right = r } ∷ [] else [] in
    let later : (place + 1 == 0) ≡ false = ne_eqb (place + 1) 0 (λ e. absurd (omega arith)) in
    ap₂ (λ xs ys. xs ++ ys) (append-nil first)
    (path_spokes v i l r (place + 1) b c points ∙ ap (λ t. row_spokes v l r t b c points) later)

-- ---- the spokes of arcs

-- the second point of a row
abbrev pub second_point : List Point → Point
second_point [] = first_point []
second_point (p ∷ []) = p
second_point (p ∷ q ∷ points) = q

-- an arc, in its direction or against it, as a spoke
abbrev pub arc_spoke : BaseArc → Bool → Spoke
arc_spoke a turned = record {
  toward = if turned then next_to_last a.points else second_point a.points;
  left = if turned then a.right else a.left;
  right = if turned then a.left else a.right;
}

-- the point at which it starts
abbrev pub arc_start : BaseArc → Bool → Point
arc_start a turned = if turned then last_point a.points else first_point a.points

-- the link of an arc in its direction, and that against it
abbrev pub ahead : ℕ → Link
ahead i = record { arc = i; turned = false }

abbrev pub back : ℕ → Link
back i = record { arc = i; turned = true }

-- the links of arc number i that start at a point, and those of all arcs, numbered from i on
abbrev pub links_of : Point → ℕ → BaseArc → List Link
links_of v i a =
    (if same_point (first_point a.points) v then ahead i ∷ [] else [])
    ++ (if same_point (last_point a.points) v then back i ∷ [] else [])

abbrev pub links_at : Point → ℕ → List BaseArc → List Link
links_at v i [] = []
links_at v i (a ∷ arcs) = links_of v i a ++ links_at v (i + 1) arcs

-- the numbers from i on lead to these arcs
abbrev pub AreNumbers : (ℕ → BaseArc) → ℕ → List BaseArc → Type 0
AreNumbers number i [] = Unit {0}
AreNumbers number i (a ∷ arcs) = (number i ≡ a) × AreNumbers number (i + 1) arcs

-- the spokes of an arc are its links
one_arc_spokes : (v : Point) (number : ℕ → BaseArc) (i l r : ℕ) (points : List Point) → number i ≡ record { left = l; right = r; points = points }
    → nat_le 2 (length points) ≡ true
    → flat_map (spokes_of v) (path_segments i l r 0 points)
    ≡ map (λ (d : Link). arc_spoke (number d.arc) d.turned) (links_of v i (record { left = l; right = r; points = points }))
one_arc_spokes v number i l r [] e h = absurd cc
one_arc_spokes v number i l r (a ∷ []) e h = absurd cc
one_arc_spokes v number i l r (a ∷ b ∷ points) e h =
    path_spokes v i l r 0 a b points ∙ by (same_point a v) (same_point (last_point (a ∷ b ∷ points)) v)
  where
    first : record { toward = b; left = l; right = r } ≡ arc_spoke (number i) false
    first = sym (ap (λ (x : BaseArc). arc_spoke x false) e)

    last : record { toward = next_to_last (a ∷ b ∷ points); left = r; right = l } ≡ arc_spoke (number i) true
    last = sym (ap (λ (x : BaseArc). arc_spoke x true) e)

    by : (s t : Bool)
        → (if s then record { toward = b; left = l; right = r } ∷ [] else []) ++ (if t then record { toward = next_to_last (a ∷ b ∷ points); left = r; right = l } ∷ [] else [])
        ≡ map (λ (d : Link). arc_spoke (number d.arc) d.turned) ((if s then ahead i ∷ [] else []) ++ (if t then back i ∷ [] else []))
    by true true = ap₂ (λ x y. x ∷ y ∷ []) first last
    by true false = ap (λ x. x ∷ []) first
    by false true = ap (λ y. y ∷ []) last
    by false false = refl

pub arc_spokes : (v : Point) (number : ℕ → BaseArc) (i : ℕ) (arcs : List BaseArc) → AreNumbers number i arcs → list_all has_segment arcs ≡ true
    → flat_map (spokes_of v) (arc_segments i arcs) ≡ map (λ (d : Link). arc_spoke (number d.arc) d.turned) (links_at v i arcs)
arc_spokes v number i [] at h = refl
arc_spokes v number i (a ∷ arcs) at h =
    flat_map-append (spokes_of v) (path_segments i a.left a.right 0 a.points) (arc_segments (i + 1) arcs)
    ∙ ap₂ (λ xs ys. xs ++ ys) (one_arc_spokes v number i a.left a.right a.points at.0 (and_parts _ _ h).0)
    (arc_spokes v number (i + 1) arcs at.1 (and_parts _ _ h).1)
    ∙ sym (map-append (λ (d : Link). arc_spoke (number d.arc) d.turned) (links_of v i a) (links_at v (i + 1) arcs))

-- ---- the degree

-- a link is its arc and its direction
link_same : (d : Link) (i : ℕ) (t : Bool) → i ≡ d.arc → t ≡ d.turned → record { arc = i; turned = t } ≡ d
link_same d i t e f = ap₂ (λ (j : ℕ) (u : Bool). record { arc = j; turned = u }) e f

-- each link that starts at the point is listed
pub link_listed : (v : Point) (number : ℕ → BaseArc) (i : ℕ) (arcs : List BaseArc) → AreNumbers number i arcs
    → (d : Link) → i ≤ d.arc → d.arc < i + length arcs → arc_start (number d.arc) d.turned ≡ v → Among d (links_at v i arcs)
link_listed v number i [] at d low high s = absurd (omega arith)
link_listed v number i (a ∷ arcs) at d low high s =
    elim (cases_eq i d.arc) [
      | inl e ↦
          among_left (links_of v i a) (links_at v (i + 1) arcs) d (here e d.turned refl (ap (λ (x : BaseArc). arc_start x d.turned) (sym at.0 ∙ ap number e) ∙ s))
      | inr apart ↦ among_right (links_of v i a) (links_at v (i + 1) arcs) d (link_listed v number (i + 1) arcs at.1 d (omega arith) (omega arith) s)
    ]
  where
    last_one : (b : Bool) → Among (back i) ((if b then ahead i ∷ [] else []) ++ back i ∷ [])
    last_one true = inr (inl refl)
    last_one false = inl refl

    first : Among (ahead i) ((if true then ahead i ∷ [] else []) ++ (if same_point (last_point a.points) v then back i ∷ [] else []))
    first = inl refl

    here : i ≡ d.arc → (t : Bool) → t ≡ d.turned → arc_start a d.turned ≡ v → Among d (links_of v i a)
    here e true f u =
        let w : same_point (last_point a.points) v ≡ true = same_point-from _ _ (ap (arc_start a) f ∙ u) in
        subst (λ (x : Link). Among x (links_of v i a)) (link_same d i true e f)
        (subst (λ (b : Bool). Among (back i) ((if same_point (first_point a.points) v then ahead i ∷ [] else []) ++ (if b then back i ∷ [] else []))) (sym w)
        (last_one (same_point (first_point a.points) v)))
    here e false f u =
        let w : same_point (first_point a.points) v ≡ true = same_point-from _ _ (ap (arc_start a) f ∙ u) in
        subst (λ (x : Link). Among x (links_of v i a)) (link_same d i false e f)
        (subst (λ (b : Bool). Among (ahead i) ((if b then ahead i ∷ [] else []) ++ (if same_point (last_point a.points) v then back i ∷ [] else []))) (sym w) first)

-- as many links of an arc start at the point as it has ends there, where its arc passes a test
one_arc_links : (v : Point) (p : BaseArc → Bool) (number : ℕ → BaseArc) (i : ℕ) (a : BaseArc) → number i ≡ a
    → length (filter (λ (d : Link). p (number d.arc)) (links_of v i a)) ≡ (if p a then ends_at v a else 0)
one_arc_links v p number i a e =
    by (same_point (first_point a.points) v) (same_point (last_point a.points) v)
    ∙ ap (λ (b : Bool). if b then ends_at v a else 0) (ap p e)
  where
    both : (b : Bool) → length {A = Link} (cond b (ahead i ∷ cond b (back i ∷ []) []) (cond b (back i ∷ []) [])) ≡ cond b 2 0
    both true = refl
    both false = refl

    one : (b : Bool) (d : Link) → length {A = Link} (cond b (d ∷ []) []) ≡ cond b 1 0
    one true d = refl
    one false d = refl

    none : (b : Bool) → cond {A = ℕ} b 0 0 ≡ 0
    none true = refl
    none false = refl

    by : (s t : Bool) → length (filter (λ (d : Link). p (number d.arc)) ((if s then ahead i ∷ [] else []) ++ (if t then back i ∷ [] else [])))
        ≡ (if p (number i) then (if s then 1 else 0) + (if t then 1 else 0) else 0)
    by true true = both (p (number i))
    by true false = one (p (number i)) (ahead i)
    by false true = one (p (number i)) (back i)
    by false false = sym (none (p (number i)))

-- a sum of the ends of the arcs that pass counts their links
pub ends_are_links : (v : Point) (p : BaseArc → Bool) (number : ℕ → BaseArc) (i : ℕ) (arcs : List BaseArc) → AreNumbers number i arcs
    → sum_by (λ a. if p a then ends_at v a else 0) arcs ≡ length (filter (λ (d : Link). p (number d.arc)) (links_at v i arcs))
ends_are_links v p number i [] at = refl
ends_are_links v p number i (a ∷ arcs) at =
    let q : Link → Bool = λ (d : Link). p (number d.arc) in
    let split : length (filter q (links_of v i a ++ links_at v (i + 1) arcs)) ≡ length (filter q (links_of v i a)) + length (filter q (links_at v (i + 1) arcs))
    = ap length (filter-append q (links_of v i a) (links_at v (i + 1) arcs)) ∙ length-append (filter q (links_of v i a)) (filter q (links_at v (i + 1) arcs)) in
    let here = one_arc_links v p number i a at.0 in
    let rest = ends_are_links v p number (i + 1) arcs at.1 in
    let sums : sum_by (λ a. if p a then ends_at v a else 0) (a ∷ arcs) ≡ (if p a then ends_at v a else 0) + sum_by (λ a. if p a then ends_at v a else 0) arcs
    = sum_by-cons (λ a. if p a then ends_at v a else 0) a arcs in
    omega arith

-- the arcs of a list by their numbers
numbers_lead : (all arcs : List BaseArc) (i : ℕ) → ((j : ℕ) (d : BaseArc) → j < length arcs → arc_number all (i + j) ≡ get_or arcs j d)
    → AreNumbers (arc_number all) i arcs
numbers_lead all [] i h = tt
numbers_lead all (a ∷ arcs) i h = (
  ap (arc_number all) (omega arith) ∙ h 0 a (omega arith),
  numbers_lead all arcs (i + 1) (λ j d l. ap (arc_number all) (omega arith) ∙ h (suc j) d (omega arith)),
)

pub numbers_lead_all : (arcs : List BaseArc) → AreNumbers (arc_number arcs) 0 arcs
numbers_lead_all arcs = numbers_lead arcs arcs 0 (λ j d l. ap (arc_number arcs) (omega arith) ∙ get_or_default arcs j _ d l)
