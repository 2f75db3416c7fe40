-- Reading numbers, points, faces, arcs and classes one after another, as a loop does.
use Rattle.std.proofs.Common.{◌≡◌, ℕ, suc, ◌+◌, ◌-◌, ◌≤◌, ◌<◌, List, [], ◌∷◌, ◌++◌, length, Option, Some, None, Result, Ok, Err, refl, sym, ap, ◌∙◌, append_assoc}
use Rattle.std.specs.Prelude.{ℤ, codes}
use Rattle.std.specs.Option.{ok_or}
use Rattle.std.proofs.lemmas.List.{append-nil}
use Rattle.tgap_model.specs.declared.geometry.Point.{Point}
use Rattle.tgap_model.specs.declared.base.BaseArc.{BaseArc}
use Rattle.tgap_model.specs.declared.fault.MapFault.{MapFault}
use Rattle.tgap_model.specs.declared.fault.MapFault.TheVariants.{BadLine}
use Rattle.tgap_model.specs.declared.limits.TheConstants.{MAX_WEIGHT, MAX_COMPATIBILITY}
use Rattle.tgap_model.specs.declared.failure.Or.{Or}
use Rattle.tgap_model.specs.declared.failure.Or.TheVariants.{Fault, Memory}
use Rattle.line_forms.specs.Words.{Row, ◌>>=◌, natural_at, after_word, after_count, ended}
use Rattle.line_forms.specs.Lines.{Lines, line_at, read_line, ◌>>=◌ as ◌or>>=◌}
use Rattle.line_forms.specs.ListingLines.{coordinate_to, naturals_at, points_at, read_class, read_face}
use Rattle.map_forms.specs.declared.version.Version.{Version}
use Rattle.map_forms.specs.Listing.{arc_at, classes_at, faces_at, arcs_at}
use Rattle.plain_io.specs.Taking.{Refuses}
use Rattle.plain_io.specs.Fronts.{with_front, in_front}
use Rattle.plain_io.proofs.Loops.{one_left, none_left, with_front_more, with_front_stop, with_front_done, in_front_more, in_front_stop, in_front_done}
use Rattle.area_listing.specs.Reading.{point_at, class_onto}

-- ---- numbers

-- a number more
pub numbers_go_on : (least most : ℕ) (front : List ℕ) (n i : ℕ) (words : Row) (v : ℕ) (rest : Row) → i < n → natural_at least most words ≡ Some (v, rest)
    → with_front (front ++ v ∷ []) (naturals_at least most (n - (i + 1)) rest) ≡ with_front front (naturals_at least most (n - i) words)
unfolding naturals_at
numbers_go_on least most front n i words v rest lt e =
    with_front_more front v (naturals_at least most (n - (i + 1)) rest) (naturals_at least most (n - i) words) (rw (one_left n i lt, e) refl)

-- no number where there was to be one
pub numbers_stop : (least most : ℕ) (front : List ℕ) (n i : ℕ) (words : Row) → i < n → natural_at least most words ≡ None
    → with_front front (naturals_at least most (n - i) words) ≡ None
unfolding naturals_at
numbers_stop least most front n i words lt e = with_front_stop front (naturals_at least most (n - i) words) (rw (one_left n i lt, e) refl)

-- all numbers
pub numbers_done : (least most : ℕ) (front : List ℕ) (n i : ℕ) (words : Row) → n ≤ i → with_front front (naturals_at least most (n - i) words) ≡ Some (front, words)
unfolding naturals_at
numbers_done least most front n i words le = with_front_done front words (naturals_at least most (n - i) words) (rw (none_left n i le) refl)

-- ---- points

-- a point, and those after it
abbrev pub then_points : (Row → Option (List Point × Row)) → Point × Row → Option (List Point × Row)
then_points more p = more p.1 >>= λ points. Some (p.0 ∷ points.0, points.1)

-- a point from its x and its y
abbrev pub with_y : ℤ → ℤ × Row → Option (Point × Row)
with_y x y = Some (record { x = x; y = y.0 }, y.1)

-- y and the points after it, put together before or after
first_y : (x : ℤ) (y : Option (ℤ × Row)) (more : Row → Option (List Point × Row)) → (y >>= λ b. then_points more (record { x = x; y = b.0 }, b.1)) ≡ ((y >>= with_y x) >>= then_points more)
first_y x (Some y) more = refl
first_y x None more = refl

-- x, y and the points after them, put together before or after
first_x : (x : Option (ℤ × Row)) (next : Row → Option (ℤ × Row)) (more : Row → Option (List Point × Row))
    → (x >>= λ a. next a.1 >>= λ b. then_points more (record { x = a.0; y = b.0 }, b.1)) ≡ ((x >>= λ a. next a.1 >>= with_y a.0) >>= then_points more)
first_x (Some x) next more = first_y x.0 (next x.1) more
first_x None next more = refl

-- one point more is a point, and those after it
one_point_more : (most : ℤ) (n : ℕ) (words : Row) → points_at most (suc n) words ≡ (point_at most words >>= then_points (points_at most n))
unfolding points_at
one_point_more most n words = first_x (coordinate_to most words) (coordinate_to most) (points_at most n)

-- a point more
pub points_go_on : (most : ℤ) (front : List Point) (n i : ℕ) (words : Row) (p : Point) (rest : Row) → i < n → point_at most words ≡ Some (p, rest)
    → with_front (front ++ p ∷ []) (points_at most (n - (i + 1)) rest) ≡ with_front front (points_at most (n - i) words)
points_go_on most front n i words p rest lt e =
    with_front_more front p (points_at most (n - (i + 1)) rest) (points_at most (n - i) words) (rw (one_left n i lt, one_point_more most (n - (i + 1)) words, e) refl)

-- no point where there was to be one
pub points_stop : (most : ℤ) (front : List Point) (n i : ℕ) (words : Row) → i < n → point_at most words ≡ None → with_front front (points_at most (n - i) words) ≡ None
points_stop most front n i words lt e =
    with_front_stop front (points_at most (n - i) words) (rw (one_left n i lt, one_point_more most (n - (i + 1)) words, e) refl)

-- all points
pub points_done : (most : ℤ) (front : List Point) (n i : ℕ) (words : Row) → n ≤ i → with_front front (points_at most (n - i) words) ≡ Some (front, words)
unfolding points_at
points_done most front n i words le = with_front_done front words (points_at most (n - i) words) (rw (none_left n i le) refl)

-- ---- faces

-- a face more
pub faces_go_on : (c : ℕ) (front : List ℕ) (n i : ℕ) (lines : Lines) (k : ℕ) (rest : Lines) → i < n → read_line BadLine (read_face c (i + 1)) lines ≡ Ok (k, rest)
    → in_front (front ++ k ∷ []) (faces_at c (i + 1 + 1) (n - (i + 1)) rest) ≡ in_front front (faces_at c (i + 1) (n - i) lines)
unfolding faces_at
faces_go_on c front n i lines k rest lt e =
    in_front_more front k (faces_at c (i + 1 + 1) (n - (i + 1)) rest) (faces_at c (i + 1) (n - i) lines) (rw (one_left n i lt, e) refl)

-- no face where there was to be one
pub faces_stop : (c : ℕ) (front : List ℕ) (n i : ℕ) (lines : Lines) (f : MapFault) → i < n → read_line BadLine (read_face c (i + 1)) lines ≡ Err f
    → in_front front (faces_at c (i + 1) (n - i) lines) ≡ Err f
unfolding faces_at
faces_stop c front n i lines f lt e = in_front_stop front f (faces_at c (i + 1) (n - i) lines) (rw (one_left n i lt, e) refl)

-- all faces
pub faces_done : (c : ℕ) (front : List ℕ) (n i : ℕ) (lines : Lines) → n ≤ i → in_front front (faces_at c (i + 1) (n - i) lines) ≡ Ok (front, lines)
unfolding faces_at
faces_done c front n i lines le = in_front_done front lines (faces_at c (i + 1) (n - i) lines) (rw (none_left n i le) refl)

-- ---- arcs

-- an arc more
pub arcs_go_on : (v : Version) (faces before : ℕ) (front : List BaseArc) (n i : ℕ) (lines : Lines) (a : BaseArc) (rest : Lines) → i < n → arc_at v faces before lines ≡ Ok (a, rest)
    → in_front (front ++ a ∷ []) (arcs_at v faces (before + length a.points) (n - (i + 1)) rest) ≡ in_front front (arcs_at v faces before (n - i) lines)
unfolding arcs_at
arcs_go_on v faces before front n i lines a rest lt e =
    in_front_more front a (arcs_at v faces (before + length a.points) (n - (i + 1)) rest) (arcs_at v faces before (n - i) lines) (rw (one_left n i lt, e) refl)

-- no arc where there was to be one
pub arcs_stop : (v : Version) (faces before : ℕ) (front : List BaseArc) (n i : ℕ) (lines : Lines) (f : MapFault) → i < n → arc_at v faces before lines ≡ Err f
    → in_front front (arcs_at v faces before (n - i) lines) ≡ Err f
unfolding arcs_at
arcs_stop v faces before front n i lines f lt e = in_front_stop front f (arcs_at v faces before (n - i) lines) (rw (one_left n i lt, e) refl)

-- all arcs
pub arcs_done : (v : Version) (faces before : ℕ) (front : List BaseArc) (n i : ℕ) (lines : Lines) → n ≤ i → in_front front (arcs_at v faces before (n - i) lines) ≡ Ok (front, lines)
unfolding arcs_at
arcs_done v faces before front n i lines le = in_front_done front lines (arcs_at v faces before (n - i) lines) (rw (none_left n i le) refl)

-- ---- classes

-- weights and compatibilities, and the lines after them
abbrev pub Classes : Type 0
Classes = (List ℕ × List ℕ) × Lines

-- the weights and the compatibilities that were read before, and what is still read
abbrev pub with_fronts : List ℕ → List ℕ → Result Classes MapFault → Result Classes MapFault
with_fronts weights compat (Ok x) = Ok ((weights ++ x.0.0, compat ++ x.0.1), x.1)
with_fronts weights compat (Err f) = Err f

-- a class, and those after it
abbrev then_classes : ℕ → List ℕ → Result Classes MapFault → Result Classes MapFault
then_classes w row (Ok y) = Ok ((w ∷ y.0.0, row ++ y.0.1), y.1)
then_classes w row (Err f) = Err f

-- a class and those after it, put together as the definition does it
class_shape : (w : ℕ) (row : List ℕ) (read : Result Classes MapFault) → (read or>>= λ y. Ok ((w ∷ y.0.0, row ++ y.0.1), y.1)) ≡ then_classes w row read
class_shape w row (Ok y) = refl
class_shape w row (Err f) = refl

-- a class more in front, or first of what is still read
regroup_class : (weights compat : List ℕ) (w : ℕ) (row : List ℕ) (read : Result Classes MapFault)
    → with_fronts weights compat (then_classes w row read) ≡ with_fronts (weights ++ w ∷ []) (compat ++ row) read
regroup_class weights compat w row (Ok y) = rw (append_assoc weights (w ∷ []) y.0.0, append_assoc compat row y.0.1) refl
regroup_class weights compat w row (Err f) = refl

-- the class that was put after those before
class_before : (compat : List ℕ) (read : Result ((ℕ × List ℕ) × Lines) MapFault) (all : List ℕ) (w : ℕ) (rest : Lines) → class_onto compat read ≡ Ok ((all, w), rest)
    → (row : List ℕ) × (read ≡ Ok ((w, row), rest)) × (compat ++ row ≡ all)
class_before compat (Ok x) all w rest e =
    let same : ((compat ++ x.0.1, x.0.0), x.1) ≡ ((all, w), rest) = cc in
    (x.0.1, ap (λ (y : (List ℕ × ℕ) × Lines). Ok ((y.0.1, x.0.1), y.1)) same, ap (λ (y : (List ℕ × ℕ) × Lines). y.0.0) same)
class_before compat (Err f) all w rest e = absurd cc

-- a fault that comes before the class is put after those before
no_class_before : (compat : List ℕ) (read : Result ((ℕ × List ℕ) × Lines) MapFault) (f : MapFault) → class_onto compat read ≡ Err f → read ≡ Err f
no_class_before compat (Ok x) f e = absurd cc
no_class_before compat (Err g) f e = let same : g ≡ f = cc in ap Err same

-- a row of compatibilities that is not read
pub row_stops : (compat : List ℕ) (read : Option (List ℕ × Row)) (w line : ℕ) (rest : Lines) (f : Or MapFault) → Refuses f (ok_or (with_front compat read) (BadLine line))
    → Refuses f (class_onto compat (ok_or (read >>= (λ vs. ended (w, vs.0) vs.1) >>= λ x. Some (x, rest)) (BadLine line)))
row_stops compat read w line rest Memory h = tt
row_stops compat (Some vs) w line rest (Fault f) h = absurd cc
row_stops compat None w line rest (Fault f) h = let same : BadLine line ≡ f = cc in ap Err same

-- the class whose weight was read, and whose row is still to be read
pub read_class_from : (c i : ℕ) (lines rest : Lines) (line : ℕ) (row start named after : Row) (w : ℕ) → line ≡ lines.number → line_at lines ≡ Some (row, rest) → after_word (codes "class") row ≡ Some start
    → after_count i start ≡ Some named → natural_at 1 MAX_WEIGHT named ≡ Some (w, after)
    → read_line BadLine (read_class c i) lines ≡ ok_or (naturals_at 0 MAX_COMPATIBILITY c after >>= (λ vs. ended (w, vs.0) vs.1) >>= λ x. Some (x, rest)) (BadLine line)
unfolding read_class
read_class_from c i lines rest line row start named after w e0 e1 e2 e3 e4 = rw (e0, e1, e2, e3, e4) refl

-- one class more is a class, and those after it
one_class_more : (c i n : ℕ) (lines rest : Lines) (w : ℕ) (row : List ℕ) → read_line BadLine (read_class c i) lines ≡ Ok ((w, row), rest)
    → classes_at c i (suc n) lines ≡ then_classes w row (classes_at c (i + 1) n rest)
unfolding classes_at
one_class_more c i n lines rest w row e = rw e (class_shape w row (classes_at c (i + 1) n rest))

-- a class more
pub classes_go_on : (weights compat : List ℕ) (n i : ℕ) (lines : Lines) (w : ℕ) (all : List ℕ) (rest : Lines) → i < n → class_onto compat (read_line BadLine (read_class n i) lines) ≡ Ok ((all, w), rest)
    → with_fronts (weights ++ w ∷ []) all (classes_at n (i + 1) (n - (i + 1)) rest) ≡ with_fronts weights compat (classes_at n i (n - i) lines)
classes_go_on weights compat n i lines w all rest lt e =
    let more = one_left n i lt in
    let first = class_before compat (read_line BadLine (read_class n i) lines) all w rest e in
    sym (ap (λ k. with_fronts weights compat (classes_at n i k lines)) more
    ∙ ap (with_fronts weights compat) (one_class_more n i (n - (i + 1)) lines rest w first.0 first.1)
    ∙ regroup_class weights compat w first.0 (classes_at n (i + 1) (n - (i + 1)) rest)
    ∙ ap (λ (vs : List ℕ). with_fronts (weights ++ w ∷ []) vs (classes_at n (i + 1) (n - (i + 1)) rest)) first.2)

-- no class where there was to be one
pub classes_stop : (weights compat : List ℕ) (n i : ℕ) (lines : Lines) (f : MapFault) → i < n → class_onto compat (read_line BadLine (read_class n i) lines) ≡ Err f → with_fronts weights compat (classes_at n i (n - i) lines) ≡ Err f
unfolding classes_at
classes_stop weights compat n i lines f lt e =
    let first = no_class_before compat (read_line BadLine (read_class n i) lines) f e in
    rw (one_left n i lt, first) refl

-- all classes
pub classes_done : (weights compat : List ℕ) (n i : ℕ) (lines : Lines) → n ≤ i → with_fronts weights compat (classes_at n i (n - i) lines) ≡ Ok ((weights, compat), lines)
unfolding classes_at
classes_done weights compat n i lines le = rw (none_left n i le, append-nil weights, append-nil compat) refl
