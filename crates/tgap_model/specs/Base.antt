-- The base map, and which values are one.
use Rattle.std.specs.Prelude.{ℕ, ◌-◌, ◌*◌, ◌^◌, Bool, true, ◌&&◌, ◌||◌, not, ℤ, pos, neg_ℤ, int_le, nat_le, nat_lt, ◌==◌, List, [], ◌∷◌, length, sum_by, Option, Some, None, if◌then◌else◌}
use Rattle.std.specs.Ordering.{int_eq}
use Rattle.std.specs.List.{list_all, list_any, range_with_len}
use Rattle.tgap_model.specs.declared.geometry.Point.{Point}
use Rattle.tgap_model.specs.declared.base.Transform.{Transform}
use Rattle.tgap_model.specs.declared.base.Rules.{Rules}
use Rattle.tgap_model.specs.declared.base.BaseArc.{BaseArc}
use Rattle.tgap_model.specs.declared.limits.TheConstants.{MAX_COORDINATE, MAX_POINTS, MAX_ARCS, MAX_FACES, MAX_CLASSES, MAX_WEIGHT, MAX_COMPATIBILITY, MAX_RATIO}

-- A base map as contracts see it. The list of classes begins with that of face 1 and goes on in order of number.
pub record BaseMap : Type 0 where
  pub transform : Transform
  pub rules : Rules
  pub classes : List ℕ
  pub arcs : List BaseArc

-- z is from low to high
abbrev pub within : ℤ → ℤ → ℤ → Bool
within low high z = int_le low z && int_le z high

-- z is a number of 32 bits with a sign
abbrev pub is_word : ℤ → Bool
is_word z = within (neg_ℤ (pos (2 ^ 31))) (pos (2 ^ 31 - 1)) z

unfoldable pub is_transform : Transform → Bool
is_transform t = is_word t.sx && is_word t.sy && is_word t.tx && is_word t.ty

-- from 1 to 256 classes, each with a weight, and a compatibility of each class with each
unfoldable pub is_rules : Rules → Bool
is_rules r =
    nat_le 1 (length r.weights) && nat_le (length r.weights) MAX_CLASSES
    && list_all (λ w. nat_le 1 w && nat_le w MAX_WEIGHT) r.weights
    && (length r.compat == length r.weights * length r.weights)
    && list_all (λ v. nat_le v MAX_COMPATIBILITY) r.compat
    && nat_le r.ratio MAX_RATIO

-- both coordinates are within the limits
abbrev pub in_limits : Point → Bool
in_limits p = within (neg_ℤ MAX_COORDINATE) MAX_COORDINATE p.x && within (neg_ℤ MAX_COORDINATE) MAX_COORDINATE p.y

abbrev pub same_point : Point → Point → Bool
same_point a b = int_eq a.x b.x && int_eq a.y b.y

-- no two points in a row are one
abbrev pub no_repeat : List Point → Bool
no_repeat [] = true
no_repeat (a ∷ []) = true
no_repeat (a ∷ b ∷ points) = not (same_point a b) && no_repeat (b ∷ points)

-- an arc of a map with n faces
unfoldable pub is_arc : ℕ → BaseArc → Bool
is_arc n a =
    nat_le a.left n && nat_le a.right n && not (a.left == a.right)
    && nat_le 2 (length a.points) && list_all in_limits a.points && no_repeat a.points

-- the arc has the face at its left or right
abbrev pub borders_face : ℕ → BaseArc → Bool
borders_face f a = (a.left == f) || (a.right == f)

-- no face from 1 to n is without an arc that has it at one of its sides
abbrev pub all_faces_bordered : ℕ → List BaseArc → Bool
all_faces_bordered n arcs = list_all (λ f. list_any (borders_face f) arcs) (range_with_len 1 n)

-- how many points all arcs have
abbrev pub count_points : List BaseArc → ℕ
count_points arcs = sum_by (λ a. length a.points) arcs

-- A base map: its rules, classes and arcs have their form and keep to the limits, and each face has a border.
unfoldable pub is_base : BaseMap → Bool
is_base m =
    is_transform m.transform && is_rules m.rules
    && nat_le (length m.classes) MAX_FACES && list_all (λ k. nat_lt k (length m.rules.weights)) m.classes
    && nat_le (length m.arcs) MAX_ARCS && nat_le (count_points m.arcs) MAX_POINTS
    && list_all (is_arc (length m.classes)) m.arcs && all_faces_bordered (length m.classes) m.arcs

-- the value, where it is a base map
abbrev pub checked : BaseMap → Option BaseMap
checked m = if is_base m then Some m else None
