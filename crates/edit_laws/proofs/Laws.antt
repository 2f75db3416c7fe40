-- A base map that is edited is a base map again.
use Rattle.std.proofs.Common.{◌≡◌, ◌∙◌, ℕ, zero, suc, ◌+◌, ◌≤◌, ◌<◌, Bool, true, false, cond, ◌&&◌, ◌||◌, not, nat_lt, List, [], ◌∷◌, length, map, set, Option, Some, None, refl, sym, ap, subst, arith}
use Rattle.std.specs.Prelude.{option_map}
use Rattle.std.specs.List.{list_all, list_any, range_with_len}
use Rattle.std.proofs.lemmas.List.Sums.{sum_by-cons}
use Rattle.std.proofs.lemmas.Bool.{and_parts, and_from, or_parts, le-leb, lt-ltb, not-true, false≢true}
use Rattle.tgap_model.specs.declared.geometry.Point.{Point}
use Rattle.tgap_model.specs.declared.base.BaseArc.{BaseArc}
use Rattle.tgap_model.specs.declared.limits.TheConstants.{MAX_POINTS}
use Rattle.tgap_model.specs.Base.{BaseMap, same_point, in_limits, no_repeat, is_arc, is_base, borders_face, count_points}
use Rattle.tgap_model.specs.Chains.{first_point}
use Rattle.edit_laws.specs.Edits.{has_point, moved, move_all, with_points, are_ends, put_between, take_out, neighbours, first_found, change_first, turns_back}
use Rattle.tgap_model.proofs.BaseFacts.{BaseFacts, base_facts, arc_facts}
use Rattle.tgap_model.proofs.Points.{same_point-true, same_point-from}
use Rattle.edit_laws.proofs.Cases.{by_test, by_option, passed, stopped, apart_turned}

-- ---- a map from its facts

pub base_from : (m : BaseMap) → BaseFacts m → is_base m ≡ true
unfolding is_base
base_from m b =
    and_from _ _ (and_from _ _ (and_from _ _ (and_from _ _ (and_from _ _ (and_from _ _ (and_from _ _ b.transform b.rules)
    (le-leb _ _ b.few_faces)) b.classes) (le-leb _ _ b.few_arcs)) (le-leb _ _ b.few_points)) b.arcs) b.bordered

-- points that an arc may have
pub record IsPath (points : List Point) : Type 0 where
  pub long : 2 ≤ length points
  pub limits : list_all in_limits points ≡ true
  pub apart : no_repeat points ≡ true

path_of : (n : ℕ) (a : BaseArc) → is_arc n a ≡ true → IsPath a.points
path_of n a h = let f = arc_facts n a h in record { long = f.two_points; limits = f.in_limits; apart = f.apart }

-- an arc with such points is one again
arc_again : (n : ℕ) (a : BaseArc) (points : List Point) → is_arc n a ≡ true → IsPath points → is_arc n (with_points a points) ≡ true
unfolding is_arc
arc_again n a points h path =
    let p1 = and_parts _ _ h in
    let p2 = and_parts _ _ p1.0 in
    let p3 = and_parts _ _ p2.0 in
    and_from _ _ (and_from _ _ (and_from _ _ p3.0 (le-leb 2 (length points) path.long)) path.limits) path.apart

-- what a change of the arcs leaves
pub record Keeps (arcs changed : List BaseArc) : Type 0 where
  pub count : length changed ≡ length arcs
  pub borders : (f : ℕ) → list_any (borders_face f) changed ≡ list_any (borders_face f) arcs

-- tests that agree everywhere agree of all
all_same : (p q : ℕ → Bool) (xs : List ℕ) → ((x : ℕ) → p x ≡ q x) → list_all p xs ≡ list_all q xs
all_same p q [] same = refl
all_same p q (x ∷ xs) same = ap (λ b. b && list_all p xs) (same x) ∙ ap (λ b. q x && b) (all_same p q xs same)

-- a map with such arcs is a base map again
pub arcs_again : (m : BaseMap) (arcs : List BaseArc) → BaseFacts m → Keeps m.arcs arcs → list_all (is_arc (length m.classes)) arcs ≡ true
    → count_points arcs ≤ MAX_POINTS → is_base (record m { arcs = arcs }) ≡ true
arcs_again m arcs b keeps each few =
    let n = length m.classes in
    let few_arcs = b.few_arcs in
    let same = keeps.count in
    base_from (record m { arcs = arcs }) (record {
      transform = b.transform;
      rules = b.rules;
      few_faces = b.few_faces;
      classes = b.classes;
      few_arcs = rw same few_arcs;
      few_points = few;
      arcs = each;
      bordered = all_same (λ f. list_any (borders_face f) arcs) (λ f. list_any (borders_face f) m.arcs) (range_with_len 1 n) keeps.borders ∙ b.bordered;
    })

-- ---- a class

set_all : (p : ℕ → Bool) (xs : List ℕ) (i x : ℕ) → list_all p xs ≡ true → p x ≡ true → list_all p (set xs i x) ≡ true
set_all p [] i x all one = refl
set_all p (y ∷ xs) zero x all one = and_from _ _ one (and_parts _ _ all).1
set_all p (y ∷ xs) (suc i) x all one = and_from _ _ (and_parts _ _ all).0 (set_all p xs i x (and_parts _ _ all).1 one)

set_length : (xs : List ℕ) (i x : ℕ) → length (set xs i x) ≡ length xs
set_length [] i x = refl
set_length (y ∷ xs) zero x = refl
set_length (y ∷ xs) (suc i) x = ap suc (set_length xs i x)

-- a class below the number of classes may be set
pub classes_again : (m : BaseMap) (i k : ℕ) → is_base m ≡ true → k < length m.rules.weights → is_base (record m { classes = set m.classes i k }) ≡ true
classes_again m i k h small =
    let b = base_facts m h in
    let e = set_length m.classes i k in
    base_from (record m { classes = set m.classes i k }) (record {
      transform = b.transform;
      rules = b.rules;
      few_faces = rw e b.few_faces;
      classes = set_all (λ c. nat_lt c (length m.rules.weights)) m.classes i k b.classes (lt-ltb k (length m.rules.weights) small);
      few_arcs = b.few_arcs;
      few_points = b.few_points;
      arcs = rw e b.arcs;
      bordered = rw e b.bordered;
    })

-- ---- a move

moved_length : (old new : Point) (points : List Point) → length (map (moved old new) points) ≡ length points
moved_length old new [] = refl
moved_length old new (p ∷ points) = ap suc (moved_length old new points)

moved_limits : (old new : Point) (points : List Point) → in_limits new ≡ true → list_all in_limits points ≡ true → list_all in_limits (map (moved old new) points) ≡ true
moved_limits old new [] fits h = refl
moved_limits old new (p ∷ points) fits h =
    let parts = and_parts (in_limits p) (list_all in_limits points) h in
    by_test (same_point old p)
    (λ e. and_from _ _ (rw e fits) (moved_limits old new points fits parts.1))
    (λ e. and_from _ _ (rw e parts.0) (moved_limits old new points fits parts.1))

-- Two points that are apart stay apart, where the new one is neither.
moved_apart : (old new p q : Point) → same_point p q ≡ false → same_point new p ≡ false → same_point new q ≡ false → same_point (moved old new p) (moved old new q) ≡ false
moved_apart old new p q apart free_p free_q =
    by_test (same_point old p)
    (λ e. by_test (same_point old q)
    (λ f. absurd (false≢true (sym apart ∙ same_point-from p q (sym (same_point-true old p e) ∙ same_point-true old q f))))
    (λ f. rw (e, f) free_q))
    (λ e. by_test (same_point old q)
    (λ f. rw (e, f) (apart_turned new p free_p))
    (λ f. rw (e, f) apart))

moved_no_repeat : (old new : Point) (points : List Point) → list_any (same_point new) points ≡ false → no_repeat points ≡ true → no_repeat (map (moved old new) points) ≡ true
moved_no_repeat old new [] free h = refl
moved_no_repeat old new (p ∷ []) free h = refl
moved_no_repeat old new (p ∷ q ∷ points) free h =
    let parts = and_parts (not (same_point p q)) (no_repeat (q ∷ points)) h in
    let free_p = or_parts (same_point new p) (list_any (same_point new) (q ∷ points)) free in
    let free_q = or_parts (same_point new q) (list_any (same_point new) points) free_p.1 in
    and_from _ _ (ap not (moved_apart old new p q (not-true _ parts.0) free_p.0 free_q.0)) (moved_no_repeat old new (q ∷ points) free_p.1 parts.1)

moved_path : (old new : Point) (points : List Point) → in_limits new ≡ true → list_any (same_point new) points ≡ false → IsPath points → IsPath (map (moved old new) points)
moved_path old new points fits free path =
    let e = moved_length old new points in
    record { long = rw e path.long; limits = moved_limits old new points fits path.limits; apart = moved_no_repeat old new points free path.apart }

moved_arcs : (n : ℕ) (old new : Point) (arcs : List BaseArc) → in_limits new ≡ true → has_point new arcs ≡ false → list_all (is_arc n) arcs ≡ true → list_all (is_arc n) (move_all old new arcs) ≡ true
moved_arcs n old new [] fits free h = refl
moved_arcs n old new (a ∷ arcs) fits free h =
    let parts = and_parts (is_arc n a) (list_all (is_arc n) arcs) h in
    let apart = or_parts (list_any (same_point new) a.points) (has_point new arcs) free in
    and_from _ _ (arc_again n a (map (moved old new) a.points) parts.0 (moved_path old new a.points fits apart.0 (path_of n a parts.0))) (moved_arcs n old new arcs fits apart.1 parts.1)

moved_keeps : (old new : Point) (arcs : List BaseArc) → Keeps arcs (move_all old new arcs)
moved_keeps old new [] = record { count = refl; borders = λ f. refl }
moved_keeps old new (a ∷ arcs) =
    let rest = moved_keeps old new arcs in
    record { count = ap suc rest.count; borders = λ f. ap (λ b. borders_face f a || b) (rest.borders f) }

pub moved_count : (old new : Point) (arcs : List BaseArc) → count_points (move_all old new arcs) ≡ count_points arcs
moved_count old new [] = refl
moved_count old new (a ∷ arcs) =
    let before = sum_by-cons (λ (b : BaseArc). length b.points) a arcs in
    let after = sum_by-cons (λ (b : BaseArc). length b.points) (with_points a (map (moved old new) a.points)) (move_all old new arcs) in
    let one = moved_length old new a.points in
    let more = moved_count old new arcs in
    omega arith

pub move_again : (m : BaseMap) (old new : Point) → is_base m ≡ true → in_limits new ≡ true → has_point new m.arcs ≡ false
    → is_base (record m { arcs = move_all old new m.arcs }) ≡ true
move_again m old new h fits free =
    let b = base_facts m h in
    arcs_again m (move_all old new m.arcs) b (moved_keeps old new m.arcs) (moved_arcs (length m.classes) old new m.arcs fits free b.arcs)
    (let e = moved_count old new m.arcs in rw e b.few_points)

-- ---- a change in the first arc that can be changed

pub change_here : (change : List Point → Option (List Point)) (a : BaseArc) (arcs : List BaseArc) (points : List Point) → change a.points ≡ Some points
    → change_first change (a ∷ arcs) ≡ Some (with_points a points ∷ arcs)
change_here change a arcs points e = rw (e, change_first) refl

pub change_there : (change : List Point → Option (List Point)) (a : BaseArc) (arcs : List BaseArc) → change a.points ≡ None
    → change_first change (a ∷ arcs) ≡ option_map (λ rest. a ∷ rest) (change_first change arcs)
change_there change a arcs e = rw (e, change_first) refl

-- what holds of the changed arc, and of the arcs before it, holds of the arcs
pub by_change : (change : List Point → Option (List Point)) (P : List BaseArc → List BaseArc → Type 0)
    → ((a : BaseArc) (points : List Point) (arcs : List BaseArc) → change a.points ≡ Some points → P (a ∷ arcs) (with_points a points ∷ arcs))
    → ((a : BaseArc) (arcs changed : List BaseArc) → change a.points ≡ None → P arcs changed → P (a ∷ arcs) (a ∷ changed))
    → (arcs changed : List BaseArc) → change_first change arcs ≡ Some changed → P arcs changed
by_change change P here there [] changed e = absurd cc
by_change change P here there (a ∷ arcs) changed e =
    by_option (change a.points)
    (λ none. by_option (change_first change arcs)
    (λ f. absurd (let g = change_there change a arcs none in cc))
    (λ rest f.
    let g = change_there change a arcs none in
    let same : a ∷ rest ≡ changed = cc in
    subst (λ (xs : List BaseArc). P (a ∷ arcs) xs) same (there a arcs rest none (by_change change P here there arcs rest f))))
    (λ points some.
    let g = change_here change a arcs points some in
    let same : with_points a points ∷ arcs ≡ changed = cc in
    subst (λ (xs : List BaseArc). P (a ∷ arcs) xs) same (here a points arcs some))

change_keeps : (change : List Point → Option (List Point)) (arcs changed : List BaseArc) → change_first change arcs ≡ Some changed → Keeps arcs changed
change_keeps change arcs changed e = by_change change Keeps
    (λ a points arcs some. record { count = refl; borders = λ f. refl })
    (λ a arcs changed none rest. record { count = ap suc rest.count; borders = λ f. ap (λ b. borders_face f a || b) (rest.borders f) })
    arcs changed e

-- ---- a new point in a segment

-- the rest of a path, where it has two points
path_rest : (p q : Point) (points : List Point) → IsPath (p ∷ q ∷ points) → 2 ≤ length (q ∷ points) → IsPath (q ∷ points)
path_rest p q points path long =
    record {
      long = long;
      limits = (and_parts (in_limits p) (list_all in_limits (q ∷ points)) path.limits).1;
      apart = (and_parts (not (same_point p q)) (no_repeat (q ∷ points)) path.apart).1;
    }

-- a point before a path, apart from its first point
path_onto : (p q : Point) (points rest : List Point) → IsPath (p ∷ q ∷ points) → first_point rest ≡ q → IsPath rest → IsPath (p ∷ rest)
path_onto p q points [] path first later = absurd (omega (arith, later.long))
path_onto p q points (r ∷ rest) path first later =
    let long : 2 ≤ suc (length (r ∷ rest)) = omega (arith, later.long) in
    let apart : same_point p r ≡ false = rw first (not-true _ (and_parts (not (same_point p q)) (no_repeat (q ∷ points)) path.apart).0) in
    record {
      long = long;
      limits = and_from _ _ (and_parts (in_limits p) (list_all in_limits (q ∷ points)) path.limits).0 later.limits;
      apart = and_from _ _ (ap not apart) later.apart;
    }

-- points with one more among them
pub record IsPut (new : Point) (points put : List Point) : Type 0 where
  pub count : length put ≡ suc (length points)
  pub starts : first_point put ≡ first_point points
  pub some : 2 ≤ length points
  pub path : in_limits new ≡ true → list_any (same_point new) points ≡ false → IsPath points → IsPath put

put_here : (new p q : Point) (points : List Point) → IsPut new (p ∷ q ∷ points) (p ∷ new ∷ q ∷ points)
put_here new p q points = record {
  count = refl;
  starts = refl;
  some = omega arith;
  path = λ fits free path.
      let limits = and_parts (in_limits p) (list_all in_limits (q ∷ points)) path.limits in
      let apart = and_parts (not (same_point p q)) (no_repeat (q ∷ points)) path.apart in
      let free_p = or_parts (same_point new p) (list_any (same_point new) (q ∷ points)) free in
      let free_q = or_parts (same_point new q) (list_any (same_point new) points) free_p.1 in
      let long : 2 ≤ length (p ∷ new ∷ q ∷ points) = omega arith in
      record {
        long = long;
        limits = and_from _ _ limits.0 (and_from _ _ fits limits.1);
        apart = and_from _ _ (ap not (apart_turned new p free_p.0)) (and_from _ _ (ap not free_q.0) apart.1);
      };
}

put_later : (new p q : Point) (points rest : List Point) → IsPut new (q ∷ points) rest → IsPut new (p ∷ q ∷ points) (p ∷ rest)
put_later new p q points rest later = record {
  count = ap suc later.count;
  starts = refl;
  some = omega arith;
  path = λ fits free path.
      let free_p = or_parts (same_point new p) (list_any (same_point new) (q ∷ points)) free in
      path_onto p q points rest path later.starts (later.path fits free_p.1 (path_rest p q points path later.some));
}

pub put_is : (a b new : Point) (points put : List Point) → put_between a b new points ≡ Some put → IsPut new points put
put_is a b new [] put e = absurd cc
put_is a b new (p ∷ []) put e = absurd cc
put_is a b new (p ∷ q ∷ points) put e =
    let later : Option (List Point) = option_map (λ rest. p ∷ rest) (put_between a b new (q ∷ points)) in
    by_test (are_ends a b p q)
    (λ t.
    let f = passed (are_ends a b p q) (Some (p ∷ new ∷ q ∷ points)) later t in
    let same : p ∷ new ∷ q ∷ points ≡ put = cc in
    subst (λ (xs : List Point). IsPut new (p ∷ q ∷ points) xs) same (put_here new p q points))
    (λ t. by_option (put_between a b new (q ∷ points))
    (λ none. absurd (let f = stopped (are_ends a b p q) (Some (p ∷ new ∷ q ∷ points)) later t in let g = ap (option_map (λ (rest : List Point). p ∷ rest)) none in cc))
    (λ rest some.
    let f = stopped (are_ends a b p q) (Some (p ∷ new ∷ q ∷ points)) later t in
    let g = ap (option_map (λ (rest : List Point). p ∷ rest)) some in
    let same : p ∷ rest ≡ put = cc in
    subst (λ (xs : List Point). IsPut new (p ∷ q ∷ points) xs) same (put_later new p q points rest (put_is a b new (q ∷ points) rest some))))

-- how many points there are with an arc more
pub count_more : (a : BaseArc) (arcs : List BaseArc) → count_points (a ∷ arcs) ≡ length a.points + count_points arcs
count_more a arcs = sum_by-cons (λ (b : BaseArc). length b.points) a arcs

pub put_count : (a b new : Point) (arcs changed : List BaseArc) → change_first (put_between a b new) arcs ≡ Some changed → count_points changed ≡ suc (count_points arcs)
put_count a b new arcs changed e = by_change (put_between a b new) (λ (xs ys : List BaseArc). count_points ys ≡ suc (count_points xs))
    (λ arc points rest some.
    let one = (put_is a b new arc.points points some).count in
    let before = count_more arc rest in
    let after = count_more (with_points arc points) rest in
    omega arith)
    (λ arc rest put none more.
    let before = count_more arc rest in
    let after = count_more arc put in
    omega arith)
    arcs changed e

put_arcs : (n : ℕ) (a b new : Point) → in_limits new ≡ true → (arcs changed : List BaseArc) → change_first (put_between a b new) arcs ≡ Some changed
    → has_point new arcs ≡ false → list_all (is_arc n) arcs ≡ true → list_all (is_arc n) changed ≡ true
put_arcs n a b new fits arcs changed e =
    by_change (put_between a b new) (λ (xs ys : List BaseArc). has_point new xs ≡ false → list_all (is_arc n) xs ≡ true → list_all (is_arc n) ys ≡ true)
    (λ arc points rest some free each.
    let parts = and_parts (is_arc n arc) (list_all (is_arc n) rest) each in
    let apart = or_parts (list_any (same_point new) arc.points) (has_point new rest) free in
    and_from _ _ (arc_again n arc points parts.0 ((put_is a b new arc.points points some).path fits apart.0 (path_of n arc parts.0))) parts.1)
    (λ arc rest put none more free each.
    let parts = and_parts (is_arc n arc) (list_all (is_arc n) rest) each in
    let apart = or_parts (list_any (same_point new) arc.points) (has_point new rest) free in
    and_from _ _ parts.0 (more apart.1 parts.1))
    arcs changed e

pub add_again : (m : BaseMap) (a b new : Point) (arcs : List BaseArc) → is_base m ≡ true → in_limits new ≡ true → has_point new m.arcs ≡ false
    → change_first (put_between a b new) m.arcs ≡ Some arcs → count_points m.arcs < MAX_POINTS → is_base (record m { arcs = arcs }) ≡ true
add_again m a b new arcs h fits free e room =
    let base = base_facts m h in
    let count = put_count a b new m.arcs arcs e in
    arcs_again m arcs base (change_keeps (put_between a b new) m.arcs arcs e) (put_arcs (length m.classes) a b new fits m.arcs arcs e free base.arcs) (omega arith)

-- ---- an inner point that is taken out

-- points with one fewer among them
pub record IsTaken (old : Point) (points taken : List Point) : Type 0 where
  pub count : suc (length taken) ≡ length points
  pub starts : first_point taken ≡ first_point points
  pub some : 3 ≤ length points
  pub beside : Point × Point
  pub found : neighbours old points ≡ Some beside
  pub path : same_point beside.0 beside.1 ≡ false → IsPath points → IsPath taken

taken_here : (old p q r : Point) (points : List Point) → same_point old q ≡ true → IsTaken old (p ∷ q ∷ r ∷ points) (p ∷ r ∷ points)
taken_here old p q r points t = record {
  count = refl;
  starts = refl;
  some = omega arith;
  beside = (p, r);
  found = ap (λ b. cond b (Some (p, r)) (neighbours old (q ∷ r ∷ points))) t;
  path = λ apart path.
      let limits = and_parts (in_limits p) (list_all in_limits (q ∷ r ∷ points)) path.limits in
      let later = and_parts (in_limits q) (list_all in_limits (r ∷ points)) limits.1 in
      let repeat = and_parts (not (same_point p q)) (no_repeat (q ∷ r ∷ points)) path.apart in
      let rest = and_parts (not (same_point q r)) (no_repeat (r ∷ points)) repeat.1 in
      let long : 2 ≤ length (p ∷ r ∷ points) = omega arith in
      record {
        long = long;
        limits = and_from _ _ limits.0 later.1;
        apart = and_from _ _ (ap not apart) rest.1;
      };
}

taken_later : (old p q r : Point) (points rest : List Point) → same_point old q ≡ false → IsTaken old (q ∷ r ∷ points) rest → IsTaken old (p ∷ q ∷ r ∷ points) (p ∷ rest)
taken_later old p q r points rest t later = record {
  count = ap suc later.count;
  starts = refl;
  some = omega arith;
  beside = later.beside;
  found = ap (λ b. cond b (Some (p, r)) (neighbours old (q ∷ r ∷ points))) t ∙ later.found;
  path = λ apart path.
      let long : 2 ≤ length (q ∷ r ∷ points) = omega arith in
      path_onto p q (r ∷ points) rest path later.starts (later.path apart (path_rest p q (r ∷ points) path long));
}

pub taken_is : (old : Point) (points taken : List Point) → take_out old points ≡ Some taken → IsTaken old points taken
taken_is old [] taken e = absurd cc
taken_is old (p ∷ []) taken e = absurd cc
taken_is old (p ∷ q ∷ []) taken e = absurd cc
taken_is old (p ∷ q ∷ r ∷ points) taken e =
    let later : Option (List Point) = option_map (λ rest. p ∷ rest) (take_out old (q ∷ r ∷ points)) in
    by_test (same_point old q)
    (λ t.
    let f = passed (same_point old q) (Some (p ∷ r ∷ points)) later t in
    let same : p ∷ r ∷ points ≡ taken = cc in
    subst (λ (xs : List Point). IsTaken old (p ∷ q ∷ r ∷ points) xs) same (taken_here old p q r points t))
    (λ t. by_option (take_out old (q ∷ r ∷ points))
    (λ none. absurd (let f = stopped (same_point old q) (Some (p ∷ r ∷ points)) later t in let g = ap (option_map (λ (rest : List Point). p ∷ rest)) none in cc))
    (λ rest some.
    let f = stopped (same_point old q) (Some (p ∷ r ∷ points)) later t in
    let g = ap (option_map (λ (rest : List Point). p ∷ rest)) some in
    let same : p ∷ rest ≡ taken = cc in
    subst (λ (xs : List Point). IsTaken old (p ∷ q ∷ r ∷ points) xs) same (taken_later old p q r points rest t (taken_is old (q ∷ r ∷ points) rest some))))

-- where there is nothing to take out there are no neighbours
pub not_taken : (old : Point) (points : List Point) → take_out old points ≡ None → neighbours old points ≡ None
not_taken old [] e = refl
not_taken old (p ∷ []) e = refl
not_taken old (p ∷ q ∷ []) e = refl
not_taken old (p ∷ q ∷ r ∷ points) e =
    let later : Option (List Point) = option_map (λ rest. p ∷ rest) (take_out old (q ∷ r ∷ points)) in
    by_test (same_point old q)
    (λ t. absurd (let f = passed (same_point old q) (Some (p ∷ r ∷ points)) later t in cc))
    (λ t. by_option (take_out old (q ∷ r ∷ points))
    (λ none. ap (λ b. cond b (Some (p, r)) (neighbours old (q ∷ r ∷ points))) t ∙ not_taken old (q ∷ r ∷ points) none)
    (λ rest some. absurd (let f = stopped (same_point old q) (Some (p ∷ r ∷ points)) later t in let g = ap (option_map (λ (rest : List Point). p ∷ rest)) some in cc)))

pub taken_count : (old : Point) (arcs changed : List BaseArc) → change_first (take_out old) arcs ≡ Some changed → suc (count_points changed) ≡ count_points arcs
taken_count old arcs changed e = by_change (take_out old) (λ (xs ys : List BaseArc). suc (count_points ys) ≡ count_points xs)
    (λ arc points rest some.
    let one = (taken_is old arc.points points some).count in
    let before = count_more arc rest in
    let after = count_more (with_points arc points) rest in
    omega arith)
    (λ arc rest taken none more.
    let before = count_more arc rest in
    let after = count_more arc taken in
    omega arith)
    arcs changed e

-- the first neighbours, where the first arc has some, and where it has none
pub found_here : {A : Type 0} (find : List Point → Option A) (a : BaseArc) (arcs : List BaseArc) (x : A) → find a.points ≡ Some x → first_found find (a ∷ arcs) ≡ Some x
found_here find a arcs x e = rw (e, first_found) refl

pub found_there : {A : Type 0} (find : List Point → Option A) (a : BaseArc) (arcs : List BaseArc) → find a.points ≡ None → first_found find (a ∷ arcs) ≡ first_found find arcs
found_there find a arcs e = rw (e, first_found) refl

-- whether neighbours are equal
abbrev pub are_same : Option (Point × Point) → Bool
are_same None = false
are_same (Some beside) = same_point beside.0 beside.1

pub turns_back_is : (old : Point) (arcs : List BaseArc) → turns_back old arcs ≡ are_same (first_found (neighbours old) arcs)
turns_back_is old arcs = by_option (first_found (neighbours old) arcs) (λ e. rw (e, turns_back) refl) (λ x e. rw (e, turns_back) refl)

taken_arcs : (n : ℕ) (old : Point) (arcs changed : List BaseArc) → change_first (take_out old) arcs ≡ Some changed
    → are_same (first_found (neighbours old) arcs) ≡ false → list_all (is_arc n) arcs ≡ true → list_all (is_arc n) changed ≡ true
taken_arcs n old arcs changed e =
    by_change (take_out old) (λ (xs ys : List BaseArc). are_same (first_found (neighbours old) xs) ≡ false → list_all (is_arc n) xs ≡ true → list_all (is_arc n) ys ≡ true)
    (λ arc points rest some apart each.
    let parts = and_parts (is_arc n arc) (list_all (is_arc n) rest) each in
    let is = taken_is old arc.points points some in
    let far = sym (ap are_same (found_here (neighbours old) arc rest is.beside is.found)) ∙ apart in
    and_from _ _ (arc_again n arc points parts.0 (is.path far (path_of n arc parts.0))) parts.1)
    (λ arc rest taken none more apart each.
    let parts = and_parts (is_arc n arc) (list_all (is_arc n) rest) each in
    let far = sym (ap are_same (found_there (neighbours old) arc rest (not_taken old arc.points none))) ∙ apart in
    and_from _ _ parts.0 (more far parts.1))
    arcs changed e

pub drop_again : (m : BaseMap) (old : Point) (arcs : List BaseArc) → is_base m ≡ true → turns_back old m.arcs ≡ false
    → change_first (take_out old) m.arcs ≡ Some arcs → is_base (record m { arcs = arcs }) ≡ true
drop_again m old arcs h apart e =
    let base = base_facts m h in
    let few = base.few_points in
    let count = taken_count old m.arcs arcs e in
    arcs_again m arcs base (change_keeps (take_out old) m.arcs arcs e) (taken_arcs (length m.classes) old m.arcs arcs e (sym (turns_back_is old m.arcs) ∙ apart) base.arcs) (omega arith)
