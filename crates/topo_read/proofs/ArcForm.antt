-- The form of the arcs that are read: within the limits, no position repeated, and no more points than positions.
use Rattle.std.proofs.Common.{◌≡◌, ℕ, ◌+◌, ◌<◌, ◌≤◌, Bool, true, false, not, List, [], ◌∷◌, ◌++◌, length, length-append, sum_by, Option, Some, None, option_and_then, Result, Ok, Err, ⊎_elim, refl, sym, ap, ◌∙◌, subst, arith}
use Rattle.std.specs.Prelude.{◌&&◌, if◌then◌else◌, nat_lt, nat_le}
use Rattle.std.specs.List.{list_all}
use Rattle.std.specs.Option.{ok_or}
use Rattle.std.proofs.lemmas.Bool.{false≢true, and_parts, and_from, cases_lt}
use Rattle.std.proofs.lemmas.List.Folds.{list_all-append}
use Rattle.std.proofs.lemmas.List.Sums.{sum_by-append, sum_by-cons}
use Rattle.serde_json.specs.Data.{Data}
use Rattle.tgap_model.specs.declared.geometry.Point.{Point}
use Rattle.tgap_model.specs.declared.fault.MapFault.{MapFault}
use Rattle.tgap_model.specs.declared.fault.MapFault.TheVariants.{Shape, NotWhole, OutOfRange, ArcShort}
use Rattle.tgap_model.specs.Base.{in_limits, same_point, no_repeat}
use Rattle.line_forms.specs.Lines.{◌>>=◌, next_number}
use Rattle.line_forms.specs.Json.{ensured, try_fold, items_of}
use Rattle.topology_forms.specs.Topology.{ArcSoFar, no_positions, leading_numbers, whole_pair, point_of, limited, with_position, position_read, arc_read}
use Rattle.topology_forms.specs.Rings.{is_raw_arc}
use Rattle.tgap_model.proofs.Points.{same_point-true}
use Rattle.plain_io.proofs.Steps.{bound, ok_or_is}
use Rattle.topo_read.specs.Arcs.{arc_points}
use Rattle.topo_read.proofs.Steps.{ok_same, some_same}
use Rattle.topo_read.specs.Sizes.{count_items, count_positions}

-- ---- an arc up to a position

-- What is known of an arc up to a position.
record IsArcSoFar (arc : ArcSoFar) : Type 0 where
  inside : list_all in_limits arc.points ≡ true
  apart : no_repeat arc.points ≡ true
  none : arc.count ≡ 0 → arc.points ≡ []
  last : 0 < arc.count → (front : List Point) × (arc.points ≡ front ++ arc.at ∷ [])

-- a point after another one
no_repeat_push : (front : List Point) (a p : Point) → no_repeat (front ++ a ∷ []) ≡ true → same_point a p ≡ false → no_repeat ((front ++ a ∷ []) ++ p ∷ []) ≡ true
no_repeat_push [] a p h e = rw e refl
no_repeat_push (x ∷ []) a p h e = and_from (not (same_point x a)) (no_repeat (a ∷ p ∷ [])) (and_parts (not (same_point x a)) true h).0 (rw e refl)
no_repeat_push (x ∷ y ∷ front) a p h e =
    let parts = and_parts (not (same_point x y)) (no_repeat (y ∷ front ++ a ∷ [])) h in
    and_from (not (same_point x y)) (no_repeat (y ∷ (front ++ a ∷ []) ++ p ∷ [])) parts.0 (no_repeat_push (y ∷ front) a p parts.1 e)

-- a test of two parts that fails where the first holds
second_fails : (p q : Bool) → (p && q) ≡ false → p ≡ true → q ≡ false
second_fails true q e h = e
second_fails false q e h = absurd (false≢true h)

module _ (arc : ArcSoFar) (p : Point) (is : IsArcSoFar arc) (near : in_limits p ≡ true) where
  -- the point is the last one
  repeated : nat_lt 0 arc.count ≡ true → same_point arc.at p ≡ true → (front : List Point) × (arc.points ≡ front ++ p ∷ [])
  repeated some e =
      let l = is.last (grind arith) in
      (l.0, l.1 ∙ ap (λ (q : Point). l.0 ++ q ∷ []) (same_point-true arc.at p e))

  -- the point is another one
  pushed : (nat_lt 0 arc.count && same_point arc.at p) ≡ false → no_repeat (arc.points ++ p ∷ []) ≡ true
  pushed e =
      ⊎_elim
      (λ (some : 0 < arc.count). let l = is.last some in rw l.1 (no_repeat_push l.0 arc.at p (rw l.1 at is.apart) (second_fails (nat_lt 0 arc.count) (same_point arc.at p) e (grind arith))))
      (λ (zero_count : arc.count ≤ 0). rw (is.none (omega arith)) refl)
      (cases_lt 0 arc.count)

  by_test : (b : Bool) → (nat_lt 0 arc.count && same_point arc.at p) ≡ b
      → IsArcSoFar (record { count = next_number arc.count; at = p; points = if b then arc.points else arc.points ++ p ∷ [] })
  by_test true e =
      let parts = and_parts (nat_lt 0 arc.count) (same_point arc.at p) e in
      record { inside = is.inside; apart = is.apart; none = λ zero_count. absurd (omega arith); last = λ some. repeated parts.0 parts.1 }
  by_test false e =
      record {
        inside = list_all-append in_limits arc.points (p ∷ []) ∙ and_from (list_all in_limits arc.points) (in_limits p && true) is.inside (and_from (in_limits p) true near refl);
        apart = pushed e;
        none = λ zero_count. absurd (omega arith);
        last = λ some. (arc.points, refl);
      }

  -- a position more
  position_more : IsArcSoFar (with_position arc p)
  position_more = by_test (nat_lt 0 arc.count && same_point arc.at p) refl

-- at most one point more
longer : (b : Bool) (points : List Point) (p : Point) → length (if b then points else points ++ p ∷ []) ≤ length points + 1
longer true points p = omega arith
longer false points p = omega (arith, length-append points (p ∷ []))

-- what was limited is within the limits
limited_is : (p q : Point) → limited p ≡ Some q → in_limits q ≡ true
limited_is p q e = by_limits (in_limits p) refl e
  where
    by_limits : (b : Bool) → in_limits p ≡ b → (if b then Some p else None) ≡ Some q → in_limits q ≡ true
    by_limits true is e = subst (λ (r : Point). in_limits r ≡ true) (some_same p q e) is
    by_limits false is e = absurd cc

-- what one position more keeps
record Keeps (n : ℕ) (arc next : ArcSoFar) : Type 0 where
  form : IsArcSoFar next
  few : length next.points ≤ length arc.points + n

-- a position that is read
position_keeps : (deltas : Bool) (a : ℕ) (arc next : ArcSoFar) (d : Data) → IsArcSoFar arc → position_read deltas a arc d ≡ Ok next → Keeps 1 arc next
unfolding position_read
position_keeps deltas a arc next d is e =
    bound _ (ok_or (option_and_then leading_numbers (items_of d)) (Shape 7 a)) next e (λ numbers e0 r0.
    bound _ (ok_or (whole_pair numbers) (NotWhole a arc.count)) next r0 (λ whole e1 r1.
    bound _ (ok_or (limited (point_of deltas arc.at whole)) (OutOfRange a arc.count)) next r1 (λ p e2 r2.
    let near = limited_is (point_of deltas arc.at whole) p (ok_or_is (limited (point_of deltas arc.at whole)) (OutOfRange a arc.count) p e2) in
    let same = ok_same (with_position arc p) next r2 in
    subst (λ (n : ArcSoFar). Keeps 1 arc n) same (record {
      form = position_more arc p is near;
      few = longer (nat_lt 0 arc.count && same_point arc.at p) arc.points p;
    }))))

-- all positions that are read
positions_keep : (deltas : Bool) (a : ℕ) (arc next : ArcSoFar) (ds : List Data) → IsArcSoFar arc → try_fold (position_read deltas a) arc ds ≡ Ok next → Keeps (length ds) arc next
positions_keep deltas a arc next [] is e =
    let same = ok_same arc next e in
    subst (λ (n : ArcSoFar). Keeps 0 arc n) same (record { form = is; few = omega arith })
positions_keep deltas a arc next (d ∷ ds) is e =
    bound (λ s. try_fold (position_read deltas a) s ds) (position_read deltas a arc d) next e (λ s e0 r0.
    let one = position_keeps deltas a arc s d is e0 in
    let more = positions_keep deltas a s next ds one.form r0 in
    record { form = more.form; few = omega (arith, one.few, more.few) })

-- ---- an arc

-- a test that lets go on
ensured_is : {F : Type 0} (b : Bool) (f : F) (x : Unit {0}) → ensured b f ≡ Ok x → b ≡ true
ensured_is true f x e = refl
ensured_is false f x e = absurd cc

-- the last point is there
at_least_one : (front : List Point) (p : Point) → nat_le 1 (length (front ++ p ∷ [])) ≡ true
at_least_one front p = rw (length-append front (p ∷ [])) (grind arith)

-- What is known of the points of an arc.
record IsRead (d : Data) (points : List Point) : Type 0 where
  form : is_raw_arc points ≡ true
  few : length points ≤ count_items (items_of d)

-- an arc so far of two positions or more is an arc
raw_arc : (arc : ArcSoFar) → IsArcSoFar arc → nat_le 2 arc.count ≡ true → is_raw_arc arc.points ≡ true
raw_arc arc is long =
    let l = is.last (grind arith) in
    and_from (nat_le 1 (length arc.points) && list_all in_limits arc.points) (no_repeat arc.points)
    (and_from (nat_le 1 (length arc.points)) (list_all in_limits arc.points) (rw l.1 (at_least_one l.0 arc.at)) is.inside) is.apart

points_read : (deltas : Bool) (a : ℕ) (d : Data) (points : List Point) → arc_points deltas a d ≡ Ok points → IsRead d points
unfolding arc_points
points_read deltas a d points e =
    bound _ (ok_or (items_of d) (Shape 6 a)) points e (λ ds e0 r0.
    bound _ (try_fold (position_read deltas a) no_positions ds) points r0 (λ arc e1 r1.
    bound _ (ensured (nat_le 2 arc.count) (ArcShort a)) points r1 (λ long e2 r2.
    let items = ok_or_is (items_of d) (Shape 6 a) ds e0 in
    let start : IsArcSoFar no_positions = record { inside = refl; apart = refl; none = λ e. refl; last = λ some. absurd (omega arith) } in
    let kept = positions_keep deltas a no_positions arc ds start e1 in
    let same = ok_same arc.points points r2 in
    let form = raw_arc arc kept.form (ensured_is (nat_le 2 arc.count) (ArcShort a) long e2) in
    let few : length arc.points ≤ count_items (items_of d) = rw items (omega (arith, kept.few)) in
    subst (λ (ps : List Point). IsRead d ps) same (record { form = form; few = few }))))

-- ---- the arcs

-- an arc is read by itself, and put after the others
pub arc_alone : (deltas : Bool) (arcs : List (List Point)) (d : Data) → arc_read deltas arcs d ≡ (arc_points deltas (length arcs) d >>= λ points. Ok (arcs ++ points ∷ []))
unfolding arc_read arc_points
arc_alone deltas arcs d = by_items (items_of d)
  where
    finish : (b : Bool) (arc : ArcSoFar)
        → (ensured b (ArcShort (length arcs)) >>= λ long. Ok (arcs ++ arc.points ∷ [])) ≡ ((ensured b (ArcShort (length arcs)) >>= λ long. Ok arc.points) >>= λ points. Ok (arcs ++ points ∷ []))
    finish true arc = refl
    finish false arc = refl

    by_fold : (r : Result ArcSoFar MapFault)
        → (r >>= λ arc. ensured (nat_le 2 arc.count) (ArcShort (length arcs)) >>= λ long. Ok (arcs ++ arc.points ∷ []))
        ≡ ((r >>= λ arc. ensured (nat_le 2 arc.count) (ArcShort (length arcs)) >>= λ long. Ok arc.points) >>= λ points. Ok (arcs ++ points ∷ []))
    by_fold (Ok arc) = finish (nat_le 2 arc.count) arc
    by_fold (Err f) = refl

    by_items : (o : Option (List Data))
        → (ok_or o (Shape 6 (length arcs)) >>= λ ds. try_fold (position_read deltas (length arcs)) no_positions ds >>= λ arc. ensured (nat_le 2 arc.count) (ArcShort (length arcs)) >>= λ long. Ok (arcs ++ arc.points ∷ []))
        ≡ ((ok_or o (Shape 6 (length arcs)) >>= λ ds. try_fold (position_read deltas (length arcs)) no_positions ds >>= λ arc. ensured (nat_le 2 arc.count) (ArcShort (length arcs)) >>= λ long. Ok arc.points) >>= λ points. Ok (arcs ++ points ∷ []))
    by_items (Some ds) = by_fold (try_fold (position_read deltas (length arcs)) no_positions ds)
    by_items None = refl

-- What is known of the arcs that are read after others.
pub record AreRead (before : List (List Point)) (ds : List Data) (arcs : List (List Point)) : Type 0 where
  pub count : length arcs ≡ length before + length ds
  pub few : sum_by length arcs ≤ sum_by length before + count_positions ds
  pub form : list_all is_raw_arc arcs ≡ true

-- an arc more
arc_more : (deltas : Bool) (before arcs : List (List Point)) (d : Data) → list_all is_raw_arc before ≡ true → arc_read deltas before d ≡ Ok arcs → AreRead before (d ∷ []) arcs
arc_more deltas before arcs d form e =
    bound (λ points. Ok (before ++ points ∷ [])) (arc_points deltas (length before) d) arcs (sym (arc_alone deltas before d) ∙ e) (λ points e0 r0.
    let read = points_read deltas (length before) d points e0 in
    let same = ok_same (before ++ points ∷ []) arcs r0 in
    subst (λ (all : List (List Point)). AreRead before (d ∷ []) all) same (record {
      count = length-append before (points ∷ []);
      few = omega (arith, sum_by-append length before (points ∷ []), read.few);
      form = list_all-append is_raw_arc before (points ∷ []) ∙ and_from (list_all is_raw_arc before) (is_raw_arc points && true) form (and_from (is_raw_arc points) true read.form refl);
    }))

-- all arcs
arcs_more : (deltas : Bool) (before arcs : List (List Point)) (ds : List Data) → list_all is_raw_arc before ≡ true → try_fold (arc_read deltas) before ds ≡ Ok arcs → AreRead before ds arcs
arcs_more deltas before arcs [] form e =
    let same = ok_same before arcs e in
    subst (λ (all : List (List Point)). AreRead before [] all) same (record { count = omega arith; few = omega arith; form = form })
arcs_more deltas before arcs (d ∷ ds) form e =
    bound (λ s. try_fold (arc_read deltas) s ds) (arc_read deltas before d) arcs e (λ s e0 r0.
    let one = arc_more deltas before s d form e0 in
    let more = arcs_more deltas s arcs ds one.form r0 in
    record {
      count = omega (arith, one.count, more.count);
      few = omega (arith, one.few, more.few, sum_by-cons (λ (x : Data). count_items (items_of x)) d ds);
      form = more.form;
    })

-- the arcs of a topology
pub arcs_read : (deltas : Bool) (arcs : List (List Point)) (ds : List Data) → try_fold (arc_read deltas) [] ds ≡ Ok arcs → AreRead [] ds arcs
arcs_read deltas arcs ds e = arcs_more deltas [] arcs ds refl e

-- the fault of an arc by itself is the fault of the arc after the others
pub arc_stops : (deltas : Bool) (arcs : List (List Point)) (a : ℕ) (d : Data) (f : MapFault) → length arcs ≡ a → arc_points deltas a d ≡ Err f → arc_read deltas arcs d ≡ Err f
arc_stops deltas arcs a d f here e = arc_alone deltas arcs d ∙ rw (here, e) refl

-- the points of an arc by itself are put after the others
pub arc_goes_on : (deltas : Bool) (arcs : List (List Point)) (a : ℕ) (d : Data) (points : List Point) → length arcs ≡ a → arc_points deltas a d ≡ Ok points → arc_read deltas arcs d ≡ Ok (arcs ++ points ∷ [])
arc_goes_on deltas arcs a d points here e = arc_alone deltas arcs d ∙ rw (here, e) refl
