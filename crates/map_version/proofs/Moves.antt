-- Points that are moved in the arcs that are listed for them, put into one arc or taken out of it, and their places then.
use Rattle.std.proofs.Common.{◌≡◌, ◌∙◌, ℕ, zero, suc, eqb, Bool, true, false, ◌||◌, List, [], ◌∷◌, ◌++◌, length, map, take, drop, insert, remove, refl, sym, ap, subst, arith}
use Rattle.std.specs.Prelude.{if◌then◌else◌}
use Rattle.std.specs.List.{list_any}
use Rattle.std.proofs.lemmas.Bool.{false≢true, or_parts, or_left, or_right, false_from_ne_true, eqb-true, eq-eqb, cond-true, cond-false}
use Rattle.std.proofs.lemmas.List.{append-nil, take_all, drop_all}
use Rattle.std.proofs.lemmas.List.Folds.{list_any-append}
use Rattle.tgap_model.specs.declared.geometry.Point.{Point}
use Rattle.tgap_model.specs.declared.base.BaseArc.{BaseArc}
use Rattle.tgap_model.specs.Base.{same_point}
use Rattle.tgap_model.specs.Chains.{arc_number}
use Rattle.edit_laws.specs.Edits.{has_point, moved, move_all, with_points}
use Rattle.tgap_model.proofs.Points.{same_point-true}
use Rattle.edit_laws.proofs.Cases.{by_test}
use Rattle.face_cuts.specs.Nodes.{passes}
use Rattle.arc_places.specs.Places.{arc_passes, is_among, Covers}
use Rattle.arc_places.proofs.Listed.{passes_here}
use Rattle.map_version.specs.Positions.{changed_at}
use Rattle.map_version.proofs.Listed.{next_same, passes_any, passes_more}
use Rattle.map_version.proofs.Changing.{IsChange}

-- ---- a point that is moved

-- the arc with the old point moved
abbrev pub moved_arc : Point → Point → BaseArc → BaseArc
moved_arc old new a = with_points a (map (moved old new) a.points)

-- what was moved stays where it is
moved_stays : (old new : Point) → moved old new new ≡ new
moved_stays old new = by_test (same_point old new) (λ t. rw (t, moved) refl) (λ f. rw (f, moved) refl)

moved_twice : (old new p : Point) → moved old new (moved old new p) ≡ moved old new p
moved_twice old new p =
    by_test (same_point old p)
    (λ t. let e : moved old new p ≡ new = rw (t, moved) refl in ap (moved old new) e ∙ (moved_stays old new ∙ sym e))
    (λ f. let e : moved old new p ≡ p = rw (f, moved) refl in ap (moved old new) e)

points_twice : (old new : Point) (points : List Point) → map (moved old new) (map (moved old new) points) ≡ map (moved old new) points
points_twice old new [] = refl
points_twice old new (p ∷ points) =
    ap (λ (q : Point). q ∷ map (moved old new) (map (moved old new) points)) (moved_twice old new p)
    ∙ ap (λ (rest : List Point). moved old new p ∷ rest) (points_twice old new points)

-- where the old point is not, nothing is moved
points_stay : (old new : Point) (points : List Point) → list_any (same_point old) points ≡ false → map (moved old new) points ≡ points
points_stay old new [] e = refl
points_stay old new (p ∷ points) e =
    let parts = or_parts (same_point old p) (list_any (same_point old) points) e in
    let first : moved old new p ≡ p = rw (parts.0, moved) refl in
    ap (λ (q : Point). q ∷ map (moved old new) points) first ∙ ap (λ (rest : List Point). p ∷ rest) (points_stay old new points parts.1)

-- and where it was, it is no more
none_left : (old new : Point) (points : List Point) → same_point old new ≡ false → list_any (same_point old) (map (moved old new) points) ≡ false
none_left old new [] apart = refl
none_left old new (p ∷ points) apart =
    by_test (same_point old p)
    (λ t. let e : moved old new p ≡ new = rw (t, moved) refl in rw (e, apart) (none_left old new points apart))
    (λ f. let e : moved old new p ≡ p = rw (f, moved) refl in rw (e, f) (none_left old new points apart))

-- a point other than the new one was there before
was_there : (old new p : Point) (points : List Point) → same_point p new ≡ false → list_any (same_point p) (map (moved old new) points) ≡ true → list_any (same_point p) points ≡ true
was_there old new p [] apart e = e
was_there old new p (q ∷ points) apart e =
    by_test (same_point old q)
    (λ t. let m : moved old new q ≡ new = rw (t, moved) refl in
    or_right (same_point p q) (list_any (same_point p) points) (was_there old new p points apart (rw (m, apart) at e)))
    (λ f. let m : moved old new q ≡ q = rw (f, moved) refl in
    by_test (same_point p q)
    (λ here. or_left (same_point p q) (list_any (same_point p) points) here)
    (λ there. or_right (same_point p q) (list_any (same_point p) points) (was_there old new p points apart (rw (m, there) at e))))

-- ---- arcs of which one has other points

pub passes_map : (test : BaseArc → Bool) (f : BaseArc → BaseArc) (arcs : List BaseArc) (i : ℕ) → arc_passes test (map f arcs) i ≡ arc_passes (λ a. test (f a)) arcs i
passes_map test f [] i = refl
passes_map test f (a ∷ arcs) zero = refl
passes_map test f (a ∷ arcs) (suc i) = passes_map test f arcs i

none_passes : (test : BaseArc → Bool) → ((a : BaseArc) → test a ≡ false) → (arcs : List BaseArc) (i : ℕ) → arc_passes test arcs i ≡ false
none_passes test none [] i = refl
none_passes test none (a ∷ arcs) zero = none a
none_passes test none (a ∷ arcs) (suc i) = none_passes test none arcs i

-- a point that is moved away is a change of the arcs that have it
pub moving : (old new : Point) → same_point old new ≡ false → IsChange (moved_arc old new) (passes old)
moving old new apart =
    record {
      twice = λ a. ap (with_points a) (points_twice old new a.points);
      done = λ a. none_left old new a.points apart;
      stays = λ a f. ap (with_points a) (points_stay old new a.points f);
    }

-- ---- the places afterwards

-- the old point is listed no more, and the new one as the old one was
pub covers_moved : (before after : Point → List ℕ) (old new : Point) (arcs : List BaseArc) → Covers before arcs → same_point old new ≡ false → has_point new arcs ≡ false
    → ((p : Point) → same_point p old ≡ false → after p ≡ (if same_point p new then before old else before p)) → Covers after (move_all old new arcs)
covers_moved before after old new arcs covers apart free listed p i e =
    let e1 : arc_passes (λ a. passes p (moved_arc old new a)) arcs i ≡ true = sym (passes_map (passes p) (moved_arc old new) arcs i) ∙ e in
    by_test (same_point p old)
    (λ t.
    let e2 = subst (λ (q : Point). arc_passes (λ a. passes q (moved_arc old new a)) arcs i ≡ true) (same_point-true p old t) e1 in
    absurd (false≢true (sym (none_passes (λ a. passes old (moved_arc old new a)) (λ a. none_left old new a.points apart) arcs i) ∙ e2)))
    (λ f. by_test (same_point p new)
    (λ t.
    let same = same_point-true p new t in
    let list : after p ≡ before old = listed p f ∙ cond-true (same_point p new) (before old) (before p) t in
    let e2 = subst (λ (q : Point). arc_passes (λ a. passes q (moved_arc old new a)) arcs i ≡ true) same e1 in
    subst (λ (xs : List ℕ). is_among i xs ≡ true) (sym list) (covers old i (had_old arcs i free e2)))
    (λ g.
    let list : after p ≡ before p = listed p f ∙ cond-false (same_point p new) (before old) (before p) g in
    subst (λ (xs : List ℕ). is_among i xs ≡ true) (sym list)
    (covers p i (passes_more (λ a. passes p (moved_arc old new a)) (passes p) (λ a h. was_there old new p a.points g h) arcs i e1))))
  where
    had_old : (xs : List BaseArc) (k : ℕ) → has_point new xs ≡ false → arc_passes (λ a. passes new (moved_arc old new a)) xs k ≡ true → arc_passes (passes old) xs k ≡ true
    had_old [] k none h = h
    had_old (a ∷ xs) zero none h =
        by_test (passes old a)
        (λ t. t)
        (λ f. absurd (false≢true (
        let parts = or_parts (passes new a) (has_point new xs) none in
        sym parts.0 ∙ (sym (ap (list_any (same_point new)) (points_stay old new a.points f)) ∙ h))))
    had_old (a ∷ xs) (suc k) none h = had_old xs k (or_parts (passes new a) (has_point new xs) none).1 h

pub passes_changed_other : (test : BaseArc → Bool) (i : ℕ) (change : List Point → List Point) (arcs : List BaseArc) (j : ℕ) → eqb i j ≡ false
    → arc_passes test (changed_at i change arcs) j ≡ arc_passes test arcs j
passes_changed_other test i change [] j e = refl
passes_changed_other test zero change (a ∷ arcs) zero e = absurd (false≢true (sym e ∙ eq-eqb 0 0 refl))
passes_changed_other test zero change (a ∷ arcs) (suc j) e = refl
passes_changed_other test (suc i) change (a ∷ arcs) zero e = refl
passes_changed_other test (suc i) change (a ∷ arcs) (suc j) e = passes_changed_other test i change arcs j (sym (next_same i j) ∙ e)

passes_changed_here : (p : Point) (i : ℕ) (change : List Point → List Point) (arcs : List BaseArc) → arc_passes (passes p) (changed_at i change arcs) i ≡ true
    → list_any (same_point p) (change (arc_number arcs i).points) ≡ true
passes_changed_here p i change [] e = absurd (false≢true e)
passes_changed_here p zero change (a ∷ arcs) e = e
passes_changed_here p (suc i) change (a ∷ arcs) e = passes_changed_here p i change arcs e

-- a point among those around a cut is among all
any_around : (test : Point → Bool) (points : List Point) (k : ℕ) → (list_any test (take k points) || list_any test (drop k points)) ≡ true → list_any test points ≡ true
any_around test [] zero e = e
any_around test [] (suc k) e = e
any_around test (p ∷ points) zero e = e
any_around test (p ∷ points) (suc k) e =
    by_test (test p)
    (λ t. or_left (test p) (list_any test points) t)
    (λ f. or_right (test p) (list_any test points) (any_around test points k (rw f at e)))

-- after a point was put in
any_inserted : (test : Point → Bool) (points : List Point) (k : ℕ) (new : Point) → test new ≡ false → list_any test (insert points k new) ≡ true → list_any test points ≡ true
any_inserted test points k new apart e =
    any_around test points k (let f = sym (list_any-append test (take k points) (new ∷ drop k points)) ∙ e in rw apart at f)

-- after one was taken out
any_removed : (test : Point → Bool) (points : List Point) (k : ℕ) → list_any test (remove points k) ≡ true → list_any test points ≡ true
any_removed test [] zero e = e
any_removed test [] (suc k) e = e
any_removed test (p ∷ points) zero e = or_right (test p) (list_any test points) e
any_removed test (p ∷ points) (suc k) e =
    by_test (test p)
    (λ t. or_left (test p) (list_any test points) t)
    (λ f. or_right (test p) (list_any test points) (any_removed test points k (rw f at e)))

pub covers_inserted : (before after : Point → List ℕ) (new : Point) (i k : ℕ) (arcs : List BaseArc) → Covers before arcs → has_point new arcs ≡ false
    → ((p : Point) → after p ≡ (if same_point p new then i ∷ [] else before p)) → Covers after (changed_at i (λ points. insert points k new) arcs)
covers_inserted before after new i k arcs covers free listed p j e =
    by_test (eqb i j)
    (λ t. by_test (same_point p new)
    (λ s.
    let list : after p ≡ i ∷ [] = listed p ∙ cond-true (same_point p new) (i ∷ []) (before p) s in
    subst (λ (xs : List ℕ). is_among j xs ≡ true) (sym list) (or_left (eqb i j) false t))
    (λ s.
    let list : after p ≡ before p = listed p ∙ cond-false (same_point p new) (i ∷ []) (before p) s in
    let e1 = subst (λ (n : ℕ). arc_passes (passes p) (changed_at i (λ points. insert points k new) arcs) n ≡ true) (sym (eqb-true i j t)) e in
    let had = any_inserted (same_point p) (arc_number arcs i).points k new s (passes_changed_here p i (λ points. insert points k new) arcs e1) in
    subst (λ (xs : List ℕ). is_among j xs ≡ true) (sym list)
    (subst (λ (n : ℕ). is_among n (before p) ≡ true) (eqb-true i j t) (covers p i (passes_here p arcs i ∙ had)))))
    (λ f.
    let e1 = sym (passes_changed_other (passes p) i (λ points. insert points k new) arcs j f) ∙ e in
    by_test (same_point p new)
    (λ s. absurd (false≢true (sym free ∙ passes_any (passes new) arcs j (subst (λ (q : Point). arc_passes (passes q) arcs j ≡ true) (same_point-true p new s) e1))))
    (λ s.
    let list : after p ≡ before p = listed p ∙ cond-false (same_point p new) (i ∷ []) (before p) s in
    subst (λ (xs : List ℕ). is_among j xs ≡ true) (sym list) (covers p j e1)))

pub covers_removed : (lists : Point → List ℕ) (i k : ℕ) (arcs : List BaseArc) → Covers lists arcs → Covers lists (changed_at i (λ points. remove points k) arcs)
covers_removed lists i k arcs covers p j e =
    by_test (eqb i j)
    (λ t.
    let e1 = subst (λ (n : ℕ). arc_passes (passes p) (changed_at i (λ points. remove points k) arcs) n ≡ true) (sym (eqb-true i j t)) e in
    let had = any_removed (same_point p) (arc_number arcs i).points k (passes_changed_here p i (λ points. remove points k) arcs e1) in
    subst (λ (n : ℕ). is_among n (lists p) ≡ true) (eqb-true i j t) (covers p i (passes_here p arcs i ∙ had)))
    (λ f. covers p j (sym (passes_changed_other (passes p) i (λ points. remove points k) arcs j f) ∙ e))

-- what stands in a vector after all of it was written
pub all_written : {X : Type 0} (xs ys : List X) (n : ℕ) → length ys ≡ n → length xs ≡ n → take n (ys ++ drop (length ys) xs) ≡ ys
all_written xs ys n written all =
    ap (take n) (ap (λ rest. ys ++ rest) (drop_all (length ys) xs (omega arith)) ∙ append-nil ys) ∙ take_all n ys (omega arith)

-- the old point is there, and the new one is not
pub points_apart : (old new : Point) (arcs : List BaseArc) → has_point old arcs ≡ true → has_point new arcs ≡ false → same_point old new ≡ false
points_apart old new arcs there free =
    false_from_ne_true (same_point old new) (λ e. false≢true (sym free ∙ subst (λ (p : Point). has_point p arcs ≡ true) (same_point-true old new e) there))
