-- Points put into a list at ascending places: what is in front of a put stays as it is.
use Rattle.std.proofs.Common.{◌≡◌, ℕ, ◌+◌, ◌-◌, ◌<◌, ◌≤◌, Bool, true, false, ◌&&◌, nat_lt, List, [], ◌∷◌, ◌++◌, map, take, drop, length, get_or, Option, Some, None, refl, sym, ap, ap₂, subst, ◌∙◌, true≢false, append_assoc, length-append, length-drop, arith}
use Rattle.std.specs.Prelude.{nat_le, insert, not}
use Rattle.std.specs.List.{slice_get}
use Rattle.std.specs.Option.{option_or}
use Rattle.std.proofs.lemmas.Bool.{leb-true, le-leb, lt-ltb, le-ltb, ltb-true, and_parts}
use Rattle.std.proofs.lemmas.List.{append-nil, take-append-drop, get_or_append_left, get_or-append-add, length-take, length-take-le}
use Rattle.std.proofs.lemmas.Option.{slice_get-get_or}
use Rattle.std.proofs.Math.Seq.{take-append-add, drop-append-add, get_or-append_seam}
use Rattle.tgap_model.specs.declared.geometry.Point.{Point}
use Rattle.tgap_model.specs.declared.record.Put.{Put}
use Rattle.tgap_model.specs.Base.{same_point}
use Rattle.tgap_model.specs.Records.{put_in, puts_fit, differs_there}
use Rattle.lemmas.specs.Sorting.{is_sorted_by}
use Rattle.client_replay.specs.Between.{is_between, last_of}

-- ---- places that ascend

-- the places ascend, from this one on
abbrev pub start_at : ℕ → List Put → Bool
start_at place [] = true
start_at place (p ∷ puts) = nat_le place p.at && start_at (p.at + 1) puts

pub start_before : (n m : ℕ) (puts : List Put) → n ≤ m → start_at m puts ≡ true → start_at n puts ≡ true
start_before n m [] l h = refl
start_before n m (p ∷ puts) l h =
    let parts = and_parts (nat_le m p.at) (start_at (p.at + 1) puts) h in
    let far : m ≤ p.at = leb-true m p.at parts.0 in
    ap₂ (λ (a b : Bool). a && b) (le-leb n p.at (omega arith)) parts.1

pub start_at-from_sorted : (n : ℕ) (p : Put) (puts : List Put) → n ≤ p.at → is_sorted_by nat_lt (map (λ q. q.at) (p ∷ puts)) ≡ true → start_at n (p ∷ puts) ≡ true
start_at-from_sorted n p [] l h = ap (λ (a : Bool). a && true) (le-leb n p.at l)
start_at-from_sorted n p (q ∷ puts) l h =
    let parts = and_parts (nat_lt p.at q.at) (is_sorted_by nat_lt (map (λ r. r.at) (q ∷ puts))) h in
    let next : p.at < q.at = ltb-true p.at q.at parts.0 in
    ap₂ (λ (a b : Bool). a && b) (le-leb n p.at l) (start_at-from_sorted (p.at + 1) q puts (omega arith) parts.1)

pub start_at_zero : (puts : List Put) → is_sorted_by nat_lt (map (λ q. q.at) puts) ≡ true → start_at 0 puts ≡ true
start_at_zero [] h = refl
start_at_zero (p ∷ puts) h = start_at-from_sorted 0 p puts (omega arith) h

-- ---- a put past the points that are passed

-- it leaves them as they are
pub insert_past : (passed rest : List Point) (k : ℕ) (x : Point) → length passed ≤ k
    → insert (passed ++ rest) k x ≡ ((passed ++ take (k - length passed) rest) ++ x ∷ []) ++ drop (k - length passed) rest
insert_past passed rest k x l =
    let n = k - length passed in
    let e : length passed + n ≡ k = omega arith in
    let front : take k (passed ++ rest) ≡ passed ++ take n rest = ap (λ m. take m (passed ++ rest)) (sym e) ∙ take-append-add passed rest n in
    let back : drop k (passed ++ rest) ≡ drop n rest = ap (λ m. drop m (passed ++ rest)) (sym e) ∙ drop-append-add passed rest n in
    ap₂ (λ a b. a ++ x ∷ b) front back ∙ sym (append_assoc (passed ++ take n rest) (x ∷ []) (drop n rest))

pub last_pushed : (xs : List Point) (x : Point) → last_of (xs ++ x ∷ []) ≡ Some x
last_pushed xs x =
    let e : length (xs ++ x ∷ []) - 1 ≡ length xs = omega (arith, length-append xs (x ∷ [])) in
    ap (slice_get (xs ++ x ∷ [])) e ∙ slice_get-get_or (xs ++ x ∷ []) (length xs) x (omega (arith, length-append xs (x ∷ []))) ∙ ap (λ y. Some y) (get_or-append_seam xs x [] x)

-- the last of two lists is that of the second, where it has one
pub last_append : (xs ys : List Point) → last_of (xs ++ ys) ≡ option_or (last_of ys) (last_of xs)
last_append xs [] = ap last_of (append-nil xs)
last_append xs (y ∷ ys) =
    let i = length (y ∷ ys) - 1 in
    let e : length (xs ++ y ∷ ys) - 1 ≡ length xs + i = omega (arith, length-append xs (y ∷ ys)) in
    slice_get-get_or (xs ++ y ∷ ys) (length (xs ++ y ∷ ys) - 1) y (omega (arith, length-append xs (y ∷ ys)))
    ∙ ap (λ k. Some (get_or (xs ++ y ∷ ys) k y)) e
    ∙ ap (λ z. Some z) (get_or-append-add xs (y ∷ ys) i y)
    ∙ sym (ap (λ o. option_or o (last_of xs)) (slice_get-get_or (y ∷ ys) i y (omega arith)))

-- the test of a put whose place is where these two lists meet
fits_where_they_meet : (front : List Point) (b : Point) (back : List Point) (k : ℕ) (q : Point) → length front ≡ k
    → (nat_le 1 k && nat_lt k (length (front ++ b ∷ back)) && (not (same_point (get_or (front ++ b ∷ back) (k - 1) q) q) && not (same_point (get_or (front ++ b ∷ back) k q) q)))
    ≡ is_between (last_of front) (Some b) q
fits_where_they_meet [] b back k q e =
    ap (λ m. nat_le 1 m && nat_lt m (length (b ∷ back)) && (not (same_point (get_or (b ∷ back) (m - 1) q) q) && not (same_point (get_or (b ∷ back) m q) q))) (sym e)
fits_where_they_meet (a ∷ front) b back k q e =
    let all = (a ∷ front) ++ b ∷ back in
    let long = length-append (a ∷ front) (b ∷ back) in
    let low : nat_le 1 k ≡ true = le-leb 1 k (omega arith) in
    let high : nat_lt k (length all) ≡ true = lt-ltb k (length all) (omega arith) in
    let before : get_or all (k - 1) q ≡ get_or (a ∷ front) (length (a ∷ front) - 1) q =
    ap (λ m. get_or all (m - 1) q) (sym e) ∙ get_or_append_left (a ∷ front) (b ∷ back) q (length (a ∷ front) - 1) (omega arith) in
    let after : get_or all k q ≡ b = ap (λ m. get_or all m q) (sym e) ∙ get_or-append_seam (a ∷ front) b back q in
    ap₂ (λ (s t : Bool). s && t && (not (same_point (get_or all (k - 1) q) q) && not (same_point (get_or all k q) q))) low high
    ∙ ap₂ (λ x y. not (same_point x q) && not (same_point y q)) before after
    ∙ sym (ap (λ o. is_between o (Some b) q) (slice_get-get_or (a ∷ front) (length (a ∷ front) - 1) q (omega arith)))

never_between : (o : Option Point) (q : Point) → is_between o None q ≡ false
never_between (Some a) q = refl
never_between None q = refl

-- the test of a put past the points that are passed
pub fits_past : (passed rest : List Point) (p : Put) → length passed ≤ p.at
    → (nat_le 1 p.at && nat_lt p.at (length (passed ++ rest)) && differs_there (passed ++ rest) p)
    ≡ is_between (last_of (passed ++ take (p.at - length passed) rest)) (slice_get (drop (p.at - length passed) rest) 0) p.point
fits_past passed rest p l = by (drop n rest) refl
  where
    n : ℕ
    n = p.at - length passed

    by : (back : List Point) → drop (p.at - length passed) rest ≡ back
        → (nat_le 1 p.at && nat_lt p.at (length (passed ++ rest)) && differs_there (passed ++ rest) p)
        ≡ is_between (last_of (passed ++ take (p.at - length passed) rest)) (slice_get (drop (p.at - length passed) rest) 0) p.point
    by [] e =
        let short : length rest ≤ p.at - length passed = omega (arith, length-drop (p.at - length passed) rest, ap length e) in
        let high : nat_lt p.at (length (passed ++ rest)) ≡ false = le-ltb p.at (length (passed ++ rest)) (omega (arith, length-append passed rest)) in
        let off : (a c : Bool) → (a && false && c) ≡ false = off_at in
        ap (λ (b : Bool). nat_le 1 p.at && b && differs_there (passed ++ rest) p) high
        ∙ off (nat_le 1 p.at) (differs_there (passed ++ rest) p)
        ∙ sym (ap (λ zs. is_between (last_of (passed ++ take (p.at - length passed) rest)) (slice_get zs 0) p.point) e ∙ never_between (last_of (passed ++ take (p.at - length passed) rest)) p.point)
      where
        off_at : (a c : Bool) → (a && false && c) ≡ false
        off_at true c = refl
        off_at false c = refl
    by (b ∷ back) e =
        let m = p.at - length passed in
        let long : m < length rest = omega (arith, length-drop m rest, ap length e) in
        let front = passed ++ take m rest in
        let whole : passed ++ rest ≡ front ++ b ∷ back =
        ap (λ zs. passed ++ zs) (sym (take-append-drop m rest)) ∙ sym (append_assoc passed (take m rest) (drop m rest)) ∙ ap (λ zs. front ++ zs) e in
        let count : length front ≡ p.at = omega (arith, length-append passed (take m rest), length-take-le m rest (omega arith)) in
        ap (λ all. nat_le 1 p.at && nat_lt p.at (length all) && differs_there all p) whole
        ∙ fits_where_they_meet front b back p.at p.point count
        ∙ ap (λ zs. is_between (last_of front) (slice_get zs 0) p.point) (sym e)

-- ---- the walk

-- Some points are passed, up to a place, where the puts that are left are tried on these and the rest.
pub record IsWalked (points : List Point) (puts : List Put) (passed rest : List Point) (place : ℕ) (left : List Put) : Type 0 where
  pub count : length passed ≡ place
  pub ascend : start_at place left ≡ true
  pub same : puts_fit (passed ++ rest) left ≡ puts_fit points puts

module _ (points : List Point) (puts : List Put) (passed rest : List Point) (place : ℕ) (p : Put) (left : List Put) where
  -- the point is put in where it fits
  pub walked_on : IsWalked points puts passed rest place (p ∷ left)
      → is_between (last_of (passed ++ take (p.at - place) rest)) (slice_get (drop (p.at - place) rest) 0) p.point ≡ true
      → IsWalked points puts ((passed ++ take (p.at - place) rest) ++ p.point ∷ []) (drop (p.at - place) rest) (p.at + 1) left
  walked_on w t =
      let parts = and_parts (nat_le place p.at) (start_at (p.at + 1) left) w.ascend in
      let far : length passed ≤ p.at = omega (arith, leb-true place p.at parts.0, w.count) in
      let n = p.at - place in
      let same : p.at - length passed ≡ n = ap (λ m. p.at - m) w.count in
      let fits = fits_past passed rest p far ∙ ap (λ m. is_between (last_of (passed ++ take m rest)) (slice_get (drop m rest) 0) p.point) same ∙ t in
      let within : n < length rest = inside (drop n rest) refl t in
      let put = insert_past passed rest p.at p.point far ∙ ap (λ m. ((passed ++ take m rest) ++ p.point ∷ []) ++ drop m rest) same in
      record {
        count = omega (arith, w.count, length-append (passed ++ take n rest) (p.point ∷ []), length-append passed (take n rest), length-take-le n rest (omega arith));
        ascend = parts.1;
        same = sym (ap (λ (b : Bool). b && puts_fit (insert (passed ++ rest) p.at p.point) left) fits ∙ ap (λ all. puts_fit all left) put) ∙ w.same;
      }
    where
      inside : (zs : List Point) → drop (p.at - place) rest ≡ zs → is_between (last_of (passed ++ take (p.at - place) rest)) (slice_get (drop (p.at - place) rest) 0) p.point ≡ true
          → p.at - place < length rest
      inside [] e u = absurd (true≢false (sym u ∙ ap (λ ys. is_between (last_of (passed ++ take (p.at - place) rest)) (slice_get ys 0) p.point) e
          ∙ never_between (last_of (passed ++ take (p.at - place) rest)) p.point))
      inside (z ∷ zs) e u = omega (arith, length-drop (p.at - place) rest, ap length e)

  -- where it does not fit, not all fit
  pub walked_off : IsWalked points puts passed rest place (p ∷ left)
      → is_between (last_of (passed ++ take (p.at - place) rest)) (slice_get (drop (p.at - place) rest) 0) p.point ≡ false
      → false ≡ puts_fit points puts
  walked_off w t =
      let parts = and_parts (nat_le place p.at) (start_at (p.at + 1) left) w.ascend in
      let far : length passed ≤ p.at = omega (arith, leb-true place p.at parts.0, w.count) in
      let same : p.at - length passed ≡ p.at - place = ap (λ m. p.at - m) w.count in
      let fits = fits_past passed rest p far ∙ ap (λ m. is_between (last_of (passed ++ take m rest)) (slice_get (drop m rest) 0) p.point) same ∙ t in
      sym (ap (λ (b : Bool). b && puts_fit (insert (passed ++ rest) p.at p.point) left) fits) ∙ w.same

-- at the start nothing is passed
pub walked_none : (points : List Point) (puts : List Put) → is_sorted_by nat_lt (map (λ q. q.at) puts) ≡ true → IsWalked points puts [] points 0 puts
walked_none points puts h = record { count = refl; ascend = start_at_zero puts h; same = refl }

-- a point put in, where no put is looked at twice
pub put_past : (passed rest : List Point) (p : Put) (left : List Put) → start_at (length passed) (p ∷ left) ≡ true
    → (put_in (p ∷ left) (passed ++ rest) ≡ put_in left (((passed ++ take (p.at - length passed) rest) ++ p.point ∷ []) ++ drop (p.at - length passed) rest))
    × (start_at (length ((passed ++ take (p.at - length passed) rest) ++ p.point ∷ [])) left ≡ true)
put_past passed rest p left h =
    let parts = and_parts (nat_le (length passed) p.at) (start_at (p.at + 1) left) h in
    let far : length passed ≤ p.at = leb-true (length passed) p.at parts.0 in
    let n = p.at - length passed in (
      ap (put_in left) (insert_past passed rest p.at p.point far),
      start_before (length ((passed ++ take n rest) ++ p.point ∷ [])) (p.at + 1) left
          (omega (arith, length-append (passed ++ take n rest) (p.point ∷ []), length-append passed (take n rest), length-take n rest)) parts.1,
    )

-- what is looked at on one turn of the walk: the last point up to the put, and the first from there on
looked_at : (passed rest front back : List Point) (n : ℕ) (before last first : Option Point) (q : Point) → last_of passed ≡ before
    → front ≡ take n rest → back ≡ drop n rest → last ≡ last_of front → first ≡ slice_get back 0
    → is_between (last_of (passed ++ take n rest)) (slice_get (drop n rest) 0) q ≡ is_between (option_or last before) first q
looked_at passed rest front back n before last first q b f g l k =
    ap₂ (λ x y. is_between x y q)
    (last_append passed (take n rest) ∙ ap₂ (λ x y. option_or x y) (ap last_of (sym f) ∙ sym l) b)
    (ap (λ zs. slice_get zs 0) (sym g) ∙ sym k)

-- one turn of the walk
module _ (points : List Point) (puts : List Put) (passed rest : List Point) (place : ℕ) (p : Put) (left : List Put) (front back : List Point) (before last first : Option Point) where
  pub turn_on : IsWalked points puts passed rest place (p ∷ left) → last_of passed ≡ before → front ≡ take (p.at - place) rest → back ≡ drop (p.at - place) rest
      → last ≡ last_of front → first ≡ slice_get back 0 → is_between (option_or last before) first p.point ≡ true
      → (more : List Point) × IsWalked points puts more back (p.at + 1) left × (last_of more ≡ Some p.point)
  turn_on w b f g l k t =
      let more = (passed ++ take (p.at - place) rest) ++ p.point ∷ [] in
      let on = walked_on points puts passed rest place p left w (looked_at passed rest front back (p.at - place) before last first p.point b f g l k ∙ t) in
      (more, subst (λ zs. IsWalked points puts more zs (p.at + 1) left) (sym g) on, last_pushed (passed ++ take (p.at - place) rest) p.point)

  pub turn_off : IsWalked points puts passed rest place (p ∷ left) → last_of passed ≡ before → front ≡ take (p.at - place) rest → back ≡ drop (p.at - place) rest
      → last ≡ last_of front → first ≡ slice_get back 0 → is_between (option_or last before) first p.point ≡ false → false ≡ puts_fit points puts
  turn_off w b f g l k t =
      walked_off points puts passed rest place p left w (looked_at passed rest front back (p.at - place) before last first p.point b f g l k ∙ t)
