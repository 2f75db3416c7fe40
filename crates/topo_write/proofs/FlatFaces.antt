-- The definition that finds the first face that is no polygon, in words of its rings.
use Rattle.std.proofs.Common.{◌≡◌, ◌≢◌, inl, inr, ℕ, ◌≤ℤ◌, Bool, true, false, cond, ◌||◌, ℤ, pos, int_lt, List, [], ◌∷◌, ◌++◌, All, Contains, refl, sym, ap, ap₂, ◌∙◌, subst, true≢false, if◌then◌else◌, arith}
use Rattle.std.specs.Prelude.{Option, Some, None, find, unwrap_or}
use Rattle.std.specs.List.{list_any}
use Rattle.std.proofs.lemmas.Int.{ints}
use Rattle.std.proofs.lemmas.Bool.Decides.{Decides-int_eq}
use Rattle.std.proofs.lemmas.Option.{none-some}
use Rattle.std.proofs.lemmas.List.Elements.{All-nil, All-cons, All-contains, All-weaker, Contains-append_right}
use Rattle.std.proofs.lemmas.List.Folds.{list_any_none}
use Rattle.tgap_model.specs.declared.geometry.Point.{Point}
use Rattle.tgap_model.specs.declared.slice.Edge.{Edge}
use Rattle.tgap_model.specs.declared.slice.FaceRow.{FaceRow}
use Rattle.ring_walk.specs.declared.side.Side.{Side}
use Rattle.ring_walk.specs.Areas.{ring_area}
use Rattle.topo_write.specs.declared.flat.FlatRing.{FlatRing}
use Rattle.topo_write.specs.Flats.{IsFirstFlat, IsFlat, IsToldBy}
use Rattle.topo_write.specs.Polygons.{first_ring, flat_among, flat_of, is_flat, is_outer, lines_of, ring_key}

-- how a face is told
abbrev told_by : List Edge → FaceRow → List Side → FlatRing
told_by edges row r = record { face = row.face; key = ring_key edges r }

-- what the definition makes of the rings of one face, and of one row
abbrev among_by : List (List Side) → Bool → Option (List Side) → Option (List Side)
among_by rings b o = elim o [ Some r ↦ Some r | None ↦ if b then None else Some (first_ring rings) ]

abbrev row_by : List Edge → FaceRow → Option FlatRing → Option (List Side) → Option FlatRing
row_by edges row rest o = elim o [ Some r ↦ Some (told_by edges row r) | None ↦ rest ]

-- ---- the first that passes a test

some_is : {A : Type 0} (x y : A) → Some x ≡ Some y → x ≡ y
some_is {A} x y e = ap (λ (o : Option A). unwrap_or o x) e

-- where it stands, and that nothing before it passes
record Found {A : Type 0} (p : A → Bool) (xs : List A) (x : A) : Type 0 where
  before : List A
  after : List A
  place : xs ≡ before ++ x ∷ after
  passes : p x ≡ true
  first : All (λ y. p y ≡ false) before

find_some : {A : Type 0} (p : A → Bool) (xs : List A) (x : A) → find p xs ≡ Some x → Found p xs x
find_some p [] x e = absurd (none-some x e)
find_some {A} p (y ∷ xs) x e = by (p y) refl e (find_some p xs x)
  where
    by : (b : Bool) → p y ≡ b → cond b (Some y) (find p xs) ≡ Some x → (find p xs ≡ Some x → Found p xs x) → Found p (y ∷ xs) x
    by true t f next =
        let same : y ≡ x = some_is y x f in
        record { before = []; after = xs; place = ap (λ (z : A). z ∷ xs) same; passes = ap p (sym same) ∙ t; first = All-nil (λ z. p z ≡ false) }
    by false t f next =
        let rest = next f in
        record { before = y ∷ rest.before; after = rest.after; place = ap (λ (zs : List A). y ∷ zs) rest.place; passes = rest.passes; first = All-cons (λ z. p z ≡ false) y rest.before t rest.first }

find_none : {A : Type 0} (p : A → Bool) (xs : List A) → find p xs ≡ None → All (λ x. p x ≡ false) xs
find_none p [] e = All-nil (λ x. p x ≡ false)
find_none {A} p (y ∷ xs) e = by (p y) refl e (find_none p xs)
  where
    by : (b : Bool) → p y ≡ b → cond b (Some y) (find p xs) ≡ None → (find p xs ≡ None → All (λ x. p x ≡ false) xs) → All (λ x. p x ≡ false) (y ∷ xs)
    by true t f next = absurd (none-some y (sym f))
    by false t f next = All-cons (λ x. p x ≡ false) y xs t (next f)

any_none : {A : Type 0} (p : A → Bool) (xs : List A) → list_any p xs ≡ false → All (λ x. p x ≡ false) xs
any_none p [] e = All-nil (λ x. p x ≡ false)
any_none {A} p (y ∷ xs) e = by (p y) refl e (any_none p xs)
  where
    by : (b : Bool) → p y ≡ b → (b || list_any p xs) ≡ false → (list_any p xs ≡ false → All (λ x. p x ≡ false) xs) → All (λ x. p x ≡ false) (y ∷ xs)
    by true t f next = absurd (true≢false f)
    by false t f next = All-cons (λ x. p x ≡ false) y xs t (next f)

-- ---- the rings of one face

zero_is : (lines : List (List Point)) (r : List Side) → is_flat lines r ≡ true → ring_area lines r ≡ pos 0
zero_is lines r e = (Decides-int_eq (ring_area lines r) (pos 0)).0 e

zero_not : (lines : List (List Point)) (r : List Side) → is_flat lines r ≡ false → ring_area lines r ≢ pos 0
zero_not lines r e z = true≢false (sym ((Decides-int_eq (ring_area lines r) (pos 0)).1 z) ∙ e)

none_are : (lines : List (List Point)) (rings : List (List Side)) → All (λ r. is_flat lines r ≡ false) rings → All (λ r. ring_area lines r ≢ pos 0) rings
none_are lines rings h = All-weaker (λ r. is_flat lines r ≡ false) (λ r. ring_area lines r ≢ pos 0) (zero_not lines) rings h

-- the ring by which a face is no polygon
pub flat_some : (lines : List (List Point)) (rings : List (List Side)) (ring : List Side) → flat_among lines rings ≡ Some ring → IsFlat lines rings × IsToldBy lines rings ring
flat_some lines rings ring e = by (find (is_flat lines) rings) refl (list_any (is_outer lines) rings) refl e
  where
    by : (o : Option (List Side)) → find (is_flat lines) rings ≡ o → (b : Bool) → list_any (is_outer lines) rings ≡ b
        → among_by rings b o ≡ Some ring → IsFlat lines rings × IsToldBy lines rings ring
    by (Some r) found b any f =
        let h = find_some (is_flat lines) rings ring (found ∙ f) in
        let level = zero_is lines ring h.passes in (
          inl (ring, subst (λ (rs : List (List Side)). Contains rs ring) (sym h.place) (Contains-append_right h.before (ring ∷ h.after) ring (0, omega arith, refl)), level),
          inl (record { before = h.before; after = h.after; place = h.place; zero_area = level; first = none_are lines h.before h.first }),
        )
    by None found true any f = absurd (none-some ring f)
    by None found false any f = (
      inr (All-weaker (λ r. is_outer lines r ≡ false) (λ r. ring_area lines r ≤ℤ pos 0) (λ r t. at_most (ring_area lines r) t) rings (any_none (is_outer lines) rings any)),
      inr (none_are lines rings (find_none (is_flat lines) rings found), sym (some_is (first_ring rings) ring f)),
    )
      where
        at_most : (z : ℤ) → int_lt (pos 0) z ≡ false → z ≤ℤ pos 0
        at_most z e = grind (arith, ints)

-- a face for which there is no such ring is a polygon
pub flat_none : (lines : List (List Point)) (rings : List (List Side)) → flat_among lines rings ≡ None → IsFlat lines rings → ⊥
flat_none lines rings e = by (find (is_flat lines) rings) refl (list_any (is_outer lines) rings) refl e
  where
    positive : (z : ℤ) → z ≤ℤ pos 0 → int_lt (pos 0) z ≡ false
    positive z l = grind (arith, ints)

    by : (o : Option (List Side)) → find (is_flat lines) rings ≡ o → (b : Bool) → list_any (is_outer lines) rings ≡ b
        → among_by rings b o ≡ None → IsFlat lines rings → ⊥
    by (Some r) found b any f flat = none-some r (sym f)
    by None found false any f flat = none-some (first_ring rings) (sym f)
    by None found true any f (inl (ring, there, level)) =
        true≢false (sym ((Decides-int_eq (ring_area lines ring) (pos 0)).1 level) ∙ All-contains (λ r. is_flat lines r ≡ false) rings ring (find_none (is_flat lines) rings found) there)
    by None found true any f (inr low) =
        true≢false (sym any ∙ list_any_none (is_outer lines) rings (All-weaker (λ r. ring_area lines r ≤ℤ pos 0) (λ r. is_outer lines r ≡ false) (λ r l. positive (ring_area lines r) l) rings low))

-- ---- the rows

pub first_flat_is : (edges : List Edge) (rings : ℕ → List (List Side)) (rows : List FaceRow) (flat : FlatRing) → flat_of edges rings rows ≡ Some flat → IsFirstFlat edges rings rows flat
first_flat_is edges rings [] flat e = absurd (none-some flat e)
first_flat_is edges rings (row ∷ rows) flat e = by (flat_among (lines_of edges) (rings row.face)) refl e (first_flat_is edges rings rows flat)
  where
    by : (o : Option (List Side)) → flat_among (lines_of edges) (rings row.face) ≡ o
        → row_by edges row (flat_of edges rings rows) o ≡ Some flat → (flat_of edges rings rows ≡ Some flat → IsFirstFlat edges rings rows flat) → IsFirstFlat edges rings (row ∷ rows) flat
    by (Some r) among f next =
        let same : told_by edges row r ≡ flat = some_is (told_by edges row r) flat f in
        let h = flat_some (lines_of edges) (rings row.face) r among in
        record {
          before = [];
          row = row;
          after = rows;
          place = refl;
          face = sym (ap (λ (g : FlatRing). g.face) same);
          flat_row = h.0;
          first = All-nil (λ (q : FaceRow). IsFlat (lines_of edges) (rings q.face) → ⊥);
          ring = r;
          told = h.1;
          key = sym (ap (λ (g : FlatRing). g.key) same);
        }
    by None among f next =
        let rest = next f in
        record {
          before = row ∷ rest.before;
          row = rest.row;
          after = rest.after;
          place = ap (λ (qs : List FaceRow). row ∷ qs) rest.place;
          face = rest.face;
          flat_row = rest.flat_row;
          first = All-cons (λ (q : FaceRow). IsFlat (lines_of edges) (rings q.face) → ⊥) row rest.before (flat_none (lines_of edges) (rings row.face) among) rest.first;
          ring = rest.ring;
          told = rest.told;
          key = rest.key;
        }

pub no_flat_is : (edges : List Edge) (rings : ℕ → List (List Side)) (rows : List FaceRow) → flat_of edges rings rows ≡ None → All (λ row. IsFlat (lines_of edges) (rings row.face) → ⊥) rows
no_flat_is edges rings [] e = All-nil (λ (q : FaceRow). IsFlat (lines_of edges) (rings q.face) → ⊥)
no_flat_is edges rings (row ∷ rows) e = by (flat_among (lines_of edges) (rings row.face)) refl e (no_flat_is edges rings rows)
  where
    by : (o : Option (List Side)) → flat_among (lines_of edges) (rings row.face) ≡ o
        → row_by edges row (flat_of edges rings rows) o ≡ None → (flat_of edges rings rows ≡ None → All (λ (q : FaceRow). IsFlat (lines_of edges) (rings q.face) → ⊥) rows) → All (λ (q : FaceRow). IsFlat (lines_of edges) (rings q.face) → ⊥) (row ∷ rows)
    by (Some r) among f next = absurd (none-some (told_by edges row r) (sym f))
    by None among f next = All-cons (λ (q : FaceRow). IsFlat (lines_of edges) (rings q.face) → ⊥) row rows (flat_none (lines_of edges) (rings row.face) among) (next f)

-- rings that are the same for each face give the same
pub flat_of-same : (edges : List Edge) (f g : ℕ → List (List Side)) → ((n : ℕ) → f n ≡ g n) → (rows : List FaceRow) → flat_of edges f rows ≡ flat_of edges g rows
flat_of-same edges f g same [] = refl
flat_of-same edges f g same (row ∷ rows) =
    ap₂ (row_by edges row) (flat_of-same edges f g same rows) (ap (flat_among (lines_of edges)) (same row.face))
