-- A cut whose tests are passed is that of its arcs.
use Rattle.std.proofs.Common.{◌≡◌, ℕ, ◌+◌, ◌≤◌, ◌&&◌, nat_lt, Bool, true, false, Option, Some, None, Result, Ok, Err, List, [], ◌∷◌, ◌++◌, length, All, refl, sym, ap, ap₂, ◌∙◌, subst}
use Rattle.std.specs.List.{list_all}
use Rattle.std.specs.Option.{ok_or}
use Rattle.tgap_model.specs.declared.geometry.Point.{Point}
use Rattle.tgap_model.specs.declared.base.BaseArc.{BaseArc}
use Rattle.tgap_model.specs.Base.{BaseMap, in_limits, is_base}
use Rattle.ring_walk.specs.declared.side.Side.{Side}
use Rattle.ring_walk.specs.Spans.{IsSide}
use Rattle.face_cuts.specs.EditLaws.{CutsMoveSides}
use Rattle.face_cuts.specs.Outcomes.{◌>>=◌, ensured, has_room}
use Rattle.face_cuts.specs.Fusions.{is_face}
use Rattle.face_cuts.specs.Sectors.{spans_of}
use Rattle.face_cuts.specs.Walks.{walk_between}
use Rattle.face_cuts.specs.Cuts.{are_free, sectors_of, cut_face}
use Rattle.face_cuts.specs.Moves.{cut_off_sides, divided_arcs, moved_sides}
use Rattle.face_cuts.specs.NewRings.{arcs_after, arcs_between, cut_arcs}
use Rattle.face_cuts.proofs.Faces.{divided_is, moved_within}
use Rattle.face_cuts.proofs.CutsKeep.{cut_is_base, cut_map}

module _ (m : BaseMap) (f k : ℕ) (points : List Point) (face : is_face m f ≡ true) (class : nat_lt k (length m.rules.weights) ≡ true) (room : has_room m 1 1 (length points) ≡ true)
    (free : are_free m.arcs points ≡ true) where
  abbrev new : ℕ
  new = length m.classes + 1

  abbrev with_arcs : List BaseArc → BaseMap
  with_arcs arcs = record m { classes = m.classes ++ k ∷ []; arcs = arcs }

  pub cut_as : cut_face m f k points ≡ (arcs_after m.arcs f new points >>= λ arcs. Ok (with_arcs arcs))
  unfolding cut_face
  cut_as = by (is_face m f) (nat_lt k (length m.rules.weights)) (has_room m 1 1 (length points)) (are_free m.arcs points) face class room free (sectors_of (spans_of m.arcs) f points)
    where
      after : Option (Side × Side) → Result BaseMap ℕ
      after o = ok_or o 9 >>= λ sectors. ok_or (walk_between (spans_of m.arcs) f sectors.0 sectors.1) 12 >>= λ walk. Ok (cut_map m f k points walk)

      walked : (o : Option (List Side)) → (let cut : Result BaseMap ℕ = ok_or o 12 >>= λ walk. Ok (cut_map m f k points walk) in cut)
          ≡ ((let arcs : Result (List BaseArc) ℕ = ok_or o 12 >>= λ walk. Ok (cut_arcs m.arcs f new points walk) in arcs) >>= λ arcs. Ok (with_arcs arcs))
      walked None = refl
      walked (Some walk) = refl

      by : (a b c d : Bool) → a ≡ true → b ≡ true → c ≡ true → d ≡ true → (o : Option (Side × Side))
          → (let cut : Result BaseMap ℕ = ensured (a && b) 2 >>= λ x. ensured c 11 >>= λ y. ensured d 10 >>= λ z. after o in cut)
          ≡ ((let arcs : Result (List BaseArc) ℕ = ok_or o 9 >>= λ sectors. arcs_between m.arcs f new points sectors in arcs) >>= λ arcs. Ok (with_arcs arcs))
      by true true true true e1 e2 e3 e4 None = refl
      by true true true true e1 e2 e3 e4 (Some sectors) = walked (walk_between (spans_of m.arcs) f sectors.0 sectors.1)
      by false b c d e1 e2 e3 e4 o = absurd cc
      by true false c d e1 e2 e3 e4 o = absurd cc
      by true true false d e1 e2 e3 e4 o = absurd cc
      by true true true false e1 e2 e3 e4 o = absurd cc

  -- such arcs make a base map
  pub cut_copy_is_base : (made : List BaseArc) → is_base m ≡ true → 2 ≤ length points → list_all in_limits points ≡ true → arcs_after m.arcs f new points ≡ Ok made → is_base (with_arcs made) ≡ true
  cut_copy_is_base made base long limits e = by (sectors_of (spans_of m.arcs) f points) e
    where
      of_walk : (o : Option (List Side)) → (let arcs : Result (List BaseArc) ℕ = ok_or o 12 >>= λ walk. Ok (cut_arcs m.arcs f new points walk) in let wanted : Result (List BaseArc) ℕ = Ok made in arcs ≡ wanted)
          → is_base (with_arcs made) ≡ true
      of_walk None e = absurd cc
      of_walk (Some walk) e =
          (let same : cut_arcs m.arcs f new points walk ≡ made = cc in
          subst (λ (xs : List BaseArc). is_base (with_arcs xs) ≡ true) same (cut_is_base m f k points walk base long limits face class room free))

      by : (o : Option (Side × Side)) → (let arcs : Result (List BaseArc) ℕ = ok_or o 9 >>= λ sectors. arcs_between m.arcs f new points sectors in let wanted : Result (List BaseArc) ℕ = Ok made in arcs ≡ wanted)
          → is_base (with_arcs made) ≡ true
      by None e = absurd cc
      by (Some sectors) e = of_walk (walk_between (spans_of m.arcs) f sectors.0 sectors.1) e

-- what was asked of copies holds of the map
pub of_map : (m : BaseMap) (f count : ℕ) (arcs : List BaseArc) (ps points : List Point) (result : Result (List BaseArc) ℕ) → count ≡ length m.classes → arcs ≡ m.arcs → ps ≡ points
    → arcs_after arcs f (count + 1) ps ≡ result → arcs_after m.arcs f (length m.classes + 1) points ≡ result
of_map m f count arcs ps points result e1 e2 e3 e =
    ap₂ (λ (xs : List BaseArc) (qs : List Point). arcs_after xs f (length m.classes + 1) qs) (sym e2) (sym e3) ∙ ap (λ n. arcs_after arcs f (n + 1) ps) (sym e1) ∙ e

-- ---- the arcs after a cut, by the sides that go over

module _ (arcs : List BaseArc) (f new : ℕ) (points : List Point) where
  abbrev with_sides : List Side → Result (List BaseArc) ℕ
  with_sides moved = Ok (divided_arcs arcs f new points moved)

  of_walk : (o : Option (List Side)) → (let by_sides : Result (List Side) ℕ = ok_or o 12 >>= λ walk. Ok (moved_sides arcs f points walk) in by_sides >>= with_sides)
      ≡ (let after : Result (List BaseArc) ℕ = ok_or o 12 >>= λ walk. Ok (cut_arcs arcs f new points walk) in after)
  of_walk None = refl
  of_walk (Some walk) = ap Ok (divided_is arcs f new points walk)

  of_sectors : (o : Option (Side × Side))
      → (let by_sides : Result (List Side) ℕ = ok_or o 9 >>= λ sectors. ok_or (walk_between (spans_of arcs) f sectors.0 sectors.1) 12 >>= λ walk. Ok (moved_sides arcs f points walk) in by_sides >>= with_sides)
      ≡ (let after : Result (List BaseArc) ℕ = ok_or o 9 >>= λ sectors. arcs_between arcs f new points sectors in after)
  of_sectors None = refl
  of_sectors (Some sectors) = of_walk (walk_between (spans_of arcs) f sectors.0 sectors.1)

  after_is : (cut_off_sides arcs f points >>= with_sides) ≡ arcs_after arcs f new points
  after_is = of_sectors (sectors_of (spans_of arcs) f points)

  pub after_cut : (moved : List Side) → cut_off_sides arcs f points ≡ Ok moved → arcs_after arcs f new points ≡ Ok (divided_arcs arcs f new points moved)
  after_cut moved e = sym after_is ∙ ap (λ (r : Result (List Side) ℕ). r >>= with_sides) e

  -- the sides that go over are those of the arcs
  pub cut_off_within : (moved : List Side) → cut_off_sides arcs f points ≡ Ok moved → All (IsSide (length arcs)) moved
  cut_off_within moved e = by (sectors_of (spans_of arcs) f points) e
    where
      walked : (o : Option (List Side)) → (let by_sides : Result (List Side) ℕ = ok_or o 12 >>= λ walk. Ok (moved_sides arcs f points walk) in let wanted : Result (List Side) ℕ = Ok moved in by_sides ≡ wanted) → All (IsSide (length arcs)) moved
      walked None e = absurd cc
      walked (Some walk) e =
          (let same : moved_sides arcs f points walk ≡ moved = cc in
          subst (All (IsSide (length arcs))) same (moved_within arcs f points walk))

      by : (o : Option (Side × Side)) → (let by_sides : Result (List Side) ℕ = ok_or o 9 >>= λ sectors. ok_or (walk_between (spans_of arcs) f sectors.0 sectors.1) 12 >>= λ walk. Ok (moved_sides arcs f points walk) in let wanted : Result (List Side) ℕ = Ok moved in by_sides ≡ wanted)
          → All (IsSide (length arcs)) moved
      by None e = absurd cc
      by (Some sectors) e = walked (walk_between (spans_of arcs) f sectors.0 sectors.1) e

-- a cut by the sides that go over
pub cuts_move : CutsMoveSides
cuts_move m f k points face class room free =
    cut_as m f k points face class room free
    ∙ ap (λ (r : Result (List BaseArc) ℕ). r >>= λ arcs. Ok (with_arcs m f k points face class room free arcs)) (sym (after_is m.arcs f (length m.classes + 1) points))
    ∙ by (cut_off_sides m.arcs f points)
  where
    made : List BaseArc → BaseMap
    made arcs = record m { classes = m.classes ++ k ∷ []; arcs = arcs }

    by : (r : Result (List Side) ℕ) → ((r >>= with_sides m.arcs f (length m.classes + 1) points) >>= λ arcs. Ok (made arcs))
        ≡ (r >>= λ moved. Ok (made (divided_arcs m.arcs f (length m.classes + 1) points moved)))
    by (Ok moved) = refl
    by (Err cause) = refl
