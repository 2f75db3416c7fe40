-- Sides that go over to a new face, by the numbers of their arcs and by their slots.
use Rattle.std.proofs.Common.{◌≡◌, ◌≢◌, ◌∙◌, ℕ, zero, suc, ◌+◌, ◌≤◌, ◌<◌, eqb, nat_le, IsTrue, Bool, true, false, ◌&&◌, ◌||◌, cond, All, Option, Some, None, Result, Ok, Err, List, [], ◌∷◌, ◌++◌, length, map, filter, set, get_or, refl, sym, ap, subst, arith}
use Rattle.std.specs.List.{list_any}
use Rattle.std.specs.Option.{ok_or}
use Rattle.std.proofs.lemmas.Bool.{cond-true, cond-false, eqb-true, eq-eqb, false≢true}
use Rattle.std.proofs.lemmas.List.Elements.{All-cons, All-filter, All-head, All-nil, All-tail, filter-append}
use Rattle.tgap_model.specs.declared.limits.TheConstants.{MAX_ARCS, MAX_POINTS}
use Rattle.tgap_model.specs.declared.geometry.Point.{Point}
use Rattle.tgap_model.specs.declared.base.BaseArc.{BaseArc}
use Rattle.tgap_model.specs.Base.{count_points}
use Rattle.tgap_model.specs.Chains.{arc_number}
use Rattle.ring_walk.specs.declared.span.Span.{Span}
use Rattle.ring_walk.specs.declared.side.Side.{Side}
use Rattle.ring_walk.specs.declared.side.Way.{Way}
use Rattle.ring_walk.specs.declared.side.Way.TheVariants.{Along, Against}
use Rattle.ring_walk.specs.Sides.{face_of, same_side, sides}
use Rattle.ring_walk.specs.Spans.{IsSide}
use Rattle.ring_walk.proofs.SideNumbers.{same_side-true, same_side-itself}
use Rattle.line_forms.specs.Lines.{◌>>=◌}
use Rattle.edit_laws.proofs.Cases.{by_test, not_held}
use Rattle.face_cuts.specs.Outcomes.{◌>>=◌ as ◌then◌}
use Rattle.face_cuts.specs.Sectors.{spans_of}
use Rattle.face_cuts.specs.Cuts.{sectors_of, with_faces}
use Rattle.face_cuts.specs.Walks.{walk_between}
use Rattle.face_cuts.specs.Tables.{sides_beside}
use Rattle.face_cuts.specs.Moves.{cut_off_sides, divided_arcs, face_with, is_moved, moved_sides}
use Rattle.face_cuts.proofs.CutsKeep.{number_of}
use Rattle.face_cuts.proofs.SpansOfArcs.{beside_within}
use Rattle.arc_places.specs.Slots.{arcs_in, is_there, slot_of, slots_from}
use Rattle.arc_places.proofs.SlotNumbers.{arc_in_slot, length-slots_from, set_there, slot_there}
use Rattle.map_version.specs.declared.labels.Counts.{Counts}
use Rattle.map_version.specs.declared.labels.SlotSide.{SlotSide}
use Rattle.map_version.specs.Indexed.{cut_arcs, has_more}
use Rattle.map_version.specs.Labels.{moved_slots, passed_over, slot_side, with_side}
use Rattle.map_version.proofs.Relisting.{passed_counted}
use Rattle.map_version.proofs.InSlots.{there}

-- ---- by number

-- the arcs with this face at these sides
abbrev pub set_sides : ℕ → List Side → List BaseArc → List BaseArc
set_sides f [] arcs = arcs
set_sides f (s ∷ moved) arcs = set_sides f moved (set arcs s.span (with_side s.way f (arc_number arcs s.span)))

-- the side of a number
abbrev side_at : ℕ → Way → Side
side_at i w = record { span = i; way = w }

-- a test of one side more
abbrev pub one_more : ℕ → Side → (Side → ℕ) → Side → ℕ
one_more f s face t = cond (same_side t s) f (face t)

other_span : (t s : Side) → t.span ≢ s.span → same_side t s ≡ false
other_span t s apart = not_held (same_side t s) (λ e. apart (ap (λ (u : Side). u.span) (same_side-true t s e)))

other_way : (i j : ℕ) → same_side (side_at i Along) (side_at j Against) ≡ false
other_way i j = not_held (same_side (side_at i Along) (side_at j Against)) (λ e. along_against (ap (λ (u : Side). u.way) (same_side-true (side_at i Along) (side_at j Against) e)))
  where
    is_along : Way → Bool
    is_along Along = true
    is_along Against = false

    along_against : Along ≡ Against → ⊥
    along_against e = false≢true (sym (ap is_along e))

other_way_round : (i j : ℕ) → same_side (side_at i Against) (side_at j Along) ≡ false
other_way_round i j =
    not_held (same_side (side_at i Against) (side_at j Along)) (λ e. false≢true (sym (other_way j i) ∙ (ap (λ (u : Side). same_side u (side_at i Against)) (sym (same_side-true (side_at i Against) (side_at j Along) e)) ∙ same_side-itself (side_at i Against))))

-- faces that are told alike from a number on
faces_alike : (face other : Side → ℕ) (i : ℕ) (arcs : List BaseArc) → ((s : Side) → i ≤ s.span → face s ≡ other s) → with_faces face i arcs ≡ with_faces other i arcs
faces_alike face other i [] same = refl
faces_alike face other i (a ∷ arcs) same =
    ap (λ (n : ℕ). record a { left = n; right = face (side_at i Against) } ∷ with_faces face (i + 1) arcs) (same (side_at i Along) (omega arith))
    ∙ (ap (λ (n : ℕ). record a { left = other (side_at i Along); right = n } ∷ with_faces face (i + 1) arcs) (same (side_at i Against) (omega arith))
    ∙ ap (λ (rest : List BaseArc). record a { left = other (side_at i Along); right = other (side_at i Against) } ∷ rest) (faces_alike face other (i + 1) arcs (λ s le. same s (omega arith))))

-- one side gets the face
one_side : (f : ℕ) (face : Side → ℕ) (w : Way) (i k : ℕ) (arcs : List BaseArc) → k < length arcs
    → set (with_faces face i arcs) k (with_side w f (arc_number (with_faces face i arcs) k)) ≡ with_faces (one_more f (side_at (i + k) w) face) i arcs
one_side f face w i k [] lt = absurd (omega arith)
one_side f face w i zero (a ∷ arcs) lt =
    ap (λ (rest : List BaseArc). with_side w f (record a { left = face (side_at i Along); right = face (side_at i Against) }) ∷ rest)
    (faces_alike face (one_more f (side_at (i + 0) w) face) (i + 1) arcs (λ s le. sym (cond-false (same_side s (side_at (i + 0) w)) f (face s) (other_span s (side_at (i + 0) w) (λ e. absurd (omega arith))))))
    ∙ by w
  where
    none : i + 0 ≡ i
    none = omega arith

    by : (v : Way) → with_side v f (record a { left = face (side_at i Along); right = face (side_at i Against) }) ∷ with_faces (one_more f (side_at (i + 0) v) face) (i + 1) arcs
        ≡ with_faces (one_more f (side_at (i + 0) v) face) i (a ∷ arcs)
    by Along =
        let here : same_side (side_at i Along) (side_at (i + 0) Along) ≡ true = ap (λ (n : ℕ). same_side (side_at i Along) (side_at n Along)) none ∙ same_side-itself (side_at i Along) in
        let rest = with_faces (one_more f (side_at (i + 0) Along) face) (i + 1) arcs in
        ap (λ (n : ℕ). record a { left = n; right = face (side_at i Against) } ∷ rest) (sym (cond-true (same_side (side_at i Along) (side_at (i + 0) Along)) f (face (side_at i Along)) here))
        ∙ ap (λ (n : ℕ). record a { left = one_more f (side_at (i + 0) Along) face (side_at i Along); right = n } ∷ rest)
        (sym (cond-false (same_side (side_at i Against) (side_at (i + 0) Along)) f (face (side_at i Against)) (other_way_round i (i + 0))))
    by Against =
        let here : same_side (side_at i Against) (side_at (i + 0) Against) ≡ true = ap (λ (n : ℕ). same_side (side_at i Against) (side_at n Against)) none ∙ same_side-itself (side_at i Against) in
        let rest = with_faces (one_more f (side_at (i + 0) Against) face) (i + 1) arcs in
        ap (λ (n : ℕ). record a { left = face (side_at i Along); right = n } ∷ rest) (sym (cond-true (same_side (side_at i Against) (side_at (i + 0) Against)) f (face (side_at i Against)) here))
        ∙ ap (λ (n : ℕ). record a { left = n; right = one_more f (side_at (i + 0) Against) face (side_at i Against) } ∷ rest)
        (sym (cond-false (same_side (side_at i Along) (side_at (i + 0) Against)) f (face (side_at i Along)) (other_way i (i + 0))))
one_side f face w i (suc k) (a ∷ arcs) lt =
    let later : i + 1 + k ≡ i + suc k = omega arith in
    let rest = set (with_faces face (i + 1) arcs) k (with_side w f (arc_number (with_faces face (i + 1) arcs) k)) in
    let s = side_at (i + suc k) w in
    let left : face (side_at i Along) ≡ one_more f s face (side_at i Along) = sym (cond-false (same_side (side_at i Along) s) f (face (side_at i Along)) (other_span (side_at i Along) s (λ e. absurd (omega arith)))) in
    let right : face (side_at i Against) ≡ one_more f s face (side_at i Against) = sym (cond-false (same_side (side_at i Against) s) f (face (side_at i Against)) (other_span (side_at i Against) s (λ e. absurd (omega arith)))) in
    ap (λ (n : ℕ). record a { left = n; right = face (side_at i Against) } ∷ rest) left
    ∙ (ap (λ (n : ℕ). record a { left = one_more f s face (side_at i Along); right = n } ∷ rest) right
    ∙ ap (λ (xs : List BaseArc). record a { left = one_more f s face (side_at i Along); right = one_more f s face (side_at i Against) } ∷ xs)
    (one_side f face w (i + 1) k arcs (omega arith) ∙ ap (λ (n : ℕ). with_faces (one_more f (side_at n w) face) (i + 1) arcs) later))

-- all of them do
all_sides : (f : ℕ) (face : Side → ℕ) (moved : List Side) (arcs : List BaseArc) → All (IsSide (length arcs)) moved
    → set_sides f moved (with_faces face 0 arcs) ≡ with_faces (λ s. cond (list_any (same_side s) moved) f (face s)) 0 arcs
all_sides f face [] arcs all = refl
all_sides f face (s ∷ moved) arcs all =
    let here : s.span < length arcs = All-head (IsSide (length arcs)) s moved all in
    let first : 0 + s.span ≡ s.span = omega arith in
    ap (set_sides f moved) (one_side f face s.way 0 s.span arcs here ∙ ap (λ (n : ℕ). with_faces (one_more f (side_at n s.way) face) 0 arcs) first)
    ∙ (all_sides f (one_more f s face) moved arcs (All-tail (IsSide (length arcs)) s moved all)
    ∙ faces_alike (λ t. cond (list_any (same_side t) moved) f (one_more f s face t)) (λ t. cond (list_any (same_side t) (s ∷ moved)) f (face t)) 0 arcs (λ t le. either (same_side t s) (list_any (same_side t) moved) (face t)))
  where
    either : (a b : Bool) (n : ℕ) → cond b f (cond a f n) ≡ cond (a || b) f n
    either true true n = refl
    either true false n = refl
    either false b n = refl

-- arcs have their own faces
own_faces : (face : Side → ℕ) (i : ℕ) (arcs : List BaseArc)
    → ((k : ℕ) → k < length arcs → (face (side_at (i + k) Along) ≡ (arc_number arcs k).left) × (face (side_at (i + k) Against) ≡ (arc_number arcs k).right)) → with_faces face i arcs ≡ arcs
own_faces face i [] own = refl
own_faces face i (a ∷ arcs) own =
    let first : i + 0 ≡ i = omega arith in
    let here = own 0 (omega arith) in
    let left : face (side_at i Along) ≡ a.left = ap (λ (n : ℕ). face (side_at n Along)) (sym first) ∙ here.0 in
    let right : face (side_at i Against) ≡ a.right = ap (λ (n : ℕ). face (side_at n Against)) (sym first) ∙ here.1 in
    ap (λ (n : ℕ). record a { left = n; right = face (side_at i Against) } ∷ with_faces face (i + 1) arcs) left
    ∙ (ap (λ (n : ℕ). record a { left = a.left; right = n } ∷ with_faces face (i + 1) arcs) right
    ∙ ap (λ (rest : List BaseArc). a ∷ rest) (own_faces face (i + 1) arcs (λ k lt. let later : i + suc k ≡ i + 1 + k = omega arith in let next = own (suc k) (omega arith) in
    (ap (λ (n : ℕ). face (side_at n Along)) (sym later) ∙ next.0, ap (λ (n : ℕ). face (side_at n Against)) (sym later) ∙ next.1))))

-- so the sides that go over get the new face, where all of them have the one that is cut
pub sides_over : (arcs : List BaseArc) (f new : ℕ) (moved : List Side) → All (IsSide (length arcs)) moved → All (λ s. face_of (spans_of arcs) s ≡ f) moved
    → set_sides new moved arcs ≡ with_faces (face_with arcs f new moved) 0 arcs
sides_over arcs f new moved within beside =
    let face = face_of (spans_of arcs) in
    ap (set_sides new moved) (sym (own_faces face 0 arcs (λ k lt. let first : 0 + k ≡ k = omega arith in let own = number_of arcs k (record { left = 0; right = 0; points = [] }) lt in
    (ap (λ (n : ℕ). face (side_at n Along)) first ∙ own.0, ap (λ (n : ℕ). face (side_at n Against)) first ∙ own.1))))
    ∙ (all_sides new face moved arcs within
    ∙ faces_alike (λ s. cond (list_any (same_side s) moved) new (face s)) (face_with arcs f new moved) 0 arcs (λ s le. by_test (list_any (same_side s) moved)
    (λ t.
    let has : eqb (face s) f ≡ true = told s moved beside t in
    cond-true (list_any (same_side s) moved) new (face s) t
    ∙ sym (ap (λ (b : Bool). cond (b && list_any (same_side s) moved) new (face s)) has ∙ cond-true (list_any (same_side s) moved) new (face s) t))
    (λ h.
    cond-false (list_any (same_side s) moved) new (face s) h
    ∙ sym (ap (λ (b : Bool). cond (eqb (face s) f && b) new (face s)) h ∙ ap (λ (b : Bool). cond b new (face s)) (never (eqb (face s) f))))))
  where
    never : (b : Bool) → (b && false) ≡ false
    never true = refl
    never false = refl

    told : (s : Side) (row : List Side) → All (λ t. face_of (spans_of arcs) t ≡ f) row → list_any (same_side s) row ≡ true → eqb (face_of (spans_of arcs) s) f ≡ true
    told s [] all e = absurd (false≢true e)
    told s (t ∷ row) all e =
        by_test (same_side s t)
        (λ u. eq-eqb (face_of (spans_of arcs) s) f (ap (face_of (spans_of arcs)) (same_side-true s t u) ∙ All-head (λ v. face_of (spans_of arcs) v ≡ f) t row all))
        (λ u. told s row (All-tail (λ v. face_of (spans_of arcs) v ≡ f) t row all) (sym (ap (λ (b : Bool). b || list_any (same_side s) row) u) ∙ e))

-- ---- by slot

-- an arc that stays there changes no number
slots_set : (slots : List BaseArc) (j i : ℕ) (b : BaseArc) → is_there b ≡ is_there (arc_number slots i) → slots_from j (set slots i b) ≡ slots_from j slots
slots_set [] j i b same = refl
slots_set (a ∷ slots) j zero b same = ap (λ (t : Bool). cond t (j ∷ slots_from (j + 1) slots) (slots_from (j + 1) slots)) same
slots_set (a ∷ slots) j (suc i) b same = ap (λ (rest : List ℕ). cond (is_there a) (j ∷ rest) rest) (slots_set slots (j + 1) i b same)

side_there : (w : Way) (f : ℕ) (a : BaseArc) → is_there (with_side w f a) ≡ is_there a
side_there Along f a = refl
side_there Against f a = refl

pub passed_in : (f : ℕ) (moved : List Side) (first slots : List BaseArc) → slots_from 0 slots ≡ slots_from 0 first → All (IsSide (length (arcs_in first))) moved
    → arcs_in (passed_over f (map (slot_side first) moved) slots) ≡ set_sides f moved (arcs_in slots)
passed_in f [] first slots same all = refl
passed_in f (s ∷ moved) first slots same all =
    let k = s.span in
    let within : k < length (arcs_in first) = All-head (IsSide (length (arcs_in first))) s moved all in
    let long : length (arcs_in slots) ≡ length (arcs_in first) = sym (length-slots_from slots 0) ∙ (ap (length {A = ℕ}) same ∙ length-slots_from first 0) in
    let lt : k < length (arcs_in slots) = omega arith in
    let slot : slot_of first k ≡ slot_of slots k = ap (λ (numbers : List ℕ). get_or numbers k 0) (sym same) in
    let h = slot_there slots k lt in
    let i = slot_of slots k in
    let b = with_side s.way f (arc_number slots i) in
    let stays : is_there b ≡ is_there (arc_number slots i) = side_there s.way f (arc_number slots i) in
    ap (λ (n : ℕ). arcs_in (passed_over f (map (slot_side first) moved) (set slots n (with_side s.way f (arc_number slots n))))) slot
    ∙ (passed_in f moved first (set slots i b) (slots_set slots 0 i b stays ∙ same) (All-tail (IsSide (length (arcs_in first))) s moved all)
    ∙ ap (set_sides f moved) (set_there slots i b h.within h.there (stays ∙ h.there)
    ∙ (ap (λ (n : ℕ). set (arcs_in slots) n b) h.number
    ∙ ap (λ (a : BaseArc). set (arcs_in slots) k (with_side s.way f a)) (arc_in_slot slots k lt))))

-- the arcs afterwards, with the new one
pub parted_in : (slots : List BaseArc) (f new : ℕ) (points : List Point) (moved : List Side) → 1 ≤ length points → All (IsSide (length (arcs_in slots))) moved
    → All (λ s. face_of (spans_of (arcs_in slots)) s ≡ f) moved
    → arcs_in (passed_over new (map (slot_side slots) moved) slots ++ record { left = new; right = f; points = points } ∷ []) ≡ divided_arcs (arcs_in slots) f new points moved
parted_in slots f new points moved some within beside =
    let arc : BaseArc = record { left = new; right = f; points = points } in
    filter-append is_there (passed_over new (map (slot_side slots) moved) slots) (arc ∷ [])
    ∙ (ap (λ (b : Bool). arcs_in (passed_over new (map (slot_side slots) moved) slots) ++ cond b (arc ∷ []) []) (there arc some)
    ∙ ap (λ (arcs : List BaseArc). arcs ++ arc ∷ []) (passed_in new moved slots slots refl within ∙ sides_over (arcs_in slots) f new moved within beside))

-- ---- the sides that a cut takes over

-- what a filter keeps passes
kept_pass : (spans : List Span) (f : ℕ) (row : List Side) → All (λ s. face_of spans s ≡ f) (filter (λ s. eqb (face_of spans s) f) row)
kept_pass spans f [] = All-nil (λ (s : Side). face_of spans s ≡ f)
kept_pass spans f (s ∷ row) =
    let P = λ (t : Side). face_of spans t ≡ f in
    let rest = filter (λ (t : Side). eqb (face_of spans t) f) row in
    by_test (eqb (face_of spans s) f)
    (λ t. subst (λ (b : Bool). All P (cond b (s ∷ rest) rest)) (sym t) (All-cons P s rest (eqb-true (face_of spans s) f t) (kept_pass spans f row)))
    (λ u. subst (λ (b : Bool). All P (cond b (s ∷ rest) rest)) (sym u) (kept_pass spans f row))

-- they are sides of the arcs that have the face
pub record AreOver (arcs : List BaseArc) (f : ℕ) (moved : List Side) : Type 0 where
  pub within : All (IsSide (length arcs)) moved
  pub beside : All (λ s. face_of (spans_of arcs) s ≡ f) moved

moved_are : (arcs : List BaseArc) (f : ℕ) (points : List Point) (walk : List Side) → AreOver arcs f (moved_sides arcs f points walk)
moved_are arcs f points walk =
    record {
      within = All-filter (is_moved arcs points walk) (IsSide (length arcs)) (sides_beside (spans_of arcs) f) (beside_within arcs f);
      beside = All-filter (is_moved arcs points walk) (λ s. face_of (spans_of arcs) s ≡ f) (sides_beside (spans_of arcs) f) (kept_pass (spans_of arcs) f (sides (length (spans_of arcs))));
    }

pub over_are : (arcs : List BaseArc) (f : ℕ) (points : List Point) (moved : List Side) → cut_off_sides arcs f points ≡ Ok moved → AreOver arcs f moved
over_are arcs f points moved e = by_sectors (sectors_of (spans_of arcs) f points) e
  where
    by_walk : (o : Option (List Side)) → (let r : Result (List Side) ℕ = ok_or o 12 then λ walk. Ok (moved_sides arcs f points walk) in r ≡ Ok moved) → AreOver arcs f moved
    by_walk None h = absurd cc
    by_walk (Some walk) h = (let same : moved_sides arcs f points walk ≡ moved = cc in subst (AreOver arcs f) same (moved_are arcs f points walk))

    by_sectors : (o : Option (Side × Side)) → (let r : Result (List Side) ℕ = ok_or o 9 then λ s. ok_or (walk_between (spans_of arcs) f s.0 s.1) 12 then λ walk. Ok (moved_sides arcs f points walk) in r ≡ Ok moved)
        → AreOver arcs f moved
    by_sectors None h = absurd cc
    by_sectors (Some s) h = by_walk (walk_between (spans_of arcs) f s.0 s.1) h

-- by their slots, and the arcs that are made of them
pub cut_made : (slots : List BaseArc) (f new : ℕ) (points : List Point) (moved : List SlotSide) → 1 ≤ length points → moved_slots slots f points ≡ Ok moved
    → cut_arcs (arcs_in slots) f new points ≡ Ok (arcs_in (passed_over new moved slots ++ record { left = new; right = f; points = points } ∷ []))
cut_made slots f new points moved some e = by (cut_off_sides (arcs_in slots) f points) refl e
  where
    arc : BaseArc
    arc = record { left = new; right = f; points = points }

    by : (r : Result (List Side) ℕ) → cut_off_sides (arcs_in slots) f points ≡ r → (let s : Result (List SlotSide) ℕ = r >>= λ sides. Ok (map (slot_side slots) sides) in s ≡ Ok moved)
        → (r >>= λ sides. Ok (divided_arcs (arcs_in slots) f new points sides)) ≡ Ok (arcs_in (passed_over new moved slots ++ arc ∷ []))
    by (Ok sides) is h =
        let same : map (slot_side slots) sides ≡ moved = cc in
        let over = over_are (arcs_in slots) f points sides is in
        ap (λ (arcs : List BaseArc). Ok arcs) (sym (ap (λ (ms : List SlotSide). arcs_in (passed_over new ms slots ++ arc ∷ [])) (sym same) ∙ parted_in slots f new points sides some over.within over.beside))
    by (Err cause) is h = absurd cc

-- room stays where only sides change
pub room_over : (f n : ℕ) (moved : List SlotSide) (slots : List BaseArc) → IsTrue (has_more 1 n (arcs_in slots)) → IsTrue (has_more 1 n (arcs_in (passed_over f moved slots)))
room_over f n moved slots h =
    let before : Counts = record { arcs = length (arcs_in slots); points = count_points (arcs_in slots) } in
    let after = passed_counted f moved slots before (record { arcs_are = refl; points_are = refl }) in
    subst (λ (b : Bool). IsTrue b)
    (ap (λ (k : ℕ). nat_le (k + 1) MAX_ARCS && nat_le (count_points (arcs_in slots) + n) MAX_POINTS) after.arcs_are
    ∙ ap (λ (k : ℕ). nat_le (length (arcs_in (passed_over f moved slots)) + 1) MAX_ARCS && nat_le (k + n) MAX_POINTS) after.points_are) h
