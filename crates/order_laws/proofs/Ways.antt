-- The ways out of a node go where the spokes there go: they leave it, and stand in one order or the other, each two of them.
use Rattle.std.proofs.Common.{◌≡◌, ◌≢◌, ℕ, ◌&&◌, Bool, true, false, if◌then◌else◌, List, [], ◌∷◌, ◌++◌, map, flat_map, All, AllPairs, refl, sym, ap₂, ◌∙◌, subst}
use Rattle.std.specs.Prelude.{◌||◌}
use Rattle.std.proofs.lemmas.List.{map-append}
use Rattle.std.proofs.lemmas.List.Elements.{All-nil, All-cons, All-head, All-tail, All-map}
use Rattle.std.proofs.lemmas.List.Kept.{AllPairs-cons}
use Rattle.lemmas.proofs.Members.{AllPairs-nil, AllPairs-head, AllPairs-tail, AllPairs-from_map}
use Rattle.tgap_model.specs.declared.geometry.Point.{Point}
use Rattle.tgap_model.specs.declared.segment.LabelledSegment.{LabelledSegment}
use Rattle.tgap_model.specs.declared.slice.Edge.{Edge}
use Rattle.tgap_model.specs.Base.{same_point}
use Rattle.tgap_model.specs.Segment.{turns_before}
use Rattle.tgap_model.specs.Partition.{Spoke, spokes_of, edge_segments}
use Rattle.base_check.proofs.Apart.{IsDecided}
use Rattle.removal_laws.specs.StandLaws.{AreSound}
use Rattle.slice_laws.proofs.SpokeRings.{spoke}
use Rattle.step_laws.proofs.SpokesApart.{spokes_decided, spokes_leave}
use Rattle.order_laws.specs.NodeOrder.{End, Way, ways_of}
use Rattle.order_laws.proofs.WayPlaces.{way, Leaves, AreDecided}

-- what is known of the values of a function
pub all_from_map : {A B : Type 0} (P : B → Type 0) (f : A → B) (xs : List A) → All P (map f xs) → All (λ x. P (f x)) xs
all_from_map P f [] h = All-nil (λ x. P (f x))
all_from_map P f (x ∷ xs) h = All-cons (λ y. P (f y)) x xs (All-head P (f x) (map f xs) h) (all_from_map P f xs (All-tail P (f x) (map f xs) h))

pub pairs_to_map : {A B : Type 0} (R : B → B → Type 0) (f : A → B) (xs : List A) → AllPairs (λ x y. R (f x) (f y)) xs → AllPairs R (map f xs)
pairs_to_map R f [] h = AllPairs-nil R
pairs_to_map R f (x ∷ xs) h =
    AllPairs-cons R (f x) (map f xs) (All-map (R (f x)) f xs (AllPairs-head (λ x y. R (f x) (f y)) x xs h))
    (pairs_to_map R f xs (AllPairs-tail (λ x y. R (f x) (f y)) x xs h))

-- an end of an arc or edge with this number
abbrev pub end_at : ℕ → Bool → End
end_at n first = record { arc = n; first = first }

abbrev pub all_ways : Point → List Edge → List Way
all_ways v es = flat_map (ways_of v) (edge_segments es)

-- ---- where they go

toward_of : Way → Point
toward_of w = w.toward

spoke_toward : Spoke → Point
spoke_toward q = q.toward

segment_toward : (v : Point) (s : LabelledSegment) → map toward_of (ways_of v s) ≡ map spoke_toward (spokes_of v s)
unfolding toward_of spoke_toward
segment_toward v s = by (s.starts && same_point s.segment.a v) (s.ends && same_point s.segment.b v)
  where
    by : (a b : Bool)
        → map toward_of ((if a then way (end_at s.arc true) s.segment.b ∷ [] else []) ++ (if b then way (end_at s.arc false) s.segment.a ∷ [] else []))
        ≡ map spoke_toward ((if a then spoke s.segment.b s.left s.right ∷ [] else []) ++ (if b then spoke s.segment.a s.right s.left ∷ [] else []))
    by true true = refl
    by true false = refl
    by false true = refl
    by false false = refl

all_toward : (v : Point) (ss : List LabelledSegment) → map toward_of (flat_map (ways_of v) ss) ≡ map spoke_toward (flat_map (spokes_of v) ss)
all_toward v [] = refl
all_toward v (s ∷ ss) =
    map-append toward_of (ways_of v s) (flat_map (ways_of v) ss)
    ∙ ap₂ (λ (ps qs : List Point). ps ++ qs) (segment_toward v s) (all_toward v ss)
    ∙ sym (map-append spoke_toward (spokes_of v s) (flat_map (spokes_of v) ss))

-- what holds of the points that the spokes go to holds of those that the ways go to
pub ways_toward : (P : Point → Type 0) (v : Point) (ss : List LabelledSegment) → All (λ (q : Spoke). P q.toward) (flat_map (spokes_of v) ss)
    → All (λ (w : Way). P w.toward) (flat_map (ways_of v) ss)
unfolding toward_of spoke_toward
ways_toward P v ss h =
    all_from_map P toward_of (flat_map (ways_of v) ss)
    (subst (All P) (sym (all_toward v ss)) (All-map P spoke_toward (flat_map (spokes_of v) ss) h))

-- ---- what is known of them

pub record AreWays (v : Point) (ws : List Way) : Type 0 where
  pub leave : All (Leaves v) ws
  pub decided : AllPairs (AreDecided v) ws

pub ways_from_spokes : (v : Point) (ss : List LabelledSegment) → All (λ (q : Spoke). v ≢ q.toward) (flat_map (spokes_of v) ss)
    → AllPairs (IsDecided v) (flat_map (spokes_of v) ss) → AreWays v (flat_map (ways_of v) ss)
unfolding toward_of spoke_toward
ways_from_spokes v ss leave decided = record {
  leave = ways_toward (λ p. v ≢ p) v ss leave;
  decided =
      let R : Point → Point → Type 0 = λ (p q : Point). (turns_before v p q || turns_before v q p) ≡ true in
      AllPairs-from_map R toward_of (flat_map (ways_of v) ss)
      (subst (AllPairs R) (sym (all_toward v ss)) (pairs_to_map R spoke_toward (flat_map (spokes_of v) ss) decided));
}

-- of sound edges
pub sound_ways : (es : List Edge) → AreSound es → (v : Point) → AreWays v (all_ways v es)
sound_ways es sound v = ways_from_spokes v (edge_segments es) (spokes_leave es sound v) (spokes_decided es sound v)
