-- The sides that the indexes of a ring take, one after the other.
use Rattle.std.proofs.Common.{◌≡◌, ◌≢◌, ◌⊎◌, inl, inr, ℕ, zero, suc, ◌<◌, ◌≤◌, ◌==◌, nat_lt, Bool, true, false, cond, not, List, [], ◌∷◌, length, get_or, set, Result, Ok, ℤ, refl, sym, ap, ◌∙◌, subst, arith}
use Rattle.std.specs.List.{list_all}
use Rattle.std.proofs.lemmas.Bool.{cases_lt, ltb-true, ltb-false, eqb-true}
use Rattle.std.proofs.lemmas.List.{length-set, get_or_past, get_or-set_same, get_or-set_other}
use Rattle.tgap_model.specs.declared.geometry.Point.{Point}
use Rattle.tgap_model.specs.declared.fault.MapFault.TheVariants.{SideTaken}
use Rattle.line_forms.specs.Json.{ensured, try_fold}
use Rattle.topology_forms.specs.Rings.{arc_named, is_reversed, points_named, Taken, side_taken, index_taken}
use Rattle.plain_io.proofs.Steps.{bound}

-- ---- steps that may come to a fault

-- what is ensured holds
pub ensured_holds : {F : Type 0} (holds : Bool) (fault : F) (u : Unit {0}) → ensured holds fault ≡ Ok u → holds ≡ true
ensured_holds true fault u e = refl
ensured_holds false fault u e = absurd cc

-- what each step keeps, all of them keep
pub try_fold_keeps : {A S F : Type 0} (step : S → A → Result S F) (P : S → Type 0) → ((s : S) (x : A) (t : S) → step s x ≡ Ok t → P s → P t)
    → (s : S) (xs : List A) (t : S) → try_fold step s xs ≡ Ok t → P s → P t
try_fold_keeps step P keeps s [] t e p = let same : s ≡ t = cc in subst P same p
try_fold_keeps step P keeps s (x ∷ xs) t e p =
    bound (λ next. try_fold step next xs) (step s x) t e (λ next now later. try_fold_keeps step P keeps next xs t later (keeps s x next now p))

-- ---- what is known of the sides

-- The left or the right sides of arcs, in a map of so many faces: a side that is taken has a face of the map, and its arc has two
-- points.
pub record SideFacts (arcs : List (List Point)) (faces : ℕ) (side : List ℕ) : Type 0 where
  pub entries : length side ≡ length arcs
  pub few : (a : ℕ) → get_or side a 0 ≤ faces
  pub long : (a : ℕ) → 1 ≤ get_or side a 0 → 2 ≤ length (get_or arcs a [])

-- the face stands at a side
abbrev pub IsAt : ℕ → List ℕ → Type 0
IsAt f side = (a : ℕ) × (get_or side a 0 ≡ f)

-- some arc has the face at its left or right
abbrev pub HasSide : Taken → ℕ → Type 0
HasSide taken f = IsAt f taken.left ⊎ IsAt f taken.right

-- There are so many faces, each of one of so many classes, and the first of them have a side.
pub record TakenFacts (arcs : List (List Point)) (classes faces sided : ℕ) (taken : Taken) : Type 0 where
  pub count : length taken.classes ≡ faces
  pub named : list_all (λ k. nat_lt k classes) taken.classes ≡ true
  pub left : SideFacts arcs faces taken.left
  pub right : SideFacts arcs faces taken.right
  pub bordered : (f : ℕ) → 1 ≤ f → f ≤ sided → HasSide taken f

-- ---- one side is taken

-- an entry after a write is the one that was written, or as it was
pub after_set : (xs : List ℕ) (a f b : ℕ) → ((b ≡ a) × (get_or (set xs a f) b 0 ≡ f)) ⊎ (get_or (set xs a f) b 0 ≡ get_or xs b 0)
after_set [] a f b = inr refl
after_set (x ∷ xs) zero f zero = inl (refl, refl)
after_set (x ∷ xs) zero f (suc b) = inr refl
after_set (x ∷ xs) (suc a) f zero = inr refl
after_set (x ∷ xs) (suc a) f (suc b) = elim (after_set xs a f b) [ inl here ↦ inl (ap suc here.0, here.1) | inr other ↦ inr other ]

-- a face of the map at an arc of two points
side_set : (arcs : List (List Point)) (faces : ℕ) (side : List ℕ) (a f : ℕ) → f ≤ faces → 2 ≤ length (get_or arcs a []) → SideFacts arcs faces side
    → SideFacts arcs faces (set side a f)
side_set arcs faces side a f few long h = record {
  entries = length-set side a f ∙ h.entries;
  few = λ b. elim (after_set side a f b) [ inl here ↦ omega (arith, here.1) | inr other ↦ omega (arith, other, h.few b) ];
  long = λ b taken. elim (after_set side a f b) [
    | inl here ↦ subst (λ (c : ℕ). 2 ≤ length (get_or arcs c [])) (sym here.0) long
    | inr other ↦ h.long b (omega (arith, other, taken))
  ];
}

-- a face stands where it stood when a free side is taken
at_set : (side : List ℕ) (a f g : ℕ) → 1 ≤ g → get_or side a 0 ≡ 0 → IsAt g side → IsAt g (set side a f)
at_set side a f g some free at =
    let other : at.0 ≢ a = λ same. let here : get_or side a 0 ≡ g = subst (λ (b : ℕ). get_or side b 0 ≡ g) same at.1 in omega arith in
    (at.0, get_or-set_other side a at.0 f 0 other ∙ at.1)

abbrev with_left : ℕ → ℕ → Taken → Taken
with_left a f taken = record { classes = taken.classes; left = set taken.left a f; right = taken.right }

abbrev with_right : ℕ → ℕ → Taken → Taken
with_right a f taken = record { classes = taken.classes; left = taken.left; right = set taken.right a f }

left_keeps : (a f g : ℕ) (taken : Taken) → 1 ≤ g → get_or taken.left a 0 ≡ 0 → HasSide taken g → HasSide (with_left a f taken) g
left_keeps a f g taken some free h = elim h [ inl at ↦ inl (at_set taken.left a f g some free at) | inr at ↦ inr at ]

right_keeps : (a f g : ℕ) (taken : Taken) → 1 ≤ g → get_or taken.right a 0 ≡ 0 → HasSide taken g → HasSide (with_right a f taken) g
right_keeps a f g taken some free h = elim h [ inl at ↦ inl at | inr at ↦ inr (at_set taken.right a f g some free at) ]

-- ---- the next index of a ring

module _ (arcs : List (List Point)) (f : ℕ) where
  -- It takes nothing, or the left side of its arc, or the right one, which was free; so a fact that holds each time holds after it.
  record Turn (i : ℤ) (taken : Taken) (P : Taken → Type 0) : Type 0 where
    short : length (points_named arcs i) < 2 → P taken
    at_left : 2 ≤ length (points_named arcs i) → get_or taken.left (arc_named i) 0 ≡ 0 → P (with_left (arc_named i) f taken)
    at_right : 2 ≤ length (points_named arcs i) → get_or taken.right (arc_named i) 0 ≡ 0 → P (with_right (arc_named i) f taken)

  side_turn : (on_left : Bool) (taken : Taken) (i : ℤ) (u : Taken) (P : Taken → Type 0) → 2 ≤ length (points_named arcs i)
      → side_taken on_left (arc_named i) f taken ≡ Ok u → Turn i taken P → P u
  unfolding side_taken
  side_turn true taken i u P long e turn =
      bound _ (ensured (get_or taken.left (arc_named i) 0 == 0) (SideTaken (arc_named i) 0 (get_or taken.left (arc_named i) 0) f)) u e (λ x known made.
      let same : with_left (arc_named i) f taken ≡ u = cc in
      subst P same (turn.at_left long (eqb-true (get_or taken.left (arc_named i) 0) 0 (ensured_holds _ _ x known))))
  side_turn false taken i u P long e turn =
      bound _ (ensured (get_or taken.right (arc_named i) 0 == 0) (SideTaken (arc_named i) 1 (get_or taken.right (arc_named i) 0) f)) u e (λ x known made.
      let same : with_right (arc_named i) f taken ≡ u = cc in
      subst P same (turn.at_right long (eqb-true (get_or taken.right (arc_named i) 0) 0 (ensured_holds _ _ x known))))

  index_turn : (on_left : Bool) (taken : Taken) (i : ℤ) (u : Taken) (P : Taken → Type 0) → index_taken arcs on_left f taken i ≡ Ok u → Turn i taken P → P u
  index_turn on_left taken i u P e turn = by (nat_lt (length (points_named arcs i)) 2) refl e
    where
      at_left : Bool
      at_left = cond (is_reversed i) (not on_left) on_left

      by : (short : Bool) → nat_lt (length (points_named arcs i)) 2 ≡ short → cond short (Ok taken) (side_taken at_left (arc_named i) f taken) ≡ Ok u → P u
      by true short made = let same : taken ≡ u = cc in subst P same (turn.short (ltb-true (length (points_named arcs i)) 2 short))
      by false long made = side_turn at_left taken i u P (ltb-false (length (points_named arcs i)) 2 long) made turn

  -- each face keeps its side
  pub index_keeps_side : (g : ℕ) → 1 ≤ g → (on_left : Bool) (taken : Taken) (i : ℤ) (u : Taken) → index_taken arcs on_left f taken i ≡ Ok u → HasSide taken g
      → HasSide u g
  index_keeps_side g some on_left taken i u e h = index_turn on_left taken i u (λ t. HasSide t g) e (record {
    short = λ _. h;
    at_left = λ _ free. left_keeps (arc_named i) f g taken some free h;
    at_right = λ _ free. right_keeps (arc_named i) f g taken some free h;
  })

  -- what is known stays known
  pub index_keeps : (classes faces sided : ℕ) → f ≤ faces → (on_left : Bool) (taken : Taken) (i : ℤ) (u : Taken) → index_taken arcs on_left f taken i ≡ Ok u
      → TakenFacts arcs classes faces sided taken → TakenFacts arcs classes faces sided u
  index_keeps classes faces sided few on_left taken i u e h = index_turn on_left taken i u (TakenFacts arcs classes faces sided) e (record {
    short = λ _. h;
    at_left = λ long free. record {
      count = h.count;
      named = h.named;
      left = side_set arcs faces taken.left (arc_named i) f few long h.left;
      right = h.right;
      bordered = λ g some low. left_keeps (arc_named i) f g taken some free (h.bordered g some low);
    };
    at_right = λ long free. record {
      count = h.count;
      named = h.named;
      left = h.left;
      right = side_set arcs faces taken.right (arc_named i) f few long h.right;
      bordered = λ g some low. right_keeps (arc_named i) f g taken some free (h.bordered g some low);
    };
  })

  -- an index whose arc has two points names an arc
  pub named_below : (i : ℤ) → 2 ≤ length (points_named arcs i) → arc_named i < length arcs
  named_below i long = elim (cases_lt (arc_named i) (length arcs)) [
    | inl below ↦ below
    | inr past ↦ (let none : length (points_named arcs i) ≡ 0 = ap length (get_or_past arcs (arc_named i) [] past) in absurd (omega arith))
  ]

  -- the face has a side where the arc has two points
  pub index_gives_side : (faces : ℕ) (on_left : Bool) (taken : Taken) (i : ℤ) (u : Taken) → index_taken arcs on_left f taken i ≡ Ok u
      → SideFacts arcs faces taken.left → SideFacts arcs faces taken.right → 2 ≤ length (points_named arcs i) → HasSide u f
  index_gives_side faces on_left taken i u e left right long =
      let below = named_below i long in
      index_turn on_left taken i u (λ t. HasSide t f) e (record {
        short = λ less. absurd (omega arith);
        at_left = λ _ free. inl (arc_named i, get_or-set_same taken.left (arc_named i) f 0 (omega (arith, left.entries)));
        at_right = λ _ free. inr (arc_named i, get_or-set_same taken.right (arc_named i) f 0 (omega (arith, right.entries)));
      })
