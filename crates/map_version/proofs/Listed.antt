-- The arcs that are listed for a point, and what a search of them alone tells of all arcs.
use Rattle.std.proofs.Common.{◌≡◌, ◌∙◌, ℕ, zero, suc, ◌≤◌, ◌<◌, eqb, nat_lt, ◌+◌, Bool, true, false, ◌&&◌, ◌||◌, List, [], ◌∷◌, length, get_or, take, refl, sym, ap, arith}
use Rattle.std.specs.List.{list_any}
use Rattle.std.proofs.lemmas.Bool.{false≢true, or_left, or_right, or_from, eqb-true, eq-eqb, lt-ltb}
use Rattle.std.proofs.lemmas.List.{take_all}
use Rattle.std.proofs.lemmas.List.Folds.{list_any_more}
use Rattle.tgap_model.specs.declared.geometry.Point.{Point}
use Rattle.tgap_model.specs.declared.base.BaseArc.{BaseArc}
use Rattle.tgap_model.specs.Base.{same_point}
use Rattle.tgap_model.specs.Chains.{first_point, last_point, arc_number}
use Rattle.face_cuts.specs.Nodes.{passes}
use Rattle.arc_places.specs.Places.{arc_passes, is_among}
use Rattle.arc_places.proofs.Listed.{listed_passes, some_listed}
use Rattle.edit_laws.proofs.Cases.{by_test, same_test}
use Rattle.map_version.specs.Indexed.{ends_at, ends_there}

-- numbers one on are equal where these are
pub next_same : (j i : ℕ) → eqb (suc j) (suc i) ≡ eqb j i
next_same j i =
    same_test (eqb (suc j) (suc i)) (eqb j i)
    (λ e. let same = eqb-true (suc j) (suc i) e in eq-eqb j i (omega arith))
    (λ e. let same = eqb-true j i e in eq-eqb (suc j) (suc i) (omega arith))

-- an arc that passes is one of them
pub passes_any : (test : BaseArc → Bool) (arcs : List BaseArc) (i : ℕ) → arc_passes test arcs i ≡ true → list_any test arcs ≡ true
passes_any test [] i e = absurd (false≢true e)
passes_any test (a ∷ arcs) zero e = or_left (test a) (list_any test arcs) e
passes_any test (a ∷ arcs) (suc i) e = or_right (test a) (list_any test arcs) (passes_any test arcs i e)

-- and where one of them passes there is its number
pub any_passes : {P : Type 0} (test : BaseArc → Bool) (arcs : List BaseArc) → list_any test arcs ≡ true → ((i : ℕ) → arc_passes test arcs i ≡ true → P) → P
any_passes test [] e use_it = absurd (false≢true e)
any_passes test (a ∷ arcs) e use_it =
    by_test (test a)
    (λ t. use_it 0 t)
    (λ f. any_passes test arcs (rw f at e) (λ i h. use_it (suc i) h))

-- a weaker test of an arc passes
pub passes_more : (test more : BaseArc → Bool) → ((a : BaseArc) → test a ≡ true → more a ≡ true) → (arcs : List BaseArc) (i : ℕ) → arc_passes test arcs i ≡ true → arc_passes more arcs i ≡ true
passes_more test more weaker [] i e = absurd (false≢true e)
passes_more test more weaker (a ∷ arcs) zero e = weaker a e
passes_more test more weaker (a ∷ arcs) (suc i) e = passes_more test more weaker arcs i e

-- Where the listed numbers are among them all that pass, the listed ones tell whether some arc passes.
pub listed_tell : (test : BaseArc → Bool) (arcs : List BaseArc) (numbers : List ℕ) → ((i : ℕ) → arc_passes test arcs i ≡ true → is_among i numbers ≡ true)
    → list_any (arc_passes test arcs) numbers ≡ list_any test arcs
listed_tell test arcs numbers covers =
    same_test (list_any (arc_passes test arcs) numbers) (list_any test arcs)
    (λ e. some_listed (arc_passes test arcs) numbers e (λ i h. passes_any test arcs i h))
    (λ e. any_passes test arcs e (λ i h. listed_passes (arc_passes test arcs) numbers i (covers i h) h))

-- the arc of a number, where one without points does not pass
pub passes_number : (test : BaseArc → Bool) → test (record { left = 0; right = 0; points = [] }) ≡ false → (arcs : List BaseArc) (i : ℕ) → arc_passes test arcs i ≡ test (arc_number arcs i)
passes_number test none [] i = sym none
passes_number test none (a ∷ arcs) zero = refl
passes_number test none (a ∷ arcs) (suc i) = passes_number test none arcs i

-- ---- a search of the listed arcs

pub one_found : (test : BaseArc → Bool) (arcs : List BaseArc) (i : ℕ) → arc_passes test arcs i ≡ true → true ≡ list_any test arcs
one_found test arcs i e = sym (passes_any test arcs i e)

pub none_found : (test : BaseArc → Bool) (arcs : List BaseArc) (numbers : List ℕ) → ((i : ℕ) → arc_passes test arcs i ≡ true → is_among i numbers ≡ true)
    → (n : ℕ) → length numbers ≤ n → list_any (arc_passes test arcs) (take n numbers) ≡ false → false ≡ list_any test arcs
none_found test arcs numbers covers n le e =
    sym (ap (list_any (arc_passes test arcs)) (sym (take_all n numbers le)) ∙ e) ∙ listed_tell test arcs numbers covers

-- one more that does not pass
pub none_more : (test : ℕ → Bool) (numbers : List ℕ) (n d : ℕ) → n < length numbers → list_any test (take n numbers) ≡ false → test (get_or numbers n d) ≡ false
    → list_any test (take (n + 1) numbers) ≡ false
none_more test numbers n d lt before here = list_any_more test numbers n d lt ∙ or_from (list_any test (take n numbers)) (test (get_or numbers n d)) before here

-- ---- the arcs that end at a point

-- an end is a point of the arc
last_among : (p q : Point) (points : List Point) → same_point p (last_point (q ∷ points)) ≡ true → list_any (same_point p) (q ∷ points) ≡ true
last_among p q [] e = or_left (same_point p q) false e
last_among p q (r ∷ points) e = or_right (same_point p q) (list_any (same_point p) (r ∷ points)) (last_among p r points e)

end_among : (p : Point) (points : List Point) → (nat_lt 0 (length points) && (same_point p (first_point points) || same_point p (last_point points))) ≡ true
    → list_any (same_point p) points ≡ true
end_among p [] e = absurd (false≢true e)
end_among p (q ∷ points) e =
    let here : nat_lt 0 (length (q ∷ points)) ≡ true = lt-ltb 0 (length (q ∷ points)) (omega arith) in
    let ends : (same_point p q || same_point p (last_point (q ∷ points))) ≡ true = sym (ap (λ (b : Bool). b && (same_point p q || same_point p (last_point (q ∷ points)))) here) ∙ e in
    by_test (same_point p q)
    (λ t. or_left (same_point p q) (list_any (same_point p) points) t)
    (λ f. last_among p q points (rw f at ends))

pub ends_listed : (p : Point) (slots : List BaseArc) (numbers : List ℕ) → ((i : ℕ) → arc_passes (passes p) slots i ≡ true → is_among i numbers ≡ true)
    → (i : ℕ) → arc_passes (ends_there p) slots i ≡ true → is_among i numbers ≡ true
ends_listed p slots numbers covers i e = covers i (passes_more (ends_there p) (passes p) (λ a h. end_among p a.points h) slots i e)

-- an arc with a point is there, and its test is that of its points
pub ends_tell : (p : Point) (slots : List BaseArc) (i : ℕ) → 1 ≤ length (arc_number slots i).points → arc_passes (ends_there p) slots i ≡ ends_at p (arc_number slots i)
ends_tell p [] i some = absurd (omega arith)
ends_tell p (a ∷ slots) zero some = (let t : nat_lt 0 (length a.points) ≡ true = lt-ltb 0 (length a.points) (omega arith) in rw t refl)
ends_tell p (a ∷ slots) (suc i) some = ends_tell p slots i some

-- without a point it is gone
pub ends_past : (p : Point) (slots : List BaseArc) (i : ℕ) → length (arc_number slots i).points ≡ 0 → arc_passes (ends_there p) slots i ≡ false
ends_past p [] i none = refl
ends_past p (a ∷ slots) zero none = (let t : nat_lt 0 (length a.points) ≡ false = ap (nat_lt 0) none in rw t refl)
ends_past p (a ∷ slots) (suc i) none = ends_past p slots i none
