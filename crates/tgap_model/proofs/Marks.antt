-- Lemmas on the marks of faces.
use Rattle.std.proofs.Common.{◌≡◌, ℕ, zero, suc, ◌+◌, ◌%◌, ◌<◌, ◌≤◌, Bool, true, false, cond, ◌==◌, ◌||◌, nat_le, nat_lt, List, [], ◌∷◌, ◌++◌, length, get_or, set, take, map, refl, sym, ap, ◌∙◌, arith, IsTrue, inl, inr, if◌then◌else◌}
use Rattle.std.specs.List.{list_all, list_any, range_with_len}
use Rattle.std.proofs.Math.Bool.{or_assoc}
use Rattle.std.proofs.lemmas.Bool.{and_parts, ltb-true, lt-ltb, le-ltb, cases_eq}
use Rattle.std.proofs.lemmas.Bool.Decides.{nat_tests}
use Rattle.std.proofs.lemmas.List.{ext_get_or, take_more, get_or-set_same, get_or-set_other, length-set}
use Rattle.std.proofs.lemmas.List.Recursion.{and_at, or_push}
use Rattle.tgap_model.specs.declared.base.BaseArc.{BaseArc}
use Rattle.tgap_model.specs.declared.bordered.TheConstants.{MARK}
use Rattle.tgap_model.specs.Base.{is_arc, borders_face}
use Rattle.tgap_model.specs.Marks.{marked, mark_on}

-- each entry is below the mark
abbrev pub are_unmarked : List ℕ → Bool
are_unmarked ks = list_all (λ k. nat_lt k MARK) ks

-- no mark changes nothing
pub marked-nothing : (f : ℕ) (ks : List ℕ) → marked (λ _. false) f ks ≡ ks
marked-nothing f [] = refl
marked-nothing f (k ∷ ks) = ap (λ xs. k ∷ xs) (marked-nothing (f + 1) ks)

-- marks leave the number of entries
pub length-marked : (p : ℕ → Bool) (f : ℕ) (ks : List ℕ) → length (marked p f ks) ≡ length ks
length-marked p f [] = refl
length-marked p f (k ∷ ks) = ap suc (length-marked p (f + 1) ks)

-- two tests that agree from face f on give the same marks
pub marked-same : (p q : ℕ → Bool) (f : ℕ) (ks : List ℕ) → ((g : ℕ) → f ≤ g → p g ≡ q g) → marked p f ks ≡ marked q f ks
marked-same p q f [] h = refl
marked-same p q f (k ∷ ks) h =
    let first = h f (omega arith) in
    let rest = marked-same p q (f + 1) ks (λ g l. h g (omega arith)) in
    cc

-- the entry at place n is that of face f + n
pub get_or-marked : (p : ℕ → Bool) (f : ℕ) (ks : List ℕ) (n g : ℕ) → n < length ks → f + n ≡ g
    → get_or (marked p f ks) n 0 ≡ cond (p g) (get_or ks n 0 + MARK) (get_or ks n 0)
get_or-marked p f [] n g l e = absurd (omega arith)
get_or-marked p f (k ∷ ks) zero g l e = let s : f ≡ g = omega arith in ap (λ x. cond (p x) (k + MARK) k) s
get_or-marked p f (k ∷ ks) (suc n) g l e = get_or-marked p (f + 1) ks n g (omega arith) (omega arith)

-- each of the unmarked entries is below the mark
pub below_mark : (ks : List ℕ) (n : ℕ) → IsTrue (are_unmarked ks) → n < length ks → get_or ks n 0 < MARK
below_mark ks n h l = ltb-true _ _ (and_at are_unmarked (λ k. nat_lt k MARK) refl (λ _ _. refl) ks n 0 l h)

-- a mark on the entry of a face that has none, at each place
set-marked : (p : ℕ → Bool) (ks : List ℕ) (n k : ℕ) → n < length ks → k < length ks → p (suc n) ≡ false
    → get_or (set (marked p 1 ks) n (get_or ks n 0 + MARK)) k 0 ≡ get_or (marked (λ g. p g || (suc n == g)) 1 ks) k 0
set-marked p ks n k ln lk unmarked =
    let new = get_or-marked (λ g. p g || (suc n == g)) 1 ks k (suc k) lk (omega arith) in
    let old = get_or-marked p 1 ks k (suc k) lk (omega arith) in
    let same = length-marked p 1 ks in
    grind (arith, nat_tests, get_or-set_same, get_or-set_other)

-- a face that passes the test adds nothing to it
or-known : (p : ℕ → Bool) (face g : ℕ) → p face ≡ true → p g ≡ (p g || (face == g))
or-known p face g known =
    elim (cases_eq face g) [
      | inl e ↦ (let here : p g ≡ true = ap p (sym e) ∙ known in grind (arith, nat_tests))
      | inr apart ↦ grind (arith, nat_tests)
    ]

-- an entry that has no mark gets one
mark_on-unmarked : (n : ℕ) (ks : List ℕ) → get_or ks n 0 < MARK → mark_on (suc n) ks ≡ set ks n (get_or ks n 0 + MARK)
mark_on-unmarked n ks h = ap (λ t. cond t (set ks n (get_or ks n 0 + MARK)) ks) (lt-ltb _ _ h)

-- an entry that has a mark stays as it is
mark_on-known : (n : ℕ) (ks : List ℕ) → MARK ≤ get_or ks n 0 → mark_on (suc n) ks ≡ ks
mark_on-known n ks h = ap (λ t. cond t (set ks n (get_or ks n 0 + MARK)) ks) (le-ltb _ _ h)

-- a mark on face n + 1, whether it passes the test already or not
mark_on-either : (p : ℕ → Bool) (ks : List ℕ) (n : ℕ) → IsTrue (are_unmarked ks) → n < length ks → (b : Bool) → p (suc n) ≡ b
    → mark_on (suc n) (marked p 1 ks) ≡ marked (λ g. p g || (suc n == g)) 1 ks
mark_on-either p ks n h l true known =
    let entry = get_or-marked p 1 ks n (suc n) l (omega arith) in
    mark_on-known n (marked p 1 ks) (grind arith) ∙ marked-same p (λ g. p g || (suc n == g)) 1 ks (λ g _. or-known p (suc n) g known)
mark_on-either p ks n h l false unmarked =
    let entry = get_or-marked p 1 ks n (suc n) l (omega arith) in
    let below = below_mark ks n h l in
    let same : get_or (marked p 1 ks) n 0 ≡ get_or ks n 0 = grind arith in
    let lengths = length-marked p 1 ks in
    mark_on-unmarked n (marked p 1 ks) (omega arith)
    ∙ ap (λ x. set (marked p 1 ks) n (x + MARK)) same
    ∙ ext_get_or 0 _ _ (length-set (marked p 1 ks) n (get_or ks n 0 + MARK) ∙ lengths ∙ sym (length-marked (λ g. p g || (suc n == g)) 1 ks))
    (λ k lk. set-marked p ks n k l (omega (arith, length-set {A = ℕ})) unmarked)

-- a mark on a face adds it to the test
pub mark_on-marked : (p : ℕ → Bool) (ks : List ℕ) (face : ℕ) → IsTrue (are_unmarked ks) → face ≤ length ks
    → mark_on face (marked p 1 ks) ≡ marked (λ g. p g || (face == g)) 1 ks
mark_on-marked p ks zero h l = marked-same p (λ g. p g || (0 == g)) 1 ks (λ g lg. grind (arith, nat_tests))
mark_on-marked p ks (suc n) h l = mark_on-either p ks n h (omega arith) (p (suc n)) refl

-- each entry has a mark where each face passes the test
pub all-marked : (p : ℕ → Bool) (f : ℕ) (ks : List ℕ) → IsTrue (are_unmarked ks)
    → list_all (λ k. nat_le MARK k) (marked p f ks) ≡ list_all p (range_with_len f (length ks))
all-marked p f [] h = refl
all-marked p f (k ∷ ks) h =
    let parts = and_parts _ _ h in
    let rest = all-marked p (f + 1) ks parts.1 in
    let below = ltb-true _ _ parts.0 in
    grind (arith, nat_tests)

-- an entry without its mark, whether it had one or not
unmark : (b : Bool) (k : ℕ) → k < MARK → (if b then k + MARK else k) % MARK ≡ k
unmark true k h = omega arith
unmark false k h = omega arith

-- the entries without their marks
pub map-marked : (p : ℕ → Bool) (f : ℕ) (ks : List ℕ) → IsTrue (are_unmarked ks) → map (λ k. k % MARK) (marked p f ks) ≡ ks
map-marked p f [] h = refl
map-marked p f (k ∷ ks) h =
    let parts = and_parts _ _ h in
    let rest = map-marked p (f + 1) ks parts.1 in
    let first = unmark (p f) k (ltb-true _ _ parts.0) in
    cc

-- an arc of a map with n faces has two of them or the outside at its sides
pub is_arc-faces : (n : ℕ) (a : BaseArc) → is_arc n a ≡ true → (a.left ≤ n) × (a.right ≤ n)
unfolding is_arc
is_arc-faces n a h = grind (arith, nat_tests)

-- the arc at a place has two of the n faces or the outside at its sides
pub arc-faces : (n : ℕ) (arcs : List BaseArc) (i : ℕ) (a : BaseArc) → IsTrue (list_all (is_arc n) arcs) → i < length arcs → a ≡ get_or arcs i a
    → (a.left ≤ n) × (a.right ≤ n)
arc-faces n arcs i a h l e = is_arc-faces n a (ap (is_arc n) e ∙ and_at (list_all (is_arc n)) (is_arc n) refl (λ _ _. refl) arcs i a l h)

-- a face has a border among one more arc where it had one before, or that arc is one
borders_more : (arcs : List BaseArc) (i g : ℕ) (a : BaseArc) → i < length arcs → a ≡ get_or arcs i a
    → list_any (borders_face g) (take (i + 1) arcs) ≡ (list_any (borders_face g) (take i arcs) || borders_face g a)
borders_more arcs i g a l e =
    ap (list_any (borders_face g)) (take_more arcs i a l ∙ ap (λ x. take i arcs ++ x ∷ []) (sym e))
    ∙ or_push (list_any (borders_face g)) (borders_face g) refl (λ _ _. refl) (take i arcs) a

-- the marks on both faces of one more arc
pub marks_more : (ks : List ℕ) (arcs : List BaseArc) (i : ℕ) (a : BaseArc) → IsTrue (are_unmarked ks)
    → IsTrue (list_all (is_arc (length ks)) arcs) → i < length arcs → a ≡ get_or arcs i a
    → mark_on a.right (mark_on a.left (marked (λ f. list_any (borders_face f) (take i arcs)) 1 ks))
    ≡ marked (λ f. list_any (borders_face f) (take (i + 1) arcs)) 1 ks
marks_more ks arcs i a h hs l e =
    let before : ℕ → Bool = λ f. list_any (borders_face f) (take i arcs) in
    let at_left : ℕ → Bool = λ f. before f || (a.left == f) in
    let at_right : ℕ → Bool = λ f. at_left f || (a.right == f) in
    let faces = arc-faces (length ks) arcs i a hs l e in
    ap (mark_on a.right) (mark_on-marked before ks a.left h faces.0)
    ∙ mark_on-marked at_left ks a.right h faces.1
    ∙ marked-same at_right _ 1 ks (λ g _. or_assoc (before g) (a.left == g) (a.right == g) ∙ sym (borders_more arcs i g a l e))
