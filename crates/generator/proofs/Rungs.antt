-- Lists of which some members may be missing, with the label that stands under each place: where each member leads from the label above
-- it to the one under it, and a missing one leaves the label, the members that are there lead from one to the next.
use Rattle.std.proofs.Common.{◌≡◌, ℕ, ◌+◌, ◌==◌, Bool, true, false, cond, List, [], ◌∷◌, map, All, Contains, Option, Some, None, refl, sym, ap, ◌∙◌, subst, eq-eqb}
use Rattle.std.specs.Prelude.{⊤}
use Rattle.std.proofs.lemmas.Bool.{and_from}
use Rattle.std.proofs.lemmas.List.Elements.{All-nil, All-cons, All-head}
use Rattle.lemmas.specs.Sorting.{is_sorted_by, is_before_first}
use Rattle.lemmas.proofs.Members.{in_head, in_tail}
use Rattle.tgap_model.specs.declared.geometry.Point.{Point}
use Rattle.tgap_model.specs.declared.segment.LabelledSegment.{LabelledSegment}
use Rattle.tgap_model.specs.declared.fault.MapFault.TheVariants.{NodeDisagrees}
use Rattle.tgap_model.specs.Partition.{Spoke, sides, agree_from, ring_fault}

pub record Rung (A : Type 0) : Type 0 where
  pub member : Option A
  pub under : ℕ

abbrev pub with_member : {A : Type 0} → Option A → List A → List A
with_member None xs = xs
with_member (Some x) xs = x ∷ xs

-- those that are there
abbrev pub members : {A : Type 0} → List (Rung A) → List A
members [] = []
members (r ∷ rs) = with_member r.member (members rs)

-- what holds of each member that is there
abbrev pub IfThere : {A : Type 0} → (A → Type 0) → Option A → Type 0
IfThere P None = ⊤
IfThere P (Some x) = P x

abbrev pub AllThere : {A : Type 0} → (A → Type 0) → List (Rung A) → Type 0
AllThere P [] = ⊤
AllThere P (r ∷ rs) = IfThere P r.member × AllThere P rs

pub All-members : {A : Type 0} (P : A → Type 0) (rs : List (Rung A)) → AllThere P rs → All P (members rs)
All-members P [] h = All-nil P
All-members {A} P (r ∷ rs) h = by r.member h.0 (All-members P rs h.1)
  where
    by : (o : Option A) → IfThere P o → All P (members rs) → All P (with_member o (members rs))
    by None k m = m
    by (Some x) k m = All-cons P x (members rs) k m

-- ---- labels

module _ {A : Type 0} (upper lower : A → ℕ) where
  -- the members lead from label u to label w
  abbrev pub Leads : ℕ → List A → ℕ → Type 0
  Leads u [] w = u ≡ w
  Leads u (x ∷ xs) w = (upper x ≡ u) × Leads (lower x) xs w

  -- from u to v, by a member or by none
  abbrev pub IsStep : ℕ → Option A → ℕ → Type 0
  IsStep u None v = u ≡ v
  IsStep u (Some x) v = (upper x ≡ u) × (lower x ≡ v)

  abbrev pub AreSteps : ℕ → List (Rung A) → ℕ → Type 0
  AreSteps u [] w = u ≡ w
  AreSteps u (r ∷ rs) w = IsStep u r.member r.under × AreSteps r.under rs w

  pub members_lead : (u : ℕ) (rs : List (Rung A)) (w : ℕ) → AreSteps u rs w → Leads u (members rs) w
  members_lead u [] w h = h
  members_lead u (r ∷ rs) w h = by r.member h.0 (members_lead r.under rs w h.1)
    where
      by : (o : Option A) → IsStep u o r.under → Leads r.under (members rs) w → Leads u (with_member o (members rs)) w
      by None e m = subst (λ (v : ℕ). Leads v (members rs) w) (sym e) m
      by (Some x) e m = (e.0, subst (λ (v : ℕ). Leads v (members rs) w) (sym e.1) m)

-- down a line
pub agree_by_leads : (u : ℕ) (ss : List LabelledSegment) → Leads (λ s. (sides s).upper) (λ s. (sides s).lower) u ss 0 → agree_from u (map sides ss) ≡ true
agree_by_leads u [] h = eq-eqb u 0 h
agree_by_leads u (s ∷ ss) h = and_from ((sides s).upper == u) _ (eq-eqb (sides s).upper u h.0) (agree_by_leads (sides s).lower ss h.1)

-- round a node: the left face of the last spoke is the right one of the first
pub ring_by_leads : (v : Point) (first : Spoke) (i u : ℕ) (ps : List Spoke) → Leads (λ p. p.right) (λ p. p.left) u ps first.right → ring_fault v first i ps ≡ None
ring_by_leads v first i u [] h = refl
ring_by_leads v first i u (p ∷ []) h = ap (λ (b : Bool). cond b None (Some (NodeDisagrees v i 0 p.left first.right))) (eq-eqb p.left first.right h.1)
ring_by_leads v first i u (p ∷ q ∷ ps) h =
    ap (λ (b : Bool). elim b [ true ↦ ring_fault v first (i + 1) (q ∷ ps) | false ↦ Some (NodeDisagrees v i (i + 1) p.left q.right) ]) (eq-eqb p.left q.right (sym h.1.0))
    ∙ ring_by_leads v first (i + 1) p.left (q ∷ ps) h.1

-- ---- order

module _ {A : Type 0} (before : A → A → Bool) where
  -- each member stands before all that follow
  abbrev pub AreOrdered : List (Rung A) → Type 0
  AreOrdered [] = ⊤
  AreOrdered (r ∷ rs) = IfThere (λ x. All (λ y. before x y ≡ true) (members rs)) r.member × AreOrdered rs

  before_first : (x : A) (ys : List A) → All (λ y. before x y ≡ true) ys → is_before_first before x ys ≡ true
  before_first x [] h = refl
  before_first x (y ∷ ys) h = All-head (λ z. before x z ≡ true) y ys h

  pub members_sorted : (rs : List (Rung A)) → AreOrdered rs → is_sorted_by before (members rs) ≡ true
  members_sorted [] h = refl
  members_sorted (r ∷ rs) h = by r.member h.0 (members_sorted rs h.1)
    where
      by : (o : Option A) → IfThere (λ x. All (λ y. before x y ≡ true) (members rs)) o → is_sorted_by before (members rs) ≡ true → is_sorted_by before (with_member o (members rs)) ≡ true
      by None k m = m
      by (Some x) k m = and_from (is_before_first before x (members rs)) _ (before_first x (members rs) k) m

-- what holds of each two of these that are both there
abbrev pub IfBoth : {A : Type 0} → (A → A → Type 0) → Option A → Option A → Type 0
IfBoth R None o = ⊤
IfBoth R (Some x) o = IfThere (R x) o

abbrev pub BeforeAll : {A : Type 0} → (A → A → Type 0) → Option A → List (Rung A) → Type 0
BeforeAll R o [] = ⊤
BeforeAll R o (r ∷ rs) = IfBoth R o r.member × BeforeAll R o rs

abbrev pub AllBoth : {A : Type 0} → (A → A → Type 0) → List (Rung A) → Type 0
AllBoth R [] = ⊤
AllBoth R (r ∷ rs) = BeforeAll R r.member rs × AllBoth R rs

pub ordered_by_pairs : {A : Type 0} (before : A → A → Bool) (rs : List (Rung A)) → AllBoth (λ x y. before x y ≡ true) rs → AreOrdered before rs
ordered_by_pairs before [] h = tt
ordered_by_pairs {A} before (r ∷ rs) h = (by r.member h.0, ordered_by_pairs before rs h.1)
  where
    all_there : (x : A) (ss : List (Rung A)) → BeforeAll (λ x y. before x y ≡ true) (Some x) ss → AllThere (λ y. before x y ≡ true) ss
    all_there x [] k = tt
    all_there x (s ∷ ss) k = (k.0, all_there x ss k.1)

    by : (o : Option A) → BeforeAll (λ x y. before x y ≡ true) o rs → IfThere (λ x. All (λ y. before x y ≡ true) (members rs)) o
    by None k = tt
    by (Some x) k = All-members (λ y. before x y ≡ true) rs (all_there x rs k)

-- ---- membership

pub member_here : {A : Type 0} (r : Rung A) (rs : List (Rung A)) (x : A) → r.member ≡ Some x → Contains (members (r ∷ rs)) x
member_here {A} r rs x e = subst (λ (o : Option A). Contains (with_member o (members rs)) x) (sym e) (in_head x (members rs))

pub member_later : {A : Type 0} (r : Rung A) (rs : List (Rung A)) (x : A) → Contains (members rs) x → Contains (members (r ∷ rs)) x
member_later {A} r rs x c = by r.member
  where
    by : (o : Option A) → Contains (with_member o (members rs)) x
    by None = c
    by (Some y) = in_tail y (members rs) x c
