-- How many arcs are there in slots, and how many points they have, as one of them changes.
use Rattle.std.proofs.Common.{◌≡◌, ◌∙◌, ℕ, zero, suc, ◌+◌, ◌-◌, ◌≤◌, ◌<◌, nat_le, nat_lt, IsTrue, Bool, true, false, ◌&&◌, cond, List, [], ◌∷◌, ◌++◌, length, map, set, refl, sym, ap, subst, arith}
use Rattle.std.proofs.lemmas.Bool.{and_parts}
use Rattle.std.proofs.lemmas.List.{length-append, length-map}
use Rattle.std.proofs.lemmas.List.Elements.{filter-append}
use Rattle.std.proofs.lemmas.List.Sums.{sum_by-set, sum_by-cons, sum_by-append}
use Rattle.tgap_model.specs.declared.geometry.Point.{Point}
use Rattle.tgap_model.specs.declared.base.BaseArc.{BaseArc}
use Rattle.tgap_model.specs.declared.limits.TheConstants.{MAX_ARCS, MAX_POINTS}
use Rattle.tgap_model.specs.Base.{count_points}
use Rattle.tgap_model.specs.Chains.{arc_number}
use Rattle.edit_laws.specs.Edits.{move_all, moved, with_points}
use Rattle.edit_laws.proofs.Laws.{moved_count}
use Rattle.edit_laws.proofs.Cases.{by_test}
use Rattle.face_cuts.specs.Fusions.{is_between, relabelled}
use Rattle.arc_places.specs.Slots.{arcs_in, is_there}
use Rattle.map_version.specs.declared.labels.Counts.{Counts}
use Rattle.map_version.specs.Indexed.{AreCounted, has_more}
use Rattle.map_version.specs.Labels.{cleared, counted_without, is_taken, renamed}
use Rattle.map_version.specs.Positions.{changed_at}
use Rattle.map_version.proofs.InSlots.{move_in, no_points, there}
use Rattle.map_version.proofs.Firsts.{changed_is_set}
use Rattle.map_version.proofs.Renaming.{renamed_in}

-- what is gone has no points
pub count_in : (slots : List BaseArc) → count_points (arcs_in slots) ≡ count_points slots
count_in [] = refl
count_in (a ∷ slots) =
    by_test (is_there a)
    (λ t.
    ap (λ (b : Bool). count_points (cond b (a ∷ arcs_in slots) (arcs_in slots))) t
    ∙ (sum_by-cons (λ (b : BaseArc). length b.points) a (arcs_in slots)
    ∙ (ap (λ (n : ℕ). length a.points + n) (count_in slots) ∙ sym (sum_by-cons (λ (b : BaseArc). length b.points) a slots))))
    (λ f.
    let none : length a.points ≡ 0 = ap (length {A = Point}) (no_points a.points f) in
    let more = sum_by-cons (λ (b : BaseArc). length b.points) a slots in
    let rest = count_in slots in
    ap (λ (b : Bool). count_points (cond b (a ∷ arcs_in slots) (arcs_in slots))) f ∙ omega arith)

-- the points of one arc are among all
pub points_within : (slots : List BaseArc) (i : ℕ) → i < length slots → length (arc_number slots i).points ≤ count_points slots
points_within [] i lt = absurd (omega arith)
points_within (a ∷ slots) zero lt = (let more = sum_by-cons (λ (b : BaseArc). length b.points) a slots in omega arith)
points_within (a ∷ slots) (suc i) lt =
    (let more = sum_by-cons (λ (b : BaseArc). length b.points) a slots in let rest = points_within slots i (omega arith) in omega arith)

-- another arc in a slot
pub points_set : (slots : List BaseArc) (i : ℕ) (b : BaseArc) → i < length slots
    → count_points (arcs_in (set slots i b)) + length (arc_number slots i).points ≡ count_points (arcs_in slots) + length b.points
points_set slots i b lt =
    let before = count_in slots in
    let after = count_in (set slots i b) in
    let changed = sum_by-set (λ (a : BaseArc). length a.points) slots i b (record { left = 0; right = 0; points = [] }) lt in
    omega arith

-- what is there counts
abbrev pub counts_one : Bool → ℕ
counts_one b = cond b 1 0

pub there_set : (slots : List BaseArc) (i : ℕ) (b : BaseArc) → i < length slots
    → length (arcs_in (set slots i b)) + counts_one (is_there (arc_number slots i)) ≡ length (arcs_in slots) + counts_one (is_there b)
there_set [] i b lt = absurd (omega arith)
there_set (a ∷ slots) zero b lt = by (is_there a) (is_there b)
  where
    by : (s t : Bool) → length (cond t (b ∷ arcs_in slots) (arcs_in slots)) + counts_one s ≡ length (cond s (a ∷ arcs_in slots) (arcs_in slots)) + counts_one t
    by true true = omega arith
    by true false = omega arith
    by false true = omega arith
    by false false = omega arith
there_set (a ∷ slots) (suc i) b lt = by (is_there a) (there_set slots i b (omega arith))
  where
    by : (s : Bool) → length (arcs_in (set slots i b)) + counts_one (is_there (arc_number slots i)) ≡ length (arcs_in slots) + counts_one (is_there b)
        → length (cond s (a ∷ arcs_in (set slots i b)) (arcs_in (set slots i b))) + counts_one (is_there (arc_number slots i))
        ≡ length (cond s (a ∷ arcs_in slots) (arcs_in slots)) + counts_one (is_there b)
    by true h = omega arith
    by false h = h

-- one that is there is counted
pub one_there : (slots : List BaseArc) (i : ℕ) → i < length slots → is_there (arc_number slots i) ≡ true → 1 ≤ length (arcs_in slots)
one_there [] i lt e = absurd (omega arith)
one_there (a ∷ slots) zero lt e = subst (λ (b : Bool). 1 ≤ length (cond b (a ∷ arcs_in slots) (arcs_in slots))) (sym e) (omega arith)
one_there (a ∷ slots) (suc i) lt e = by (is_there a) (one_there slots i (omega arith) e)
  where
    by : (b : Bool) → 1 ≤ length (arcs_in slots) → 1 ≤ length (cond b (a ∷ arcs_in slots) (arcs_in slots))
    by true h = omega arith
    by false h = h

-- an arc that stays there gets other points, so many more or fewer
pub counted_set : (slots : List BaseArc) (i : ℕ) (b : BaseArc) (counts : Counts) (points : ℕ) → i < length slots → is_there (arc_number slots i) ≡ true → is_there b ≡ true
    → points + length (arc_number slots i).points ≡ counts.points + length b.points → AreCounted slots counts
    → AreCounted (set slots i b) (record { arcs = counts.arcs; points = points })
counted_set slots i b counts points lt before after same counted =
    let arcs = there_set slots i b lt in
    let arcs_before : counts_one (is_there (arc_number slots i)) ≡ 1 = ap counts_one before in
    let arcs_after : counts_one (is_there b) ≡ 1 = ap counts_one after in
    let changed = points_set slots i b lt in
    let a = counted.arcs_are in
    let p = counted.points_are in
    record { arcs_are = omega arith; points_are = omega arith }

pub counted_changed : (slots : List BaseArc) (i : ℕ) (change : List Point → List Point) (counts : Counts) (points : ℕ) → i < length slots → is_there (arc_number slots i) ≡ true
    → 1 ≤ length (change (arc_number slots i).points) → points + length (arc_number slots i).points ≡ counts.points + length (change (arc_number slots i).points) → AreCounted slots counts
    → AreCounted (changed_at i change slots) (record { arcs = counts.arcs; points = points })
counted_changed slots i change counts points lt before some same counted =
    let b = with_points (arc_number slots i) (change (arc_number slots i).points) in
    subst (λ (xs : List BaseArc). AreCounted xs (record { arcs = counts.arcs; points = points })) (sym (changed_is_set i change slots (record { left = 0; right = 0; points = [] }) lt))
    (counted_set slots i b counts points lt before (there b some) same counted)

-- points that are moved are as many
pub counted_moved : (old new : Point) (slots : List BaseArc) (counts : Counts) → AreCounted slots counts → AreCounted (move_all old new slots) counts
counted_moved old new slots counts counted =
    let arcs = move_in old new slots in
    record {
      arcs_are = counted.arcs_are ∙ sym (ap (length {A = BaseArc}) arcs ∙ length-map (arcs_in slots) (λ a. with_points a (map (moved old new) a.points)));
      points_are = counted.points_are ∙ sym (ap count_points arcs ∙ moved_count old new (arcs_in slots));
    }

-- one is taken out
pub counted_cleared : (f g : ℕ) (slots : List BaseArc) (i : ℕ) (counts : Counts) → i < length slots → AreCounted slots counts
    → AreCounted (set slots i (cleared f g (arc_number slots i))) (counted_without f g (arc_number slots i) counts)
counted_cleared f g slots i counts lt counted =
    let a = arc_number slots i in
    let test = is_taken f g a in
    by_test test
    (λ t.
    let there = (and_parts (is_there a) (is_between f g a) t).0 in
    let arcs = there_set slots i (with_points a []) lt in
    let arcs_before : counts_one (is_there a) ≡ 1 = ap counts_one there in
    let changed = points_set slots i (with_points a []) lt in
    let n = counted.arcs_are in
    let p = counted.points_are in
    subst (λ (b : Bool). AreCounted (set slots i (cond b (with_points a []) a)) (cond b (record { arcs = counts.arcs - 1; points = counts.points - length a.points }) counts)) (sym t)
    (record { arcs_are = omega arith; points_are = omega arith }))
    (λ f. subst (λ (b : Bool). AreCounted (set slots i (cond b (with_points a []) a)) (cond b (record { arcs = counts.arcs - 1; points = counts.points - length a.points }) counts)) (sym f)
    (subst (λ (xs : List BaseArc). AreCounted xs counts) (sym (set_same slots i)) counted))
  where
    set_same : (xs : List BaseArc) (k : ℕ) → set xs k (arc_number xs k) ≡ xs
    set_same [] k = refl
    set_same (x ∷ xs) zero = refl
    set_same (x ∷ xs) (suc k) = ap (λ (rest : List BaseArc). x ∷ rest) (set_same xs k)

-- other faces change nothing
pub counted_renamed : (label : ℕ → ℕ) (slots : List BaseArc) (counts : Counts) → AreCounted slots counts → AreCounted (map (renamed label) slots) counts
counted_renamed label slots counts counted =
    let arcs = renamed_in label slots in
    record {
      arcs_are = counted.arcs_are ∙ sym (ap (length {A = BaseArc}) arcs ∙ length-map (arcs_in slots) (relabelled label));
      points_are = counted.points_are ∙ sym (ap count_points arcs ∙ same (arcs_in slots));
    }
  where
    same : (xs : List BaseArc) → count_points (map (relabelled label) xs) ≡ count_points xs
    same [] = refl
    same (x ∷ xs) =
        sum_by-cons (λ (b : BaseArc). length b.points) (relabelled label x) (map (relabelled label) xs)
        ∙ (ap (λ (n : ℕ). length x.points + n) (same xs) ∙ sym (sum_by-cons (λ (b : BaseArc). length b.points) x xs))

-- nor does an arc with as many points
pub counted_same : (slots : List BaseArc) (i : ℕ) (b : BaseArc) (counts : Counts) → i < length slots → length b.points ≡ length (arc_number slots i).points
    → AreCounted slots counts → AreCounted (set slots i b) counts
counted_same slots i b counts lt same counted =
    let arcs = there_set slots i b lt in
    let one : counts_one (is_there b) ≡ counts_one (is_there (arc_number slots i)) = ap (λ (n : ℕ). counts_one (nat_lt 0 n)) same in
    let changed = points_set slots i b lt in
    let a = counted.arcs_are in
    let p = counted.points_are in
    record { arcs_are = omega arith; points_are = omega arith }

-- one arc more
pub counted_more : (slots : List BaseArc) (a : BaseArc) (counts : Counts) → 1 ≤ length a.points → AreCounted slots counts
    → AreCounted (slots ++ a ∷ []) (record { arcs = counts.arcs + 1; points = counts.points + length a.points })
counted_more slots a counts some counted =
    let here : is_there a ≡ true = there a some in
    let arcs : arcs_in (slots ++ a ∷ []) ≡ arcs_in slots ++ a ∷ [] = filter-append is_there slots (a ∷ []) ∙ ap (λ (b : Bool). arcs_in slots ++ cond b (a ∷ []) []) here in
    let long : length (arcs_in (slots ++ a ∷ [])) ≡ length (arcs_in slots) + 1 = ap (length {A = BaseArc}) arcs ∙ length-append (arcs_in slots) (a ∷ []) in
    let one = sum_by-cons (λ (b : BaseArc). length b.points) a [] in
    let points : count_points (arcs_in (slots ++ a ∷ [])) ≡ count_points (arcs_in slots) + count_points (a ∷ []) = ap count_points arcs ∙ sum_by-append (λ (b : BaseArc). length b.points) (arcs_in slots) (a ∷ []) in
    let n = counted.arcs_are in
    let p = counted.points_are in
    record { arcs_are = omega arith; points_are = omega arith }

-- room for an arc more, by the counts
pub more_room : (xs ys : List BaseArc) (n : ℕ) → length xs ≡ length ys → count_points xs + n ≡ count_points ys + 1 → IsTrue (has_more 1 1 ys) → IsTrue (has_more 1 n xs)
more_room xs ys n e f h =
    subst (λ (b : Bool). IsTrue b)
    (ap (λ (k : ℕ). nat_le (k + 1) MAX_ARCS && nat_le (count_points ys + 1) MAX_POINTS) (sym e) ∙ ap (λ (k : ℕ). nat_le (length xs + 1) MAX_ARCS && nat_le k MAX_POINTS) (sym f)) h
