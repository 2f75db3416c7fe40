-- The points of an edge stay within the limits, and no two in a row are equal: with puts, in pieces, and turned.
use Rattle.std.proofs.Common.{◌≡◌, ℤ, ℕ, zero, suc, ◌+◌, ◌-◌, ◌<◌, ◌≤◌, Bool, true, ◌&&◌, nat_lt, List, [], ◌∷◌, reverse, take, drop, length, get_or, refl, sym, ap, ap₂, subst, ◌∙◌, length-drop, arith}
use Rattle.std.specs.Prelude.{nat_le, insert, not}
use Rattle.std.specs.List.{list_all}
use Rattle.std.specs.Ordering.{int_eq}
use Rattle.std.specs.Cmp.Derive.{both_true}
use mathlib.Core.List.{reverse_aux}
use Rattle.std.proofs.lemmas.Bool.Decides.{Decides-int_eq, Decides-like, same_from_decides}
use Rattle.std.proofs.lemmas.Bool.{and_parts, leb-true, ltb-true}
use Rattle.std.proofs.lemmas.List.{take-append-drop, length-take-le}
use Rattle.std.proofs.lemmas.List.Elements.{All-take, All-drop}
use Rattle.std.proofs.lemmas.List.Sums.{AllPass-from_list_all, list_all-from_AllPass}
use Rattle.std.proofs.lemmas.List.Sorted.{IsPermutation-reverse, IsPermutation-insert, All-permutation, length_permutation}
use Rattle.std.proofs.lemmas.List.Elements.{All-cons}
use Rattle.lemmas.specs.Sorting.{is_sorted_by}
use Rattle.lemmas.proofs.Sorting.{sorted_tail, sorted_next, sorted_front, sorted_back}
use Rattle.tgap_model.specs.declared.geometry.Point.{Point}
use Rattle.tgap_model.specs.declared.record.Put.{Put}
use Rattle.tgap_model.specs.Base.{in_limits, no_repeat, same_point}
use Rattle.slice_forms.specs.SliceForms.{is_number, is_put_row}
use Rattle.tgap_model.specs.Records.{put_in, puts_fit, differs_there}

abbrev pub apart : Point → Point → Bool
apart a b = not (same_point a b)

pub no_repeat-is_sorted : (points : List Point) → no_repeat points ≡ is_sorted_by apart points
no_repeat-is_sorted [] = refl
no_repeat-is_sorted (a ∷ []) = refl
no_repeat-is_sorted (a ∷ b ∷ points) = ap (λ (c : Bool). apart a b && c) (no_repeat-is_sorted (b ∷ points))

int_eq-sym : (x y : ℤ) → int_eq x y ≡ int_eq y x
int_eq-sym x y = same_from_decides (int_eq x y) (int_eq y x) (Decides-int_eq x y) (Decides-like (int_eq y x) sym sym (Decides-int_eq y x))

pub apart-sym : (a b : Point) → apart a b ≡ apart b a
apart-sym a b = ap₂ (λ (s t : Bool). not (s && t)) (int_eq-sym a.x b.x) (int_eq-sym a.y b.y)

-- ---- a part of the points

pub part_limits : (n k : ℕ) (points : List Point) → list_all in_limits points ≡ true → list_all in_limits (take n (drop k points)) ≡ true
part_limits n k points h =
    list_all-from_AllPass in_limits (take n (drop k points))
    (All-take (λ p. in_limits p ≡ true) n (drop k points) (All-drop (λ p. in_limits p ≡ true) k points (AllPass-from_list_all in_limits points h)))

pub part_apart : (n k : ℕ) (points : List Point) → no_repeat points ≡ true → no_repeat (take n (drop k points)) ≡ true
part_apart n k points h =
    let s : is_sorted_by apart points ≡ true = sym (no_repeat-is_sorted points) ∙ h in
    let t = sorted_back apart (take k points) (drop k points) (subst (λ zs. is_sorted_by apart zs ≡ true) (sym (take-append-drop k points)) s) in
    let u = sorted_front apart (take n (drop k points)) (drop n (drop k points)) (subst (λ zs. is_sorted_by apart zs ≡ true) (sym (take-append-drop n (drop k points))) t) in
    no_repeat-is_sorted (take n (drop k points)) ∙ u

-- ---- the points the other way round

turned_limits : (points : List Point) → list_all in_limits points ≡ true → list_all in_limits (reverse points) ≡ true
turned_limits points h =
    list_all-from_AllPass in_limits (reverse points)
    (All-permutation (λ p. in_limits p ≡ true) points (reverse points) (IsPermutation-reverse points) (AllPass-from_list_all in_limits points h))

turned_onto : (a : Point) (points done : List Point) → is_sorted_by apart (a ∷ points) ≡ true → is_sorted_by apart (a ∷ done) ≡ true → is_sorted_by apart (reverse_aux points (a ∷ done)) ≡ true
turned_onto a [] done s t = t
turned_onto a (b ∷ points) done s t =
    turned_onto b points (a ∷ done) (sorted_tail apart a (b ∷ points) s) (both_true (apart-sym b a ∙ sorted_next apart a (b ∷ points) s) t)

turned_apart : (points : List Point) → no_repeat points ≡ true → no_repeat (reverse points) ≡ true
turned_apart [] h = refl
turned_apart (a ∷ points) h = no_repeat-is_sorted (reverse (a ∷ points)) ∙ turned_onto a points [] (sym (no_repeat-is_sorted (a ∷ points)) ∙ h) refl

-- ---- a point put in

insert_apart : (points : List Point) (k : ℕ) (x d : Point) → 1 ≤ k → k < length points → apart (get_or points (k - 1) d) x ≡ true → apart (get_or points k d) x ≡ true
    → is_sorted_by apart points ≡ true → is_sorted_by apart (insert points k x) ≡ true
insert_apart [] k x d l m p q s = absurd (omega arith)
insert_apart (a ∷ points) zero x d l m p q s = absurd (omega arith)
insert_apart (a ∷ []) (suc k) x d l m p q s = absurd (omega arith)
insert_apart (a ∷ b ∷ points) (suc zero) x d l m p q s = both_true p (both_true (apart-sym x b ∙ q) (sorted_tail apart a (b ∷ points) s))
insert_apart (a ∷ b ∷ points) (suc (suc k)) x d l m p q s =
    let e : suc (suc k) - 1 ≡ suc k = omega arith in
    let before : apart (get_or (b ∷ points) k d) x ≡ true = subst (λ n. apart (get_or (a ∷ b ∷ points) n d) x ≡ true) e p in
    let back : suc k - 1 ≡ k = omega arith in
    both_true (sorted_next apart a (b ∷ points) s)
    (insert_apart (b ∷ points) (suc k) x d (omega arith) (omega arith) (subst (λ n. apart (get_or (b ∷ points) n d) x ≡ true) (sym back) before) q (sorted_tail apart a (b ∷ points) s))

-- what is known of the points of an edge with its puts
pub record IsWhole (points : List Point) (count : ℕ) : Type 0 where
  pub limits : list_all in_limits points ≡ true
  pub differ : no_repeat points ≡ true
  pub long : length points ≡ count

pub put_in-whole : (puts : List Put) (points : List Point) → list_all is_put_row puts ≡ true → puts_fit points puts ≡ true → list_all in_limits points ≡ true → no_repeat points ≡ true
    → IsWhole (put_in puts points) (length points + length puts)
put_in-whole [] points rows fit limits differ = record { limits = limits; differ = differ; long = omega arith }
put_in-whole (p ∷ puts) points rows fit limits differ =
    let row = and_parts (is_put_row p) (list_all is_put_row puts) rows in
    let one = and_parts (nat_le 1 p.at && nat_lt p.at (length points) && differs_there points p) (puts_fit (insert points p.at p.point) puts) fit in
    let two = and_parts (nat_le 1 p.at && nat_lt p.at (length points)) (differs_there points p) one.0 in
    let three = and_parts (nat_le 1 p.at) (nat_lt p.at (length points)) two.0 in
    let four = and_parts (apart (get_or points (p.at - 1) p.point) p.point) (apart (get_or points p.at p.point) p.point) two.1 in
    let more = insert points p.at p.point in
    let moved = IsPermutation-insert points p.at p.point in
    let limits' = list_all-from_AllPass in_limits more (All-permutation (λ q. in_limits q ≡ true) (p.point ∷ points) more moved
    (All-cons (λ q. in_limits q ≡ true) p.point points (and_parts (is_number p.at) (in_limits p.point) row.0).1 (AllPass-from_list_all in_limits points limits))) in
    let differ' = no_repeat-is_sorted more
    ∙ insert_apart points p.at p.point p.point (leb-true 1 p.at three.0) (ltb-true p.at (length points) three.1) four.0 four.1 (sym (no_repeat-is_sorted points) ∙ differ) in
    let rest = put_in-whole puts more row.1 one.1 limits' differ' in
    record { limits = rest.limits; differ = rest.differ; long = omega (arith, rest.long, length_permutation (p.point ∷ points) more moved) }

-- ---- a piece

-- the points of a piece, turned or not
pub part_whole : (points : List Point) (first last : ℕ) → list_all in_limits points ≡ true → no_repeat points ≡ true → first < last → last < length points
    → IsWhole (take (last + 1 - first) (drop first points)) (last + 1 - first)
part_whole points first last limits differ l m = record {
  limits = part_limits (last + 1 - first) first points limits;
  differ = part_apart (last + 1 - first) first points differ;
  long = length-take-le (last + 1 - first) (drop first points) (omega (arith, length-drop first points));
}

pub turned_whole : (points : List Point) (count : ℕ) → IsWhole points count → IsWhole (reverse points) count
turned_whole points count w = record {
  limits = turned_limits points w.limits;
  differ = turned_apart points w.differ;
  long = omega (arith, w.long, length_permutation points (reverse points) (IsPermutation-reverse points));
}
