-- The places of the boxes that meet an area, found one after the other.
use Rattle.std.proofs.Common.{◌≡◌, inl, inr, ℕ, ◌+◌, ◌-◌, ◌<◌, ◌≤◌, Bool, true, false, cond, List, [], ◌∷◌, ◌++◌, length, filter, get_or, sym, ap, ◌∙◌, arith}
use Rattle.std.specs.List.{range_with_len}
use Rattle.std.proofs.lemmas.Bool.{cases_lt}
use Rattle.std.proofs.lemmas.List.{append-nil, length-append}
use Rattle.std.proofs.lemmas.List.Elements.{filter-append}
use Rattle.std.proofs.lemmas.List.FromFn.{get_or-range_with_len, length-range_with_len}
use Rattle.tgap_model.specs.declared.geometry.Window.{Window}
use Rattle.lemmas.proofs.Members.{filter_none}
use Rattle.grid_index.specs.Boxes.{meets}
use Rattle.grid_index.specs.Near.{near_boxes, IsNextNear}
use Rattle.grid_index.specs.Picked.{no_box}
use Rattle.grid_index.specs.Tower.{meets_at}
use Rattle.grid_index.proofs.Meeting.{meets_at-within, meets_at-past, near_filtered, filter_push}
use Rattle.grid_index.proofs.Ranges.{range-append}

-- the places so far, of all below this one, at which the next box that meets the area is, or the end of the boxes
pub record AreFound (area : Window) (boxes : List Window) (places : List ℕ) (at : ℕ) : Type 0 where
  pub within : at ≤ length boxes
  pub found : places ≡ filter (meets_at area boxes) (range_with_len 0 at)
  pub here : (d : Window) → at < length boxes → meets area (get_or boxes at d) ≡ true

-- between two places none is found
none_between : (area : Window) (boxes : List Window) (n m : ℕ) → n ≤ m → ((k : ℕ) (d : Window) → n ≤ k → k < m → meets area (get_or boxes k d) ≡ false)
    → filter (meets_at area boxes) (range_with_len 0 m) ≡ filter (meets_at area boxes) (range_with_len 0 n)
none_between area boxes n m le apart =
    let e : n + (m - n) ≡ m = omega arith in
    ap (λ l. filter p (range_with_len 0 l)) (sym e) ∙ ap (filter p) (range-append 0 n (m - n)) ∙ filter-append p (range_with_len 0 n) rest
    ∙ ap (λ ys. filter p (range_with_len 0 n) ++ ys) none ∙ append-nil (filter p (range_with_len 0 n))
  where
    p : ℕ → Bool
    p = meets_at area boxes

    rest : List ℕ
    rest = range_with_len (0 + n) (m - n)

    fails : (k : ℕ) → n ≤ k → k < m → p k ≡ false
    fails k after before = elim (cases_lt k (length boxes)) [
      | inl less ↦ meets_at-within area boxes k no_box less ∙ apart k no_box after before
      | inr past ↦ meets_at-past area boxes k past
    ]

    none : filter p rest ≡ []
    none = filter_none p rest (λ j d l.
        let short : j < m - n = omega (arith, length-range_with_len (0 + n) (m - n), l) in
        ap p (get_or-range_with_len (0 + n) (m - n) j d short) ∙ fails (0 + n + j) (omega arith) (omega arith))

pub found_first : (area : Window) (boxes : List Window) (at : ℕ) → IsNextNear area boxes 0 at → AreFound area boxes [] at
found_first area boxes at next = record {
  within = next.within;
  found = sym (none_between area boxes 0 at next.after next.apart);
  here = next.near;
}

-- one place more is one found
one_more : (area : Window) (boxes : List Window) (places : List ℕ) (at : ℕ) → at < length boxes → AreFound area boxes places at
    → filter (meets_at area boxes) (range_with_len 0 (at + 1)) ≡ places ++ at ∷ []
one_more area boxes places at less so_far =
    filter_push area boxes 0 at at no_box (omega arith) less
    ∙ ap (λ (b : Bool). filter (meets_at area boxes) (range_with_len 0 at) ++ cond b (at ∷ []) []) (so_far.here no_box less)
    ∙ ap (λ ys. ys ++ at ∷ []) (sym so_far.found)

pub found_next : (area : Window) (boxes : List Window) (places more : List ℕ) (at next : ℕ) → at < length boxes → AreFound area boxes places at
    → more ≡ places ++ at ∷ [] → IsNextNear area boxes (at + 1) next → AreFound area boxes more next
found_next area boxes places more at next less so_far pushed is = record {
  within = is.within;
  found = pushed ∙ sym (one_more area boxes places at less so_far) ∙ sym (none_between area boxes (at + 1) next is.after is.apart);
  here = is.near;
}

pub found_all : (area : Window) (boxes : List Window) (places : List ℕ) (at : ℕ) → length boxes ≤ at → AreFound area boxes places at → places ≡ near_boxes area boxes
found_all area boxes places at past so_far =
    so_far.found ∙ near_filtered area boxes at past

-- where another one comes there are more than those so far
pub found_many : (area : Window) (boxes : List Window) (places : List ℕ) (at : ℕ) → at < length boxes → AreFound area boxes places at → length places < length (near_boxes area boxes)
found_many area boxes places at less so_far =
    let n = length boxes in
    let p = meets_at area boxes in
    let e : at + 1 + (n - (at + 1)) ≡ n = omega arith in
    let split = sym (near_filtered area boxes n (omega arith)) ∙ ap (λ l. filter p (range_with_len 0 l)) (sym e) ∙ ap (filter p) (range-append 0 (at + 1) (n - (at + 1)))
    ∙ filter-append p (range_with_len 0 (at + 1)) (range_with_len (0 + (at + 1)) (n - (at + 1))) in
    let rest = filter p (range_with_len (0 + (at + 1)) (n - (at + 1))) in
    let count = ap length split ∙ length-append (filter p (range_with_len 0 (at + 1))) rest in
    let one = ap length (one_more area boxes places at less so_far) ∙ length-append places (at ∷ []) in
    omega (arith, count, one)
