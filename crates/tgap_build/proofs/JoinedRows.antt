-- The points into which the pieces of an edge cut it, put one behind the other again, are the points of the edge.
use Rattle.std.proofs.Common.{◌≡◌, inl, ℕ, ◌+◌, ◌-◌, ◌<◌, ◌≤◌, ◌&&◌, Bool, true, false, cond, nat_lt, List, [], ◌∷◌, ◌++◌, map, fold, take, drop, reverse, length, refl, sym, ap, ap₂, ◌∙◌, arith}
use Rattle.std.proofs.lemmas.Bool.{eqb-true}
use Rattle.std.proofs.lemmas.List.{reverse-reverse, length-take}
use Rattle.std.proofs.Math.Seq.{take-add, take-length}
use Rattle.lemmas.specs.Sorting.{is_sorted_by}
use Rattle.tgap_model.specs.declared.geometry.Point.{Point}
use Rattle.tgap_model.specs.declared.record.Piece.{Piece}
use Rattle.tgap_model.specs.Records.{ends_with_place}
use Rattle.map_laws.proofs.ChainMembers.{sorted_below}
use Rattle.point_rope.specs.Rows.{oriented, glued}
use Rattle.record_laws.specs.PieceLaws.{cut_points}
use Rattle.record_laws.proofs.Unswept.{cons_head, cons_tail}
use Rattle.tgap_build.specs.declared.joined.OldEdge.{OldEdge}

-- ---- rows of a list

-- the first places, and again the first of those
take_twice : {A : Type 0} (a b : ℕ) (xs : List A) → a ≤ b → b ≤ length xs → take a (take b xs) ≡ take a xs
take_twice a b xs l m =
    let more : b ≡ a + (b - a) = omega (arith, l) in
    let front : length (take a xs) ≡ a = omega (arith, length-take a xs, l, m) in
    ap (λ (n : ℕ). take a (take n xs)) more
    ∙ ap (take a) (take-add a (b - a) xs)
    ∙ first a (take a xs) (take (b - a) (drop a xs)) front
  where
    first : {A : Type 0} (n : ℕ) (ys zs : List A) → length ys ≡ n → take n (ys ++ zs) ≡ ys
    first n ys zs e = ap (λ (i : ℕ). take i (ys ++ zs)) (sym e) ∙ seam ys zs
      where
        seam : {A : Type 0} (ys zs : List A) → take (length ys) (ys ++ zs) ≡ ys
        seam [] zs = refl
        seam (y ∷ ys) zs = ap (λ ws. y ∷ ws) (seam ys zs)

-- what is taken up to one place and from it on to another
glue_next : (points : List Point) (first last : ℕ) → first < last → last < length points
    → glued (take (first + 1) points) (take (last + 1 - first) (drop first points)) ≡ take (last + 1) points
glue_next points first last l m =
    let long : length (take (first + 1) points) - 1 ≡ first = omega (arith, length-take (first + 1) points, l, m) in
    ap (λ (n : ℕ). take n (take (first + 1) points) ++ take (last + 1 - first) (drop first points)) long
    ∙ ap (λ (ps : List Point). ps ++ take (last + 1 - first) (drop first points)) (take_twice first (first + 1) points (omega arith) (omega (arith, l, m)))
    ∙ sym (take-add first (last + 1 - first) points)
    ∙ ap (λ (n : ℕ). take n points) (omega (arith, l))

-- ---- places

-- the last of ascending places is the greatest
ends_last : (n k : ℕ) (places : List ℕ) → is_sorted_by nat_lt (k ∷ places) ≡ true → ends_with_place n (k ∷ places) ≡ true → k ≤ n
ends_last n k [] sorted ends = omega (arith, eqb-true k n ends)
ends_last n k (m ∷ places) sorted ends =
    let below = sorted_below (λ (i : ℕ). i) k (m ∷ places) m sorted (inl refl) in
    omega (arith, below, ends_last n m places (tail sorted) ends)
  where
    tail : is_sorted_by nat_lt (k ∷ m ∷ places) ≡ true → is_sorted_by nat_lt (m ∷ places) ≡ true
    tail s = and_right (nat_lt k m) (is_sorted_by nat_lt (m ∷ places)) s
      where
        and_right : (a b : Bool) → (a && b) ≡ true → b ≡ true
        and_right true b e = e
        and_right false b e = absurd cc

-- ---- pieces

abbrev last_places : List Piece → List ℕ
last_places pieces = map (λ (p : Piece). p.last) pieces

-- the points from place to place, as they stand in the edge
abbrev cuts : List Point → ℕ → List Piece → List (List Point)
cuts points first [] = []
cuts points first (p ∷ pieces) = take (p.last + 1 - first) (drop first points) ∷ cuts points p.last pieces

abbrev glue_all : List Point → List (List Point) → List Point
glue_all row rows = fold glued row rows

-- put behind what was taken up to the first place
glue_from : (points : List Point) (n first : ℕ) (pieces : List Piece) → n < length points → is_sorted_by nat_lt (first ∷ last_places pieces) ≡ true
    → ends_with_place n (first ∷ last_places pieces) ≡ true → fold glued (take (first + 1) points) (cuts points first pieces) ≡ take (n + 1) points
glue_from points n first [] l sorted ends = ap (λ (i : ℕ). take (i + 1) points) (eqb-true first n ends)
glue_from points n first (p ∷ pieces) l sorted ends =
    let below = sorted_below (λ (i : ℕ). i) first (p.last ∷ last_places pieces) p.last sorted (inl refl) in
    let rest = tail (nat_lt first p.last) (is_sorted_by nat_lt (p.last ∷ last_places pieces)) sorted in
    let most = ends_last n p.last (last_places pieces) rest ends in
    ap (λ (row : List Point). fold glued row (cuts points p.last pieces)) (glue_next points first p.last below (omega (arith, most, l)))
    ∙ glue_from points n p.last pieces l rest ends
  where
    tail : (a b : Bool) → (a && b) ≡ true → b ≡ true
    tail true b e = e
    tail false b e = absurd cc

-- and with nothing before them
glue_cuts : (points : List Point) (pieces : List Piece) → 0 < length points → is_sorted_by nat_lt (last_places pieces) ≡ true
    → ends_with_place (length points - 1) (last_places pieces) ≡ true → fold glued [] (cuts points 0 pieces) ≡ points
glue_cuts points [] l sorted ends = absurd cc
glue_cuts points (p ∷ pieces) l sorted ends =
    ap (λ (row : List Point). fold glued row (cuts points p.last pieces)) (ap (λ (n : ℕ). take n points) (omega arith))
    ∙ glue_from points (length points - 1) p.last pieces (omega (arith, l)) sorted ends
    ∙ ap (λ (n : ℕ). take n points) (omega (arith, l)) ∙ take-length points

-- ---- parts

back_again : (t : Bool) (points : List Point) → oriented t (cond t (reverse points) points) ≡ points
back_again true points = reverse-reverse points
back_again false points = refl

-- where each part has the points of its piece, turned as it is
cut_rows : (points : List Point) (first : ℕ) (pieces : List Piece) (parts : List OldEdge) (points_of : OldEdge → List Point)
    → map (λ (p : Piece). p.turned) pieces ≡ map (λ (p : OldEdge). p.turned) parts → cut_points points first pieces ≡ map points_of parts
    → map (λ (p : OldEdge). oriented p.turned (points_of p)) parts ≡ cuts points first pieces
cut_rows points first [] [] points_of turned cut = refl
cut_rows points first [] (q ∷ parts) points_of turned cut = absurd cc
cut_rows points first (p ∷ pieces) [] points_of turned cut = absurd cc
cut_rows points first (p ∷ pieces) (q ∷ parts) points_of turned cut =
    let here : List Point = take (p.last + 1 - first) (drop first points) in
    let head : List Point = cond p.turned (reverse here) here in
    let same : head ≡ points_of q = cons_head head (points_of q) (cut_points points p.last pieces) (map points_of parts) cut in
    let turn : p.turned ≡ q.turned = cons_head p.turned q.turned (map (λ (p : Piece). p.turned) pieces) (map (λ (p : OldEdge). p.turned) parts) turned in
    ap₂ (λ (row : List Point) (rows : List (List Point)). row ∷ rows)
    (ap₂ oriented (sym turn) (sym same) ∙ back_again p.turned here)
    (cut_rows points p.last pieces parts points_of (cons_tail p.turned q.turned (map (λ (p : Piece). p.turned) pieces) (map (λ (p : OldEdge). p.turned) parts) turned)
    (cons_tail head (points_of q) (cut_points points p.last pieces) (map points_of parts) cut))

fold_rows : (f : OldEdge → List Point) (row : List Point) (parts : List OldEdge) → fold (λ (row : List Point) (p : OldEdge). glued row (f p)) row parts ≡ fold glued row (map f parts)
fold_rows f row [] = refl
fold_rows f row (p ∷ parts) = fold_rows f (glued row (f p)) parts

pub joined_is : (points : List Point) (pieces : List Piece) (parts : List OldEdge) (points_of : OldEdge → List Point) → 0 < length points
    → map (λ (p : Piece). p.turned) pieces ≡ map (λ (p : OldEdge). p.turned) parts → cut_points points 0 pieces ≡ map points_of parts
    → is_sorted_by nat_lt (map (λ (p : Piece). p.last) pieces) ≡ true → ends_with_place (length points - 1) (map (λ (p : Piece). p.last) pieces) ≡ true
    → fold (λ (row : List Point) (p : OldEdge). glued row (oriented p.turned (points_of p))) [] parts ≡ points
joined_is points pieces parts points_of l turned cut sorted ends =
    fold_rows (λ (p : OldEdge). oriented p.turned (points_of p)) [] parts
    ∙ ap (fold glued []) (cut_rows points 0 pieces parts points_of turned cut)
    ∙ glue_cuts points pieces l sorted ends
