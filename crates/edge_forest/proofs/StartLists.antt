-- What is made of the arcs one after the other: their end points, the keys at their faces, and the places of nodes.
use Rattle.std.proofs.Common.{◌≡◌, inl, inr, ℕ, zero, suc, ◌+◌, ◌-◌, ◌*◌, ◌<◌, ◌≤◌, ◌==◌, Bool, cond, List, [], ◌∷◌, ◌++◌, map, sum_by, count_by, length, take, get_or, set, refl, sym, ap, ap₂, ◌∙◌, subst, arith}
use Rattle.std.specs.Prelude.{Contains}
use Rattle.std.specs.List.{range_with_len}
use Rattle.std.proofs.Math.Seq.{take-suc}
use Rattle.std.proofs.lemmas.Bool.{cases_eq, eq-eqb, ne_eqb}
use Rattle.std.proofs.lemmas.List.{get_or-set_same, get_or-set_other, length-set, length-take-le}
use Rattle.std.proofs.lemmas.List.Concat.{flat_map-append}
use Rattle.std.proofs.lemmas.List.Elements.{Contains-append_left, Contains-push}
use Rattle.std.proofs.lemmas.List.FromFn.{sum_by-map-range_with_len_more}
use Rattle.std.proofs.lemmas.List.Sums.{sum_by_more, count_by-le-length}
use Rattle.tgap_model.specs.declared.geometry.Point.{Point}
use Rattle.tgap_model.specs.declared.base.BaseArc.{BaseArc}
use Rattle.tgap_model.specs.Chains.{first_point, last_point, arc_number}
use Rattle.edge_forest.specs.declared.nodes.Nodes.{Nodes}
use Rattle.edge_forest.specs.Net.{row_ends}
use Rattle.edge_forest.specs.Rows.{end_points}
use Rattle.edge_forest.specs.Growth.{keys_at}
use Rattle.edge_forest.specs.Start.{arc_row, IsKeyListed, AreKeysListed}
use Rattle.edge_forest.proofs.Nets.{at_place}

abbrev no_arc : BaseArc
no_arc = record { left = 0; right = 0; points = [] }

-- ---- end points

first_read : (points : List Point) (d : Point) → 0 < length points → get_or points 0 d ≡ first_point points
first_read [] d l = absurd (omega arith)
first_read (p ∷ points) d l = refl

last_read : (points : List Point) (n : ℕ) (d : Point) → n + 1 ≡ length points → get_or points n d ≡ last_point points
last_read [] n d e = absurd (omega arith)
last_read (p ∷ []) zero d e = refl
last_read (p ∷ []) (suc n) d e = absurd (omega arith)
last_read (p ∷ q ∷ points) zero d e = absurd (omega arith)
last_read (p ∷ q ∷ points) (suc n) d e = last_read (q ∷ points) n d (omega arith)

-- the points of one more arc
pub points_more : (arcs : List BaseArc) (i : ℕ) (a : BaseArc) (d : Point) (along : List Point) (one two three : List Point) → i < length arcs → a ≡ get_or arcs i a
    → along ≡ a.points → 2 ≤ length a.points → one ≡ end_points (take i arcs) → two ≡ one ++ get_or along 0 d ∷ []
    → three ≡ two ++ get_or along (length along - 1) d ∷ [] → three ≡ end_points (take (i + 1) arcs)
points_more arcs i a d along one two three l read same some e1 e2 e3 =
    e3 ∙ ap (λ (xs : List Point). xs ++ get_or along (length along - 1) d ∷ []) e2
    ∙ append_both one (get_or along 0 d) (get_or along (length along - 1) d)
    ∙ ap (λ (xs : List Point). xs ++ get_or along 0 d ∷ get_or along (length along - 1) d ∷ []) e1
    ∙ ap₂ (λ (p q : Point). end_points (take i arcs) ++ p ∷ q ∷ []) first last
    ∙ sym more
  where
    append_both : (xs : List Point) (p q : Point) → (xs ++ p ∷ []) ++ q ∷ [] ≡ xs ++ p ∷ q ∷ []
    append_both [] p q = refl
    append_both (x ∷ xs) p q = ap (λ (ys : List Point). x ∷ ys) (append_both xs p q)

    first : get_or along 0 d ≡ first_point a.points
    first = ap (λ (ps : List Point). get_or ps 0 d) same ∙ first_read a.points d (omega arith)

    last : get_or along (length along - 1) d ≡ last_point a.points
    last =
        ap (λ (ps : List Point). get_or ps (length ps - 1) d) same
        ∙ last_read a.points (length a.points - 1) d (omega arith)

    more : end_points (take (i + 1) arcs) ≡ end_points (take i arcs) ++ first_point a.points ∷ last_point a.points ∷ []
    more =
        let next : i + 1 ≡ suc i = omega arith in
        ap (λ (k : ℕ). end_points (take k arcs)) next
        ∙ ap end_points (take-suc arcs i a l ∙ ap (λ (b : BaseArc). take i arcs ++ b ∷ []) (sym read))
        ∙ flat_map-append (λ (a : BaseArc). first_point a.points ∷ last_point a.points ∷ []) (take i arcs) (a ∷ [])

-- ---- the keys at faces

-- what a list has it keeps where a key is put at the end of one, and that one has the key
module _ (faces : List (List ℕ)) (f i : ℕ) (l : f < length faces) where
  abbrev more : List (List ℕ)
  more = set faces f (get_or faces f [] ++ i ∷ [])

  set_here : keys_at more f ≡ keys_at faces f ++ i ∷ []
  set_here = get_or-set_same faces f (get_or faces f [] ++ i ∷ []) [] l

  still_listed : (g j : ℕ) → Contains (keys_at faces g) j → Contains (keys_at (set faces f (get_or faces f [] ++ i ∷ [])) g) j
  still_listed g j m = elim (cases_eq g f) [
    | inl e ↦
        subst (λ (ks : List ℕ). Contains ks j) (sym (ap (keys_at more) e ∙ set_here))
        (Contains-append_left (keys_at faces f) (i ∷ []) j (subst (λ (n : ℕ). Contains (keys_at faces n) j) e m))
    | inr ne ↦ subst (λ (ks : List ℕ). Contains ks j) (sym (get_or-set_other faces f g (get_or faces f [] ++ i ∷ []) [] ne)) m
  ]

  now_listed : Contains (keys_at (set faces f (get_or faces f [] ++ i ∷ [])) f) i
  now_listed = subst (λ (ks : List ℕ). Contains ks i) (sym set_here) (Contains-push (keys_at faces f) i)

-- one more arc is listed
pub listed_more : (arcs : List BaseArc) (i : ℕ) (a b : BaseArc) (faces one two : List (List ℕ)) → a ≡ arc_number arcs i → b ≡ arc_number arcs i
    → a.left < length faces → b.right < length faces → one ≡ set faces a.left (get_or faces a.left [] ++ i ∷ [])
    → two ≡ set one b.right (get_or one b.right [] ++ i ∷ []) → AreKeysListed arcs faces i → AreKeysListed arcs two (i + 1)
listed_more arcs i a b faces one two ra rb la lb e1 e2 listed = λ j k. elim (cases_eq j i) [
  | inl e ↦ here j e
  | inr ne ↦ let h = listed j (omega (arith, k, ne)) in record { left = kept (arc_number arcs j).left j h.left; right = kept (arc_number arcs j).right j h.right }
]
  where
    within : b.right < length one
    within = omega (arith, lb, ap length e1, length-set faces a.left (get_or faces a.left [] ++ i ∷ []))

    kept_one : (g j : ℕ) → Contains (keys_at faces g) j → Contains (keys_at one g) j
    kept_one g j m = subst (λ (fs : List (List ℕ)). Contains (keys_at fs g) j) (sym e1) (still_listed faces a.left i la g j m)

    kept_two : (g j : ℕ) → Contains (keys_at one g) j → Contains (keys_at two g) j
    kept_two g j m = subst (λ (fs : List (List ℕ)). Contains (keys_at fs g) j) (sym e2) (still_listed one b.right i within g j m)

    kept : (g j : ℕ) → Contains (keys_at faces g) j → Contains (keys_at two g) j
    kept g j m = kept_two g j (kept_one g j m)

    left : Contains (keys_at two (arc_number arcs i).left) i
    left =
        subst (λ (c : BaseArc). Contains (keys_at two c.left) i) ra
        (kept_two a.left i (subst (λ (fs : List (List ℕ)). Contains (keys_at fs a.left) i) (sym e1) (now_listed faces a.left i la)))

    right : Contains (keys_at two (arc_number arcs i).right) i
    right =
        subst (λ (c : BaseArc). Contains (keys_at two c.right) i) rb
        (subst (λ (fs : List (List ℕ)). Contains (keys_at fs b.right) i) (sym e2) (now_listed one b.right i within))

    here : (j : ℕ) → j ≡ i → IsKeyListed two j (arc_number arcs j)
    here j e = subst (λ (n : ℕ). IsKeyListed two n (arc_number arcs n)) (sym e) (record { left = left; right = right })

-- ---- the places of nodes

count_more : (node_of : List ℕ) (i g : ℕ) → i < length node_of
    → count_by (λ node. node == g) (take (i + 1) node_of) ≡ count_by (λ node. node == g) (take i node_of) + at_place (get_or node_of i 0) g
count_more node_of i g l = sum_by_more (λ node. cond (node == g) 1 0) node_of i 0 l

-- one more place
pub counts_more : (counts node_of : List ℕ) (i count v g : ℕ) → i < length node_of → v ≡ get_or counts (get_or node_of i 0) 0
    → get_or node_of i 0 < length counts → g < count
    → get_or counts g 0 ≡ count_by (λ node. node == g) (take i node_of)
    → get_or (set counts (get_or node_of i 0) (v + 1)) g 0 ≡ count_by (λ node. node == g) (take (i + 1) node_of)
counts_more counts node_of i count v g l e within k inv =
    let n = get_or node_of i 0 in
    elim (cases_eq g n) [
      | inl s ↦
          omega (
            arith,
            count_more node_of i g l,
            inv,
            e,
            s,
            ap (λ (m : ℕ). get_or counts m 0) s,
            ap (λ (m : ℕ). get_or (set counts n (v + 1)) m 0) s,
            get_or-set_same counts n (v + 1) 0 within,
            ap (λ (b : Bool). cond {A = ℕ} b 1 0) (eq-eqb n g (sym s)),
          )
      | inr ne ↦
          omega (
            arith,
            count_more node_of i g l,
            inv,
            get_or-set_other counts n g (v + 1) 0 ne,
            ap (λ (b : Bool). cond {A = ℕ} b 1 0) (ne_eqb n g (λ s. ne (sym s))),
          )
    ]

-- the ends of the first n rows at a node are its places among the first 2 n arc ends
pub ends_counted : (nodes : Nodes) (arcs : List BaseArc) (g n : ℕ) → 2 * n ≤ length nodes.node_of.items
    → sum_by (row_ends nodes g) (map (arc_row arcs) (range_with_len 0 n)) ≡ count_by (λ node. node == g) (take (2 * n) nodes.node_of.items)
ends_counted nodes arcs g zero l = refl
ends_counted nodes arcs g (suc n) l =
    let node_of = nodes.node_of.items in
    let next : suc n ≡ n + 1 = omega arith in
    let twice : 2 * suc n ≡ 2 * n + 1 + 1 = omega arith in
    omega (
      arith,
      ap (λ (k : ℕ). sum_by (row_ends nodes g) (map (arc_row arcs) (range_with_len 0 k))) next,
      sum_by-map-range_with_len_more (row_ends nodes g) (arc_row arcs) 0 n n (omega arith),
      ends_counted nodes arcs g n (omega arith),
      ap (λ (k : ℕ). count_by (λ node. node == g) (take k node_of)) twice,
      count_more node_of (2 * n) g (omega arith),
      count_more node_of (2 * n + 1) g (omega arith),
    )

-- a count so far is at most the number of places so far
pub count_few : (counts node_of : List ℕ) (i v : ℕ) → i < length node_of → v ≡ get_or counts (get_or node_of i 0) 0
    → get_or counts (get_or node_of i 0) 0 ≡ count_by (λ node. node == get_or node_of i 0) (take i node_of) → v ≤ i
count_few counts node_of i v l e inv =
    omega (arith, e, inv, count_by-le-length (λ node. node == get_or node_of i 0) (take i node_of), length-take-le i node_of (omega arith))
