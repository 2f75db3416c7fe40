-- The ends of chains: the second point of an arc from either end, and the chains of a slice.
use Rattle.std.proofs.Common.{◌≡◌, ◌<◌, ◌≤◌, ◌-◌, ℕ, zero, suc, Bool, true, false, if◌then◌else◌, List, [], ◌∷◌, length, map, reverse, get_or, inl, inr, refl, sym, ap, ap₂, ◌∙◌, subst, true≢false, arith}
use Rattle.std.proofs.lemmas.List.{get_or-reverse, length-reverse, get_or-map, length-map, get_or_default}
use Rattle.std.proofs.lemmas.List.Sums.{AllPass-from_list_all}
use Rattle.tgap_model.specs.declared.geometry.Point.{Point}
use Rattle.tgap_model.specs.declared.base.BaseArc.{BaseArc}
use Rattle.tgap_model.specs.Base.{BaseMap, is_arc, is_base}
use Rattle.tgap_model.specs.Merged.{merged}
use Rattle.tgap_model.specs.Chains.{Link, Chain, arc_number, link_points, chains_at}
use Rattle.edge_forest.specs.declared.walk.Link as walked
use Rattle.edge_forest.specs.Walks.{chain_link}
use Rattle.edge_forest.specs.declared.edge.ForestEdge.{ForestEdge}
use Rattle.edge_forest.specs.Edges.{chain_of}
use Rattle.tgap_model.proofs.BaseFacts.{arc_facts, base_facts}
use Rattle.map_laws.proofs.ChainMembers.{Among}
use Rattle.map_laws.proofs.Lists.{all_members}
use Rattle.map_laws.proofs.ChainLinks.{IsWholeChain, chains_whole}
use Rattle.map_laws.proofs.ChainsExist.{chains_exist}
use Rattle.slice_read.specs.Ends.{second_point, last_link, chain_ends, IsChainOf, HaveSegments}

-- ---- the second point

pub second_at : (points : List Point) (d : Point) → 2 ≤ length points → get_or points 1 d ≡ second_point points
second_at [] d l = absurd (omega arith)
second_at (p ∷ []) d l = absurd (omega arith)
second_at (p ∷ q ∷ points) d l = refl

pub second_back : (points : List Point) (d : Point) → 2 ≤ length points → get_or points (length points - 2) d ≡ second_point (reverse points)
second_back points d l =
    let back : length points - 1 - 1 ≡ length points - 2 = omega arith in
    ap (λ n. get_or points n d) (sym back) ∙ sym (get_or-reverse points 1 d (omega (arith, l)))
    ∙ second_at (reverse points) d (omega (arith, l, length-reverse points))

-- ---- arcs and chains of a map

pub have_segments : (m : BaseMap) → is_base m ≡ true → HaveSegments m.arcs
have_segments m h = λ k d l. (arc_facts (length m.classes) (get_or m.arcs k d) (AllPass-from_list_all (is_arc (length m.classes)) m.arcs (base_facts m h).arcs k d l)).two_points

among_at : {A : Type 0} (xs : List A) (i : ℕ) (d : A) → i < length xs → Among (get_or xs i d) xs
among_at [] i d l = absurd (omega arith)
among_at (x ∷ xs) zero d l = inl refl
among_at (x ∷ xs) (suc i) d l = inr (among_at xs i d (omega arith))

pub chain_of_map : (m : BaseMap) (k i : ℕ) (d : Chain) → i < length (chains_at (merged m) k) → IsChainOf m.arcs (get_or (chains_at (merged m) k) i d)
chain_of_map m k i d l =
    let cs = chains_at (merged m) k in
    let w = chains_whole (merged m) k cs (chains_exist (merged m) k) (get_or cs i d) (among_at cs i d l) in
    by w.0 w.1 w.2 w.3
  where
    by : (e : Link) (chain : Chain) → get_or (chains_at (merged m) k) i d ≡ e ∷ chain → IsWholeChain (merged m) k e chain → IsChainOf m.arcs (get_or (chains_at (merged m) k) i d)
    by e chain is whole = subst (IsChainOf m.arcs) (sym is) (record { some = refl; within = all_members (λ (f : Link). f.arc < length m.arcs) (e ∷ chain) (λ f a. (whole.border f a).within) })

-- ---- the points of a link

module _ (arcs : List BaseArc) (d : Link) (e : BaseArc) (within : d.arc < length arcs) where
  abbrev pub a : BaseArc
  a = get_or arcs d.arc e

  arc_is : arc_number arcs d.arc ≡ a
  arc_is = get_or_default arcs d.arc _ e within

  pub points_along : d.turned ≡ false → link_points arcs d ≡ a.points
  points_along f = ap (λ (b : Bool). if b then reverse (arc_number arcs d.arc).points else (arc_number arcs d.arc).points) f ∙ ap (λ (b : BaseArc). b.points) arc_is

  pub points_turned : d.turned ≡ true → link_points arcs d ≡ reverse a.points
  points_turned f = ap (λ (b : Bool). if b then reverse (arc_number arcs d.arc).points else (arc_number arcs d.arc).points) f ∙ ap (λ (b : BaseArc). reverse b.points) arc_is

  pub two_points : HaveSegments arcs → 2 ≤ length a.points
  two_points h = h d.arc e within

-- ---- links that were read

-- the link at a place of a chain of arcs
pub link_within : (arcs : List BaseArc) (links : List walked.Link) (i : ℕ) (e : walked.Link) → IsChainOf arcs (map chain_link links) → i < length links → (get_or links i e).arc < length arcs
link_within arcs links i e h l =
    subst (λ (d : Link). d.arc < length arcs) (get_or-map chain_link links i e (chain_link e) l) (h.within i (chain_link e) (omega (arith, l, length-map {A = walked.Link} {B = Link})))

-- there is one
pub some_link : (arcs : List BaseArc) (links : List walked.Link) → IsChainOf arcs (map chain_link links) → 1 ≤ length links
some_link arcs [] h = absurd (true≢false (sym h.some))
some_link arcs (d ∷ links) h = omega arith

-- the ends by the first and the last of them
pub ends_are : (arcs : List BaseArc) (links : List walked.Link) (e : walked.Link) (p q : Point) → 1 ≤ length links
    → p ≡ second_point (link_points arcs (chain_link (get_or links 0 e))) → q ≡ second_point (reverse (link_points arcs (chain_link (get_or links (length links - 1) e))))
    → record { after_first = p; before_last = q } ≡ chain_ends arcs (map chain_link links)
ends_are arcs [] e p q l f g = absurd (omega arith)
ends_are arcs (d ∷ links) e p q l f g =
    let last : length (d ∷ links) - 1 ≡ length links = omega arith in
    let at : chain_link (get_or (d ∷ links) (length links) e) ≡ last_link (chain_link d) (map chain_link links) = last_read d links e in
    ap₂ (λ (x y : Point). record { after_first = x; before_last = y }) f
    (g ∙ ap (λ n. second_point (reverse (link_points arcs (chain_link (get_or (d ∷ links) n e))))) last ∙ ap (λ (x : Link). second_point (reverse (link_points arcs x))) at)
  where
    last_read : (d : walked.Link) (links : List walked.Link) (e : walked.Link) → chain_link (get_or (d ∷ links) (length links) e) ≡ last_link (chain_link d) (map chain_link links)
    last_read d [] e = refl
    last_read d (f ∷ links) e = last_read f links e

-- a chain that is read of a forest is one of the map
pub read_chain : (m : BaseMap) (k : ℕ) (b : BaseMap) (edges : List ForestEdge) (ids read : List ℕ) (i : ℕ) → b ≡ m → map (chain_of edges) ids ≡ chains_at (merged b) k → read ≡ ids → i < length read
    → IsChainOf m.arcs (chain_of edges (get_or read i 0))
read_chain m k b edges ids read i same chains is inside =
    let all : map (chain_of edges) ids ≡ chains_at (merged m) k = chains ∙ ap (λ (a : BaseMap). chains_at (merged a) k) same in
    let short : i < length ids = subst (λ (r : List ℕ). i < length r) is inside in
    let long = length-map {A = ℕ} {B = Chain} in
    let within : i < length (chains_at (merged m) k) = subst (λ (cs : List Chain). i < length cs) all (omega (arith, short, long)) in
    subst (IsChainOf m.arcs)
    (ap (λ (cs : List Chain). get_or cs i []) (sym all) ∙ get_or-map (chain_of edges) ids i 0 [] short ∙ ap (λ (r : List ℕ). chain_of edges (get_or r i 0)) (sym is))
    (chain_of_map m k i [] within)
