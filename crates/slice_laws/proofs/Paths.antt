-- The segments of rows of points: of two rows that are joined, and of a row that is turned round.
use Rattle.std.proofs.Common.{◌≡◌, Bool, true, false, cond, nat_le, List, [], ◌∷◌, ◌++◌, map, length, drop, reverse, refl, sym, ap, ap₂, ◌∙◌, subst, inl, inr}
use Rattle.std.specs.Prelude.{flat_map}
use Rattle.std.proofs.lemmas.List.{reverse-append, append-nil}
use Rattle.tgap_model.specs.declared.geometry.Point.{Point}
use Rattle.tgap_model.specs.declared.geometry.Seg.{Seg}
use Rattle.tgap_model.specs.declared.base.BaseArc.{BaseArc}
use Rattle.tgap_model.specs.Removals.{path}
use Rattle.tgap_model.specs.Chains.{Link, Chain, first_point, last_point, arc_number, link_points, link_start, link_end, chain_points}
use Rattle.map_laws.proofs.ChainMembers.{Among}
use Rattle.map_laws.proofs.ChainWalks.{IsRow}

-- the segment the other way round
abbrev pub flip : Seg → Seg
flip s = record { a = s.b; b = s.a }

-- a row of points that has one
abbrev pub HasPoint : List Point → Type 0
HasPoint [] = ⊥
HasPoint (p ∷ points) = Unit {0}

-- a row of points that has a segment
pub has_point : (points : List Point) → nat_le 2 (length points) ≡ true → HasPoint points
has_point [] e = absurd cc
has_point (p ∷ points) e = tt

-- ---- joined rows

-- the segments of two rows of which the second begins where the first ends
pub path_joined : (ps qs : List Point) → HasPoint ps → HasPoint qs → last_point ps ≡ first_point qs → path (ps ++ drop 1 qs) ≡ path ps ++ path qs
path_joined [] qs h g e = absurd h
path_joined (p ∷ ps) [] h g e = absurd g
path_joined (p ∷ []) (q ∷ qs) h g e = ap (λ x. path (x ∷ qs)) e
path_joined (p ∷ r ∷ ps) (q ∷ qs) h g e = ap (λ ss. record { a = p; b = r } ∷ ss) (path_joined (r ∷ ps) (q ∷ qs) tt g e)

-- their ends
joined_first : (ps qs : List Point) → HasPoint ps → first_point (ps ++ qs) ≡ first_point ps
joined_first [] qs h = absurd h
joined_first (p ∷ ps) qs h = refl

joined_has_point : (ps qs : List Point) → HasPoint ps → HasPoint (ps ++ qs)
joined_has_point [] qs h = absurd h
joined_has_point (p ∷ ps) qs h = tt

-- ---- turned rows

pub reverse_cons : {A : Type 0} (x : A) (xs : List A) → reverse (x ∷ xs) ≡ reverse xs ++ x ∷ []
reverse_cons x xs = reverse-append (x ∷ []) xs

pub last_after : (ps : List Point) (p : Point) → last_point (ps ++ p ∷ []) ≡ p
last_after [] p = refl
last_after (q ∷ []) p = refl
last_after (q ∷ r ∷ ps) p = last_after (r ∷ ps) p

reverse_last : (p : Point) (ps : List Point) → last_point (reverse (p ∷ ps)) ≡ p
reverse_last p ps = ap last_point (reverse_cons p ps) ∙ last_after (reverse ps) p

after_has_point : (ps : List Point) (p : Point) → HasPoint (ps ++ p ∷ [])
after_has_point [] p = tt
after_has_point (q ∷ ps) p = tt

reverse_has_point : (ps : List Point) → HasPoint ps → HasPoint (reverse ps)
reverse_has_point [] h = absurd h
reverse_has_point (p ∷ ps) h = subst HasPoint (sym (reverse_cons p ps)) (after_has_point (reverse ps) p)

reverse_first : (ps : List Point) → HasPoint ps → first_point (reverse ps) ≡ last_point ps
reverse_first [] h = absurd h
reverse_first (p ∷ []) h = refl
reverse_first (p ∷ q ∷ ps) h =
    ap first_point (reverse_cons p (q ∷ ps)) ∙ joined_first (reverse (q ∷ ps)) (p ∷ []) (reverse_has_point (q ∷ ps) tt) ∙ reverse_first (q ∷ ps) tt

-- one more point
path_after : (ps : List Point) (p : Point) → HasPoint ps → path (ps ++ p ∷ []) ≡ path ps ++ record { a = last_point ps; b = p } ∷ []
path_after [] p h = absurd h
path_after (q ∷ []) p h = refl
path_after (q ∷ r ∷ ps) p h = ap (λ ss. record { a = q; b = r } ∷ ss) (path_after (r ∷ ps) p tt)

-- a row that is turned round has its segments turned round, the last first
pub path_reversed : (ps : List Point) → path (reverse ps) ≡ reverse (map flip (path ps))
path_reversed [] = refl
path_reversed (p ∷ []) = refl
path_reversed (p ∷ q ∷ ps) =
    ap path (reverse_cons p (q ∷ ps)) ∙ path_after (reverse (q ∷ ps)) p (reverse_has_point (q ∷ ps) tt)
    ∙ ap₂ (λ ss x. ss ++ record { a = x; b = p } ∷ []) (path_reversed (q ∷ ps)) (reverse_last q ps)
    ∙ sym (reverse_cons (record { a = q; b = p }) (map flip (path (q ∷ ps))))

-- ---- chains

module _ (arcs : List BaseArc) where
  -- the points of a link have its ends
  link_has_point : (d : Link) → HasPoint (arc_number arcs d.arc).points → HasPoint (link_points arcs d)
  link_has_point d h = by d.turned
    where
      by : (t : Bool) → HasPoint (cond t (reverse (arc_number arcs d.arc).points) (arc_number arcs d.arc).points)
      by true = reverse_has_point (arc_number arcs d.arc).points h
      by false = h

  reversed_last : (ps : List Point) → HasPoint ps → last_point (reverse ps) ≡ first_point ps
  reversed_last [] h = absurd h
  reversed_last (p ∷ ps) h = reverse_last p ps

  link_first : (d : Link) → HasPoint (arc_number arcs d.arc).points → first_point (link_points arcs d) ≡ link_start arcs d
  link_first d h = by d.turned
    where
      by : (t : Bool) → first_point (cond t (reverse (arc_number arcs d.arc).points) (arc_number arcs d.arc).points)
          ≡ cond t (last_point (arc_number arcs d.arc).points) (first_point (arc_number arcs d.arc).points)
      by true = reverse_first (arc_number arcs d.arc).points h
      by false = refl

  link_last : (d : Link) → HasPoint (arc_number arcs d.arc).points → last_point (link_points arcs d) ≡ link_end arcs d
  link_last d h = by d.turned
    where
      by : (t : Bool) → last_point (cond t (reverse (arc_number arcs d.arc).points) (arc_number arcs d.arc).points)
          ≡ cond t (first_point (arc_number arcs d.arc).points) (last_point (arc_number arcs d.arc).points)
      by true = reversed_last (arc_number arcs d.arc).points h
      by false = refl

  -- each link of the chain ends where the next one starts
  abbrev pub Meets : Link → Link → Type 0
  Meets d e = link_end arcs d ≡ link_start arcs e

  abbrev pub HasPoints : Chain → Type 0
  HasPoints chain = (d : Link) → Among d chain → HasPoint (arc_number arcs d.arc).points

  -- the points of a chain begin with those of its first link
  chain_begins : (d : Link) (chain : Chain) → HasPoint (link_points arcs d)
      → HasPoint (chain_points arcs (d ∷ chain)) × (first_point (chain_points arcs (d ∷ chain)) ≡ first_point (link_points arcs d))
  chain_begins d [] h = (h, refl)
  chain_begins d (e ∷ chain) h = (
    joined_has_point (link_points arcs d) (drop 1 (chain_points arcs (e ∷ chain))) h,
    joined_first (link_points arcs d) (drop 1 (chain_points arcs (e ∷ chain))) h,
  )

  -- and its segments are those of its links
  pub chain_path : (d : Link) (chain : Chain) → IsRow Meets (d ∷ chain) → HasPoints (d ∷ chain)
      → path (chain_points arcs (d ∷ chain)) ≡ flat_map (λ e. path (link_points arcs e)) (d ∷ chain)
  chain_path d [] r h = sym (append-nil (path (link_points arcs d)))
  chain_path d (e ∷ chain) r h =
      let begins = chain_begins e chain (link_has_point e (h e (inr (inl refl)))) in
      path_joined (link_points arcs d) (chain_points arcs (e ∷ chain)) (link_has_point d (h d (inl refl))) begins.0
      (link_last d (h d (inl refl)) ∙ r.0 ∙ sym (link_first e (h e (inr (inl refl)))) ∙ sym begins.1)
      ∙ ap (λ ss. path (link_points arcs d) ++ ss) (chain_path e chain r.1 (λ x m. h x (inr m)))
