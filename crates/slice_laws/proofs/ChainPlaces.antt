-- The pieces of the chains of a list: which chain and which place each stands at.
use Rattle.std.proofs.Common.{◌≡◌, inl, inr, ℕ, zero, suc, ◌+◌, ◌<◌, ◌≤◌, Bool, true, false, cond, ◌==◌, List, [], ◌∷◌, length, refl, sym, ap, ap₂, ◌∙◌, subst, eq-eqb, arith, if◌then◌else◌}
use Rattle.std.specs.Prelude.{count_by, flat_map}
use Rattle.std.specs.List.{list_any}
use Rattle.std.proofs.lemmas.Bool.{and_parts, eqb-true, cases_order}
use Rattle.std.proofs.lemmas.List.Sums.{sum_by-append}
use Rattle.tgap_model.specs.declared.segment.LabelledSegment.{LabelledSegment}
use Rattle.tgap_model.specs.Base.{BaseMap, is_base}
use Rattle.tgap_model.specs.Partition.{follows}
use Rattle.tgap_model.specs.Merged.{merged}
use Rattle.tgap_model.specs.Chains.{Link, Chain, border_numbers, are_chains}
use Rattle.map_laws.proofs.ChainMembers.{Among, AreDistinct, joined_among, among_counts}
use Rattle.map_laws.proofs.ChainWalks.{last_of}
use Rattle.map_laws.proofs.ChainEnds.{IsBorderLink}
use Rattle.map_laws.proofs.ChainLinks.{chains_count, chains_within, chains_whole}
use Rattle.slice_laws.proofs.BaseParts.{arc_has_segment}
use Rattle.slice_laws.proofs.Places.{At, at_among, at_only, at_once, is_row, next_at, at_last}
use Rattle.slice_laws.proofs.Blocks.{of_row, one_start, one_end, end_greatest, place_once}
use Rattle.slice_laws.proofs.Pieces.{IsNextInLink, Piece, piece, IsFront, IsBack, block, pieces, IsNextPiece, ArePieces, chain_pieces, piece_from, pieces_distinct}

-- members of two lists at different places that pass a test are counted twice
two_counted : {A : Type 0} (p : A → Bool) (xss : List (List A)) (i j : ℕ) (xs ys : List A) (x y : A) → At xss i xs → At xss j ys → i < j → Among x xs
    → Among y ys
    → p x ≡ true → p y ≡ true → 2 ≤ count_by p (flat_map (λ c. c) xss)
two_counted p [] i j xs ys x y a b l m n e f = absurd a
two_counted {A} p (zs ∷ xss) zero zero xs ys x y a b l m n e f = absurd (omega arith)
two_counted {A} p (zs ∷ xss) zero (suc j) xs ys x y a b l m n e f = omega (
  arith,
  sum_by-append (λ z. cond {A = ℕ} (p z) 1 0) zs (flat_map (λ c. c) xss),
  among_counts p zs x (subst (Among x) (sym a) m) e,
  among_counts p (flat_map (λ c. c) xss) y (joined_among xss ys y (at_among xss j ys b) n) f,
)
two_counted {A} p (zs ∷ xss) (suc i) zero xs ys x y a b l m n e f = absurd (omega arith)
two_counted {A} p (zs ∷ xss) (suc i) (suc j) xs ys x y a b l m n e f =
    omega (arith, sum_by-append (λ z. cond {A = ℕ} (p z) 1 0) zs (flat_map (λ c. c) xss), two_counted p xss i j xs ys x y a b (omega arith) m n e f)

-- a piece is its link and its segment
pub piece_same : (p q : Piece) → p.link ≡ q.link → p.base ≡ q.base → p ≡ q
piece_same p q e f = ap₂ piece e f

module _ (m : BaseMap) (base : is_base m ≡ true) (k : ℕ) (cs : List Chain) (t : are_chains (merged m) k cs ≡ true) where
  -- ---- what is known of a chain of the list

  pub record IsKnownChain (c : Chain) : Type 0 where
    pub from : Link
    pub to : Link
    pub are : ArePieces m k from to (pieces m c)
    pub distinct : AreDistinct (pieces m c)
    pub once : (x y : Link) → Among x c → Among y c → x.arc ≡ y.arc → x ≡ y
    pub border : (x : Link) → Among x c → IsBorderLink (merged m) k x

  known_chain : (c : Chain) → Among c cs → IsKnownChain c
  known_chain c n =
      let w = chains_whole (merged m) k cs t c n in
      subst IsKnownChain (sym w.2) (record {
        from = w.0;
        to = last_of w.0 w.1;
        are = chain_pieces m k w.0 w.1 w.3.row (λ e o. arc_has_segment m base e.arc (w.3.border e o).within);
        distinct = pieces_distinct m k (w.0 ∷ w.1) w.3.distinct;
        once = w.3.once;
        border = w.3.border;
      })

  -- chains that share an arc stand at one place
  same_chain : (i j : ℕ) (c e : Chain) (x y : Link) → At cs i c → At cs j e → Among x c → Among y e → x.arc ≡ y.arc → (i ≡ j) × (c ≡ e)
  same_chain i j c e x y a b n o s = (place, at_only cs j c e (subst (λ n. At cs n c) place a) b)
    where
      within : x.arc < length m.arcs
      within = chains_within (merged m) k cs t x (joined_among cs c x (at_among cs i c a) n)

      at_most : (b : Bool) (n : ℕ) → n ≡ (if b then 1 else 0) → n ≤ 1
      at_most true n e = omega arith
      at_most false n e = omega arith

      few : count_by (λ (d : Link). d.arc == x.arc) (flat_map (λ c. c) cs) ≤ 1
      few = at_most (list_any (λ j. j == x.arc) (border_numbers (merged m) k)) _ (chains_count (merged m) k cs t x.arc within)

      place : i ≡ j
      place = elim (cases_order i j) [
        | inl same ↦ same
        | inr (inl less) ↦
            absurd (omega (arith, few, two_counted (λ (d : Link). d.arc == x.arc) cs i j c e x y a b less n o (eq-eqb x.arc x.arc refl) (eq-eqb y.arc x.arc (sym s))))
        | inr (inr more) ↦
            absurd (omega (arith, few, two_counted (λ (d : Link). d.arc == x.arc) cs j i e c y x b a more o n (eq-eqb y.arc x.arc (sym s)) (eq-eqb x.arc x.arc refl)))
      ]

  -- ---- a piece at a place

  pub record StandsAt (i n : ℕ) (c : Chain) (p : Piece) : Type 0 where
    pub chain : At cs i c
    pub piece : At (pieces m c) n p

  pub link_of : {i n : ℕ} {c : Chain} {p : Piece} → StandsAt i n c p → Among p.link c
  link_of {i} {n} {c} {p} s = (piece_from m k c p (at_among (pieces m c) n p s.piece)).0

  pub base_of : {i n : ℕ} {c : Chain} {p : Piece} → StandsAt i n c p → Among p.base (block m p.link.arc)
  base_of {i} {n} {c} {p} s = (piece_from m k c p (at_among (pieces m c) n p s.piece)).1

  pub known_of : {i n : ℕ} {c : Chain} {p : Piece} → StandsAt i n c p → IsKnownChain c
  known_of {i} {n} {c} {p} s = known_chain c (at_among cs i c s.chain)

  -- links of one arc are one
  pub one_link : {i n j o : ℕ} {c e : Chain} {p q : Piece} → StandsAt i n c p → StandsAt j o e q → p.link.arc ≡ q.link.arc → p.link ≡ q.link
  one_link {i} {n} {j} {o} {c} {e} {p} {q} s u a =
      let same = same_chain i j c e p.link q.link s.chain u.chain (link_of s) (link_of u) a in
      (known_of s).once p.link q.link (link_of s) (subst (Among q.link) (sym same.1) (link_of u)) a

  -- one piece stands at one place
  pub one_place : {i n j o : ℕ} {c e : Chain} {p q : Piece} → StandsAt i n c p → StandsAt j o e q → p ≡ q → (i ≡ j) × (c ≡ e) × (n ≡ o)
  one_place {i} {n} {j} {o} {c} {e} {p} {q} s u f =
      let same = same_chain i j c e p.link q.link s.chain u.chain (link_of s) (link_of u) (ap (λ (x : Piece). x.link.arc) f) in
      (same.0, same.1, at_once (pieces m c) (known_of s).distinct n o p s.piece (subst (λ x. At (pieces m c) o x) (sym f) (subst (λ d. At (pieces m d) o q) (sym same.1) u.piece)))

  -- the front of a link is one piece, and so is its back
  pub front_once : {i n j o : ℕ} {c e : Chain} {p q : Piece} → StandsAt i n c p → StandsAt j o e q → p.link ≡ q.link → IsFront p → IsFront q → p ≡ q
  front_once {p = p} {q = q} s u f x y =
      piece_same p q f
      (by p.link.turned (base_of s) (subst (λ (d : Link). Among q.base (block m d.arc)) (sym f) (base_of u)) x (subst (λ (d : Link). cond d.turned q.base.ends q.base.starts ≡ true) (sym f) y))
    where
      by : (b : Bool) → Among p.base (block m p.link.arc) → Among q.base (block m p.link.arc) → cond b p.base.ends p.base.starts ≡ true
          → cond b q.base.ends q.base.starts ≡ true → p.base ≡ q.base
      by true m n e f = one_end _ _ _ 0 _ p.base q.base m n e f
      by false m n e f = one_start _ _ _ _ p.base q.base m n e f

  pub back_once : {i n j o : ℕ} {c e : Chain} {p q : Piece} → StandsAt i n c p → StandsAt j o e q → p.link ≡ q.link → IsBack p → IsBack q → p ≡ q
  back_once {p = p} {q = q} s u f x y =
      piece_same p q f
      (by p.link.turned (base_of s) (subst (λ (d : Link). Among q.base (block m d.arc)) (sym f) (base_of u)) x (subst (λ (d : Link). cond d.turned q.base.starts q.base.ends ≡ true) (sym f) y))
    where
      by : (b : Bool) → Among p.base (block m p.link.arc) → Among q.base (block m p.link.arc) → cond b p.base.starts p.base.ends ≡ true
          → cond b q.base.starts q.base.ends ≡ true → p.base ≡ q.base
      by true m n e f = one_start _ _ _ _ p.base q.base m n e f
      by false m n e f = one_end _ _ _ 0 _ p.base q.base m n e f

  -- no piece of a link is before its front, or after its back
  starts_none : (i : ℕ) (s u : LabelledSegment) → Among s (block m i) → Among u (block m i) → s.starts ≡ true → follows u s ≡ true → ⊥
  starts_none i s u x y e f =
      let a = of_row _ _ _ 0 _ s x in
      let zero_place : s.place ≡ 0 = eqb-true _ _ (sym a.starts ∙ e) in
      let next : u.place + 1 ≡ s.place = eqb-true _ _ (and_parts (u.arc == s.arc) (u.place + 1 == s.place) f).1 in
      omega arith

  ends_none : (i : ℕ) (s u : LabelledSegment) → Among s (block m i) → Among u (block m i) → s.ends ≡ true → follows s u ≡ true → ⊥
  ends_none i s u x y e f =
      let greatest = end_greatest _ _ _ 0 _ s u x y e in
      let next : s.place + 1 ≡ u.place = eqb-true _ _ (and_parts (s.arc == u.arc) (s.place + 1 == u.place) f).1 in
      omega arith

  pub front_first : (p q : Piece) → p.link ≡ q.link → Among p.base (block m p.link.arc) → Among q.base (block m q.link.arc) → IsFront q
      → IsNextInLink p q → ⊥
  front_first p q f x y u v =
      by p.link.turned x (subst (λ (d : Link). Among q.base (block m d.arc)) (sym f) y) (subst (λ (d : Link). cond d.turned q.base.ends q.base.starts ≡ true) (sym f) u) v
    where
      by : (b : Bool) → Among p.base (block m p.link.arc) → Among q.base (block m p.link.arc) → cond b q.base.ends q.base.starts ≡ true
          → cond b (follows q.base p.base) (follows p.base q.base) ≡ true → ⊥
      by true x y u v = ends_none p.link.arc q.base p.base y x u v
      by false x y u v = starts_none p.link.arc q.base p.base y x u v

  pub back_last : (p q : Piece) → p.link ≡ q.link → Among p.base (block m p.link.arc) → Among q.base (block m q.link.arc) → IsBack p
      → IsNextInLink p q → ⊥
  back_last p q f x y u v =
      by p.link.turned x (subst (λ (d : Link). Among q.base (block m d.arc)) (sym f) y) u v
    where
      by : (b : Bool) → Among p.base (block m p.link.arc) → Among q.base (block m p.link.arc) → cond b p.base.starts p.base.ends ≡ true
          → cond b (follows q.base p.base) (follows p.base q.base) ≡ true → ⊥
      by true x y u v = starts_none p.link.arc p.base q.base x y u v
      by false x y u v = ends_none p.link.arc p.base q.base x y u v

  -- two pieces that follow the same one in a link are one
  follow_once : (p q r : Piece) → p.link ≡ q.link → p.link ≡ r.link → Among q.base (block m q.link.arc) → Among r.base (block m r.link.arc)
      → IsNextInLink p q
      → IsNextInLink p r → q ≡ r
  follow_once p q r f g y z u v =
      piece_same q r (sym f ∙ g)
      (by p.link.turned (subst (λ (d : Link). Among q.base (block m d.arc)) (sym f) y) (subst (λ (d : Link). Among r.base (block m d.arc)) (sym g) z) u v)
    where
      number : (s u : LabelledSegment) → follows s u ≡ true → s.place + 1 ≡ u.place
      number s u f = eqb-true _ _ (and_parts (s.arc == u.arc) (s.place + 1 == u.place) f).1

      by : (b : Bool) → Among q.base (block m p.link.arc) → Among r.base (block m p.link.arc)
          → cond b (follows q.base p.base) (follows p.base q.base) ≡ true
          → cond b (follows r.base p.base) (follows p.base r.base) ≡ true → q.base ≡ r.base
      by true y z u v = place_once _ _ _ 0 _ q.base r.base y z (omega (arith, number q.base p.base u, number r.base p.base v))
      by false y z u v = place_once _ _ _ 0 _ q.base r.base y z (omega (arith, number p.base q.base u, number p.base r.base v))

  -- a piece that follows another one in their link stands at the next place
  pub follows_at : {i n j o : ℕ} {c e : Chain} {p q : Piece} → StandsAt i n c p → StandsAt j o e q → p.link ≡ q.link
      → IsNextInLink p q → (c ≡ e) × (o ≡ suc n)
  follows_at {i} {n} {j} {o} {c} {e} {p} {q} s u f v =
      elim (next_at (IsNextPiece m k) (pieces m c) n p (is_row (known_of s).are.row) s.piece) [
        | inl last ↦
            let w = (known_of s).are in
            absurd (back_last p q f (base_of s) (base_of u) (subst IsBack (sym (at_last w.row n p s.piece last)) w.back) v)
        | inr (r, at, inl (g, w)) ↦
            let there : StandsAt i (suc n) c r = record { chain = s.chain; piece = at } in
            let same = one_place there u (follow_once p r q g f (base_of there) (base_of u) w v) in
            (same.1, sym same.2)
        | inr (r, at, inr w) ↦ absurd (back_last p q f (base_of s) (base_of u) w.1 v)
      ]
