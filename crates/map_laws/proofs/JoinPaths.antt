-- Paths: chains of which each link ends where the next one starts, at a junction. Put together and turned round they stay paths.
use Rattle.std.proofs.Common.{◌≡◌, ◌⊎◌, inl, inr, ℕ, true, List, [], ◌∷◌, ◌++◌, map, sum_by, refl, sym, ap, ◌∙◌, subst, arith}
use Rattle.std.proofs.lemmas.List.{reverse-append}
use Rattle.std.proofs.lemmas.List.Sums.{sum_by-cons, sum_by-append}
use Rattle.tgap_model.specs.declared.geometry.Point.{Point}
use Rattle.tgap_model.specs.declared.base.BaseArc.{BaseArc}
use Rattle.tgap_model.specs.Chains.{Link, Chain, link_start, link_end, chain_start, chain_end, has_links, turned_round}
use Rattle.map_laws.proofs.ChainMembers.{Among, among_left, among_right, append_among}
use Rattle.map_laws.proofs.ChainWalks.{IsRow}
use Rattle.map_laws.proofs.ChainEnds.{turn, turn_start, turn_end}

-- the chain turned round, from its end on
pub turned_cons : (d : Link) (c : Chain) → turned_round (d ∷ c) ≡ turned_round c ++ turn d ∷ []
turned_cons d c = reverse-append (turn d ∷ []) (map turn c)

-- it has links where the chain has
pub turned_links : (c : Chain) → has_links c ≡ true → has_links (turned_round c) ≡ true
turned_links [] h = h
turned_links (d ∷ c) h = ap has_links (turned_cons d c) ∙ by (turned_round c)
  where
    by : (e : Chain) → has_links (e ++ turn d ∷ []) ≡ true
    by [] = refl
    by (f ∷ e) = refl

-- two chains in a row have links where the first has
pub append_links : (c e : Chain) → has_links c ≡ true → has_links (c ++ e) ≡ true
append_links [] e h = absurd cc
append_links (d ∷ c) e h = refl

-- what counts for an arc alone counts as much in the chain turned round
pub turned_sum : (f : ℕ → ℕ) (c : Chain) → sum_by (λ d. f d.arc) (turned_round c) ≡ sum_by (λ d. f d.arc) c
turned_sum f [] = refl
turned_sum f (d ∷ c) =
    let g : Link → ℕ = λ (d : Link). f d.arc in
    omega (
      arith,
      ap (sum_by g) (turned_cons d c),
      sum_by-append g (turned_round c) (turn d ∷ []),
      sum_by-cons g (turn d) [],
      sum_by-cons g d c,
      turned_sum f c,
    )

-- a link of the chain turned round is one of the chain, turned
pub turned_among : (c : Chain) (e : Link) → Among e (turned_round c) → (d : Link) × Among d c × (turn d ≡ e)
turned_among [] e m = absurd m
turned_among (d ∷ c) e m =
    elim (append_among (turned_round c) (turn d ∷ []) e (subst (Among e) (turned_cons d c) m)) [
      | inl n ↦ (let r = turned_among c e n in (r.0, inr r.1, r.2))
      | inr n ↦ elim n [ inl s ↦ (d, inl refl, s) | inr o ↦ absurd o ]
    ]

-- and each link, turned, is one of the chain turned round
pub among_turned : (c : Chain) (d : Link) → Among d c → Among (turn d) (turned_round c)
among_turned [] d m = m
among_turned (e ∷ c) d (inl s) =
    subst (Among (turn d)) (sym (turned_cons e c)) (among_right (turned_round c) (turn e ∷ []) (turn d) (inl (ap turn s)))
among_turned (e ∷ c) d (inr m) =
    subst (Among (turn d)) (sym (turned_cons e c)) (among_left (turned_round c) (turn e ∷ []) (turn d) (among_turned c d m))

module _ (arcs : List BaseArc) where
  -- ---- where chains start and end

  pub append_start : (c e : Chain) → has_links c ≡ true → chain_start arcs (c ++ e) ≡ chain_start arcs c
  append_start [] e h = absurd cc
  append_start (d ∷ c) e h = refl

  pub append_end : (c e : Chain) → has_links e ≡ true → chain_end arcs (c ++ e) ≡ chain_end arcs e
  append_end [] e h = refl
  append_end (d ∷ []) [] h = absurd cc
  append_end (d ∷ []) (f ∷ e) h = refl
  append_end (d ∷ g ∷ c) e h = append_end (g ∷ c) e h

  -- turned round it starts where it ended, and ends where it started
  pub turned_end : (c : Chain) → chain_end arcs (turned_round c) ≡ chain_start arcs c
  turned_end [] = refl
  turned_end (d ∷ c) = ap (chain_end arcs) (turned_cons d c) ∙ append_end (turned_round c) (turn d ∷ []) refl ∙ turn_end arcs d

  pub turned_start : (c : Chain) → chain_start arcs (turned_round c) ≡ chain_end arcs c
  turned_start [] = refl
  turned_start (d ∷ []) = turn_start arcs d
  turned_start (d ∷ e ∷ c) =
      ap (chain_start arcs) (turned_cons d (e ∷ c))
      ∙ append_start (turned_round (e ∷ c)) (turn d ∷ []) (turned_links (e ∷ c) refl)
      ∙ turned_start (e ∷ c)

  -- ---- paths

  -- the link d ends where e starts, at a junction
  abbrev pub Meets : (Point → Type 0) → Link → Link → Type 0
  Meets J d e = (link_end arcs d ≡ link_start arcs e) × J (link_end arcs d)

  -- a chain of links, each of which ends where the next one starts, at a junction
  pub record IsPath (J : Point → Type 0) (c : Chain) : Type 0 where
    pub links : has_links c ≡ true
    pub row : IsRow (Meets J) c

  -- other names for the junctions
  row_named : (J K : Point → Type 0) → ((p : Point) → J p → K p) → (c : Chain) → IsRow (Meets J) c → IsRow (Meets K) c
  row_named J K on [] r = tt
  row_named J K on (d ∷ []) r = tt
  row_named J K on (d ∷ e ∷ c) r = ((r.0.0, on (link_end arcs d) r.0.1), row_named J K on (e ∷ c) r.1)

  pub path_named : (J K : Point → Type 0) → ((p : Point) → J p → K p) → (c : Chain) → IsPath J c → IsPath K c
  path_named J K on c p = record { links = p.links; row = row_named J K on c p.row }

  -- two rows in a row, where the first ends at the start of the second
  row_append : (J : Point → Type 0) (c e : Chain) → IsRow (Meets J) c → IsRow (Meets J) e → chain_end arcs c ≡ chain_start arcs e
      → J (chain_end arcs c) → IsRow (Meets J) (c ++ e)
  row_append J [] e r s m j = s
  row_append J (d ∷ []) [] r s m j = tt
  row_append J (d ∷ []) (f ∷ e) r s m j = ((m, j), s)
  row_append J (d ∷ g ∷ c) e r s m j = (r.0, row_append J (g ∷ c) e r.1 s m j)

  pub path_append : (J : Point → Type 0) (c e : Chain) → IsPath J c → IsPath J e → chain_end arcs c ≡ chain_start arcs e → J (chain_end arcs c)
      → IsPath J (c ++ e)
  path_append J c e p q m j = record { links = append_links c e p.links; row = row_append J c e p.row q.row m j }

  row_turned : (J : Point → Type 0) (c : Chain) → IsRow (Meets J) c → IsRow (Meets J) (turned_round c)
  row_turned J [] r = tt
  row_turned J (d ∷ []) r = tt
  row_turned J (d ∷ e ∷ c) r =
      let ends : chain_end arcs (turned_round (e ∷ c)) ≡ link_end arcs d = turned_end (e ∷ c) ∙ sym r.0.0 in
      subst (IsRow (Meets J)) (sym (turned_cons d (e ∷ c)))
      (row_append J (turned_round (e ∷ c)) (turn d ∷ []) (row_turned J (e ∷ c) r.1) tt (ends ∙ sym (turn_start arcs d)) (subst J (sym ends) r.0.1))

  -- turned round a path is a path
  pub path_turned : (J : Point → Type 0) (c : Chain) → IsPath J c → IsPath J (turned_round c)
  path_turned J c p = record { links = turned_links c p.links; row = row_turned J c p.row }

  -- each link starts where the path does, or at a junction
  pub path_starts : (J : Point → Type 0) (c : Chain) → IsPath J c → (d : Link) → Among d c
      → (chain_start arcs c ≡ link_start arcs d) ⊎ J (link_start arcs d)
  path_starts J c p d m = by c p.row m
    where
      by : (c : Chain) → IsRow (Meets J) c → Among d c → (chain_start arcs c ≡ link_start arcs d) ⊎ J (link_start arcs d)
      by [] r n = absurd n
      by (e ∷ c) r (inl s) = inl (ap (link_start arcs) s)
      by (e ∷ []) r (inr n) = absurd n
      by (e ∷ f ∷ c) r (inr n) = elim (by (f ∷ c) r.1 n) [ inl s ↦ inr (subst J (r.0.0 ∙ s) r.0.1) | inr j ↦ inr j ]

  -- a row through the junctions of two kinds
  row_both : (J K : Point → Type 0) (c : Chain) → IsRow (Meets J) c → IsRow (Meets K) c → IsRow (Meets (λ q. J q × K q)) c
  row_both J K [] r s = tt
  row_both J K (d ∷ []) r s = tt
  row_both J K (d ∷ e ∷ c) r s = ((r.0.0, (r.0.1, s.0.1)), row_both J K (e ∷ c) r.1 s.1)

  -- a path through both is a path through what they imply together
  pub path_both : (J K L : Point → Type 0) → ((p : Point) → J p → K p → L p) → (c : Chain) → IsPath J c → IsPath K c → IsPath L c
  path_both J K L on c p q =
      path_named (λ r. J r × K r) L (λ r b. on r b.0 b.1) c (record { links = p.links; row = row_both J K c p.row q.row })
