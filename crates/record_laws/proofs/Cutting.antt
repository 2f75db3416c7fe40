-- Cutting a row of parts: where the links of each part are of one finer chain, and those of the next part of another, the runs are
-- the parts.
use Rattle.std.proofs.Common.{◌≡◌, inl, inr, ℕ, Bool, true, cond, List, [], ◌∷◌, ◌++◌, eq-eqb, ne_eqb, refl, sym, ap, ◌∙◌}
use Rattle.std.specs.Prelude.{flat_map}
use Rattle.tgap_model.specs.Chains.{Link, Chain, key, has_links}
use Rattle.tgap_model.specs.Records.{chain_of, in_front, runs}
use Rattle.map_laws.proofs.ChainMembers.{Among}

module _ (finer : List Chain) where
  -- the key of the finer chain that holds the arc of a link
  abbrev pub held : Link → ℕ
  held d = key (chain_of finer d.arc)

  -- all links are of the chain with this key
  abbrev pub IsOfOne : ℕ → Chain → Type 0
  IsOfOne n r = (e : Link) → Among e r → held e ≡ n

  -- the first link of the first part is of another one
  abbrev pub StartsApart : ℕ → List Chain → Type 0
  StartsApart n [] = Unit {0}
  StartsApart n ([] ∷ parts) = ⊥
  StartsApart n ((e ∷ r) ∷ parts) = held e ≡ n → ⊥

  -- each part has links, all of one chain, and the next part is of another one
  pub record IsCut (r : Chain) (parts : List Chain) : Type 0 where
    pub links : has_links r ≡ true
    pub one : ℕ
    pub held_by : IsOfOne one r
    pub apart : StartsApart one parts

  abbrev pub AreCut : List Chain → Type 0
  AreCut [] = Unit {0}
  AreCut (r ∷ parts) = IsCut r parts × AreCut parts

  -- a link in front of runs of which the first is of another chain
  front_apart : (d : Link) (n : ℕ) (parts : List Chain) → held d ≡ n → StartsApart n parts → in_front finer d parts ≡ (d ∷ []) ∷ parts
  front_apart d n [] e a = refl
  front_apart d n ([] ∷ parts) e a = absurd a
  front_apart d n ((f ∷ r) ∷ parts) e a =
      ap (λ (b : Bool). cond b ((d ∷ f ∷ r) ∷ parts) ((d ∷ []) ∷ (f ∷ r) ∷ parts)) (ne_eqb (held d) (held f) (λ s. a (sym s ∙ e)))

  -- and in front of a run of the same chain
  front_same : (d f : Link) (r : Chain) (parts : List Chain) → held d ≡ held f → in_front finer d ((f ∷ r) ∷ parts) ≡ (d ∷ f ∷ r) ∷ parts
  front_same d f r parts e =
      ap (λ (b : Bool). cond b ((d ∷ f ∷ r) ∷ parts) ((d ∷ []) ∷ (f ∷ r) ∷ parts)) (eq-eqb (held d) (held f) e)

  -- a part in front of the others
  cut_front : (n : ℕ) (d : Link) (r : Chain) (parts : List Chain) → IsOfOne n (d ∷ r) → StartsApart n parts
      → runs finer (flat_map (λ r. r) parts) ≡ parts → runs finer ((d ∷ r) ++ flat_map (λ r. r) parts) ≡ (d ∷ r) ∷ parts
  cut_front n d [] parts one apart rest = ap (in_front finer d) rest ∙ front_apart d n parts (one d (inl refl)) apart
  cut_front n d (e ∷ r) parts one apart rest =
      ap (in_front finer d) (cut_front n e r parts (λ f m. one f (inr m)) apart rest)
      ∙ front_same d e r parts (one d (inl refl) ∙ sym (one e (inr (inl refl))))

  pub cut_is : (parts : List Chain) → AreCut parts → runs finer (flat_map (λ r. r) parts) ≡ parts
  cut_is [] a = refl
  cut_is (r ∷ parts) a = by r a.0 (cut_is parts a.1)
    where
      by : (r : Chain) → IsCut r parts → runs finer (flat_map (λ r. r) parts) ≡ parts → runs finer (r ++ flat_map (λ r. r) parts) ≡ r ∷ parts
      by [] c rest = let none = c.links in absurd cc
      by (d ∷ r) c rest = cut_front c.one d r parts c.held_by c.apart rest
