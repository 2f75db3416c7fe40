-- What joined paths pass: the tests of one chain, in the direction of its least arc.
use Rattle.std.proofs.Common.{◌≡◌, ◌⊎◌, inl, inr, ℕ, ◌≤◌, ◌==◌, ◌&&◌, ◌||◌, Bool, true, false, not, cond, [], ◌∷◌, refl, sym, ap, ◌∙◌, subst, arith}
use Rattle.std.specs.Prelude.{count_by}
use Rattle.std.proofs.lemmas.Bool.{and_from, or_parts, or_left, or_right, not-false, not_from_false, not_from_true, eq-eqb, eqb-true}
use Rattle.tgap_model.specs.declared.geometry.Point.{Point}
use Rattle.tgap_model.specs.Base.{same_point}
use Rattle.tgap_model.specs.Merged.{MergedMap}
use Rattle.tgap_model.specs.Chains.{degree, joins_before, Link, Chain, link_start, link_end, chain_start, chain_end, key, is_joined, is_closed, is_maximal, is_anchored, is_directed, has_links, is_chain, turned_round, directed}
use Rattle.map_laws.proofs.ChainMembers.{Among, one_passes}
use Rattle.map_laws.proofs.Lists.{all_from, some_fails}
use Rattle.map_laws.proofs.ChainWalks.{IsRow}
use Rattle.tgap_model.proofs.Points.{same_point-true, same_point-from}
use Rattle.map_laws.proofs.ChainEnds.{turn}
use Rattle.map_laws.proofs.ChainLinks.{key_least, key_among}
use Rattle.map_laws.proofs.JoinPaths.{turned_among, among_turned, turned_links, turned_sum, turned_start, turned_end, Meets, IsPath, path_turned, path_starts}
use Rattle.map_laws.proofs.JoinSteps.{arc_sum}
use Rattle.map_laws.proofs.JoinOrder.{joins_before_order}

-- ---- keys and directions

-- the key is no more than the number of any arc, and is that of one
pub key_low : (c : Chain) (e : Link) → Among e c → key c ≤ e.arc
key_low [] e m = absurd m
key_low (d ∷ c) e m = key_least d c e m

pub key_of : (c : Chain) → has_links c ≡ true → (e : Link) × Among e c × (e.arc ≡ key c)
key_of [] h = absurd cc
key_of (d ∷ c) h = key_among d c

-- the chain turned round has the same key
pub turned_key : (c : Chain) → has_links c ≡ true → key (turned_round c) ≡ key c
turned_key c h =
    let low = key_of c h in
    let other = key_of (turned_round c) (turned_links c h) in
    let back = turned_among c other.0 other.1 in
    let same : back.0.arc ≡ other.0.arc = ap (λ (d : Link). d.arc) back.2 in
    omega (arith, key_low c back.0 back.1, key_low (turned_round c) (turn low.0) (among_turned c low.0 low.1), low.2, other.2)

-- where the arc of the key stands once, one of the two directions is that of the least arc
directed_is : (c : Chain) → has_links c ≡ true → count_by (λ d. d.arc == key c) c ≤ 1 → is_directed (directed c) ≡ true
directed_is c h once = by (is_directed c) refl
  where
    turned_is : is_directed c ≡ false → is_directed (turned_round c) ≡ true
    turned_is f =
        let bad = some_fails (λ d. not (d.arc == key c) || not d.turned) c f in
        let parts = or_parts (not (bad.0.arc == key c)) (not bad.0.turned) bad.2 in
        all_from (λ d. not (d.arc == key (turned_round c)) || not d.turned) (turned_round c)
        (λ e m. link e m bad.0 bad.1 (not-false _ parts.0) (not-false _ parts.1))
      where
        link : (e : Link) → Among e (turned_round c) → (b : Link) → Among b c → (b.arc == key c) ≡ true → b.turned ≡ true
            → (not (e.arc == key (turned_round c)) || not e.turned) ≡ true
        link e m b n s t = at (turned_among c e m)
          where
            at : ((d : Link) × Among d c × (turn d ≡ e)) → (not (e.arc == key (turned_round c)) || not e.turned) ≡ true
            at r =
                subst (λ (x : Link). (not (x.arc == key (turned_round c)) || not x.turned) ≡ true) r.2
                (subst (λ (n : ℕ). (not (r.0.arc == n) || not (not r.0.turned)) ≡ true) (sym (turned_key c h)) (least r.0 r.1 (r.0.arc == key c) refl))
              where
                least : (d : Link) → Among d c → (u : Bool) → (d.arc == key c) ≡ u → (not (d.arc == key c) || not (not d.turned)) ≡ true
                least d o false v = or_left _ (not (not d.turned)) (not_from_false _ v)
                least d o true v =
                    let same : d ≡ b = one_passes (λ (l : Link). l.arc == key c) c d b once o n v s in
                    or_right (not (d.arc == key c)) _ (not_from_false (not d.turned) (not_from_true d.turned (ap (λ (l : Link). l.turned) same ∙ t)))

    by : (b : Bool) → is_directed c ≡ b → is_directed (cond b c (turned_round c)) ≡ true
    by true e = e
    by false e = turned_is e

-- ---- one chain

-- A path through nodes of degree two that has no end alone at one, and whose junctions do not join later than where it closes.
pub record IsMaximalPath (h : MergedMap) (k : ℕ) (c : Chain) : Type 0 where
  pub path : IsPath h.base.arcs (λ q. degree h k q ≡ 2) c
  pub shut : (p : Point) → degree h k p ≡ 2 → (chain_start h.base.arcs c ≡ p) ⊎ (chain_end h.base.arcs c ≡ p)
      → (chain_start h.base.arcs c ≡ p) × (chain_end h.base.arcs c ≡ p)
  pub anchored : chain_start h.base.arcs c ≡ chain_end h.base.arcs c → degree h k (chain_start h.base.arcs c) ≡ 2
      → IsPath h.base.arcs (λ j. joins_before h k (chain_start h.base.arcs c) j ≡ false) c

module _ (h : MergedMap) (k : ℕ) where
  -- turned round it is one too
  turned_maximal : (c : Chain) → IsMaximalPath h k c → IsMaximalPath h k (turned_round c)
  turned_maximal c w =
      let start = turned_start h.base.arcs c in
      let end = turned_end h.base.arcs c in
      record {
        path = path_turned h.base.arcs (λ q. degree h k q ≡ 2) c w.path;
        shut = λ p two t.
            let both = w.shut p two (elim t [ inl s ↦ inr (sym start ∙ s) | inr s ↦ inl (sym end ∙ s) ]) in
            (start ∙ both.1, end ∙ both.0);
        anchored = λ closed two.
            let same : chain_start h.base.arcs c ≡ chain_end h.base.arcs c = sym end ∙ sym closed ∙ start in
            let begins : chain_start h.base.arcs c ≡ chain_start h.base.arcs (turned_round c) = same ∙ sym start in
            path_turned h.base.arcs (λ j. joins_before h k (chain_start h.base.arcs (turned_round c)) j ≡ false) c
            (subst (λ (q : Point). IsPath h.base.arcs (λ j. joins_before h k q j ≡ false) c) begins (w.anchored same (ap (degree h k) begins ∙ two)));
      }

  -- it passes the tests
  joined_from : (c : Chain) → IsRow (Meets h.base.arcs (λ q. degree h k q ≡ 2)) c → is_joined h k c ≡ true
  joined_from [] r = refl
  joined_from (d ∷ []) r = refl
  joined_from (d ∷ e ∷ c) r =
      and_from _ (is_joined h k (e ∷ c))
      (and_from (same_point (link_end h.base.arcs d) (link_start h.base.arcs e)) _ (same_point-from _ _ r.0.0)
      (eq-eqb (degree h k (link_end h.base.arcs d)) 2 r.0.1))
      (joined_from (e ∷ c) r.1)

  maximal_from : (c : Chain) → IsMaximalPath h k c → is_maximal h k c ≡ true
  maximal_from c w = by (degree h k (chain_start h.base.arcs c) == 2) refl (degree h k (chain_end h.base.arcs c) == 2) refl
    where
      by : (s : Bool) → (degree h k (chain_start h.base.arcs c) == 2) ≡ s → (t : Bool) → (degree h k (chain_end h.base.arcs c) == 2) ≡ t
          → is_maximal h k c ≡ true
      by true e t f =
          or_left (is_closed h.base.arcs c) _ (same_point-from _ _ (sym (w.shut (chain_start h.base.arcs c) (eqb-true _ 2 e) (inl refl)).1))
      by false e true f =
          or_left (is_closed h.base.arcs c) _ (same_point-from _ _ (w.shut (chain_end h.base.arcs c) (eqb-true _ 2 f) (inr refl)).0)
      by false e false f =
          or_right (is_closed h.base.arcs c) _ (and_from (not (degree h k (chain_start h.base.arcs c) == 2)) _ (not_from_false _ e) (not_from_false _ f))

  anchored_from : (c : Chain) → IsMaximalPath h k c → is_anchored h k c ≡ true
  anchored_from c w = by (is_closed h.base.arcs c) refl (degree h k (chain_start h.base.arcs c) == 2) refl
    where
      by : (s : Bool) → is_closed h.base.arcs c ≡ s → (t : Bool) → (degree h k (chain_start h.base.arcs c) == 2) ≡ t
          → is_anchored h k c ≡ true
      by false e t f =
          or_left (not (is_closed h.base.arcs c) || not (degree h k (chain_start h.base.arcs c) == 2)) _
          (or_left (not (is_closed h.base.arcs c)) (not (degree h k (chain_start h.base.arcs c) == 2)) (not_from_false _ e))
      by true e false f =
          or_left (not (is_closed h.base.arcs c) || not (degree h k (chain_start h.base.arcs c) == 2)) _
          (or_right (not (is_closed h.base.arcs c)) (not (degree h k (chain_start h.base.arcs c) == 2)) (not_from_false _ f))
      by true e true f =
          let path = w.anchored (same_point-true _ _ e) (eqb-true _ 2 f) in
          or_right (not (is_closed h.base.arcs c) || not (degree h k (chain_start h.base.arcs c) == 2)) _
          (all_from (λ d. not (joins_before h k (chain_start h.base.arcs c) (link_start h.base.arcs d))) c (λ d m.
          not_from_false _ (elim (path_starts h.base.arcs (λ j. joins_before h k (chain_start h.base.arcs c) j ≡ false) c path d m) [
            | inl s ↦ subst (λ (q : Point). joins_before h k (chain_start h.base.arcs c) q ≡ false) s
                ((joins_before_order h k).itself (chain_start h.base.arcs c) tt)
            | inr j ↦ j
          ])))

  -- a maximal path is one in the direction of its least arc too
  pub directed_maximal : (c : Chain) → IsMaximalPath h k c → IsMaximalPath h k (directed c)
  directed_maximal c w = by (is_directed c)
    where
      by : (b : Bool) → IsMaximalPath h k (cond b c (turned_round c))
      by true = w
      by false = turned_maximal c w

  tests_from : (c : Chain) → IsMaximalPath h k c → (has_links c && is_joined h k c && is_maximal h k c && is_anchored h k c) ≡ true
  tests_from c w =
      and_from (has_links c && is_joined h k c && is_maximal h k c) (is_anchored h k c)
      (and_from (has_links c && is_joined h k c) (is_maximal h k c)
      (and_from (has_links c) (is_joined h k c) w.path.links (joined_from c w.path.row))
      (maximal_from c w))
      (anchored_from c w)

  -- in the direction of its least arc it is a chain
  pub chain_from : (c : Chain) → IsMaximalPath h k c → count_by (λ d. d.arc == key c) c ≤ 1 → is_chain h k (directed c) ≡ true
  chain_from c w once =
      and_from (has_links (directed c) && is_joined h k (directed c) && is_maximal h k (directed c) && is_anchored h k (directed c)) (is_directed (directed c))
      (tests_from (directed c) (directed_maximal c w)) (directed_is c w.path.links once)

-- what counts for the arcs stays
pub directed_sum : (f : ℕ → ℕ) (c : Chain) → arc_sum f (directed c) ≡ arc_sum f c
directed_sum f c = by (is_directed c)
  where
    by : (b : Bool) → arc_sum f (cond b c (turned_round c)) ≡ arc_sum f c
    by true = refl
    by false = turned_sum f c

-- a chain with links has links in the direction of its least arc
pub directed_links : (c : Chain) → has_links c ≡ true → has_links (directed c) ≡ true
directed_links c h = by (is_directed c)
  where
    by : (b : Bool) → has_links (cond b c (turned_round c)) ≡ true
    by true = h
    by false = turned_links c h
