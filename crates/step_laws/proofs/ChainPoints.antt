-- The points of chains that are turned round or put together, and of rows of points less listed vertices.
use Rattle.std.proofs.Common.{◌≡◌, inl, inr, ◌≤◌, Bool, true, false, not, cond, List, [], ◌∷◌, ◌++◌, reverse, drop, length, append_assoc, refl, sym, ap, ◌∙◌, subst, arith}
use Rattle.std.proofs.lemmas.List.{append-nil, reverse-append, reverse-reverse}
use Rattle.tgap_model.specs.declared.geometry.Point.{Point}
use Rattle.tgap_model.specs.declared.base.BaseArc.{BaseArc}
use Rattle.tgap_model.specs.declared.slice.Removal.{Removal}
use Rattle.tgap_model.specs.Removals.{is_removed, without}
use Rattle.tgap_model.specs.Chains.{Link, Chain, first_point, last_point, arc_number, link_points, chain_points, has_links, turned_round}
use Rattle.map_laws.proofs.ChainMembers.{append_among}
use Rattle.map_laws.proofs.ChainWalks.{IsRow}
use Rattle.map_laws.proofs.ChainEnds.{turn}
use Rattle.map_laws.proofs.JoinPaths.{turned_cons, turned_links, turned_among, IsPath, Meets}
use Rattle.slice_laws.proofs.Paths.{reverse_cons}
use Rattle.removal_laws.proofs.Less.{without_append}
use Rattle.removal_laws.proofs.ChainEnds.{AreLong, chain_length, chain_first, link_last, link_length}

-- ---- rows of points

reverse_snoc : (xs : List Point) (x : Point) → reverse (xs ++ x ∷ []) ≡ x ∷ reverse xs
reverse_snoc xs x = reverse-append xs (x ∷ [])

-- a row is what stands before its last point, and this
before_last : (x : Point) (xs : List Point) → (ys : List Point) × (x ∷ xs ≡ ys ++ last_point (x ∷ xs) ∷ [])
before_last x [] = ([], refl)
before_last x (y ∷ xs) = let r = before_last y xs in (x ∷ r.0, ap (λ (ys : List Point). x ∷ ys) r.1)

-- two rows, of which the second starts where the first ends, turned round together
turned_seam : (xs ys : List Point) → 1 ≤ length xs → 1 ≤ length ys → last_point xs ≡ first_point ys
    → reverse ys ++ drop 1 (reverse xs) ≡ reverse (xs ++ drop 1 ys)
turned_seam [] ys l m e = absurd (omega arith)
turned_seam (x ∷ xs) [] l m e = absurd (omega arith)
turned_seam (x ∷ xs) (y ∷ ys) l m e = by (before_last x xs)
  where
    by : ((us : List Point) × (x ∷ xs ≡ us ++ last_point (x ∷ xs) ∷ [])) → reverse (y ∷ ys) ++ drop 1 (reverse (x ∷ xs)) ≡ reverse ((x ∷ xs) ++ ys)
    by (us, f) =
        let split : x ∷ xs ≡ us ++ y ∷ [] = f ∙ ap (λ (p : Point). us ++ p ∷ []) e in
        subst (λ (vs : List Point). reverse (y ∷ ys) ++ drop 1 (reverse vs) ≡ reverse (vs ++ ys)) (sym split)
        (ap (λ (vs : List Point). reverse (y ∷ ys) ++ drop 1 vs) (reverse_snoc us y)
        ∙ sym (reverse-append us (y ∷ ys))
        ∙ ap reverse (sym (append_assoc us (y ∷ []) ys)))

drop_append : (xs ys : List Point) → 1 ≤ length xs → drop 1 (xs ++ ys) ≡ drop 1 xs ++ ys
drop_append [] ys l = absurd (omega arith)
drop_append (x ∷ xs) ys l = refl

-- ---- rows less listed vertices

module _ (rs : List Removal) where
  pub without_reversed : (ps : List Point) → without rs (reverse ps) ≡ reverse (without rs ps)
  without_reversed [] = refl
  without_reversed (p ∷ ps) =
      ap (without rs) (reverse_cons p ps) ∙ without_append rs (reverse ps) (p ∷ [])
      ∙ ap (λ (qs : List Point). qs ++ without rs (p ∷ [])) (without_reversed ps) ∙ by (not (is_removed rs p))
    where
      by : (v : Bool) → reverse (without rs ps) ++ cond v (p ∷ []) [] ≡ reverse (cond v (p ∷ without rs ps) (without rs ps))
      by true = sym (reverse_cons p (without rs ps))
      by false = append-nil (reverse (without rs ps))

  pub without_first : (ps : List Point) → 1 ≤ length ps → is_removed rs (first_point ps) ≡ false → first_point (without rs ps) ≡ first_point ps
  without_first [] l e = absurd (omega arith)
  without_first (p ∷ ps) l e = ap (λ (v : Bool). first_point (cond (not v) (p ∷ without rs ps) (without rs ps))) e

  pub without_drop : (ps : List Point) → 1 ≤ length ps → is_removed rs (first_point ps) ≡ false → without rs (drop 1 ps) ≡ drop 1 (without rs ps)
  without_drop [] l e = absurd (omega arith)
  without_drop (p ∷ ps) l e = sym (ap (λ (v : Bool). drop 1 (cond (not v) (p ∷ without rs ps) (without rs ps))) e)

  pub without_last : (ps : List Point) → 1 ≤ length ps → is_removed rs (last_point ps) ≡ false
      → (1 ≤ length (without rs ps)) × (last_point (without rs ps) ≡ last_point ps)
  without_last [] l e = absurd (omega arith)
  without_last (p ∷ []) l e =
      subst (λ (v : Bool). (1 ≤ length (cond (not v) (p ∷ []) [])) × (last_point (cond (not v) (p ∷ []) []) ≡ p)) (sym e) (omega arith, refl)
  without_last (p ∷ q ∷ ps) l e = by (not (is_removed rs p)) (without rs (q ∷ ps)) (without_last (q ∷ ps) (omega arith) e)
    where
      by : (v : Bool) (ws : List Point) → (1 ≤ length ws) × (last_point ws ≡ last_point (q ∷ ps))
          → (1 ≤ length (cond v (p ∷ ws) ws)) × (last_point (cond v (p ∷ ws) ws) ≡ last_point (q ∷ ps))
      by v [] h = absurd (omega (arith, h.0))
      by true (w ∷ ws) h = (omega arith, h.1)
      by false (w ∷ ws) h = h

-- ---- chains

module _ (arcs : List BaseArc) where
  turn_points : (d : Link) → link_points arcs (turn d) ≡ reverse (link_points arcs d)
  turn_points d = by d.turned
    where
      points : List Point
      points = (arc_number arcs d.arc).points

      by : (t : Bool) → cond (not t) (reverse points) points ≡ reverse (cond t (reverse points) points)
      by true = sym (reverse-reverse points)
      by false = refl

  pub turned_long : (c : Chain) → AreLong arcs c → AreLong arcs (turned_round c)
  turned_long c long e m =
      let old = turned_among c e m in
      subst (λ (f : Link). 2 ≤ length (arc_number arcs f.arc).points) old.2 (long old.0 old.1)

  pub append_long : (c e : Chain) → AreLong arcs c → AreLong arcs e → AreLong arcs (c ++ e)
  append_long c e long other d m = elim (append_among c e d m) [ inl n ↦ long d n | inr n ↦ other d n ]

  -- two chains in a row
  pub append_points : (c e : Chain) → has_links c ≡ true → has_links e ≡ true → AreLong arcs c
      → chain_points arcs (c ++ e) ≡ chain_points arcs c ++ drop 1 (chain_points arcs e)
  append_points [] e h k long = absurd cc
  append_points (d ∷ []) [] h k long = absurd cc
  append_points (d ∷ []) (f ∷ e) h k long = refl
  append_points (d ∷ g ∷ c) e h k long =
      let rest : AreLong arcs (g ∷ c) = λ f m. long f (inr m) in
      let some : 1 ≤ length (chain_points arcs (g ∷ c)) = omega (arith, chain_length arcs (g ∷ c) refl rest) in
      ap (λ (ps : List Point). link_points arcs d ++ drop 1 ps) (append_points (g ∷ c) e refl k rest)
      ∙ ap (λ (ps : List Point). link_points arcs d ++ ps) (drop_append (chain_points arcs (g ∷ c)) (drop 1 (chain_points arcs e)) some)
      ∙ sym (append_assoc (link_points arcs d) (drop 1 (chain_points arcs (g ∷ c))) (drop 1 (chain_points arcs e)))

  -- a chain turned round
  turned_row : (J : Point → Type 0) (d : Link) (c : Chain) → IsRow (Meets arcs J) (d ∷ c) → AreLong arcs (d ∷ c)
      → chain_points arcs (turned_round (d ∷ c)) ≡ reverse (chain_points arcs (d ∷ c))
  turned_row J d [] r long = turn_points d
  turned_row J d (e ∷ c) r long =
      let rest : AreLong arcs (e ∷ c) = λ f m. long f (inr m) in
      ap (chain_points arcs) (turned_cons d (e ∷ c))
      ∙ append_points (turned_round (e ∷ c)) (turn d ∷ []) (turned_links (e ∷ c) refl) refl (turned_long (e ∷ c) rest)
      ∙ ap (λ (ps : List Point). ps ++ drop 1 (link_points arcs (turn d))) (turned_row J e c r.1 rest)
      ∙ ap (λ (ps : List Point). reverse (chain_points arcs (e ∷ c)) ++ drop 1 ps) (turn_points d)
      ∙ turned_seam (link_points arcs d) (chain_points arcs (e ∷ c)) (omega (arith, link_length arcs d (long d (inl refl))))
      (omega (arith, chain_length arcs (e ∷ c) refl rest))
      (link_last arcs d ∙ r.0.0 ∙ sym (chain_first arcs (e ∷ c) refl rest))

  pub turned_points : (J : Point → Type 0) (c : Chain) → IsPath arcs J c → AreLong arcs c
      → chain_points arcs (turned_round c) ≡ reverse (chain_points arcs c)
  turned_points J [] p long = refl
  turned_points J (d ∷ c) p long = turned_row J d c p.row long
