-- What a step does place by place, it does with all edges.
use Rattle.std.proofs.Common.{◌≡◌, ◌≢◌, ◌⊎◌, inl, inr, ℕ, zero, suc, ◌<◌, ◌==◌, ◌||◌, ◌&&◌, not, Bool, true, false, cond, List, [], ◌∷◌, ◌++◌, map, filter, fold, length, set, Contains, Option, Some, None, refl, sym, ap, ap₂, ◌∙◌, subst, eq-eqb, arith}
use Rattle.std.specs.Prelude.{option_to_list}
use Rattle.std.proofs.lemmas.Bool.{cases_eq, cases_lt, ne_eqb}
use Rattle.std.proofs.lemmas.List.{ext_get_or, get_or-set_same, get_or-set_other, get_or_past, length-set, length-map}
use Rattle.std.proofs.lemmas.List.Elements.{Contains-append_left, Contains-append_right, Contains-append_cases}
use Rattle.lemmas.proofs.Members.{in_head, in_tail, in_cases, in_none}
use Rattle.tgap_model.specs.declared.slice.Edge.{Edge}
use Rattle.tgap_model.specs.Removals.{has_side}
use Rattle.grid_index.specs.Keyed.{edge_in, edges_in, AreAtKeys}
use Rattle.tgap_build.specs.Table.{listed_at, moved_label, moved_edge, has_both, has_first, place_after, lists_after}

-- ---- places

abbrev pub visit : ℕ → ℕ → List (Option Edge) → ℕ → List (Option Edge)
visit from to places k = set places k (place_after from to (edge_in places k))

-- the places after these keys have been visited
abbrev pub visited : ℕ → ℕ → List (Option Edge) → List ℕ → List (Option Edge)
visited from to places keys = fold (visit from to) places keys

pub visited_length : (from to : ℕ) (places : List (Option Edge)) (keys : List ℕ) → length (visited from to places keys) ≡ length places
visited_length from to places [] = refl
visited_length from to places (k ∷ keys) = visited_length from to (visit from to places k) keys ∙ length-set places k (place_after from to (edge_in places k))

-- a place that was not visited is as before
pub unvisited : (from to : ℕ) (places : List (Option Edge)) (keys : List ℕ) (j : ℕ) → (Contains keys j → ⊥) → edge_in (visited from to places keys) j ≡ edge_in places j
unvisited from to places [] j out = refl
unvisited from to places (k ∷ keys) j out =
    unvisited from to (visit from to places k) keys j (λ c. out (in_tail k keys j c))
    ∙ get_or-set_other places k j (place_after from to (edge_in places k)) None (λ e. out (subst (Contains (k ∷ keys)) (sym e) (in_head k keys)))

mapped_at : (from to : ℕ) (places : List (Option Edge)) (i : ℕ) → edge_in (map (place_after from to) places) i ≡ place_after from to (edge_in places i)
mapped_at from to [] i = refl
mapped_at from to (x ∷ xs) zero = refl
mapped_at from to (x ∷ xs) (suc i) = mapped_at from to xs i

module _ (from to : ℕ) where
  stays_away : (l : ℕ) → (l == from) ≡ false → moved_label from to l ≡ l
  stays_away l e = ap (λ (b : Bool). cond b to l) e

  either_false : (a b : Bool) → (a || b) ≡ false → (a ≡ false) × (b ≡ false)
  either_false true b h = absurd cc
  either_false false true h = absurd cc
  either_false false false h = (refl, refl)

  -- an edge without the first label stays as it is
  pub without_first : (e : Edge) → has_side from e ≡ false → place_after from to (Some e) ≡ Some e
  without_first e h =
      let sides = either_false (e.left == from) (e.right == from) h in
      ap (λ (b : Bool). cond (b && has_side to e) None (Some (moved_edge from to e))) h
      ∙ ap₂ (λ (l r : ℕ). Some (record { key = e.key; left = l; right = r; points = e.points })) (stays_away e.left sides.0) (stays_away e.right sides.1)

-- one that was is as after the step, and so are all if the others have nothing of it
module _ (from to : ℕ) (apart : from ≢ to) where
  moved_away : (l : ℕ) → (moved_label from to l == from) ≡ false
  moved_away l = elim (cases_eq l from) [
    | inl e ↦ ap (λ (b : Bool). cond b to l == from) (eq-eqb l from e) ∙ ne_eqb to from (λ s. apart (sym s))
    | inr ne ↦ ap (λ (b : Bool). cond b to l == from) (ne_eqb l from ne) ∙ ne_eqb l from ne
  ]

  moved_without : (e : Edge) → has_side from (moved_edge from to e) ≡ false
  moved_without e = ap₂ (λ (a b : Bool). a || b) (moved_away e.left) (moved_away e.right)

  twice_same : (o : Option Edge) → place_after from to (place_after from to o) ≡ place_after from to o
  twice_same None = refl
  twice_same (Some e) = by (has_both from to e)
    where
      by : (b : Bool) → place_after from to (cond b None (Some (moved_edge from to e))) ≡ cond b None (Some (moved_edge from to e))
      by true = refl
      by false = without_first from to (moved_edge from to e) (moved_without e)

  visited_at : (places : List (Option Edge)) (keys : List ℕ) → ((k : ℕ) → Contains keys k → k < length places)
      → ((j : ℕ) (e : Edge) → edge_in places j ≡ Some e → (Contains keys j → ⊥) → has_side from e ≡ false)
      → (j : ℕ) → edge_in (visited from to places keys) j ≡ place_after from to (edge_in places j)
  visited_at places [] within others j = by (edge_in places j) refl
    where
      by : (o : Option Edge) → edge_in places j ≡ o → o ≡ place_after from to o
      by None is = refl
      by (Some e) is = sym (without_first from to e (others j e is (in_none j)))
  visited_at places (k ∷ keys) within others j =
      let here = get_or-set_same places k (place_after from to (edge_in places k)) None (within k (in_head k keys)) in
      let next = visit from to places k in
      let count = length-set places k (place_after from to (edge_in places k)) in
      let still : (j : ℕ) → j ≢ k → edge_in next j ≡ edge_in places j = λ j ne. get_or-set_other places k j (place_after from to (edge_in places k)) None ne in
      let rest = visited_at next keys (λ n c. let l = within n (in_tail k keys n c) in omega (arith, l, count)) (λ n e is out. elim (cases_eq n k) [
        | inl s ↦ has_gone (edge_in places k) e (sym (ap (edge_in next) s ∙ here) ∙ is)
        | inr ne ↦ others n e (sym (still n ne) ∙ is) (λ c. elim (in_cases k keys n c) [ inl s ↦ ne (sym s) | inr m ↦ out m ])
      ]) j in
      elim (cases_eq j k) [
        | inl s ↦ rest ∙ ap (place_after from to) (ap (edge_in next) s ∙ here) ∙ twice_same (edge_in places k) ∙ ap (λ (n : ℕ). place_after from to (edge_in places n)) (sym s)
        | inr ne ↦ rest ∙ ap (place_after from to) (still j ne)
      ]
    where
      has_gone : (o : Option Edge) (e : Edge) → place_after from to o ≡ Some e → has_side from e ≡ false
      has_gone None e is = absurd cc
      has_gone (Some f) e is = by (has_both from to f) is
        where
          by : (b : Bool) → cond b None (Some (moved_edge from to f)) ≡ Some e → has_side from e ≡ false
          by true is = absurd cc
          by false is = ap (has_side from) (sym (same (moved_edge from to f) e is)) ∙ moved_without f
            where
              same : (x y : Edge) → Some x ≡ Some y → x ≡ y
              same x y s = ap (λ (o : Option Edge). elim o [ None ↦ x | Some z ↦ z ]) s

  -- the places after the step
  pub visited_all : (places : List (Option Edge)) (keys : List ℕ) → ((k : ℕ) → Contains keys k → k < length places)
      → ((j : ℕ) (e : Edge) → edge_in places j ≡ Some e → (Contains keys j → ⊥) → has_side from e ≡ false)
      → visited from to places keys ≡ map (place_after from to) places
  visited_all places keys within others =
      ext_get_or None (visited from to places keys) (map (place_after from to) places)
      (visited_length from to places keys ∙ sym (length-map places (place_after from to)))
      (λ i l. visited_at places keys within others i ∙ sym (mapped_at from to places i))

-- the edges after the step
pub edges_after : (from to : ℕ) (places : List (Option Edge)) → edges_in (map (place_after from to) places) ≡ map (moved_edge from to) (filter (λ e. not (has_both from to e)) (edges_in places))
edges_after from to [] = refl
edges_after from to (None ∷ xs) = edges_after from to xs
edges_after from to (Some e ∷ xs) = by (has_both from to e) (edges_after from to xs)
  where
    by : (b : Bool) → edges_in (map (place_after from to) xs) ≡ map (moved_edge from to) (filter (λ e. not (has_both from to e)) (edges_in xs))
        → option_to_list (cond b None (Some (moved_edge from to e))) ++ edges_in (map (place_after from to) xs)
        ≡ map (moved_edge from to) (cond (not b) (e ∷ filter (λ e. not (has_both from to e)) (edges_in xs)) (filter (λ e. not (has_both from to e)) (edges_in xs)))
    by true h = h
    by false h = ap (λ (es : List Edge). moved_edge from to e ∷ es) h

pub keyed_after : (from to : ℕ) (places : List (Option Edge)) → AreAtKeys places → AreAtKeys (map (place_after from to) places)
keyed_after from to places h i e is = source (edge_in places i) refl (sym (mapped_at from to places i) ∙ is)
  where
    source : (o : Option Edge) → edge_in places i ≡ o → place_after from to o ≡ Some e → e.key ≡ i
    source None at s = absurd cc
    source (Some f) at s = by (has_both from to f) s
      where
        by : (b : Bool) → cond b None (Some (moved_edge from to f)) ≡ Some e → e.key ≡ i
        by true s = absurd cc
        by false s = ap (λ (o : Option Edge). elim o [ None ↦ 0 | Some g ↦ g.key ]) (sym s) ∙ h i f at

-- ---- lists

-- the lists after these keys have been visited, where the places were these
abbrev pub listing : ℕ → ℕ → List (Option Edge) → List (List ℕ) → List ℕ → List (List ℕ)
listing from to places lists keys = fold (λ ls k. lists_after from to k (edge_in places k) ls) lists keys

-- a label at which a key is listed has a list
pub listed_within : (lists : List (List ℕ)) (l n : ℕ) → Contains (listed_at lists l) n → l < length lists
listed_within lists l n c = elim (cases_lt l (length lists)) [
  | inl s ↦ s
  | inr z ↦ absurd (in_none n (subst (λ (ks : List ℕ). Contains ks n) (get_or_past lists l [] z) c))
]

-- one more key is listed, and the others stay
module _ (lists : List (List ℕ)) (t k : ℕ) where
  abbrev longer : List (List ℕ)
  longer = set lists t (listed_at lists t ++ k ∷ [])

  pub push_keeps : (l n : ℕ) → Contains (listed_at lists l) n → Contains (listed_at (set lists t (listed_at lists t ++ k ∷ [])) l) n
  push_keeps l n c = elim (cases_eq l t) [
    | inl e ↦ let at_t = subst (λ (m : ℕ). Contains (listed_at lists m) n) e c in
        subst (λ (ks : List ℕ). Contains ks n) (sym (ap (listed_at longer) e ∙ get_or-set_same lists t (listed_at lists t ++ k ∷ []) [] (listed_within lists t n at_t)))
        (Contains-append_left (listed_at lists t) (k ∷ []) n at_t)
    | inr ne ↦ subst (λ (ks : List ℕ). Contains ks n) (sym (get_or-set_other lists t l (listed_at lists t ++ k ∷ []) [] ne)) c
  ]

  pub push_there : t < length lists → Contains (listed_at (set lists t (listed_at lists t ++ k ∷ [])) t) k
  push_there l =
      subst (λ (ks : List ℕ). Contains ks k) (sym (get_or-set_same lists t (listed_at lists t ++ k ∷ []) [] l)) (Contains-append_right (listed_at lists t) (k ∷ []) k (in_head k []))

  pub push_from : (l n : ℕ) → Contains (listed_at (set lists t (listed_at lists t ++ k ∷ [])) l) n → Contains (listed_at lists l) n ⊎ (n ≡ k)
  push_from l n c = elim (cases_eq l t) [
    | inl e ↦
        let at_t = subst (λ (m : ℕ). Contains (listed_at longer m) n) e c in
        let within : t < length lists = omega (arith, listed_within longer t n at_t, length-set lists t (listed_at lists t ++ k ∷ [])) in
        elim (Contains-append_cases (listed_at lists t) (k ∷ []) n (subst (λ (ks : List ℕ). Contains ks n) (get_or-set_same lists t (listed_at lists t ++ k ∷ []) [] within) at_t)) [
          | inl old ↦ inl (subst (λ (m : ℕ). Contains (listed_at lists m) n) (sym e) old)
          | inr new ↦ elim (in_cases k [] n new) [ inl s ↦ inr (sym s) | inr m ↦ absurd (in_none n m) ]
        ]
    | inr ne ↦ inl (subst (λ (ks : List ℕ). Contains ks n) (get_or-set_other lists t l (listed_at lists t ++ k ∷ []) [] ne) c)
  ]

module _ (from to : ℕ) where
  after_length : (k : ℕ) (o : Option Edge) (lists : List (List ℕ)) → length (lists_after from to k o lists) ≡ length lists
  after_length k None lists = refl
  after_length k (Some e) lists = by (has_first from to e)
    where
      by : (b : Bool) → length (cond b (set lists to (listed_at lists to ++ k ∷ [])) lists) ≡ length lists
      by true = length-set lists to (listed_at lists to ++ k ∷ [])
      by false = refl

  after_keeps : (k : ℕ) (o : Option Edge) (lists : List (List ℕ)) (l n : ℕ) → Contains (listed_at lists l) n → Contains (listed_at (lists_after from to k o lists) l) n
  after_keeps k None lists l n c = c
  after_keeps k (Some e) lists l n c = by (has_first from to e)
    where
      by : (b : Bool) → Contains (listed_at (cond b (set lists to (listed_at lists to ++ k ∷ [])) lists) l) n
      by true = push_keeps lists to k l n c
      by false = c

  after_there : (k : ℕ) (e : Edge) (lists : List (List ℕ)) → has_first from to e ≡ true → to < length lists → Contains (listed_at (lists_after from to k (Some e) lists) to) k
  after_there k e lists h l =
      subst (λ (b : Bool). Contains (listed_at (cond b (set lists to (listed_at lists to ++ k ∷ [])) lists) to) k) (sym h) (push_there lists to k l)

  after_from : (k : ℕ) (o : Option Edge) (lists : List (List ℕ)) (l n : ℕ) → Contains (listed_at (lists_after from to k o lists) l) n → Contains (listed_at lists l) n ⊎ (n ≡ k)
  after_from k None lists l n c = inl c
  after_from k (Some e) lists l n c = by (has_first from to e) c
    where
      by : (b : Bool) → Contains (listed_at (cond b (set lists to (listed_at lists to ++ k ∷ [])) lists) l) n → Contains (listed_at lists l) n ⊎ (n ≡ k)
      by true c = push_from lists to k l n c
      by false c = inl c

  module _ (places : List (Option Edge)) where
    pub listing_length : (lists : List (List ℕ)) (keys : List ℕ) → length (listing from to places lists keys) ≡ length lists
    listing_length lists [] = refl
    listing_length lists (k ∷ keys) = listing_length (lists_after from to k (edge_in places k) lists) keys ∙ after_length k (edge_in places k) lists

    pub listing_keeps : (lists : List (List ℕ)) (keys : List ℕ) (l n : ℕ) → Contains (listed_at lists l) n → Contains (listed_at (listing from to places lists keys) l) n
    listing_keeps lists [] l n c = c
    listing_keeps lists (k ∷ keys) l n c = listing_keeps (lists_after from to k (edge_in places k) lists) keys l n (after_keeps k (edge_in places k) lists l n c)

    pub listing_there : (lists : List (List ℕ)) (keys : List ℕ) (k : ℕ) (e : Edge) → Contains keys k → edge_in places k ≡ Some e → has_first from to e ≡ true → to < length lists
        → Contains (listed_at (listing from to places lists keys) to) k
    listing_there lists [] k e c is h l = absurd (in_none k c)
    listing_there lists (j ∷ keys) k e c is h l = elim (in_cases j keys k c) [
      | inl s ↦ listing_keeps (lists_after from to j (edge_in places j) lists) keys to k
          (subst (λ (n : ℕ). Contains (listed_at (lists_after from to n (edge_in places n) lists) to) k) (sym s)
          (subst (λ (o : Option Edge). Contains (listed_at (lists_after from to k o lists) to) k) (sym is) (after_there k e lists h l)))
      | inr m ↦
          let count = after_length j (edge_in places j) lists in
          listing_there (lists_after from to j (edge_in places j) lists) keys k e m is h (omega (arith, l, count))
    ]

    pub listing_from : (lists : List (List ℕ)) (keys : List ℕ) (l n : ℕ) → Contains (listed_at (listing from to places lists keys) l) n → Contains (listed_at lists l) n ⊎ Contains keys n
    listing_from lists [] l n c = inl c
    listing_from lists (k ∷ keys) l n c = elim (listing_from (lists_after from to k (edge_in places k) lists) keys l n c) [
      | inl d ↦ elim (after_from k (edge_in places k) lists l n d) [
        | inl old ↦ inl old
        | inr s ↦ inr (subst (Contains (k ∷ keys)) (sym s) (in_head k keys))
      ]
      | inr m ↦ inr (in_tail k keys n m)
    ]
