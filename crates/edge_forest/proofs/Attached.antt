-- Chains put together: their keys, directions and ends.
use Rattle.std.proofs.Common.{◌≡◌, ◌⊎◌, inl, inr, ℕ, zero, suc, ◌+◌, ◌*◌, ◌<◌, ◌≤◌, ◌==◌, ◌||◌, Bool, true, false, not, cond, List, [], ◌∷◌, ◌++◌, map, length, get_or, refl, sym, ap, ◌∙◌, subst, arith}
use Rattle.std.proofs.lemmas.Bool.{or_left, ne_eqb, not_from_false}
use Rattle.std.proofs.Math.Seq.{get_or-append_seam}
use Rattle.std.proofs.lemmas.List.{get_or_append_left, length-append, length-map, length-reverse}
use Rattle.tgap_model.specs.declared.geometry.Point.{Point}
use Rattle.tgap_model.specs.declared.base.BaseArc.{BaseArc}
use Rattle.tgap_model.specs.Chains.{first_point, last_point, arc_number, Link, Chain, link_start, link_end, chain_start, chain_end, key, is_directed, has_links, turned_round}
use Rattle.map_laws.proofs.ChainMembers.{Among, all_among, append_among, among_left, among_right}
use Rattle.map_laws.proofs.Lists.{all_from}
use Rattle.map_laws.proofs.ChainEnds.{turn}
use Rattle.map_laws.proofs.JoinPaths.{turned_cons, turned_links, append_links}
use Rattle.map_laws.proofs.JoinTests.{key_low, key_of, turned_key}
use Rattle.edge_forest.specs.declared.net.Current.{Current}
use Rattle.edge_forest.specs.Rows.{end_points, link_first, link_last, first_end, last_end, IsRow, turned_if, attached, outer_end, joined_row}

-- ---- keys and directions

-- the key is the number of an arc, and no more than that of any
key_is : (c : Chain) (n : ℕ) → has_links c ≡ true → ((e : Link) → Among e c → n ≤ e.arc) → (e : Link) → Among e c → e.arc ≡ n → key c ≡ n
key_is c n h low e m s = let k = key_of c h in omega (arith, key_low c e m, low k.0 k.1, k.2, s)

turned_if_links : (t : Bool) (c : Chain) → has_links c ≡ true → has_links (turned_if t c) ≡ true
turned_if_links true c h = turned_links c h
turned_if_links false c h = h

turned_if_key : (t : Bool) (c : Chain) → has_links c ≡ true → key (turned_if t c) ≡ key c
turned_if_key true c h = turned_key c h
turned_if_key false c h = refl

module _ (a b : Chain) (ha : has_links a ≡ true) (hb : has_links b ≡ true) (less : key a < key b) (directed : is_directed a ≡ true) where
  -- the arcs of both in a row
  abbrev Has : Chain → Type 0
  Has c = (e : Link) → Among e c → Among e a ⊎ Among e b

  row_key : (c : Chain) → has_links c ≡ true → Has c → ((e : Link) → Among e a → Among e c) → key c ≡ key a
  row_key c h has from =
      let k = key_of a ha in
      key_is c (key a) h (λ e m. elim (has e m) [ inl n ↦ key_low a e n | inr n ↦ omega (arith, key_low b e n, less) ]) k.0 (from k.0 k.1) k.2

  row_directed : (c : Chain) → key c ≡ key a → Has c → is_directed c ≡ true
  row_directed c same has = all_from (λ d. not (d.arc == key c) || not d.turned) c (λ d m. elim (has d m) [
    | inl n ↦ subst (λ (k : ℕ). (not (d.arc == k) || not d.turned) ≡ true) (sym same) (all_among (λ d. not (d.arc == key a) || not d.turned) a d directed n)
    | inr n ↦ or_left _ (not d.turned) (not_from_false _ (ne_eqb d.arc (key c) (λ e. absurd (omega (arith, e, same, key_low b d n, less)))))
  ])

  pub before_key : key (a ++ b) ≡ key a
  before_key = row_key (a ++ b) (append_links a b ha) (append_among a b) (λ e m. among_left a b e m)

  pub after_key : key (b ++ a) ≡ key a
  after_key = row_key (b ++ a) (append_links b a hb) (λ e m. elim (append_among b a e m) [ inl n ↦ inr n | inr n ↦ inl n ]) (λ e m. among_right b a e m)

  pub before_directed : is_directed (a ++ b) ≡ true
  before_directed = row_directed (a ++ b) before_key (append_among a b)

  pub after_directed : is_directed (b ++ a) ≡ true
  after_directed = row_directed (b ++ a) after_key (λ e m. elim (append_among b a e m) [ inl n ↦ inr n | inr n ↦ inl n ])

-- ---- lengths

some_links : (c : Chain) → has_links c ≡ true → 0 < length c
some_links [] h = absurd cc
some_links (d ∷ c) h = omega arith

turned_if_length : (t : Bool) (c : Chain) → length (turned_if t c) ≡ length c
turned_if_length true c = length-reverse (map turn c) ∙ length-map c turn
turned_if_length false c = refl

-- a chain with another at an end is longer
pub attached_longer : (ea eb : Bool) (a b : Chain) → has_links b ≡ true → length a < length (attached ea eb a b)
attached_longer true eb a b h = omega (arith, length-append a (turned_if eb b), turned_if_length eb b, some_links b h)
attached_longer false eb a b h = omega (arith, length-append (turned_if (not eb) b) a, turned_if_length (not eb) b, some_links b h)

-- ---- arc ends

turn_first : (d : Link) → link_first (turn d) ≡ link_last d
turn_first d = by d.turned
  where
    by : (t : Bool) → 2 * d.arc + cond (not t) 1 0 ≡ 2 * d.arc + cond t 0 1
    by true = refl
    by false = refl

turn_last : (d : Link) → link_last (turn d) ≡ link_first d
turn_last d = by d.turned
  where
    by : (t : Bool) → 2 * d.arc + cond (not t) 0 1 ≡ 2 * d.arc + cond t 1 0
    by true = refl
    by false = refl

append_first : (c e : Chain) → has_links c ≡ true → first_end (c ++ e) ≡ first_end c
append_first [] e h = absurd cc
append_first (d ∷ c) e h = refl

append_last : (c e : Chain) → has_links e ≡ true → last_end (c ++ e) ≡ last_end e
append_last [] e h = refl
append_last (d ∷ []) [] h = absurd cc
append_last (d ∷ []) (f ∷ e) h = refl
append_last (d ∷ g ∷ c) e h = append_last (g ∷ c) e h

turned_last : (c : Chain) → last_end (turned_round c) ≡ first_end c
turned_last [] = refl
turned_last (d ∷ c) = ap last_end (turned_cons d c) ∙ append_last (turned_round c) (turn d ∷ []) refl ∙ turn_last d

turned_first : (c : Chain) → first_end (turned_round c) ≡ last_end c
turned_first [] = refl
turned_first (d ∷ []) = turn_first d
turned_first (d ∷ e ∷ c) =
    ap first_end (turned_cons d (e ∷ c)) ∙ append_first (turned_round (e ∷ c)) (turn d ∷ []) (turned_links (e ∷ c) refl) ∙ turned_first (e ∷ c)

-- ---- the row of a joined edge

module _ (chains : List Chain) (i j : ℕ) (r s : Current) (one : IsRow chains i r) (other : IsRow chains j s) (less : i < j) (ea eb : Bool) where
  abbrev a : Chain
  a = get_or chains r.id []

  abbrev b : Chain
  b = get_or chains s.id []

  abbrev pub new_chain : Chain
  new_chain = attached ea eb (get_or chains r.id []) (get_or chains s.id [])

  key_less : (t : Bool) → key a < key (turned_if t b)
  key_less t = omega (arith, turned_if_key t b other.links, one.key, other.key)

  pub new_links : has_links (attached ea eb (get_or chains r.id []) (get_or chains s.id [])) ≡ true
  new_links = by ea
    where
      by : (ea : Bool) → has_links (attached ea eb a b) ≡ true
      by true = append_links a (turned_if eb b) one.links
      by false = append_links (turned_if (not eb) b) a (turned_if_links (not eb) b other.links)

  pub new_key : key (attached ea eb (get_or chains r.id []) (get_or chains s.id [])) ≡ i
  new_key = by ea ∙ one.key
    where
      by : (ea : Bool) → key (attached ea eb a b) ≡ key a
      by true = before_key a (turned_if eb b) one.links (turned_if_links eb b other.links) (key_less eb) one.directed
      by false = after_key a (turned_if (not eb) b) one.links (turned_if_links (not eb) b other.links) (key_less (not eb)) one.directed

  new_directed : is_directed (attached ea eb a b) ≡ true
  new_directed = by ea
    where
      by : (ea : Bool) → is_directed (attached ea eb a b) ≡ true
      by true = before_directed a (turned_if eb b) one.links (turned_if_links eb b other.links) (key_less eb) one.directed
      by false = after_directed a (turned_if (not eb) b) one.links (turned_if_links (not eb) b other.links) (key_less (not eb)) one.directed

  outer_last : (eb : Bool) → last_end (turned_if eb b) ≡ outer_end eb s
  outer_last true = turned_last b ∙ sym other.first
  outer_last false = sym other.last

  outer_first : (eb : Bool) → first_end (turned_if (not eb) b) ≡ outer_end eb s
  outer_first true = sym other.first
  outer_first false = turned_first b ∙ sym other.last

  new_first : (joined_row ea eb (length chains) r s).first ≡ first_end (attached ea eb a b)
  new_first = by ea
    where
      by : (ea : Bool) → cond ea r.first (outer_end eb s) ≡ first_end (attached ea eb a b)
      by true = one.first ∙ sym (append_first a (turned_if eb b) one.links)
      by false = sym (append_first (turned_if (not eb) b) a (turned_if_links (not eb) b other.links) ∙ outer_first eb)

  new_last : (joined_row ea eb (length chains) r s).last ≡ last_end (attached ea eb a b)
  new_last = by ea
    where
      by : (ea : Bool) → cond ea (outer_end eb s) r.last ≡ last_end (attached ea eb a b)
      by true = sym (append_last a (turned_if eb b) (turned_if_links eb b other.links) ∙ outer_last eb)
      by false = one.last ∙ sym (append_last (turned_if (not eb) b) a one.links)

  -- it is a row with the lesser key
  pub new_row : IsRow (chains ++ attached ea eb (get_or chains r.id []) (get_or chains s.id []) ∷ []) i (joined_row ea eb (length chains) r s)
  new_row =
      let at : get_or (chains ++ attached ea eb a b ∷ []) (length chains) [] ≡ attached ea eb a b
      = get_or-append_seam chains (attached ea eb a b) [] [] in
      record {
        id = longer chains (attached ea eb a b);
        links = ap has_links at ∙ new_links;
        key = ap key at ∙ new_key;
        directed = ap is_directed at ∙ new_directed;
        first = new_first ∙ sym (ap first_end at);
        last = new_last ∙ sym (ap last_end at);
      }
    where
      longer : (cs : List Chain) (c : Chain) → length cs < length (cs ++ c ∷ [])
      longer [] c = omega arith
      longer (d ∷ cs) c = omega (arith, longer cs c)

-- a row stays one where chains are appended
pub row_stays : (chains more : List Chain) (i : ℕ) (r : Current) → IsRow chains i r → IsRow (chains ++ more) i r
row_stays chains more i r w =
    let same : get_or (chains ++ more) r.id [] ≡ get_or chains r.id [] = get_or_append_left chains more [] r.id w.id in
    record {
      id = longer chains more r.id w.id;
      links = ap has_links same ∙ w.links;
      key = ap key same ∙ w.key;
      directed = ap is_directed same ∙ w.directed;
      first = w.first ∙ sym (ap first_end same);
      last = w.last ∙ sym (ap last_end same);
    }
  where
    longer : (cs ds : List Chain) (n : ℕ) → n < length cs → n < length (cs ++ ds)
    longer [] ds n l = absurd (omega arith)
    longer (c ∷ cs) ds zero l = omega arith
    longer (c ∷ cs) ds (suc n) l = omega (arith, longer cs ds n (omega arith))

-- ---- the points of arc ends

module _ (arcs : List BaseArc) where
  -- the two ends of an arc
  pub ends_of : (i : ℕ) (d : Point) → i < length arcs
      → (get_or (end_points arcs) (2 * i) d ≡ first_point (arc_number arcs i).points) × (get_or (end_points arcs) (2 * i + 1) d ≡ last_point (arc_number arcs i).points)
  ends_of i d l = by arcs i l
    where
      twice : (i : ℕ) → 2 * suc i ≡ suc (suc (2 * i))
      twice i = omega arith

      twice_more : (i : ℕ) → 2 * suc i + 1 ≡ suc (suc (2 * i + 1))
      twice_more i = omega arith

      by : (arcs : List BaseArc) (i : ℕ) → i < length arcs
          → (get_or (end_points arcs) (2 * i) d ≡ first_point (arc_number arcs i).points) × (get_or (end_points arcs) (2 * i + 1) d ≡ last_point (arc_number arcs i).points)
      by [] i l = absurd (omega arith)
      by (a ∷ arcs) zero l = (refl, refl)
      by (a ∷ arcs) (suc i) l =
          let r = by arcs i (omega arith) in (
            ap (λ (n : ℕ). get_or (end_points (a ∷ arcs)) n d) (twice i) ∙ r.0,
            ap (λ (n : ℕ). get_or (end_points (a ∷ arcs)) n d) (twice_more i) ∙ r.1,
          )

  link_first_point : (e : Link) (d : Point) → e.arc < length arcs → get_or (end_points arcs) (link_first e) d ≡ link_start arcs e
  link_first_point e d l = by e.turned
    where
      by : (t : Bool) → get_or (end_points arcs) (2 * e.arc + cond t 1 0) d ≡ cond t (last_point (arc_number arcs e.arc).points) (first_point (arc_number arcs e.arc).points)
      by true = (ends_of e.arc d l).1
      by false = ap (λ (n : ℕ). get_or (end_points arcs) n d) (omega arith) ∙ (ends_of e.arc d l).0

  link_last_point : (e : Link) (d : Point) → e.arc < length arcs → get_or (end_points arcs) (link_last e) d ≡ link_end arcs e
  link_last_point e d l = by e.turned
    where
      by : (t : Bool) → get_or (end_points arcs) (2 * e.arc + cond t 0 1) d ≡ cond t (first_point (arc_number arcs e.arc).points) (last_point (arc_number arcs e.arc).points)
      by true = ap (λ (n : ℕ). get_or (end_points arcs) n d) (omega arith) ∙ (ends_of e.arc d l).0
      by false = (ends_of e.arc d l).1

  -- the points at which a chain starts and ends
  pub first_point_of : (c : Chain) (d : Point) → has_links c ≡ true → ((e : Link) → Among e c → e.arc < length arcs)
      → get_or (end_points arcs) (first_end c) d ≡ chain_start arcs c
  first_point_of [] d h l = absurd cc
  first_point_of (e ∷ c) d h l = link_first_point e d (l e (inl refl))

  pub last_point_of : (c : Chain) (d : Point) → has_links c ≡ true → ((e : Link) → Among e c → e.arc < length arcs)
      → get_or (end_points arcs) (last_end c) d ≡ chain_end arcs c
  last_point_of [] d h l = absurd cc
  last_point_of (e ∷ []) d h l = link_last_point e d (l e (inl refl))
  last_point_of (e ∷ f ∷ c) d h l = last_point_of (f ∷ c) d refl (λ g m. l g (inr m))
