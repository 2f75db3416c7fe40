-- What is known of a step of the history of a planar partition, at its own number.
use Rattle.std.proofs.Common.{◌≡◌, ◌≢◌, ◌⊎◌, inl, inr, ℕ, ◌+◌, ◌-◌, ◌<◌, ◌≤◌, Bool, true, false, cond, [], ◌∷◌, length, refl, sym, ap, ◌∙◌, subst, arith}
use Rattle.std.specs.Prelude.{flat_map}
use Rattle.std.proofs.lemmas.Bool.{and_parts, leb-true}
use Rattle.tgap_model.specs.Base.{BaseMap, is_base}
use Rattle.tgap_model.specs.Partition.{IsPartition, base_segments}
use Rattle.tgap_model.specs.History.{relabel, history_of, IsNumberedStep}
use Rattle.tgap_model.specs.Merged.{MergedMap, merged, label_at, step_number}
use Rattle.tgap_model.specs.Chains.{Link, Chain, arc_number, key, has_links, turned_round, chains_at}
use Rattle.tgap_model.specs.Removals.{edge_of}
use Rattle.tgap_model.specs.Records.{runs}
use Rattle.tgap_model.specs.Slice.{left_of, right_of}
use Rattle.map_laws.specs.ChainLaws.{IsEven}
use Rattle.map_laws.proofs.ChainMembers.{Among, joined_among}
use Rattle.map_laws.proofs.ChainLinks.{chains_border}
use Rattle.map_laws.proofs.ChainsExist.{chains_exist}
use Rattle.map_laws.proofs.JoinTests.{key_of}
use Rattle.map_laws.proofs.Lists.{members_all}
use Rattle.slice_laws.proofs.EvenSides.{border_faces}
use Rattle.removal_laws.proofs.ChainEnds.{chain_links, chain_arcs}
use Rattle.step_laws.proofs.EdgesAlong.{HasSides, even_sides, turned_sides}
use Rattle.record_laws.specs.RunLaws.{chain_of_run, is_turned_run}
use Rattle.record_laws.proofs.FaceRows.{step_is, label_small}
use Rattle.record_laws.proofs.MapFacts.{numbered, based, even}
use Rattle.record_laws.proofs.Merging.{label_up, left_up, right_up, relabel_cases}
use Rattle.record_laws.proofs.StepRuns.{IsStepPart, part_member, part_links, part_chain, part_turned, run_part, runs_joined}
use Rattle.record_laws.proofs.WholeRuns.{one_run, one_chain}

module _ (m : BaseMap) (base : is_base m ≡ true) (planar : IsPartition (base_segments m)) (j : ℕ) (one : 1 ≤ j) (last : j ≤ length (history_of m)) where
  abbrev h : MergedMap
  h = merged m

  abbrev k : ℕ
  k = j - 1

  up : j - 1 + 1 ≡ j
  up = omega (arith, one)

  pub few : j - 1 < length (history_of m)
  few = omega (arith, one, last)

  member_up : (c : Chain) → Among c (chains_at h j) → Among c (chains_at h (k + 1))
  member_up c n = subst (λ (i : ℕ). Among c (chains_at h i)) (sym up) n

  -- ---- the step

  pub step_numbered : IsNumberedStep (length m.classes + (j - 1)) (step_number (merged m) j)
  step_numbered = subst (λ (i : ℕ). IsNumberedStep (length m.classes + k) (step_number h i)) up (step_is m base k few)

  pub label_next : (f : ℕ) → label_at (merged m) j f ≡ relabel (step_number (merged m) j) (label_at (merged m) (j - 1) f)
  label_next f = subst (λ (i : ℕ). label_at h i f ≡ relabel (step_number h i) (label_at h k f)) up (label_up h k few f)

  pub left_next : (d : Link) → left_of (merged m) j d ≡ relabel (step_number (merged m) j) (left_of (merged m) (j - 1) d)
  left_next d = subst (λ (i : ℕ). left_of h i d ≡ relabel (step_number h i) (left_of h k d)) up (left_up h k few d)

  pub right_next : (d : Link) → right_of (merged m) j d ≡ relabel (step_number (merged m) j) (right_of (merged m) (j - 1) d)
  right_next d = subst (λ (i : ℕ). right_of h i d ≡ relabel (step_number h i) (right_of h k d)) up (right_up h k few d)

  -- what becomes the new face was loser or winner
  pub made_from : (f : ℕ) → f ≤ length m.classes → relabel (step_number (merged m) j) (label_at (merged m) (j - 1) f) ≡ (step_number (merged m) j).made
      → (label_at (merged m) (j - 1) f ≡ (step_number (merged m) j).loser) ⊎ (label_at (merged m) (j - 1) f ≡ (step_number (merged m) j).winner)
  made_from f l e = elim (relabel_cases (step_number h j) (label_at h k f)) [
    | inr a ↦ a.1
    | inl a ↦ absurd (omega (arith, label_small m base k few f l, step_numbered.made, a, e))
  ]

  -- the faces of an arc are base faces
  pub arc_faces : (i : ℕ) → i < length m.arcs → ((arc_number m.arcs i).left ≤ length m.classes) × ((arc_number m.arcs i).right ≤ length m.classes)
  arc_faces i l =
      let b = and_parts _ _ (based m base planar i (record { left = 0; right = 0; points = [] }) l) in
      (leb-true _ _ b.0, leb-true _ _ b.1)

  -- the arc of a key is one of the map
  pub key_within : (i : ℕ) (c : Chain) → Among c (chains_at (merged m) i) → key c < length m.arcs
  key_within i c n =
      let low = key_of c (chain_links h i c n) in
      subst (λ (x : ℕ). x < length m.arcs) low.2 (chain_arcs h i c n low.0 low.1)

  -- ---- the faces at the sides of chains

  pub chain_sides : (i : ℕ) (c : Chain) → Among c (chains_at (merged m) i)
      → HasSides (merged m) i (edge_of (merged m) i [] c).left (edge_of (merged m) i [] c).right c
  chain_sides i c n = even_sides h i c (members_all (IsEven h i) (chains_at h i) c (even m base planar i) n)

  pub sides_apart : (c : Chain) → Among c (chains_at (merged m) j) → (edge_of (merged m) j [] c).left ≢ (edge_of (merged m) j [] c).right
  sides_apart c n =
      let low = key_of c (chain_links h j c n) in
      let border = chains_border h j (chains_at h j) (chains_exist h j) low.0 (joined_among (chains_at h j) c low.0 n low.1) in
      let sides = chain_sides j c n low.0 low.1 in
      λ e. border_faces h j low.0 border.border (sides.0 ∙ e ∙ sym sides.1)

  -- ---- the runs of a chain

  abbrev pub IsPartOf : Chain → Type 0
  IsPartOf r = IsStepPart (merged m) (j - 1) (numbered m base planar) few (based m base planar) (even m base planar (j - 1)) r

  pub run_is_part : (c : Chain) → Among c (chains_at (merged m) j) → (r : Chain) → Among r (runs (chains_at (merged m) (j - 1)) c) → IsPartOf r
  run_is_part c n r o = run_part h k (numbered m base planar) few (based m base planar) (even m base planar k) c (member_up c n) r o

  pub run_chain : (r : Chain) (p : IsPartOf r) → chain_of_run (chains_at (merged m) (j - 1)) r ≡ p.chain
  run_chain r p = part_chain h k (numbered m base planar) few (based m base planar) (even m base planar k) r p

  pub run_member : (r : Chain) (p : IsPartOf r) → Among (chain_of_run (chains_at (merged m) (j - 1)) r) (chains_at (merged m) (j - 1))
  run_member r p =
      subst (λ (f : Chain). Among f (chains_at h k)) (sym (run_chain r p))
      (part_member h k (numbered m base planar) few (based m base planar) (even m base planar k) r p)

  -- the faces before the step at the sides of a link of a run are those of the edge of its chain, exchanged where the run is turned
  pub run_sides : (r : Chain) (p : IsPartOf r) (d : Link) → Among d r → (b : Bool) → is_turned_run (chains_at (merged m) (j - 1)) r ≡ b
      → let f = edge_of (merged m) (j - 1) [] (chain_of_run (chains_at (merged m) (j - 1)) r) in
      (left_of (merged m) (j - 1) d ≡ cond b f.right f.left) × (right_of (merged m) (j - 1) d ≡ cond b f.left f.right)
  run_sides r p d o b t = by b t
    where
      f : Chain
      f = chain_of_run (chains_at h k) r

      sides : HasSides h k (edge_of h k [] f).left (edge_of h k [] f).right f
      sides = chain_sides k f (run_member r p)

      same : (b : Bool) → is_turned_run (chains_at h k) r ≡ b → r ≡ cond b (turned_round f) f
      same b t =
          part_turned h k (numbered m base planar) few (based m base planar) (even m base planar k) r p
          ∙ ap (λ (c : Chain). cond (is_turned_run (chains_at h k) r) (turned_round c) c) (sym (run_chain r p))
          ∙ ap (λ (v : Bool). cond v (turned_round f) f) t

      by : (b : Bool) → is_turned_run (chains_at h k) r ≡ b
          → (left_of h k d ≡ cond b (edge_of h k [] f).right (edge_of h k [] f).left) × (right_of h k d ≡ cond b (edge_of h k [] f).left (edge_of h k [] f).right)
      by true t = turned_sides h k (edge_of h k [] f).left (edge_of h k [] f).right f sides d (subst (Among d) (same true t) o)
      by false t = sides d (subst (Among d) (same false t) o)

  -- ---- chains of one run

  pub whole_chain : (c : Chain) → Among c (chains_at (merged m) j) → (edge_of (merged m) j [] c).left ≢ (step_number (merged m) j).made
      → (edge_of (merged m) j [] c).right ≢ (step_number (merged m) j).made → runs (chains_at (merged m) (j - 1)) c ≡ c ∷ []
  whole_chain c n l r =
      one_run m base planar k few c (member_up c n)
      (subst (λ (i : ℕ). (edge_of h i [] c).left ≢ (step_number h i).made) (sym up) l)
      (subst (λ (i : ℕ). (edge_of h i [] c).right ≢ (step_number h i).made) (sym up) r)

  pub whole_same : (c : Chain) → Among c (chains_at (merged m) j) → runs (chains_at (merged m) (j - 1)) c ≡ c ∷ [] → chain_of_run (chains_at (merged m) (j - 1)) c ≡ c
  whole_same c n e =
      let p = run_is_part c n c (subst (Among c) (sym e) (inl refl)) in
      run_chain c p ∙ one_chain m base planar k few c (member_up c n) e p

  -- it is not turned
  pub whole_ahead : (c : Chain) → Among c (chains_at (merged m) j) → runs (chains_at (merged m) (j - 1)) c ≡ c ∷ [] → (d : Link) → Among d c
      → (left_of (merged m) (j - 1) d ≡ (edge_of (merged m) (j - 1) [] c).left) × (right_of (merged m) (j - 1) d ≡ (edge_of (merged m) (j - 1) [] c).right)
  whole_ahead c n e d o =
      let p = run_is_part c n c (subst (Among c) (sym e) (inl refl)) in
      chain_sides k c (subst (λ (f : Chain). Among f (chains_at h k)) (whole_same c n e) (run_member c p)) d o

  pub runs_in_row : (c : Chain) → Among c (chains_at (merged m) j) → flat_map (λ r. r) (runs (chains_at (merged m) (j - 1)) c) ≡ c
  runs_in_row c n = runs_joined h k (numbered m base planar) few (based m base planar) (even m base planar k) c (member_up c n)

  pub run_links : (c : Chain) → Among c (chains_at (merged m) j) → (r : Chain) → Among r (runs (chains_at (merged m) (j - 1)) c) → has_links r ≡ true
  run_links c n r o = part_links h k (numbered m base planar) few (based m base planar) (even m base planar k) r (run_is_part c n r o)

  pub run_within : (c : Chain) → Among c (chains_at (merged m) j) → (r : Chain) → Among r (runs (chains_at (merged m) (j - 1)) c) → (d : Link) → Among d r → Among d c
  run_within c n r o d l = subst (Among d) (runs_in_row c n) (joined_among (runs (chains_at h k) c) r d o l)
