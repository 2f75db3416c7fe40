-- What the line of a generated map tells, and that there is room for its slices and its packet.
use Rattle.std.proofs.Common.{◌≡◌, ℕ, ◌+◌, ◌-◌, ◌*◌, ◌^◌, ◌≤◌, inl, inr, Bool, true, false, cond, List, [], ◌∷◌, ◌++◌, length, Option, Some, None, Result, Err, codes, append_assoc, refl, ap, ap₂, ◌∙◌, subst, arith}
use Rattle.std.specs.Prelude.{sum_by, not, MatchOption}
use Rattle.std.specs.Result.{IsErrAnd}
use Rattle.std.proofs.lemmas.Bool.{lt-ltb}
use Rattle.std.proofs.lemmas.List.Sums.{sum_by-le-sum_by}
use Rattle.lemmas.proofs.Counts.{sum_by-map}
use Rattle.tgap_model.specs.declared.limits.TheConstants.{MAX_POINTS}
use Rattle.tgap_model.specs.declared.failure.Or.{Or}
use Rattle.tgap_model.specs.declared.failure.Or.TheVariants.{Fault}
use Rattle.tgap_model.specs.declared.fault.MapFault.{MapFault}
use Rattle.tgap_model.specs.declared.base.BaseArc.{BaseArc}
use Rattle.tgap_model.specs.declared.slice.Edge.{Edge}
use Rattle.tgap_model.specs.declared.slice.Slice.{Slice}
use Rattle.tgap_model.specs.declared.record.Packet.{Packet}
use Rattle.tgap_model.specs.Base.{BaseMap, count_points, is_base}
use Rattle.tgap_model.specs.Partition.{IsPartition, base_segments, map_fault}
use Rattle.tgap_model.specs.History.{history_of}
use Rattle.tgap_model.specs.Merged.{merged, is_border}
use Rattle.tgap_model.specs.Chains.{Chain, Link, arc_number, chain_points, chains_at}
use Rattle.tgap_model.specs.Removals.{edge_of, is_removed, removals_to, without}
use Rattle.tgap_model.specs.Slice.{slice}
use Rattle.line_forms.specs.Texts.{line}
use Rattle.tgap_model.specs.Records.{packet_of, records_down, replayed}
use Rattle.tgap_model.proofs.BaseFacts.{base_facts}
use Rattle.map_laws.proofs.ChainsExist.{chains_exist}
use Rattle.map_laws.proofs.Lists.{sum_less}
use Rattle.slice_laws.proofs.CountedSums.{sum_of_chains}
use Rattle.removal_laws.proofs.ChainLengths.{chain_length, kept_length}
use Rattle.face_merge.proofs.Steps.{history_is}
use Rattle.grid_geo.specs.Evidence.{IsShownBy}
use Rattle.slice_forms.specs.SliceForms.{has_room, is_packet_row, is_slice_row, record_load, segment_count}
use Rattle.client_replay.specs.Replaying.{outcome}
use Rattle.client_replay.proofs.Form.{slice_parts}
use Rattle.client_replay.proofs.Replays.{own_step}
use Rattle.generator.specs.GridMap.{grid_base}
use Rattle.commands.specs.declared.outcome.Outcome.{Outcome}
use Rattle.commands.specs.declared.outcome.Outcome.TheVariants.{Done, Usage, LoadFault, Refused, StepTooHigh, NotCoarser, OutOfMemory, PortFault, Unfit, JournalFault, BadEntry, LongJournal}
use Rattle.commands.specs.Outcomes.{refusal}
use Rattle.plain_io.specs.declared.files.Which.{Which}
use Rattle.plain_io.specs.Loads.{Told}
use Rattle.commands.specs.Command as spec
use Rattle.commands.specs.Commands.{command}
use Rattle.commands.specs.Answers.{Answers, AnswersCommand, IsEither, outcome_from}
use Rattle.commands.specs.Slice.{IsSliceOf}
use Rattle.commands.specs.Grid.{IsLineOf, IsWayBack, SaysGrid, SaysLine, counts_text, grid_outcome, grid_text, line_of, point_count, put_count}
use Rattle.commands.proofs.Says.{refused_is}
use Rattle.commands.proofs.SliceForm.{slice_form}
use Rattle.commands.proofs.PacketForm.{packet_form}
use Rattle.commands.proofs.Replays.{all_undone}
use Rattle.commands.proofs.Packets.{same_step}
use Rattle.commands.proofs.PutCounts.{all_puts}
use Rattle.commands.proofs.ReplayRoom.{replay_segments}

-- ---- the points of a slice

module _ (m : BaseMap) (base : is_base m ≡ true) where
  -- a slice has no more points than the map
  pub slice_points : (k : ℕ) → point_count (slice m k).edges ≤ MAX_POINTS
  unfolding slice
  slice_points k =
      let chains = chains_at (merged m) k in
      let removals = removals_to (merged m) k in
      omega (
        arith,
        sum_by-map (λ (e : Edge). length e.points) (edge_of (merged m) k removals) chains,
        sum_by-le-sum_by (λ (c : Chain). length (without removals (chain_points m.arcs c))) (λ c. sum_by (λ (d : Link). length (arc_number m.arcs d.arc).points) c) chains
            (λ c. let kept = kept_length (λ p. not (is_removed removals p)) (chain_points m.arcs c) in omega (arith, kept, chain_length m.arcs c)),
        sum_of_chains (merged m) k chains (chains_exist (merged m) k) (λ a. length a.points),
        sum_less (λ (a : BaseArc). cond (is_border (merged m) k a) (length a.points) 0) (λ a. length a.points) m.arcs (λ a i. at_most (is_border (merged m) k a) (length a.points)),
        (base_facts m base).few_points,
      )
    where
      at_most : (b : Bool) (n : ℕ) → cond b n 0 ≤ n
      at_most true n = omega arith
      at_most false n = omega arith

  slice_segments : (k : ℕ) → segment_count (slice m k).edges ≤ MAX_POINTS
  slice_segments k =
      omega (arith, slice_points k, sum_by-le-sum_by (λ (e : Edge). length e.points - 1) (λ (e : Edge). length e.points) (slice m k).edges (λ e. omega arith))

-- ---- the way back

module _ (m : BaseMap) (base : is_base m ≡ true) (planar : IsPartition (base_segments m)) (p : Packet) (back : IsWayBack m p) where
  abbrev last : ℕ
  last = length (history_of m)

  pub last_form : is_slice_row (slice m (length (history_of m))) ≡ true
  last_form = slice_form m base planar (length (history_of m)) (omega arith)

  pub back_form : is_packet_row p ≡ true
  back_form = ap is_packet_row back.exact ∙ packet_form m base planar (length (history_of m)) 0 (omega arith) (omega arith)

  load : segment_count (slice m (length (history_of m))).edges + sum_by record_load p.steps ≤ MAX_POINTS
  load = omega (
    arith,
    replay_segments (slice m (length (history_of m))) p.steps (slice_parts (slice m (length (history_of m))) last_form).edge_order back.fits,
    ap (λ (s : Slice). segment_count s.edges) back.leads,
    slice_segments m base 0,
  )

  pub back_room : has_room (slice m (length (history_of m))) p.steps ≡ true
  back_room = lt-ltb (segment_count (slice m (length (history_of m))).edges + sum_by record_load p.steps) (2 ^ 32 - 1) (omega (arith, load))

  pub back_fits : outcome (slice m (length (history_of m))) p ≡ (replayed (slice m (length (history_of m))) p, None)
  back_fits =
      own_step (slice m (length (history_of m))) p (same_step m (length (history_of m)) 0 p back.exact)
      ∙ all_undone (slice m (length (history_of m))) p.steps back.fits

  pub back_puts : sum_by put_count p.steps ≤ MAX_POINTS
  back_puts = omega (arith, load, sum_by-le-sum_by put_count record_load p.steps (λ r. omega arith))

  -- as many vertices come back as were removed
  pub back_removed : sum_by put_count p.steps ≡ length (removals_to (merged m) (length (history_of m)))
  unfolding packet_of
  back_removed =
      let all : length (history_of m) - 0 ≡ length (history_of m) = omega arith in
      ap (λ (q : Packet). sum_by put_count q.steps) back.exact
      ∙ ap (λ (n : ℕ). sum_by put_count (records_down (merged m) (length (history_of m)) n)) all
      ∙ all_puts m base planar (length (history_of m)) (omega arith)

-- ---- the line

-- the bytes that are put one after the other are the line
pub line_bytes : (rows faces arcs points steps removed edges kept reached again : List ℕ)
    → codes "grid" ++ 32 ∷ rows ++ 32 ∷ codes "faces" ++ 32 ∷ faces ++ 32 ∷ codes "arcs" ++ 32 ∷ arcs ++ 32 ∷ codes "points" ++ 32 ∷ points
    ++ 32 ∷ codes "steps" ++ 32 ∷ steps ++ 32 ∷ codes "removed" ++ 32 ∷ removed ++ 32 ∷ codes "edges" ++ 32 ∷ edges
    ++ 32 ∷ codes "kept" ++ 32 ∷ kept ++ 32 ∷ codes "replayed" ++ 32 ∷ reached ++ 32 ∷ again ++ 10 ∷ []
    ≡ line (codes "grid" ∷ rows ∷ codes "faces" ∷ faces ∷ codes "arcs" ∷ arcs ∷ codes "points" ∷ points ∷ codes "steps" ∷ steps
    ∷ codes "removed" ∷ removed ∷ codes "edges" ∷ edges ∷ codes "kept" ∷ kept ∷ codes "replayed" ∷ reached ∷ again ∷ [])
line_bytes rows faces arcs points steps removed edges kept reached again = simp append_assoc

-- what was counted makes the line
pub line_made : (rows : ℕ) (m : BaseMap) → is_base m ≡ true → IsPartition (base_segments m) → (last : Slice) (p : Packet) → IsSliceOf m (length (history_of m)) last → IsWayBack m p
    → (b : BaseMap) (steps removed edges kept reached again : ℕ) (text : List ℕ) → b ≡ m → steps ≡ length (history_of m) → removed ≡ sum_by put_count p.steps
    → edges ≡ length last.edges → kept ≡ point_count last.edges → reached ≡ length (replayed last p).edges → again ≡ point_count (replayed last p).edges
    → text ≡ counts_text rows b steps removed edges kept reached again → IsLineOf rows m text
line_made rows m base planar last p is back b steps removed edges kept reached again text same s r e k f g told = record {
  history = history_is m;
  last = last;
  last_is = is;
  packet = p;
  way_back = back;
  told = told ∙ rw (same, s, r ∙ back_removed m base planar p back, e, k, f, g) refl;
}

-- the line is the computed one
pub line_is : (rows : ℕ) (m : BaseMap) (text : List ℕ) → IsLineOf rows m text → text ≡ line_of rows m
unfolding line_of
line_is rows m text h =
    let last = length (history_of m) in
    let reached : replayed h.last h.packet ≡ slice m 0 = ap (λ (s : Slice). replayed s h.packet) h.last_is.exact ∙ h.way_back.leads in
    h.told ∙ ap₂ (grid_text rows m (history_of m) (removals_to (merged m) last)) h.last_is.exact reached

-- ---- what comes of the command

-- a planar partition is not refused
pub line_checked : (rows : ℕ) (m : BaseMap) → IsPartition (base_segments m) → (e : Or MapFault) (r : Result (List ℕ) Outcome) → IsErrAnd r (λ o. o ≡ refusal e)
    → (let told : Or MapFault → Result BaseMap (Or MapFault) = λ x. Err x in
    ((fault : MapFault) → told e ≡ told (Fault fault) → map_fault m ≡ Some fault)
    × ((fault : MapFault) → told e ≡ told (Fault fault) → IsShownBy (base_segments m) fault)
    × ((fault : MapFault) → told e ≡ told (Fault fault) → ¬ (IsPartition (base_segments m))))
    → IsEither (SaysLine rows m) (Done (line_of rows m)) (outcome_from r)
line_checked rows m planar e r same h = elim (refused_is m e r same h) [
  | inl memory ↦ inl memory
  | inr refused ↦ absurd (refused.3.0 planar)
]

-- the line of a map
pub line_done : (rows : ℕ) (m : BaseMap) (text : List ℕ) → IsLineOf rows m text → IsEither (SaysLine rows m) (Done (line_of rows m)) (Done text)
line_done rows m text line = inr (line, ap Done (line_is rows m text line), tt)

-- the line of the generated map
pub grid_done : (rows : ℕ) (m : BaseMap) (o : Outcome) → m ≡ grid_base rows → IsPartition (base_segments m) → length m.classes ≡ rows * rows
    → length m.arcs ≡ 2 * ((rows + 1) * rows) → count_points m.arcs ≡ 6 * ((rows + 1) * rows) → IsEither (SaysLine rows m) (Done (line_of rows m)) o
    → IsEither (SaysGrid rows) (grid_outcome rows) o
grid_done rows m o is planar faces arcs points (inl memory) = inl memory
grid_done rows m (Done text) is planar faces arcs points (inr h) =
    inr (
      subst (λ (b : BaseMap). IsPartition (base_segments b) × (length b.classes ≡ rows * rows) × (length b.arcs ≡ 2 * ((rows + 1) * rows))
          × (count_points b.arcs ≡ 6 * ((rows + 1) * rows)) × IsLineOf rows b text) is (planar, faces, arcs, points, h.0),
      h.1 ∙ ap (λ (b : BaseMap). Done (line_of rows b)) is,
      tt,
    )
grid_done rows m Usage is planar faces arcs points (inr h) = absurd h.0
grid_done rows m (LoadFault which) is planar faces arcs points (inr h) = absurd h.0
grid_done rows m (Refused fault) is planar faces arcs points (inr h) = absurd h.0
grid_done rows m (StepTooHigh steps) is planar faces arcs points (inr h) = absurd h.0
grid_done rows m (NotCoarser from to) is planar faces arcs points (inr h) = absurd h.0
grid_done rows m OutOfMemory is planar faces arcs points (inr h) = absurd h.0
grid_done rows m PortFault is planar faces arcs points (inr h) = absurd h.0
grid_done rows m (Unfit misfit) is planar faces arcs points (inr h) = absurd h.0
grid_done rows m JournalFault is planar faces arcs points (inr h) = absurd h.0
grid_done rows m (BadEntry place) is planar faces arcs points (inr h) = absurd h.0
grid_done rows m (LongJournal batches) is planar faces arcs points (inr h) = absurd h.0

-- it is what the words ask for
pub grid_answers : (words : List (List ℕ)) (told : Which → List ℕ → Told) (rose : Which → Type 0) (rows : ℕ) (o : Outcome) → Some (spec.Grid rows) ≡ command words
    → IsEither (SaysGrid rows) (grid_outcome rows) o → Answers words told rose o
grid_answers words told rose rows o asked h =
    subst (λ (a : Option spec.Command). MatchOption a (o ≡ Usage) (λ c. AnswersCommand c told rose o)) asked (by h)
  where
    by : IsEither (SaysGrid rows) (grid_outcome rows) o → AnswersCommand (spec.Grid rows) told rose o
    by (inl memory) = inr (inl memory)
    by (inr told_so) = inr (inr ((λ kind. []), tt, told_so.0, told_so.1, told_so.2))
