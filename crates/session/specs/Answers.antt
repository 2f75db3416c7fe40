-- What is answered from a version of a map.
use Rattle.std.specs.Prelude.{◌≡◌, ◌↔◌, IsTrue, IsSome, ℕ, ◌==◌, List, [], ◌∷◌, length, nat_lt, codes, decimal, Option, Some, None, option_map, Result, Ok, Err, if◌then◌else◌}
use Rattle.tgap_model.specs.declared.geometry.Window.{Window}
use Rattle.tgap_model.specs.Base.{BaseMap, count_points}
use Rattle.tgap_model.specs.Partition.{map_fault}
use Rattle.tgap_model.specs.History.{history_of}
use Rattle.tgap_model.specs.Merged.{merged}
use Rattle.tgap_model.specs.Slice.{slice, window_of}
use Rattle.tgap_model.specs.Records.{packet_of}
use Rattle.tgap_model.specs.WindowRecords.{window_packet_of}
use Rattle.line_forms.specs.Texts.{line, step_too_high_text, fault_text}
use Rattle.wire_text.specs.SliceTexts.{slice_text, window_text, packet_text, window_packet_text}
use Rattle.slice_read.specs.Ends.{slice_ends}
use Rattle.topo_write.specs.declared.flat.FlatRing.{FlatRing}
use Rattle.topo_write.specs.Topology.{export}
use Rattle.edit_laws.specs.Edits.{edited}
use Rattle.http_face.specs.declared.request.Route.{Route}
use Rattle.http_face.specs.declared.request.Route.TheVariants as route
use Rattle.http_face.specs.Routes.{is_ordered}
use Rattle.http_face.specs.Replies.{is_status}
use Rattle.session.specs.declared.answer.Answer.{Answer}
use Rattle.session.specs.Items.{Asked, Route as RouteAsked, FaultyHead}

-- an answer that can be sent: its status is one of those of replies, and a method is named exactly with 405
pub record IsAnswer (a : Answer) : Type 0 where
  pub status : IsTrue (is_status a.status)
  pub allow : IsSome a.allow ↔ (a.status ≡ 405)

-- the answer of this status and body that names no method
abbrev pub plain : ℕ → List ℕ → Answer
plain status body = record { status = status; allow = None; body = body }

-- the answer of this status that says these words in one line and names no method
abbrev pub said : ℕ → List (List ℕ) → Answer
said status words = plain status (line words)

-- ---- the lines

abbrev pub info_words : ℕ → BaseMap → List (List ℕ)
info_words number m =
    codes "version" ∷ decimal number ∷ codes "steps" ∷ decimal (length (history_of m)) ∷ codes "faces" ∷ decimal (length m.classes)
    ∷ codes "arcs" ∷ decimal (length m.arcs) ∷ codes "points" ∷ decimal (count_points m.arcs) ∷ []

-- a phrase and a number
abbrev pub numbered : List ℕ → ℕ → List (List ℕ)
numbered phrase number = phrase ∷ decimal number ∷ []

abbrev pub not_coarser_words : ℕ → ℕ → List (List ℕ)
not_coarser_words from to = codes "not coarser" ∷ decimal from ∷ decimal to ∷ []

abbrev pub flat_words : FlatRing → List (List ℕ)
flat_words flat = codes "flat" ∷ decimal flat.face ∷ decimal flat.key ∷ []

abbrev pub edit_fault_words : ℕ × ℕ → List (List ℕ)
edit_fault_words fault = codes "edit line" ∷ decimal fault.0 ∷ codes "cause" ∷ decimal fault.1 ∷ []

-- ---- what is read from a version

-- that a number of the request is out of form, or the ends of its window are out of order
abbrev pub bad_number : Answer
bad_number = said 400 (codes "bad number" ∷ [])

-- an answer over a window, where its ends are in order
abbrev pub over_window : Window → Answer → Answer
over_window area answer = if is_ordered area then answer else bad_number

-- an answer at a step, or that the history has no such step
abbrev pub in_history : BaseMap → ℕ → Answer → Answer
in_history m step answer = if nat_lt (length (history_of m)) step then plain 400 (step_too_high_text (length (history_of m))) else answer

-- a text of the slice at a step
abbrev pub at_step : BaseMap → ℕ → List ℕ → Answer
at_step m step text = in_history m step (plain 200 text)

-- a text that leads from the slice at a step to that at another, which is no coarser one
abbrev pub to_finer : BaseMap → ℕ → ℕ → List ℕ → Answer
to_finer m from to text = if nat_lt from to then said 400 (not_coarser_words from to) else at_step m from text

-- the packet between two steps
abbrev pub packet_answer : BaseMap → ℕ → ℕ → Answer
packet_answer m from to = to_finer m from to (packet_text (packet_of (merged m) from to))

-- what a window shows
abbrev pub window_answer : BaseMap → ℕ → Window → Answer
window_answer m step area = over_window area (at_step m step (window_text area (window_of area (slice m step))))

-- the packet of a window between two steps
abbrev pub window_packet_answer : BaseMap → ℕ → ℕ → Window → Answer
window_packet_answer m from to area = over_window area (to_finer m from to (window_packet_text (window_packet_of (merged m) area from to)))

-- a topology, or the face that is no polygon with the key of its ring
abbrev pub exported : Result (List ℕ) FlatRing → Answer
exported (Ok text) = plain 200 text
exported (Err flat) = said 422 (flat_words flat)

-- the slice at a step as a topology
abbrev pub topology_answer : BaseMap → ℕ → Answer
topology_answer m step = in_history m step (exported (export (slice m step) (slice_ends m step) m.transform))

-- the answer to what only reads the version of this number; the others have none
abbrev pub route_answer : ℕ → BaseMap → Route → Option Answer
route_answer number m route.Info = Some (said 200 (info_words number m))
route_answer number m (route.Slice step) = Some (at_step m step (slice_text (slice m step)))
route_answer number m (route.Packet from to) = Some (packet_answer m from to)
route_answer number m (route.Window step area) = Some (window_answer m step area)
route_answer number m (route.Topo step) = Some (topology_answer m step)
route_answer number m (route.WindowPacket from to area) = Some (window_packet_answer m from to area)
route_answer number m route.BadNumber = Some bad_number
route_answer number m (route.WrongMethod allow) =
    Some (record { status = 405; allow = Some allow; body = line (codes "wrong method" ∷ []) })
route_answer number m route.NoRoute = Some (said 404 (codes "no route" ∷ []))
route_answer number m route.Pin = None
route_answer number m (route.PinSeen seen) = None
route_answer number m route.Edit = None

-- the answer to a head at fault
abbrev pub fault_answer : ℕ → Answer
fault_answer status = if status == 413 then said 413 (codes "too long" ∷ []) else said 400 (codes "bad request" ∷ [])

-- the answer to what only reads the version of this number, or is at fault; the others have none
abbrev pub read_answer : ℕ → BaseMap → Asked → Option Answer
read_answer number m (RouteAsked route body) = route_answer number m route
read_answer number m (FaultyHead status) = Some (fault_answer status)

-- ---- why a batch is refused

-- The text for a batch that is at fault, or whose edited map is; none for a good one.
abbrev pub refusal : BaseMap → List ℕ → Option (List ℕ)
refusal m batch =
    elim (edited m batch) [ Err fault ↦ Some (line (edit_fault_words fault)) | Ok edited ↦ option_map fault_text (map_fault edited) ]
