-- The outcome of a command: its status, and the text that goes with it.
use Rattle.std.specs.Prelude.{ℕ, List, [], ◌∷◌, ◌++◌, codes, decimal, ⊤}
use Rattle.tgap_model.specs.declared.fault.MapFault.{MapFault}
use Rattle.tgap_model.specs.declared.failure.Or.{Or}
use Rattle.tgap_model.specs.declared.failure.Or.TheVariants.{Fault, Memory}
use Rattle.line_forms.specs.Texts.{line, refused_words, fault_text, step_too_high_text}
use Rattle.client_replay.specs.declared.unfit.Unfit.{Unfit as Misfitting}
use Rattle.slice_read.specs.declared.fail.ReadFail.{ReadFail}
use Rattle.slice_read.specs.declared.fail.ReadFail.TheVariants as fail
use Rattle.refine_packets.specs.declared.fail.PacketFail.{PacketFail}
use Rattle.refine_packets.specs.declared.fail.PacketFail.TheVariants as packet_fail
use Rattle.plain_io.specs.declared.harbour.HarbourFail.{HarbourFail}
use Rattle.plain_io.specs.declared.harbour.HarbourFail.TheVariants as harbour_fail
use Rattle.plain_io.specs.declared.files.Which.{Which}
use Rattle.plain_io.specs.declared.files.Which.TheVariants.{Map, Rules, Slice, Packet}
use Rattle.commands.specs.declared.outcome.Misfit.{Misfit}
use Rattle.commands.specs.declared.outcome.Misfit.TheVariants.{SliceLine, PacketLine, Rule}
use Rattle.commands.specs.declared.outcome.Line.{Line}
use Rattle.commands.specs.declared.outcome.Line.TheVariants.{Fixed, Made}
use Rattle.commands.specs.declared.outcome.Outcome.{Outcome}
use Rattle.commands.specs.declared.outcome.Outcome.TheVariants.{Done, Usage, LoadFault, Refused, StepTooHigh, NotCoarser, OutOfMemory, PortFault, Unfit, JournalFault, BadEntry, LongJournal}

abbrev pub usage_text : List ℕ
usage_text = codes "usage: borders MAP STEP | check MAP [OBJECT RULES] | slice MAP STEP [OBJECT RULES] | packet MAP FROM TO [OBJECT RULES] | replay SLICE PACKET | grid N | serve MAP PORT WORKERS VERSIONS [OBJECT RULES] | keep MAP JOURNAL PORT WORKERS VERSIONS [OBJECT RULES]" ++ 10 ∷ []

-- the word of a kind of file
abbrev pub file_word : Which → List ℕ
file_word Map = codes "map"
file_word Rules = codes "rules"
file_word Slice = codes "slice"
file_word Packet = codes "packet"

-- a file of this kind could not be loaded
abbrev pub load_fault_text : Which → List ℕ
load_fault_text which = line (codes "load" ∷ codes "fault" ∷ file_word which ∷ [])

-- the step to go to is above the step to go from
abbrev pub not_coarser_text : ℕ → ℕ → List ℕ
not_coarser_text from to = line (codes "not" ∷ codes "coarser" ∷ decimal from ∷ decimal to ∷ [])

-- a text of a replay is none, or a record breaks a rule
abbrev pub misfit_text : Misfit → List ℕ
misfit_text (SliceLine n) = line (codes "unfit" ∷ codes "slice" ∷ codes "line" ∷ decimal n ∷ [])
misfit_text (PacketLine n) = line (codes "unfit" ∷ codes "packet" ∷ codes "line" ∷ decimal n ∷ [])
misfit_text (Rule step rule) = line (codes "unfit" ∷ codes "step" ∷ decimal step ∷ codes "rule" ∷ decimal rule ∷ [])

-- the entry at this place of a journal, counted from 0, does not follow those before it, or its batch makes no map
abbrev pub journal_entry_text : ℕ → List ℕ
journal_entry_text place = line (refused_words (codes "22") (codes "journal-entry") (decimal place ∷ []))

-- a journal comes to this many batches, which are more than there may be versions for
abbrev pub journal_long_text : ℕ → List ℕ
journal_long_text batches = line (refused_words (codes "23") (codes "journal-long") (decimal batches ∷ []))

abbrev pub status_of : Outcome → ℕ
status_of (Done text) = 0
status_of Usage = 2
status_of (LoadFault which) = 3
status_of (Refused fault) = 4
status_of (StepTooHigh steps) = 5
status_of (NotCoarser from to) = 5
status_of OutOfMemory = 7
status_of PortFault = 8
status_of (Unfit misfit) = 9
status_of JournalFault = 3
status_of (BadEntry place) = 4
status_of (LongJournal batches) = 4

abbrev pub text_of : Outcome → List ℕ
text_of (Done text) = text
text_of Usage = usage_text
text_of (LoadFault which) = load_fault_text which
text_of (Refused fault) = fault_text fault
text_of (StepTooHigh steps) = step_too_high_text steps
text_of (NotCoarser from to) = not_coarser_text from to
text_of OutOfMemory = line (codes "memory" ∷ [])
text_of PortFault = line (codes "port" ∷ codes "fault" ∷ [])
text_of (Unfit misfit) = misfit_text misfit
text_of JournalFault = line (codes "load" ∷ codes "fault" ∷ codes "journal" ∷ [])
text_of (BadEntry place) = journal_entry_text place
text_of (LongJournal batches) = journal_long_text batches

-- the first of two steps, to go from, is below the second, to go to
abbrev pub not_coarser : (ℕ × ℕ) → Outcome
not_coarser steps = NotCoarser steps.0 steps.1

-- its text is not always the same, and so it takes memory
abbrev pub TakesMemory : Outcome → Type 0
TakesMemory (Done text) = ⊤
TakesMemory Usage = ⊥
TakesMemory (LoadFault which) = ⊥
TakesMemory (Refused fault) = ⊤
TakesMemory (StepTooHigh steps) = ⊤
TakesMemory (NotCoarser from to) = ⊤
TakesMemory OutOfMemory = ⊥
TakesMemory PortFault = ⊥
TakesMemory (Unfit misfit) = ⊤
TakesMemory JournalFault = ⊥
TakesMemory (BadEntry place) = ⊤
TakesMemory (LongJournal batches) = ⊤

-- It comes of what the files that a command reads hold, and not of the words alone, a failed load, a port, a journal or want of memory.
abbrev pub IsOfFiles : Outcome → Type 0
IsOfFiles (Done text) = ⊤
IsOfFiles Usage = ⊥
IsOfFiles (LoadFault which) = ⊥
IsOfFiles (Refused fault) = ⊤
IsOfFiles (StepTooHigh steps) = ⊤
IsOfFiles (NotCoarser from to) = ⊤
IsOfFiles OutOfMemory = ⊥
IsOfFiles PortFault = ⊥
IsOfFiles (Unfit misfit) = ⊤
IsOfFiles JournalFault = ⊥
IsOfFiles (BadEntry place) = ⊥
IsOfFiles (LongJournal batches) = ⊥

-- the bytes of a text that is always there, or of one that was made
abbrev pub bytes_of : Line → List ℕ
bytes_of (Fixed bytes) = bytes.now
bytes_of (Made text) = text

-- a fault, or want of memory
abbrev pub refusal : Or MapFault → Outcome
refusal (Fault fault) = Refused fault
refusal Memory = OutOfMemory

-- why there is no slice
abbrev pub read_refusal : ReadFail → Outcome
read_refusal (fail.StepTooHigh steps) = StepTooHigh steps
read_refusal fail.Memory = OutOfMemory

-- why there is no packet between two steps
abbrev pub packet_refusal : ℕ → ℕ → PacketFail → Outcome
packet_refusal from to packet_fail.NotCoarser = NotCoarser from to
packet_refusal from to (packet_fail.StepTooHigh steps) = StepTooHigh steps
packet_refusal from to packet_fail.Memory = OutOfMemory

-- why a packet is not replayed
abbrev pub replay_refusal : Or Misfitting → Outcome
replay_refusal (Fault u) = Unfit (Rule u.step u.rule)
replay_refusal Memory = OutOfMemory

-- why there are no doors
abbrev pub harbour_refusal : HarbourFail → Outcome
harbour_refusal harbour_fail.Failed = PortFault
harbour_refusal harbour_fail.Memory = OutOfMemory
