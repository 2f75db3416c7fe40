-- The corners by which a step finds the edges of which it may remove a vertex.
use Rattle.std.specs.Prelude.{◌≡◌, ℕ, Bool, true, false, nat_le, List, [], get_or, length, All, Contains, ◌⊎◌, Option, Some, None, ⊤, if◌then◌else◌}
use Rattle.std.specs.declared.cmp.Reverse.{Reverse}
use Rattle.tgap_model.specs.declared.slice.Edge.{Edge}
use Rattle.tgap_model.specs.Removals.{has_side}
use Rattle.grid_index.specs.Keyed.{edge_in}
use Rattle.vertex_drop.specs.Corners.{least_corner}
use Rattle.tgap_build.specs.declared.corner_queue.Entry.{Entry}
use Rattle.tgap_build.specs.declared.corner_queues.CornerQueues.{CornerQueues}
use Rattle.tgap_build.specs.Queue.{is_queued}

-- ---- what they tell

-- the queue of a label
abbrev pub queue_at : List (List (Reverse Entry)) → ℕ → List (Reverse Entry)
queue_at queues l = get_or queues l []

-- what one of the queues tells, those after it tell too
abbrev pub TellAsMuch : List (List (Reverse Entry)) → List (List (Reverse Entry)) → Type 0
TellAsMuch before after = (l k n : ℕ) → is_queued (queue_at before l) k n ≡ true → is_queued (queue_at after l) k n ≡ true

-- the queues of both labels of an edge tell of a corner that is no larger than its least one, if it has one
abbrev pub IsQueued : List (List (Reverse Entry)) → Edge → Type 0
IsQueued queues e =
    (n : ℕ) → least_corner e.points ≡ Some n
    → (is_queued (queue_at queues e.left) e.key n ≡ true) × (is_queued (queue_at queues e.right) e.key n ≡ true)

-- so do they of the edge at the place of a key
abbrev pub IsQueuedAt : List (Option Edge) → List (List (Reverse Entry)) → ℕ → Type 0
IsQueuedAt places queues k = (e : Edge) → edge_in places k ≡ Some e → IsQueued queues e

-- Where queues are kept, there is one for each of so many labels, and they tell of these edges.
abbrev pub IsCornered : ℕ → List Edge → Option CornerQueues → Type 0
IsCornered labels edges None = ⊤
IsCornered labels edges (Some q) = (length q.queues.items ≡ labels) × All (IsQueued q.queues.items) edges

-- each of the edges is one of those before, or has one of the keys
abbrev pub AreKeptBut : List ℕ → List Edge → List Edge → Type 0
AreKeptBut keys before after = All (λ e. Contains before e ⊎ Contains keys e.key) after

-- ---- which may lose a vertex

-- the least corner of the edge at the place of a key, if there is one that has the label
abbrev pub corner_at : List (Option Edge) → ℕ → ℕ → Option ℕ
corner_at places label k = elim (edge_in places k) [ None ↦ None | Some e ↦ if has_side label e then least_corner e.points else None ]

-- the queue of the label tells of a corner that is no larger
abbrev pub IsQueuedBeside : List (Option Edge) → List (List (Reverse Entry)) → ℕ → ℕ → Type 0
IsQueuedBeside places queues label k = (n : ℕ) → corner_at places label k ≡ Some n → is_queued (queue_at queues label) k n ≡ true

-- it is at most so much
abbrev pub is_candidate : List (Option Edge) → ℕ → ℕ → ℕ → Bool
is_candidate places label limit k = elim (corner_at places label k) [ None ↦ false | Some n ↦ nat_le n limit ]

-- an edge with the label has the key
abbrev pub IsBeside : List Edge → ℕ → ℕ → Type 0
IsBeside edges label k = (e : Edge) × Contains edges e × (e.key ≡ k) × (has_side label e ≡ true)
