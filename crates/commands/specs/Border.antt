-- The borders that are left after some steps of the history. From: Meijers, Variable-scale geo-information (2011).
use Rattle.std.specs.Prelude.{ℕ, ◌+◌, ◌==◌, List, [], ◌∷◌, take, if◌then◌else◌}
use Rattle.tgap_model.specs.declared.base.BaseArc.{BaseArc}
use Rattle.tgap_model.specs.declared.border.BorderRow.{BorderRow}
use Rattle.tgap_model.specs.Base.{BaseMap}
use Rattle.tgap_model.specs.History.{label_after, history_of}

-- the label of a base face after k steps of the history; that of the outside is 0
abbrev pub ancestor : BaseMap → ℕ → ℕ → ℕ
ancestor m k f = label_after (take k (history_of m)) f

-- the arcs, numbered from i on, whose two sides have different labels
abbrev pub border_by : (ℕ → ℕ) → ℕ → List BaseArc → List BorderRow
border_by label i [] = []
border_by label i (a ∷ arcs) =
    if label a.left == label a.right then border_by label (i + 1) arcs
    else record { arc = i; left = label a.left; right = label a.right } ∷ border_by label (i + 1) arcs

-- the border of a base map after k steps: the arcs whose sides have different ancestors
abbrev pub border : BaseMap → ℕ → List BorderRow
border m k = border_by (ancestor m k) 0 m.arcs
