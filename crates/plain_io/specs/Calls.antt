-- The calls of an object in memory, of which the listed ones fail.
use Rattle.std.specs.Prelude.{◌≡◌, Contains}
use Rattle.plain_io.specs.declared.calls.Calls.{Calls}
use Rattle.tgap_model.specs.Faults.{Rises}

-- the number of the next call is listed
abbrev pub FailsNext : Calls → Type 0
FailsNext calls = Contains calls.failing calls.made

-- one more call is counted, and the list stays
abbrev pub CountsCall : Calls → Calls → Type 0
CountsCall before now = Rises before.made now.made × (now.failing ≡ before.failing)
