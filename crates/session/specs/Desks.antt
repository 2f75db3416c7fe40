-- What a worker keeps from one connection to the next.
use Rattle.std.specs.Prelude.{List, [], Option, Some, None}
use Rattle.session.specs.declared.desk.Fittings.{Fittings}
use Rattle.session.specs.declared.kept_texts.KeptText.{KeptText}

-- the texts that are kept; none before the first connection
abbrev pub texts_of : Option Fittings → List KeptText
texts_of None = []
texts_of (Some fittings) = fittings.kept
