-- What the code is asked to serve as that of the definitions.
use Rattle.std.specs.Prelude.{option_map}
use Rattle.commands.specs.Asked.{source_of}
use Rattle.serving.specs.declared.serve.Serving.{Serving}
use Rattle.serving.specs.Serving.{ServeCommand}

abbrev pub serving_of : Serving → ServeCommand
serving_of s = record { source = source_of s.map; journal = option_map (λ name. name.now) s.journal; port = s.port; workers = s.workers; versions = s.versions }
