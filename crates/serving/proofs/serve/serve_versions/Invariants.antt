use Rattle.version_store.specs.Store.{fresh_store, fresh_limit, fresh_places}
use Rattle.serving.proofs.serve.serve_versions.Given as goal

-- the store has the name under which it is opened
abbrev pub ghosts-serve_store : goal.ghosts-serve_store
ghosts-serve_store g a = record { store = fresh_store a.store; limit = fresh_limit a.store; seats = fresh_places a.store }
