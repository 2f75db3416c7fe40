use Rattle.version_store.specs.Store.{fresh_store, fresh_limit, fresh_places}
use Rattle.version_store_tests.proofs.store.one_publishes_and_one_pins.Given as goal

-- the store has the name under which it is opened
abbrev pub ghosts-side_by_side : goal.ghosts-side_by_side
ghosts-side_by_side g a = record { store = fresh_store a.store; limit = fresh_limit a.store; seats = fresh_places a.store }
