use Rattle.version_store.specs.Store.{fresh_store, fresh_limit, fresh_places}
use Rattle.version_store_tests.proofs.store.three_seats_on_one_thread.Given as goal

-- the store has the name under which it is opened
abbrev pub ghosts-are_told_and_gathered : goal.ghosts-are_told_and_gathered
ghosts-are_told_and_gathered g a = record { store = fresh_store a.store; limit = fresh_limit a.store; seats = fresh_places a.store }
