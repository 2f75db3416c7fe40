use Rattle.version_store.specs.Store.{fresh_store, fresh_limit, fresh_places}
use Rattle.version_store_tests.proofs.seats.sixteen_seats_on_threads_of_their_own.Given as goal

-- the store has the name under which it is opened
abbrev pub ghosts-at_once : goal.ghosts-at_once
ghosts-at_once g a = record { store = fresh_store a.store; limit = fresh_limit a.store; seats = fresh_places a.store }
