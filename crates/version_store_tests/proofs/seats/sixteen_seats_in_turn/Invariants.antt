use Rattle.version_store.specs.Store.{fresh_store, fresh_limit, fresh_places}
use Rattle.version_store_tests.proofs.seats.sixteen_seats_in_turn.Given as goal

-- the store has the name under which it is opened
abbrev pub ghosts-in_turn : goal.ghosts-in_turn
ghosts-in_turn g a = record { store = fresh_store a.store; limit = fresh_limit a.store; seats = fresh_places a.store }
