use Rattle.version_store.specs.Store.{fresh_store, fresh_limit, fresh_places}
use Rattle.version_store_tests.proofs.keepers.a_keeper_is_asked_before_each_version.Given as goal

-- the store has the name under which it is opened
abbrev pub ghosts-answers : goal.ghosts-answers
ghosts-answers g a = record { store = fresh_store a.store; limit = fresh_limit a.store; seats = fresh_places a.store }
