-- Each seat is a new one, and has published nothing.
use Rattle.std.proofs.Common.{◌≡◌, ◌++◌, ap, ◌∙◌, sym, subst, arith}
use Rattle.journal_fold.specs.Made.{values}
use Rattle.version_store.specs.Store.{fresh_first, fresh_limit, AreSeatsFrom}
use Rattle.map_workers.specs.Seats.{SeesAll}
use Rattle.map_workers.proofs.Seats.{new_seats_see}
use Rattle.serving.proofs.Servings.{all_parts}
use Rattle.serving.proofs.serve_store.open_service.Goals as goal

pub with_later-requires-clause-sees : goal.with_later-requires-clause-sees
with_later-requires-clause-sees g c =
    let e = c.in_ok-press.ensures in
    new_seats_see 1 (fresh_first c.args.store) (fresh_limit c.args.store) c.in_ok-press.press c.in_ok-press.seats.items (omega arith) e.press e.limit e.known.1 e.seats e.numbers

pub returns-clause-seats : goal.returns-clause-seats
returns-clause-seats g c =
    all_parts (λ post. post.seat) (SeesAll c.with_later.new.press) c.in_ok-posts.posts.items c.in_ok-seats.seats.items c.in_ok-posts.ensures.seats
    c.in_ok-seats.ensures.sees

pub returns-clause-numbers : goal.returns-clause-numbers
returns-clause-numbers g c = subst (AreSeatsFrom 1) (sym c.in_ok-posts.ensures.seats) c.in_ok-seats.ensures.numbers

pub returns-clause-versions : goal.returns-clause-versions
returns-clause-versions g c =
    c.in_ok-seats.ensures.versions ∙ ap (λ versions. versions ++ values c.args.later.items) c.in_ok-press.ensures.press
