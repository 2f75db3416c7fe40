use Rattle.std.proofs.Common.{◌≡◌, subst, All, drop, map}
use Rattle.version_store.specs.Growth.{IsPrefix}
use Rattle.version_store.specs.Folds.{FitsTold}
use Rattle.version_store.specs.Publishers.{numbers_of}
use Rattle.version_store.specs.Store.{seat_versions, seat_number, seat_numbers}
use Rattle.serving.proofs.serve_store.hand_back.Goals as goal

pub returns-clause-gathered : goal.returns-clause-gathered
returns-clause-gathered g c =
    subst (λ versions. All (λ post. IsPrefix (seat_versions post.seat) versions) c.args.posts.items) c.close_posts.ensures.kept c.close_posts.ensures.gathered

pub returns-clause-numbers : goal.returns-clause-numbers
returns-clause-numbers g c =
    subst (λ publishers. All (λ post. seat_numbers post.seat ≡ numbers_of (seat_number post.seat) publishers) c.args.posts.items) c.close_posts.ensures.publishers.1
    c.close_posts.ensures.numbers

pub returns-clause-keeper : goal.returns-clause-keeper
returns-clause-keeper g c =
    subst (λ versions. FitsTold (drop 1 (map (λ v. v.batch) versions)) (g.P.Keep.told c.part.result)) c.close_posts.ensures.kept c.part.ensures.kept
