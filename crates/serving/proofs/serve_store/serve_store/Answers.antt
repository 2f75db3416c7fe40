use Rattle.std.proofs.Common.{◌∙◌, length, refl, sym, ap, subst, drop}
use Rattle.journal_fold.specs.Made.{maps_of, made_by}
use Rattle.version_store.specs.Folds.{FitsTold}
use Rattle.workers.specs.Closing.{MayTakeBack}
use Rattle.serving.specs.Journals.{KeepsOn}
use Rattle.serving.proofs.Servings.{serves_on, serves_all_on, came_back, none_back, room_back, without_doors}
use Rattle.serving.proofs.serve_store.serve_store.Goals as goal

pub serve_posts-requires-clause-given : goal.serve_posts-requires-clause-given
serve_posts-requires-clause-given g c κs within =
    let e = c.in-Ok.ensures in
    subst (λ n. MayTakeBack n (g.H.Harbour.told c.open_service.new.harbour)) (sym e.number)
    (room_back _ _ _ (g.met.H.Harbour.no_more_back c.args.harbour.now) e.given)

pub serve_posts-requires-clause-kept : goal.serve_posts-requires-clause-kept
serve_posts-requires-clause-kept g c κs within =
    let e = c.in-Ok.ensures in
    subst (λ versions. FitsTold (drop 1 (made_by versions)) (g.P.Keep.told c.args.keeper)) (sym e.versions) c.requires.kept

pub serve_posts-requires-clause-publishers : goal.serve_posts-requires-clause-publishers
serve_posts-requires-clause-publishers g c κs within = (length c.args.later.items, c.in-Ok.ensures.publishers)

pub returns-in-Ok : goal.returns-in-Ok
returns-in-Ok g c =
    let e = c.in-Ok.ensures in
    serves_on _ _ _ _ _ _ _ _ _ _ _ _ _ _ _ _ (λ o is. is)
    (serves_all_on g.H.Gate.Door.closed g.H.Gate.Door.faults g.H.Gate.Door.told g.H.Gate.Line.Link _ _ _ _ _ _ _ _ _ _ _
    (λ doors b. came_back _ _ _ _ doors (b.0 ∙ e.number) e.given b.1) e.number e.limit
    (ap maps_of e.versions) (λ batches kept. subst (λ versions. KeepsOn (made_by versions) (g.P.Keep.told c.serve_posts.result.1) batches) e.versions kept))
    e.line e.kept (λ doors b. came_back _ _ _ _ doors (b.0 ∙ e.number) e.given b.1) c.serve_posts.ensures

pub returns-in-Err : goal.returns-in-Err
returns-in-Err g c =
    let e = c.in-Err.ensures in
    without_doors _ _ _ _ _ _ _ _ _ _ _ c.in-Err.outcome c.put.ensures (none_back _ _ e.none) e.refused refl
