use Rattle.std.proofs.Common.{◌∙◌, map, drop, refl, sym, ap, subst, All}
use Rattle.std.proofs.lemmas.List.Elements.{All-weaker}
use Rattle.plain_io.specs.Puts.{Appends, AppendsFront}
use Rattle.map_workers.specs.Seats.{SeesAll}
use Rattle.serving.specs.Journals.{KeepsOn}
use Rattle.serving.proofs.Servings.{after_line, none_faulty, put_failed, sees_on, serves_all_on}
use Rattle.serving.proofs.serve_store.serve_posts.Goals as goal

pub serve_doors-requires-clause-seats : goal.serve_doors-requires-clause-seats
serve_doors-requires-clause-seats g c κs within =
    let e = c.attach-press.ensures in
    All-weaker (λ post. SeesAll c.args.service.press post.seat) (λ post. SeesAll c.attach-press.result post.seat)
    (λ post sees. sees_on c.args.service.press c.attach-press.result post.seat e.same.0 e.same.1 e.publishers.0 sees) c.args.service.posts.items c.requires.seats

pub serve_doors-requires-clause-publishers : goal.serve_doors-requires-clause-publishers
serve_doors-requires-clause-publishers g c κs within = (c.requires.publishers.0, c.attach-press.ensures.publishers.0 ∙ c.requires.publishers.1)

pub returns-in-Ok : goal.returns-in-Ok
returns-in-Ok g c =
    let line = subst (λ bytes. Appends (g.K.Sink.told c.args.out.now) (g.K.Sink.told c.put.new.self) bytes) c.as_slice.ensures c.in-Ok.ensures.bytes in
    let e = c.attach-press.ensures in
    let all =
    serves_all_on g.H.Gate.Door.closed g.H.Gate.Door.faults g.H.Gate.Door.told g.H.Gate.Line.Link _ _ _ _ _ _ _ _ _ _ _ (λ doors back. back) refl e.same.1
    (ap (λ versions. map (λ v. v.built) versions) e.same.0)
    (λ batches kept. subst (λ versions. KeepsOn (map (λ v. v.batch) versions) (g.P.Keep.told c.serve_doors.result.1) batches) e.same.0 kept)
    c.serve_doors.ensures.all in
    after_line c.args.service.line _ _ _ _ _ _ _ _ _ _ _ _ line c.in-Ok.ensures.faults all.doors all.back all c.serve_doors.ensures.end

pub returns : goal.returns
returns g c =
    let sound = none_faulty (λ post. g.H.Gate.Door.faults post.door) c.args.service.posts.items c.requires.sound in
    put_failed c.args.service.line c.args.service.posts.items (λ post. post.door) _ _ _ _ _ _ _ _ _ _ c.in-Err.ensures.faults
    (subst (λ bytes. AppendsFront (g.K.Sink.told c.args.out.now) (g.K.Sink.told c.put.new.self) bytes) c.as_slice.ensures c.in-Err.ensures.bytes)
    (c.hand_back.ensures.sound sound) c.hand_back.ensures.back
