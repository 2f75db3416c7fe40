use Rattle.std.proofs.Common.{◌≡◌, map, refl, inl, inr, sym, subst, All}
use Rattle.version_store.specs.Growth.{IsPrefix}
use Rattle.version_store.specs.Publishers.{numbers_of}
use Rattle.version_store.specs.Store.{seat_versions, seat_number, seat_numbers, press_versions, press_publishers}
use Rattle.workers.specs.Closing.{TakesAllBack, OneFailed, NoneFailed}
use Rattle.workers.specs.declared.end.ServeEnd.TheVariants.{Closed, DoorFailed}
use Rattle.serving.proofs.Servings.{each_length, written_back, all_served, doors_sound, none_failed, one_failed, not_zero, sound_apart}
use Rattle.serving.proofs.serve_store.serve_doors.Goals as goal
use Rattle.std.proofs.Common.{◌∙◌}

pub returns-in-Closed-clause-all : goal.returns-in-Closed-clause-all
returns-in-Closed-clause-all g c =
    let i = c.in-Closed.ensures in
    let value = sym c.as_mut_slice.ensures.value in
    let same = written_back c.args.posts.len c.serve-end.new.posts c.args.posts.items (each_length _ _ _ i.stopped ∙ c.as_mut_slice.ensures.len) in
    let back =
    subst (λ ps. TakesAllBack (g.H.Harbour.told c.args.harbour.now) (g.H.Harbour.told c.hand_back-keeper.new.harbour) (map (λ post. post.door) ps)) same
    c.hand_back-keeper.ensures.back in
    let none =
    none_failed (λ post. g.H.Gate.Door.faults post.door) _ _ _ i.stopped
    (subst (λ xs. All (λ post. g.H.Gate.Door.faults post.door ≡ 0) xs) value c.requires.sound)
    (λ one. let clash : Closed ≡ DoorFailed = i.failed.1 one in cc) in
    all_served g.H.Gate.Door.closed g.H.Gate.Door.faults g.H.Gate.Door.told g.H.Gate.Line.Link (λ post. post.door) (λ post. post.seat) _ _ c.args.posts.items _ _
    c.args.press c.into_inner.result _ 0 c.as_mut_slice.ensures.value c.requires.some c.requires.sound i.stopped i.served c.requires.empty c.requires.seats
    c.requires.numbers c.requires.all_seats c.requires.publishers back
    (subst (λ ps. All (λ post. IsPrefix (seat_versions post.seat) (press_versions c.into_inner.result)) ps) same c.hand_back-keeper.ensures.gathered)
    (subst (λ ps. All (λ post. seat_numbers post.seat ≡ numbers_of (seat_number post.seat) (press_publishers c.into_inner.result)) ps) same
    c.hand_back-keeper.ensures.numbers) (λ begins. (begins.1, c.hand_back-keeper.ensures.keeper))
    ((λ e. doors_sound (λ post. post.door) g.H.Gate.Door.closed g.H.Gate.Door.faults _ (i.closed refl) none), (λ all. refl))

pub returns-in-Closed-clause-end : goal.returns-in-Closed-clause-end
returns-in-Closed-clause-end g c =
    let i = c.in-Closed.ensures in
    let same = written_back c.args.posts.len c.serve-end.new.posts c.args.posts.items (each_length _ _ _ i.stopped ∙ c.as_mut_slice.ensures.len) in
    let sound = subst (λ xs. All (λ post. g.H.Gate.Door.faults post.door ≡ 0) xs) (sym c.as_mut_slice.ensures.value) c.requires.sound in
    let none =
    none_failed (λ post. g.H.Gate.Door.faults post.door) _ _ _ i.stopped sound (λ one. let clash : Closed ≡ DoorFailed = i.failed.1 one in cc) in
    inl (
      refl,
      c.hand_back-keeper.ensures.sound (subst (λ ps. NoneFailed (map (λ post. g.H.Gate.Door.faults post.door) ps)) (sym same) none),
      refl,
      refl,
    )

pub returns-in-DoorFailed-clause-all : goal.returns-in-DoorFailed-clause-all
returns-in-DoorFailed-clause-all g c =
    let i = c.in-DoorFailed.ensures in
    let same = written_back c.args.posts.len c.serve-end.new.posts c.args.posts.items (each_length _ _ _ i.stopped ∙ c.as_mut_slice.ensures.len) in
    let back =
    subst (λ ps. TakesAllBack (g.H.Harbour.told c.args.harbour.now) (g.H.Harbour.told c.hand_back-keeper.new.harbour) (map (λ post. post.door) ps)) same
    c.hand_back-keeper.ensures.back in
    let failed = one_failed (λ post. g.H.Gate.Door.faults post.door) _ _ (i.failed.0 refl) in
    all_served g.H.Gate.Door.closed g.H.Gate.Door.faults g.H.Gate.Door.told g.H.Gate.Line.Link (λ post. post.door) (λ post. post.seat) _ _ c.args.posts.items _ _
    c.args.press c.into_inner.result _ c.put.result c.as_mut_slice.ensures.value c.requires.some c.requires.sound i.stopped i.served c.requires.empty
    c.requires.seats c.requires.numbers c.requires.all_seats c.requires.publishers back
    (subst (λ ps. All (λ post. IsPrefix (seat_versions post.seat) (press_versions c.into_inner.result)) ps) same c.hand_back-keeper.ensures.gathered)
    (subst (λ ps. All (λ post. seat_numbers post.seat ≡ numbers_of (seat_number post.seat) (press_publishers c.into_inner.result)) ps) same
    c.hand_back-keeper.ensures.numbers) (λ begins. (begins.1, c.hand_back-keeper.ensures.keeper)) (
      (λ e. absurd (not_zero _ _ _ _ _ c.put.ensures e)),
      (λ all. absurd (sound_apart (λ post. post.door) g.H.Gate.Door.closed g.H.Gate.Door.faults _ all failed)),
    )

pub returns-in-DoorFailed-clause-end : goal.returns-in-DoorFailed-clause-end
returns-in-DoorFailed-clause-end g c =
    let i = c.in-DoorFailed.ensures in
    let same = written_back c.args.posts.len c.serve-end.new.posts c.args.posts.items (each_length _ _ _ i.stopped ∙ c.as_mut_slice.ensures.len) in
    let failed = one_failed (λ post. g.H.Gate.Door.faults post.door) _ _ (i.failed.0 refl) in
    inr (
      c.hand_back-keeper.ensures.failed (subst (λ ps. OneFailed (map (λ post. g.H.Gate.Door.faults post.door) ps)) (sym same) failed),
      elim c.put.ensures [ inl d ↦ d | inr d ↦ absurd d.0 ],
    )
