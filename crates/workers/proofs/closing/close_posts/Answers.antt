use Rattle.std.proofs.Common.{rules, ◌≡◌, ◌∙◌, sym, refl, subst, ◌∷◌}
use Rattle.version_store.specs.Growth.{IsPrefix}
use Rattle.version_store.specs.Publishers.{numbers_of}
use Rattle.version_store.specs.Store.{seat_versions, seat_number, seat_numbers, press_versions, press_publishers}
use Rattle.workers.proofs.Closings.{room_less, back_step, back_end, all_step, all_end, counts_step, counts_end, failed_rose, sound_stays}
use Rattle.workers.proofs.closing.close_posts.Goals as goal

pub loop-post-init : goal.loop-post-init
loop-post-init g c =
    let start : c.into_iter-post-iterator.result.rest.items ≡ c.args.posts.items = search rules in
    rw start (record { room = c.requires; back = λ new b. b; counts = λ n k. k; gathered = λ a. a; kept = refl; numbers = λ a. a; publishers = (refl, refl); keeper = refl })

pub loop-post-preserved : goal.loop-post-preserved
loop-post-preserved g c =
    let i = c.loop-post.invariant in
    let first : c.loop-post.post-iterator.rest.items ≡ c.in-Some.post ∷ c.next.new.self.rest.items = search rules in
    record {
      room = room_less _ _ _ _ _ _ first i.room c.back.ensures.told;
      back = λ new rest. i.back new (back_step _ _ _ new _ _ _ first c.back.ensures.told rest);
      counts = λ n rest. i.counts n (counts_step _ _ _ n _ _ _ first c.back.ensures.faults rest);
      gathered = λ rest. i.gathered (all_step _ _ _ first (λ post. IsPrefix (seat_versions post.seat) (press_versions c.args.press.now))
          (subst (λ versions. IsPrefix (seat_versions c.in-Some.post.seat) versions) (c.gather.ensures.same ∙ i.kept) c.gather.ensures.front) rest);
      kept = c.gather.ensures.same ∙ i.kept;
      numbers = λ rest. i.numbers (all_step _ _ _ first (λ post. seat_numbers post.seat ≡ numbers_of (seat_number post.seat) (press_publishers c.args.press.now))
          (subst (λ publishers. seat_numbers c.in-Some.post.seat ≡ numbers_of (seat_number c.in-Some.post.seat) publishers)
          (c.gather.ensures.publishers.1 ∙ i.publishers.1) c.gather.ensures.numbers) rest);
      publishers = (c.gather.ensures.publishers.0 ∙ i.publishers.0, c.gather.ensures.publishers.1 ∙ i.publishers.1);
      keeper = c.gather.ensures.keeper ∙ i.keeper;
    }

pub returns-clause-back : goal.returns-clause-back
returns-clause-back g c =
    let done = sym c.loop-post.post-iterator.rest.ok.0 ∙ c.in-None.ensures.steps.0 in
    c.loop-post.invariant.back _ (back_end _ _ _ done)

pub returns-clause-failed : goal.returns-clause-failed
returns-clause-failed g c failed =
    let done = sym c.loop-post.post-iterator.rest.ok.0 ∙ c.in-None.ensures.steps.0 in
    failed_rose _ _ _ (c.loop-post.invariant.counts _ (counts_end _ _ _ done)) failed

pub returns-clause-sound : goal.returns-clause-sound
returns-clause-sound g c sound =
    let done = sym c.loop-post.post-iterator.rest.ok.0 ∙ c.in-None.ensures.steps.0 in
    sound_stays _ _ _ (c.loop-post.invariant.counts _ (counts_end _ _ _ done)) sound

pub returns-clause-gathered : goal.returns-clause-gathered
returns-clause-gathered g c =
    let done = sym c.loop-post.post-iterator.rest.ok.0 ∙ c.in-None.ensures.steps.0 in
    rw c.loop-post.invariant.kept
    (c.loop-post.invariant.gathered (all_end _ done (λ post. IsPrefix (seat_versions post.seat) (press_versions c.args.press.now))))

pub returns-clause-numbers : goal.returns-clause-numbers
returns-clause-numbers g c =
    let done = sym c.loop-post.post-iterator.rest.ok.0 ∙ c.in-None.ensures.steps.0 in
    rw c.loop-post.invariant.publishers.1
    (c.loop-post.invariant.numbers
    (all_end _ done (λ post. seat_numbers post.seat ≡ numbers_of (seat_number post.seat) (press_publishers c.args.press.now))))
