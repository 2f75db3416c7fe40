-- The first of the queue loses, and the face of its best link wins.
use Rattle.std.proofs.Common.{sym, subst, refl, List}
use Rattle.std.specs.List.{All}
use Rattle.face_merge.specs.declared.links.Link.{Link}
use Rattle.face_merge.specs.Running.{AreBarred, IsBestLink, IsLinkOf, number_in}
use Rattle.face_merge.proofs.Held.{held}
use Rattle.face_merge.proofs.Best.{first_live, links_are, next_is, none_waits, some_link_listed}
use Rattle.face_merge.proofs.merging.Merging.next_pair.Goals as goal

pub of-requires : goal.of-requires
of-requires c = (held c.args.self.now c.in-Some.loser c.requires (first_live c.args.self.now c.requires c.in-Some.loser c.in-Some.ensures)).small_slot

pub best_link-requires-clause-live : goal.best_link-requires-clause-live
best_link-requires-clause-live c = first_live c.args.self.now c.requires c.in-Some.loser c.in-Some.ensures

pub best_link-requires-clause-links : goal.best_link-requires-clause-links
best_link-requires-clause-links c =
    subst (All (IsLinkOf c.args.self.now (number_in c.args.self.now c.in-Some.loser))) (sym c.deref.ensures.value)
    (links_are c.args.self.now c.requires c.in-Some.loser c.in_ok-links.links.items c.in_ok-links.ensures.links)

pub returns-in_default : goal.returns-in_default
returns-in_default c = none_waits c.args.self.now c.requires c.in_default.ensures

pub returns-in_default-best_link : goal.returns-in_default-best_link
returns-in_default-best_link c =
    absurd (some_link_listed c.args.self.now c.requires c.in-Some.loser c.in_ok-links.links.items c.in-Some.ensures c.in_ok-links.ensures.links
    (subst (AreBarred c.args.self.now (number_in c.args.self.now c.in-Some.loser)) c.deref.ensures.value c.in_default-best_link.ensures))

pub returns : goal.returns
returns c =
    let best = subst (λ (xs : List Link). IsBestLink c.args.self.now (number_in c.args.self.now c.in-Some.loser) xs c.in-Some-best_link.best) c.deref.ensures.value c.in-Some-best_link.ensures in
    record {
      next = next_is c.args.self.now c.requires c.in-Some.loser c.in_ok-links.links.items c.in-Some-best_link.best c.in-Some.ensures c.in_ok-links.ensures.links best
          (record { loser = c.in-Some.loser; winner = c.in-Some-best_link.best.slot; links = c.in_ok-links.links }) refl refl;
      links = c.in_ok-links.ensures.links;
      once = c.in_ok-links.ensures.once;
    }
