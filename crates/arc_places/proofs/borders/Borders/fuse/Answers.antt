use Rattle.std.proofs.Common.{◌≡◌, ◌∙◌, ◌<◌, ◌||◌, ℕ, List, cond, eqb, sym, ap, ap₂, subst}
use Rattle.arc_places.specs.Places.{is_among}
use Rattle.arc_places.specs.Borders.{bordering, face_count}
use Rattle.arc_places.proofs.FusedLists.{AreFused, are_fused}
use Rattle.arc_places.proofs.borders.Borders.fuse.Goals as goal

pub returns : goal.returns
returns c =
    let n = face_count c.args.self.now in
    let kept = c.args.kept in
    let gone = c.args.gone in
    let first = bordering c.args.self.now in
    let b1 = bordering c.exchange-first.new.self in
    let b2 = bordering c.exchange-second.new.self in
    let b3 = bordering c.exchange.new.self in
    let last = bordering c.drop_face.new.self in
    let counted : face_count c.exchange.new.self ≡ n = c.exchange.ensures.count ∙ c.exchange-second.ensures.count ∙ c.exchange-first.ensures.count in
    let fused : AreFused n kept gone c.in_ok-all.all first b1 last =
    are_fused n kept gone c.in_ok-all.all first b1 b2 b3 last c.requires.apart c.requires.kept c.requires.gone
    (λ f. c.exchange-first.ensures.left f ∙ ap (λ (xs : List ℕ). cond (eqb f kept) xs (first f)) c.new.ensures)
    (λ f. c.exchange-second.ensures.left f ∙ ap (λ (xs : List ℕ). cond (eqb f gone) xs (b1 f)) c.new-2.ensures)
    (λ f. c.exchange.ensures.left f)
    (λ f l. subst (λ (m : ℕ). last f ≡ cond (eqb f gone) (b3 m) (b3 f)) counted (c.drop_face.ensures.listed f (subst (λ (m : ℕ). f < m) (sym counted) l))) in
    record {
      both = λ i.
          ap (is_among i) fused.both ∙ c.in_ok-all.ensures i
          ∙ ap₂ (λ (xs ys : List ℕ). is_among i xs || is_among i ys) c.exchange-first.ensures.taken (c.exchange-second.ensures.taken ∙ fused.second);
      others = fused.others;
      count = c.drop_face.ensures.count ∙ counted;
    }
