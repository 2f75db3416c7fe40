-- The scores and the numbers are those that the order compares.
use Rattle.std.proofs.Common.{◌≡◌, ◌∙◌, refl, sym, subst, Option, IfSome, Some, get_or, ◌||◌, ◌&&◌, ◌==◌, nat_lt, Bool, ℕ}
use Rattle.tgap_model.specs.History.{wins_before}
use Rattle.face_merge.specs.declared.links.Link.{Link}
use Rattle.face_merge.specs.declared.merging.Merging.{Merging}
use Rattle.face_merge.specs.Merging.{score_of}
use Rattle.face_merge.specs.Running.{IsLinkOf, IsRunning, number_in, state_of}
use Rattle.face_merge.proofs.Best.{first_link, new_link, old_link, link_live}
use Rattle.face_merge.proofs.Held.{held, number_read}
use Rattle.face_merge.proofs.merging.Merging.better.Goals as goal

-- the same order of the same numbers
same_order : (a b c d i j k l : ℕ) → a ≡ i → b ≡ j → c ≡ k → d ≡ l → (nat_lt c a || ((a == c) && nat_lt b d)) ≡ (nat_lt k i || ((i == k) && nat_lt j l))
same_order a b c d i j k l p q r s = rw (p, q, r, s) refl

pub returns-in_default : goal.returns-in_default
returns-in_default c = first_link c.args.self.now c.args.loser.number c.args.best c.args.link c.in_default.is

-- whether the new one wins, in the words of the definition
wins_is : (r : Merging) (f : ℕ) (link best : Link) (o : Option Link) → IsRunning r → IsLinkOf r f link → IfSome o (IsLinkOf r f) → o ≡ Some best → (a n b k : ℕ)
    → a ≡ score_of (state_of r) f (number_in r link.slot) → n ≡ get_or r.numbers.items link.slot n → b ≡ score_of (state_of r) f (number_in r best.slot) → k ≡ get_or r.numbers.items best.slot k
    → (w : Bool) → w ≡ (nat_lt b a || ((a == b) && nat_lt n k))
    → w ≡ wins_before (state_of r).rules (state_of r).classes (state_of r).arcs f (number_in r link.slot) (number_in r best.slot)
wins_is r f link best o running is are e a n b k ea en eb ek w ew =
    let known : IsLinkOf r f best = subst (λ (o : Option Link). IfSome o (IsLinkOf r f)) e are in
    let new = held r link.slot running (link_live r f link is) in
    let old = held r best.slot running (link_live r f best known) in
    ew ∙ same_order a n b k _ _ _ _ ea (number_read r link.slot n new en) eb (number_read r best.slot k old ek)

pub returns-then-wins : goal.returns-then-wins
returns-then-wins c =
    let is = wins_is c.args.self.now c.args.loser.number c.args.link c.in-Some.best c.args.best c.requires.running c.requires.link c.requires.best c.in-Some.is
    c.score-new.result c.index-number.result.now c.score-old.result c.index-best_number.result.now c.score-new.ensures c.index-number.ensures c.score-old.ensures c.index-best_number.ensures
    c.wins_first-wins.result c.wins_first-wins.ensures in
    new_link c.args.self.now c.args.loser.number c.args.best c.in-Some.best c.args.link c.in-Some.is (sym is ∙ c.if-wins.true)

pub returns-else-wins : goal.returns-else-wins
returns-else-wins c =
    let is = wins_is c.args.self.now c.args.loser.number c.args.link c.in-Some.best c.args.best c.requires.running c.requires.link c.requires.best c.in-Some.is
    c.score-new.result c.index-number.result.now c.score-old.result c.index-best_number.result.now c.score-new.ensures c.index-number.ensures c.score-old.ensures c.index-best_number.ensures
    c.wins_first-wins.result c.wins_first-wins.ensures in
    old_link c.args.self.now c.args.loser.number c.args.best c.in-Some.best c.args.link c.in-Some.is (sym is ∙ c.if-wins.false)
