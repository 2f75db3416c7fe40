-- The next two faces: the first of the queue, and the face of the best link of its slot.
use Rattle.std.proofs.Common.{◌≡◌, ◌≢◌, ◌<◌, ◌≤◌, ◌⊎◌, inl, inr, ℕ, ◌+◌, ◌-◌, ◌*◌, Bool, true, false, ◌&&◌, ◌||◌, ℤ, nat_lt, List, length, take, get_or, slice_index, Option, Some, None, MatchOption, IfSome, refl, sym, ◌∙◌, ap, subst, arith}
use Rattle.std.specs.Prelude.{int_lt, ◌<ℤ◌}
use Rattle.std.specs.declared.cmp.Ordering.{Ordering}
use Rattle.std.specs.declared.cmp.Ordering.TheVariants.{Less, Equal, Greater}
use Rattle.std.specs.Ordering.{MatchOrdering, int_eq, int_cmp, nat_cmp, ordering_then, is_gt}
use Rattle.std.specs.List.{All}
use Rattle.std.proofs.lemmas.Int.{ints}
use Rattle.std.proofs.lemmas.Bool.{and_parts, both_ways}
use Rattle.std.proofs.lemmas.Bool.Decides.{nat_tests, Decides-int_eq}
use Rattle.std.proofs.lemmas.Cmp.{ranked, int_ranked}
use Rattle.std.proofs.lemmas.Option.{slice_get_within, get_or_from_slice_get}
use Rattle.std.proofs.lemmas.List.{take_all}
use Rattle.std.proofs.lemmas.List.Elements.{All-get_or, All-weaker, All-more, recursion_from_All}
use Rattle.tgap_model.specs.declared.base.Rules.{Rules}
use Rattle.tgap_model.specs.declared.merge.MergeStep.{MergeStep}
use Rattle.tgap_model.specs.History.{are_neighbours, is_permitted, shared_length, class_of, loses_before, wins_before, IsNextStep}
use Rattle.face_merge.specs.declared.links.Link.{Link}
use Rattle.face_merge.specs.declared.merging.Merging.{Merging}
use Rattle.face_merge.specs.declared.merging.Pair.{Pair}
use Rattle.face_merge.specs.Links.{AreLinksOf, length_at}
use Rattle.face_merge.specs.Linking.{link_of}
use Rattle.face_merge.specs.Merging.{MergeState, IsLabelled, importance_of, next_of, permits_in, permitted_count, score_of}
use Rattle.face_merge.specs.Queue.{IsFirst, count_at, waits}
use Rattle.face_merge.specs.Running.{AreBarred, IsBestLink, IsBetterLink, IsLinkOf, IsLive, IsNotBefore, IsPermitted, IsRunning, number_in, state_of, step_of}
use Rattle.face_merge.proofs.Below.{below_some, some_below}
use Rattle.face_merge.proofs.Neighbours.{is_pair}
use Rattle.face_merge.proofs.Numbers.{any_labels}
use Rattle.face_merge.proofs.Order.{IsOrder}
use Rattle.face_merge.proofs.Steps.{next_step_is, no_next_step, one_next_step, step_permitted, winners}
use Rattle.face_merge.proofs.Linking.{link_length, link_some, link_turned, link_zero}
use Rattle.face_merge.proofs.Slots.{turned_near, zero_near}
use Rattle.face_merge.proofs.Held.{rules_are}

-- ---- a link of the loser

-- it leads to a live face
pub link_live : (r : Merging) (f : ℕ) (link : Link) → IsLinkOf r f link → IsLive r link.slot
link_live r f link is zero =
    let none : link_of (state_of r).arcs f (number_in r link.slot) ≡ None = ap (link_of (state_of r).arcs f) zero ∙ (link_turned (state_of r).arcs f 0 ∙ link_zero (state_of r).arcs f) in
    cc

-- the class of the loser
pub class_within : (r : Merging) (f : ℕ) (link : Link) → IsRunning r → IsLinkOf r f link → class_of (state_of r).classes f < length (state_of r).rules.weights
class_within r f link running is =
    let m = state_of r in
    let near = (link_length m.arcs f (number_in r link.slot) link.length is).0 in
    let known = running.slots.known in
    let labels = recursion_from_All (IsLabelled (length m.classes)) m.arcs known.labelled in
    let below = (any_labels (length m.classes) f (number_in r link.slot) m.arcs labels (and_parts (is_pair f (number_in r link.slot)) _ near).1).0 in
    let zero : f ≢ 0 = λ z. zero_near m.arcs (number_in r link.slot) (subst (λ (x : ℕ). are_neighbours m.arcs x (number_in r link.slot) ≡ true) z near) in
    All-get_or (λ (k : ℕ). k < length m.rules.weights) m.classes (f - 1) 0 (omega (arith, below, zero)) known.classed

-- its score
pub score_of_link : (r : Merging) (f : ℕ) (link : Link) (rules : Rules) (j k a b c : ℕ) → IsLinkOf r f link → rules ≡ r.base.now.rules → j ≡ class_of (state_of r).classes f
    → k ≡ class_of (state_of r).classes (number_in r link.slot) → c ≡ slice_index rules.compat (j * length rules.weights + k) → a ≡ c → b ≡ link.length
    → a * b ≡ score_of (state_of r) f (number_in r link.slot)
score_of_link r f link rules j k a b c is er ej ek ec ea eb =
    let same : rules ≡ (state_of r).rules = er ∙ sym (rules_are r.base.now r.steps) in
    let shared = (link_length (state_of r).arcs f (number_in r link.slot) link.length is).1 in
    product a _ b _ (ea ∙ (ec ∙ same_place rules (state_of r).rules j _ k _ same ej ek)) (eb ∙ sym shared)
  where
    same_place : (p q : Rules) (i j k l : ℕ) → p ≡ q → i ≡ j → k ≡ l → slice_index p.compat (i * length p.weights + k) ≡ slice_index q.compat (j * length q.weights + l)
    same_place p q i j k l e1 e2 e3 = rw (e1, e2, e3) refl

    product : (a x b y : ℕ) → a ≡ x → b ≡ y → a * b ≡ x * y
    product a x b y e h = rw (e, h) refl

-- ---- the better of two links

module _ (r : Merging) (loser : ℕ) where
  order : IsOrder (wins_before (state_of r).rules (state_of r).classes (state_of r).arcs loser)
  order = winners (state_of r).rules (state_of r).classes (state_of r).arcs loser

  -- of none so far and one, the one
  pub first_link : (o : Option Link) (link : Link) → o ≡ None → IsBetterLink r loser o link link
  first_link None link e = record { either = refl; new = order.itself (number_in r link.slot); old = tt }
  first_link (Some old) link e = absurd cc

  -- the new one wins first, or it does not
  pub new_link : (o : Option Link) (old link : Link) → o ≡ Some old → wins_before (state_of r).rules (state_of r).classes (state_of r).arcs loser (number_in r link.slot) (number_in r old.slot) ≡ true
      → IsBetterLink r loser o link link
  new_link o old link e wins = rw e (record { either = inr refl; new = order.itself (number_in r link.slot); old = order.one_way (number_in r link.slot) (number_in r old.slot) wins })

  pub old_link : (o : Option Link) (old link : Link) → o ≡ Some old → wins_before (state_of r).rules (state_of r).classes (state_of r).arcs loser (number_in r link.slot) (number_in r old.slot) ≡ false
      → IsBetterLink r loser o link old
  old_link o old link e loses = rw e (record { either = inl refl; new = loses; old = order.itself (number_in r old.slot) })

  -- no link so far, or the best so far of those that lead to permitted neighbours
  abbrev pub IsBestOf : Option Link → List Link → Type 0
  IsBestOf o links = MatchOption o (AreBarred r loser links) (IsBestLink r loser links)

  pub best_begin : (links : List Link) → IsBestOf None (take 0 links)
  best_begin links = λ k d p. absurd (omega (arith, p))

  -- one more link that leads to a permitted neighbour
  pub best_more : (o : Option Link) (links : List Link) (i : ℕ) (d found : Link) → i < length links → All (IsLinkOf r loser) links → IsPermitted r loser (get_or links i d)
      → IsBestOf o (take i links) → IsBetterLink r loser o (get_or links i d) found → IsBestLink r loser (take (i + 1) links) found
  best_more None links i d found inside are permitted known better = record {
    neighbour = subst (IsLinkOf r loser) (sym better.either) (All-get_or (IsLinkOf r loser) links i d inside are);
    permitted = subst (IsPermitted r loser) (sym better.either) permitted;
    first = All-more (λ (link : Link). IsPermitted r loser link → IsNotBefore r loser link found) links i d inside
        (All-weaker (λ (link : Link). permits_in (state_of r) loser (number_in r link.slot) ≡ false) (λ link. IsPermitted r loser link → IsNotBefore r loser link found)
        (λ link no yes. absurd (both_ways _ no yes)) (take i links) known) (λ _. better.new);
  }
  best_more (Some old) links i d found inside are permitted known better = record {
    neighbour = chosen better.either;
    permitted = chosen_permitted better.either;
    first = All-more (λ (link : Link). IsPermitted r loser link → IsNotBefore r loser link found) links i d inside
        (All-weaker (λ (link : Link). IsPermitted r loser link → IsNotBefore r loser link old) (λ link. IsPermitted r loser link → IsNotBefore r loser link found)
        (λ link e p. order.passes (number_in r link.slot) (number_in r old.slot) (number_in r found.slot) (e p) better.old) (take i links) known.first) (λ _. better.new);
  } where
    chosen : (found ≡ old) ⊎ (found ≡ get_or links i d) → IsLinkOf r loser found
    chosen (inl e) = subst (IsLinkOf r loser) (sym e) known.neighbour
    chosen (inr e) = subst (IsLinkOf r loser) (sym e) (All-get_or (IsLinkOf r loser) links i d inside are)

    chosen_permitted : (found ≡ old) ⊎ (found ≡ get_or links i d) → IsPermitted r loser found
    chosen_permitted (inl e) = subst (IsPermitted r loser) (sym e) known.permitted
    chosen_permitted (inr e) = subst (IsPermitted r loser) (sym e) permitted

  -- one more link that leads to a barred one
  pub best_same : (o : Option Link) (links : List Link) (i : ℕ) (d : Link) → i < length links → permits_in (state_of r) loser (number_in r (get_or links i d).slot) ≡ false
      → IsBestOf o (take i links) → IsBestOf o (take (i + 1) links)
  best_same None links i d inside barred known = All-more (λ (link : Link). permits_in (state_of r) loser (number_in r link.slot) ≡ false) links i d inside known barred
  best_same (Some old) links i d inside barred known = record {
    neighbour = known.neighbour;
    permitted = known.permitted;
    first = All-more (λ (link : Link). IsPermitted r loser link → IsNotBefore r loser link old) links i d inside known.first (λ yes. absurd (both_ways _ barred yes));
  }

  -- the best link so far is one
  pub best_is : (o : Option Link) (links : List Link) → IsBestOf o links → IfSome o (IsLinkOf r loser)
  best_is None links known = tt
  best_is (Some old) links known = known.neighbour

  -- the best of all
  pub best_of_all : (o : Option Link) (links : List Link) (i : ℕ) → length links ≤ i → IsBestOf o (take i links) → IsBestOf o links
  best_of_all None links i end known = subst (AreBarred r loser) (take_all i links end) known
  best_of_all (Some old) links i end known = subst (λ (xs : List Link). IsBestLink r loser xs old) (take_all i links end) known

-- ---- the next step

-- a step that the rules ask for is the next one, and there is none where no face has a permitted neighbour
next_found : (m : MergeState) (s : MergeStep) → IsNextStep m.rules m.classes m.arcs s → next_of m ≡ Some s
next_found m s is = chosen (next_of m) refl
  where
    chosen : (o : Option MergeStep) → next_of m ≡ o → next_of m ≡ Some s
    chosen None e = absurd (let no = no_next_step m.rules m.classes m.arcs e s.loser s.winner in let yes = step_permitted m.rules m.classes m.arcs s is in cc)
    chosen (Some t) e = e ∙ ap Some (one_next_step m.rules m.classes m.arcs t s (next_step_is m.rules m.classes m.arcs t e) is)

next_missing : (m : MergeState) → ((f g : ℕ) → is_permitted m.rules m.classes m.arcs f g ≡ true → ⊥) → next_of m ≡ None
next_missing m apart = chosen (next_of m) refl
  where
    chosen : (o : Option MergeStep) → next_of m ≡ o → next_of m ≡ None
    chosen None e = e
    chosen (Some t) e = absurd (apart t.loser t.winner (step_permitted m.rules m.classes m.arcs t (next_step_is m.rules m.classes m.arcs t e)))

-- a place that is no later than another is that of a face that loses no later
not_later : (a b : ℤ) (n f s t : ℕ) → is_gt (ordering_then (ordering_then (int_cmp a b) (nat_cmp n f)) (nat_cmp s t)) ≡ false
    → (int_lt b a || (int_eq b a && nat_lt f n)) ≡ false
not_later a b n f s t e = by_key (int_cmp a b) (int_ranked a b (int_cmp a b) refl) e
  where
    less : (a b : ℤ) (n f : ℕ) → a <ℤ b → (int_lt b a || (int_eq b a && nat_lt f n)) ≡ false
    less a b n f p = grind (arith, ints, nat_tests, Decides-int_eq)

    tied : (a b : ℤ) (n f : ℕ) → a ≡ b → n ≤ f → (int_lt b a || (int_eq b a && nat_lt f n)) ≡ false
    tied a b n f p q = grind (arith, ints, nat_tests, Decides-int_eq)

    by_number : (o : Ordering) → MatchOrdering o (n < f) (n ≡ f) (f < n) → a ≡ b → is_gt (ordering_then o (nat_cmp s t)) ≡ false → (int_lt b a || (int_eq b a && nat_lt f n)) ≡ false
    by_number Less h p e = tied a b n f p (omega (arith, h))
    by_number Equal h p e = tied a b n f p (omega (arith, h))
    by_number Greater h p e = absurd cc

    by_key : (o : Ordering) → MatchOrdering o (a <ℤ b) (a ≡ b) (b <ℤ a) → is_gt (ordering_then (ordering_then o (nat_cmp n f)) (nat_cmp s t)) ≡ false
        → (int_lt b a || (int_eq b a && nat_lt f n)) ≡ false
    by_key Less h e = less a b n f h
    by_key Equal h e = by_number (nat_cmp n f) (ranked n f (nat_cmp n f) refl) h e
    by_key Greater h e = absurd cc

module _ (r : Merging) (running : IsRunning r) where
  abbrev permitted : ℕ → ℕ → Bool
  permitted f g = is_permitted (state_of r).rules (state_of r).classes (state_of r).arcs f g

  near : (f g : ℕ) → permitted f g ≡ true → are_neighbours (state_of r).arcs f g ≡ true
  near f g e = (and_parts (are_neighbours (state_of r).arcs f g) _ e).0

  near_inside : (f g : ℕ) → are_neighbours (state_of r).arcs f g ≡ true → g < length (state_of r).classes + 1
  near_inside f g e =
      let m = state_of r in
      let labels = recursion_from_All (IsLabelled (length m.classes)) m.arcs running.slots.known.labelled in
      omega (arith, (any_labels (length m.classes) f g m.arcs labels (and_parts (is_pair f g) _ e).1).1)

  -- a face with a permitted neighbour waits
  waiting_face : (f g : ℕ) → permitted f g ≡ true → (t : ℕ) × (waits r.queue (importance_of (state_of r) f) f t ≡ true)
  waiting_face f g e =
      let place = running.slots.covered f g (near f g e) in
      let some : 0 < permitted_count (state_of r) f = below_some (permitted f) g (length (state_of r).classes + 1) (near_inside f g (near f g e)) e in
      let count : count_at r.queue place.0 ≡ permitted_count (state_of r) f = running.queue.counted place.0 ∙ ap (permitted_count (state_of r)) place.1 in
      (place.0, subst (λ (x : ℕ). waits r.queue (importance_of (state_of r) x) x place.0 ≡ true) place.1 (running.queue.faces.each place.0 (omega (arith, some, count))))

  pub none_waits : ((i : ℤ) (f s : ℕ) → waits r.queue i f s ≡ false) → next_of (state_of r) ≡ None
  none_waits none = next_missing (state_of r) (λ f g e. let place = waiting_face f g e in let yes = place.1 in let no = none (importance_of (state_of r) f) f place.0 in cc)

  -- the first of the queue is live, and has a permitted neighbour
  first_face : (s : ℕ) → IsFirst (waits r.queue) s → (g : ℕ) × (permitted (number_in r s) g ≡ true)
  first_face s first =
      let was = running.queue.faces.only first.0 first.1 s first.2 in
      some_below (permitted (number_in r s)) (length (state_of r).classes + 1) (omega (arith, was.2, running.queue.counted s))

  pub first_live : (s : ℕ) → IsFirst (waits r.queue) s → IsLive r s
  first_live s first zero =
      let face = first_face s first in
      zero_near (state_of r).arcs face.0 (subst (λ (x : ℕ). are_neighbours (state_of r).arcs x face.0 ≡ true) zero (near (number_in r s) face.0 face.1))

  -- each neighbour has its link
  listed : (s : ℕ) (links : List Link) → AreLinksOf (length_at r.links) s links → (g : ℕ) → are_neighbours (state_of r).arcs (number_in r s) g ≡ true
      → (k : ℕ) × (t : ℕ) × (number_in r t ≡ g) × (k < length links) × ((d : Link) → (get_or links k d).slot ≡ t)
  listed s links are g near =
      let place = running.slots.covered g (number_in r s) (turned_near (state_of r).arcs (number_in r s) g near) in
      let length = shared_length (state_of r).arcs (number_in r s) (number_in r place.0) in
      let near' : are_neighbours (state_of r).arcs (number_in r s) (number_in r place.0) ≡ true = subst (λ (x : ℕ). are_neighbours (state_of r).arcs (number_in r s) x ≡ true) (sym place.1) near in
      let link = running.slots.linked s place.0 ∙ link_some (state_of r).arcs (number_in r s) (number_in r place.0) near' in
      let found = are.all place.0 length link in
      (found.0, place.0, place.1, slice_get_within links found.0 _ found.1, λ d. ap (λ (x : Link). x.slot) (get_or_from_slice_get links found.0 _ d found.1))

  -- one of them leads to a permitted neighbour
  pub some_link_listed : (s : ℕ) (links : List Link) → IsFirst (waits r.queue) s → AreLinksOf (length_at r.links) s links → AreBarred r (number_in r s) links → ⊥
  some_link_listed s links first are barred =
      let face = first_face s first in
      let parts = and_parts (are_neighbours (state_of r).arcs (number_in r s) face.0) _ face.1 in
      let place = listed s links are face.0 parts.0 in
      let d : Link = record { slot = 0; length = 0 } in
      let no = barred place.0 d place.3 in
      both_ways _ (subst (λ (x : ℕ). permits_in (state_of r) (number_in r s) x ≡ false) (ap (number_in r) (place.4 d) ∙ place.2) no) parts.1

  -- the links of the slot are those of its face
  pub links_are : (s : ℕ) (links : List Link) → AreLinksOf (length_at r.links) s links → All (IsLinkOf r (number_in r s)) links
  links_are s links are = All-weaker (λ (link : Link). length_at r.links s link.slot ≡ Some link.length) (IsLinkOf r (number_in r s)) (λ link e. sym (running.slots.linked s link.slot) ∙ e) links are.each

  -- the first of the queue and the face of its best link are the next two
  pub next_is : (s : ℕ) (links : List Link) (best : Link) → IsFirst (waits r.queue) s → AreLinksOf (length_at r.links) s links → IsBestLink r (number_in r s) links best
      → (pair : Pair) → pair.loser ≡ s → pair.winner ≡ best.slot → next_of (state_of r) ≡ Some (step_of r pair)
  next_is s links best first are is pair el ew =
      next_found (state_of r) (step_of r pair) (rw (el, ew) (record {
        neighbours = (link_length (state_of r).arcs (number_in r s) (number_in r best.slot) best.length is.neighbour).0;
        permitted = is.permitted;
        loser = loser;
        winner = winner;
        made = refl;
      }))
    where
      loser : (f g : ℕ) → permitted f g ≡ true → loses_before (state_of r).rules (state_of r).classes (state_of r).arcs f (number_in r s) ≡ false
      loser f g e =
          let face = running.queue.faces.only first.0 first.1 s first.2 in
          let place = waiting_face f g e in
          let least = not_later first.0 (importance_of (state_of r) f) first.1 f s place.0 (first.3 (importance_of (state_of r) f) f place.0 place.1) in
          let as_face : loses_before (state_of r).rules (state_of r).classes (state_of r).arcs f first.1 ≡ false =
          subst (λ (x : ℤ). (int_lt (importance_of (state_of r) f) x || (int_eq (importance_of (state_of r) f) x && nat_lt f first.1)) ≡ false) face.1 least in
          subst (λ (x : ℕ). loses_before (state_of r).rules (state_of r).classes (state_of r).arcs f x ≡ false) face.0 as_face

      winner : (g : ℕ) → permitted (number_in r s) g ≡ true
          → wins_before (state_of r).rules (state_of r).classes (state_of r).arcs (number_in r s) g (number_in r best.slot) ≡ false
      winner g e =
          let parts = and_parts (are_neighbours (state_of r).arcs (number_in r s) g) _ e in
          let place = listed s links are g parts.0 in
          let not_before = is.first place.0 best place.3
          (subst (λ (x : ℕ). permits_in (state_of r) (number_in r s) x ≡ true) (sym (ap (number_in r) (place.4 best) ∙ place.2)) parts.1) in
          subst (λ (x : ℕ). wins_before (state_of r).rules (state_of r).classes (state_of r).arcs (number_in r s) x (number_in r best.slot) ≡ false)
          (ap (number_in r) (place.4 best) ∙ place.2) not_before
