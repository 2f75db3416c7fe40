-- A map before its first step: its queue, and its faces in the slots of their numbers.
use Rattle.std.proofs.Common.{◌≡◌, ◌≢◌, ◌<◌, ◌≤◌, ◌⊎◌, inl, inr, ℕ, ◌+◌, true, false, ℤ, pos, nat_lt, List, length, map, get_or, set, replicate, slice_index, slice_index_or, Option, Some, None, IsSome, cond, refl, sym, ◌∙◌, ap, subst, arith, get_or-set_same, get_or-set_other, length-set}
use Rattle.std.specs.Prelude.{count_by}
use Rattle.std.specs.Ordering.{is_eq}
use Rattle.std.specs.List.{All}
use Rattle.std.proofs.lemmas.Bool.{and_parts, cases_eq}
use Rattle.std.proofs.lemmas.List.{get_or_past, length-replicate}
use Rattle.std.proofs.lemmas.List.Elements.{recursion_from_All, All-replicate, All-weaker}
use Rattle.tgap_model.specs.declared.merge.LabelledArc.{LabelledArc}
use Rattle.tgap_model.specs.Base.{BaseMap}
use Rattle.tgap_model.specs.History.{are_neighbours, area_of, labelled}
use Rattle.face_merge.specs.declared.links.Link.{Link}
use Rattle.face_merge.specs.declared.queue.Queue.{Queue}
use Rattle.face_merge.specs.Linking.{link_of}
use Rattle.face_merge.specs.Links.{AreLinksOf, AreOnce}
use Rattle.face_merge.specs.Merging.{MergeState, AreAreas, IsLabelled, IsMerging, begin, importance_of, permits_in, permitted_count}
use Rattle.face_merge.specs.Queue.{waits, count_at, place_cmp}
use Rattle.face_merge.specs.Running.{AreInSlots, IsQueueBelow, IsQueueOf, number_at}
use Rattle.face_merge.proofs.Joined.{Lengths}
use Rattle.face_merge.proofs.Neighbours.{is_pair}
use Rattle.face_merge.proofs.Numbers.{any_labels}
use Rattle.face_merge.proofs.Linking.{some_link, link_length, link_turned, link_zero}
use Rattle.face_merge.proofs.Slots.{turned_near, zero_near}
use Rattle.face_merge.proofs.Permitted.{none_of_zero, links_counted}
use Rattle.face_merge.proofs.Queued.{waiting_same, waiting_set}

-- no face waits at first
pub no_queue : (m : MergeState) (n : ℕ) (q : Queue) → ((i : ℤ) (f s : ℕ) → waits q i f s ≡ false) → q.counts.items ≡ replicate n 0 → IsQueueBelow m n 1 q
no_queue m n q none counts = record {
  slots = ap length counts ∙ length-replicate {A = ℕ} n 0;
  counted = λ s below. zero s ∙ sym (ap (permitted_count m) (only_zero s below) ∙ none_of_zero m);
  rest = λ s p. zero s;
  faces = record {
    each = λ s p. absurd (omega (arith, p, zero s));
    only = λ i f s e. absurd (let e' = none i f s in cc);
  };
} where
  only_zero : (s : ℕ) → s < 1 → s ≡ 0
  only_zero s p = omega (arith, p)

  all_zero : (n s : ℕ) → ◌≡◌ {A = ℕ} (get_or (replicate n 0) s 0) 0
  all_zero n s = chosen (le_or n s)
    where
      le_or : (a b : ℕ) → (a ≤ b) ⊎ (b < a)
      le_or a b = grind arith

      chosen : (n ≤ s) ⊎ (s < n) → ◌≡◌ {A = ℕ} (get_or (replicate n 0) s 0) 0
      chosen (inl p) = get_or_past (replicate n 0) s 0 (omega (arith, p, length-replicate {A = ℕ} n 0))
      chosen (inr p) = All-replicate (λ (k : ℕ). k ≡ 0) n 0 refl s 0 (omega (arith, p, length-replicate {A = ℕ} n 0))

  zero : (s : ℕ) → count_at q s ≡ 0
  zero s = ap (λ (xs : List ℕ). get_or xs s 0) counts ∙ all_zero n s

-- one more face
pub queue_more : (m : MergeState) (n k count : ℕ) (q q' : Queue) (imp : ℤ) → k < n → IsQueueBelow m n k q → imp ≡ importance_of m k → count ≡ permitted_count m k
    → ((j : ℤ) (g t : ℕ) → waits q' j g t ≡ cond (is_eq (place_cmp (imp, k, k) (j, g, t))) (nat_lt 0 count) (waits q j g t))
    → q'.counts.items ≡ set q.counts.items k count → IsQueueBelow m n (k + 1) q'
queue_more m n k count q q' imp inside known is counted updates counts = record {
  slots = ap length counts ∙ (length-set q.counts.items k count ∙ known.slots);
  counted = λ s below. at s below (cases_eq s k);
  rest = λ s p. other s (λ e. omega (arith, p, e)) ∙ known.rest s (omega (arith, p));
  faces = waiting_set (λ s. s) (importance_of m) (waits q) (count_at q) known.faces (waits q') (count_at q') imp k k count is refl updates here other;
} where
  here : count_at q' k ≡ count
  here = ap (λ (xs : List ℕ). get_or xs k 0) counts ∙ get_or-set_same q.counts.items k count 0 (omega (arith, inside, known.slots))

  other : (t : ℕ) → t ≢ k → count_at q' t ≡ count_at q t
  other t d = ap (λ (xs : List ℕ). get_or xs t 0) counts ∙ get_or-set_other q.counts.items k t count 0 d

  at : (s : ℕ) → s < k + 1 → (s ≡ k) ⊎ (s ≡ k → ⊥) → count_at q' s ≡ permitted_count m s
  at s below (inl e) = ap (count_at q') e ∙ (here ∙ (counted ∙ ap (permitted_count m) (sym e)))
  at s below (inr d) = other s d ∙ known.counted s (omega (arith, below, d))

-- the links of a face of a base map lead to faces of the map, and those to permitted neighbours are as many as those are
module _ (m : BaseMap) (known : IsMerging (begin m)) (w : Lengths) (links_are : (s t : ℕ) → w s t ≡ link_of (map labelled m.arcs) s t) (f : ℕ) (links : List Link)
    (are : AreLinksOf w f links)
  where
    near_of : (g : ℕ) → are_neighbours (map labelled m.arcs) f g ≡ true → g ≤ length m.classes
    near_of g e = (any_labels (length m.classes) f g (map labelled m.arcs) (recursion_from_All (IsLabelled (length m.classes)) (map labelled m.arcs) known.labelled) (and_parts (is_pair f g) _ e).1).1

    pub own_links : All (λ link. (0 < link.slot) × (link.slot ≤ length m.classes)) links
    own_links = All-weaker (λ (link : Link). w f link.slot ≡ Some link.length) (λ link. (0 < link.slot) × (link.slot ≤ length m.classes)) inside links are.each
      where
        inside : (link : Link) → w f link.slot ≡ Some link.length → (0 < link.slot) × (link.slot ≤ length m.classes)
        inside link e =
            let near = (link_length (map labelled m.arcs) f link.slot link.length (sym (links_are f link.slot) ∙ e)).0 in
            let some : link.slot ≢ 0 = λ z.
            zero_near (map labelled m.arcs) f (turned_near (map labelled m.arcs) f 0 (subst (λ (g : ℕ). are_neighbours (map labelled m.arcs) f g ≡ true) z near)) in
            (omega (arith, some), near_of link.slot near)

    pub own_count : AreOnce links → count_by (λ link. permits_in (begin m) f link.slot) links ≡ permitted_count (begin m) f
    own_count once =
        links_counted (map labelled m.arcs) w (λ s. s) f (length m.classes + 1) (links_are f) (λ s t e live. e) (λ g e. (g, refl)) (λ g e. omega (arith, near_of g e))
        (permits_in (begin m) f) links are once

module _ (m : BaseMap) (known : IsMerging (begin m)) (numbers : List ℕ) (areas : List ℤ) (w : Lengths) (q : Queue)
    (count : length numbers ≡ length m.classes + 1) (each : (k : ℕ) → k < length m.classes + 1 → slice_index numbers k ≡ k)
    (areas_are : AreAreas (length m.classes) (map labelled m.arcs) areas) (links : (s t : ℕ) → w s t ≡ link_of (map labelled m.arcs) s t)
    (queue : IsQueueBelow (begin m) (length m.classes + 1) (length m.classes + 1) q)
  where
    arcs : List LabelledArc
    arcs = map labelled m.arcs

    -- a slot has the face of its number, or none
    own_number : (s : ℕ) → ((number_at numbers s ≡ s) × (s ≤ length m.classes)) ⊎ ((number_at numbers s ≡ 0) × (length m.classes < s))
    own_number s = chosen (le_or s (length m.classes))
      where
        le_or : (a b : ℕ) → (a ≤ b) ⊎ (b < a)
        le_or a b = grind arith

        chosen : (s ≤ length m.classes) ⊎ (length m.classes < s) → ((number_at numbers s ≡ s) × (s ≤ length m.classes)) ⊎ ((number_at numbers s ≡ 0) × (length m.classes < s))
        chosen (inl p) = inl (each s (omega (arith, p)), p)
        chosen (inr p) = inr (get_or_past numbers s 0 (omega (arith, count, p)), p)

    near_below : (f g : ℕ) → are_neighbours (map labelled m.arcs) f g ≡ true → (f ≤ length m.classes) × (g ≤ length m.classes)
    near_below f g e = any_labels (length m.classes) f g (map labelled m.arcs) (recursion_from_All (IsLabelled (length m.classes)) (map labelled m.arcs) known.labelled) (and_parts (is_pair f g) _ e).1

    -- a face that is none of the map's has no link
    no_link_past : (f g : ℕ) → length m.classes < f → link_of (map labelled m.arcs) f g ≡ None
    no_link_past f g p = chosen (link_of (map labelled m.arcs) f g) refl
      where
        chosen : (o : Option ℕ) → link_of (map labelled m.arcs) f g ≡ o → link_of (map labelled m.arcs) f g ≡ None
        chosen None e = e
        chosen (Some n) e = absurd (omega (arith, p, (near_below f g (some_link (map labelled m.arcs) f g (subst (λ (o : Option ℕ). IsSome o) (sym e) refl))).0))

    linked_first : (s t : ℕ) → w s t ≡ link_of (map labelled m.arcs) (number_at numbers s) (number_at numbers t)
    linked_first s t = links s t ∙ chosen (own_number s) (own_number t)
      where
        past : (f : ℕ) → length m.classes < f → (g : ℕ) → link_of (map labelled m.arcs) g f ≡ None
        past f p g = link_turned (map labelled m.arcs) g f ∙ no_link_past f g p

        chosen : ((number_at numbers s ≡ s) × (s ≤ length m.classes)) ⊎ ((number_at numbers s ≡ 0) × (length m.classes < s))
            → ((number_at numbers t ≡ t) × (t ≤ length m.classes)) ⊎ ((number_at numbers t ≡ 0) × (length m.classes < t))
            → link_of (map labelled m.arcs) s t ≡ link_of (map labelled m.arcs) (number_at numbers s) (number_at numbers t)
        chosen (inl a) (inl b) = sym (ap (λ (x : ℕ). link_of (map labelled m.arcs) x (number_at numbers t)) a.0 ∙ ap (link_of (map labelled m.arcs) s) b.0)
        chosen (inl a) (inr b) =
            past t b.1 s ∙ sym (ap (link_of (map labelled m.arcs) (number_at numbers s)) b.0 ∙ (link_turned (map labelled m.arcs) (number_at numbers s) 0 ∙ link_zero (map labelled m.arcs) (number_at numbers s)))
        chosen (inr a) _ =
            no_link_past s t a.1 ∙ sym (ap (λ (x : ℕ). link_of (map labelled m.arcs) x (number_at numbers t)) a.0 ∙ link_zero (map labelled m.arcs) (number_at numbers t))

    pub first_slots : AreInSlots (begin m) numbers areas w
    first_slots = record {
      known = known;
      count = omega (arith, areas_are.count, count);
      few_slots = omega (arith, count);
      numbered = λ s. numbered s (own_number s);
      apart = λ s t e live. apart s t e live (own_number s) (own_number t);
      covered = λ f g e. (f, each f (omega (arith, (near_below f g e).0)));
      areas_are = λ s live. area s live (own_number s);
      linked = linked_first;
    } where
      numbered : (s : ℕ) → ((number_at numbers s ≡ s) × (s ≤ length m.classes)) ⊎ ((number_at numbers s ≡ 0) × (length m.classes < s)) → number_at numbers s ≤ length m.classes
      numbered s (inl a) = omega (arith, a.0, a.1)
      numbered s (inr a) = omega (arith, a.0)

      apart : (s t : ℕ) → number_at numbers s ≡ number_at numbers t → number_at numbers s ≢ 0 → ((number_at numbers s ≡ s) × (s ≤ length m.classes)) ⊎ ((number_at numbers s ≡ 0) × (length m.classes < s))
          → ((number_at numbers t ≡ t) × (t ≤ length m.classes)) ⊎ ((number_at numbers t ≡ 0) × (length m.classes < t)) → s ≡ t
      apart s t e live (inl a) (inl b) = sym a.0 ∙ (e ∙ b.0)
      apart s t e live (inr a) _ = absurd (live a.0)
      apart s t e live (inl a) (inr b) = absurd (live (e ∙ b.0))

      area : (s : ℕ) → number_at numbers s ≢ 0 → ((number_at numbers s ≡ s) × (s ≤ length m.classes)) ⊎ ((number_at numbers s ≡ 0) × (length m.classes < s))
          → slice_index_or areas s (pos 0) ≡ area_of (map labelled m.arcs) (number_at numbers s)
      area s live (inl a) = areas_are.value s a.1 ∙ ap (area_of (map labelled m.arcs)) (sym a.0)
      area s live (inr a) = absurd (live a.0)

    -- the queue is that of the map
    pub first_queue : IsQueueOf (begin m) numbers q
    first_queue = record {
      slots = queue.slots ∙ sym count;
      counted = λ s. counted s (own_number s);
      faces = waiting_same (λ s. s) (importance_of (begin m)) (waits q) (count_at q) queue.faces (number_at numbers) (importance_of (begin m)) (λ s p. (number s p (own_number s), refl));
    } where
      counted : (s : ℕ) → ((number_at numbers s ≡ s) × (s ≤ length m.classes)) ⊎ ((number_at numbers s ≡ 0) × (length m.classes < s)) → count_at q s ≡ permitted_count (begin m) (number_at numbers s)
      counted s (inl a) = queue.counted s (omega (arith, a.1)) ∙ ap (permitted_count (begin m)) (sym a.0)
      counted s (inr a) = queue.rest s (omega (arith, a.1)) ∙ sym (ap (permitted_count (begin m)) a.0 ∙ none_of_zero (begin m))

      number : (s : ℕ) → 0 < count_at q s → ((number_at numbers s ≡ s) × (s ≤ length m.classes)) ⊎ ((number_at numbers s ≡ 0) × (length m.classes < s)) → number_at numbers s ≡ s
      number s p (inl a) = a.0
      number s p (inr a) = absurd (omega (arith, p, queue.rest s (omega (arith, a.1))))
