use Rattle.std.proofs.Common.{◌≡◌, ◌<◌, ◌+◌, ◌-◌, ◌∙◌, ◌++◌, ◌∷◌, ◌&&◌, ◌||◌, ◌==◌, ℕ, true, List, [], length, take, drop, sym, ap, subst, arith}
use Rattle.std.proofs.lemmas.List.{get_or_default, get_or-set_same, length-drop, length-take-le}
use Rattle.std.specs.List.{list_any}
use Rattle.std.specs.Vec.{vec_len}
use Rattle.tgap_model.specs.declared.base.BaseArc.{BaseArc}
use Rattle.tgap_model.specs.Base.{same_point, borders_face}
use Rattle.tgap_model.specs.Chains.{arc_number}
use Rattle.edit_laws.specs.Edits.{with_points}
use Rattle.face_cuts.specs.Nodes.{split_at}
use Rattle.arc_places.specs.Slots.{arcs_in}
use Rattle.arc_places.specs.Places.{is_among, listed}
use Rattle.arc_places.specs.Borders.{HasFaces, HaveFaces, bordering, face_count}
use Rattle.map_version.specs.Indexed.{AreCounted, AreIndexed, Indexed, arcs_of}
use Rattle.map_version.specs.Firsts.{pair_of}
use Rattle.map_version.specs.Positions.{changed_at}
use Rattle.map_version.proofs.Firsts.{written_is_changed}
use Rattle.map_version.proofs.Counting.{count_in, counted_changed, counted_more, points_within}
use Rattle.map_version.proofs.InSlots.{changed_borders, split_in, there}
use Rattle.map_version.proofs.Renaming.{faces_of_slot}
use Rattle.map_version.proofs.Relisting.{length-changed, pushed_borders, split_places}
use Rattle.map_version.proofs.arcs.IndexedArcs.split.Goals as goal

pub list_sides-requires : goal.list_sides-requires
list_sides-requires c =
    let slots = c.self.inside.slots.items in
    let n = face_count c.self.inside.borders in
    let i = c.args.place.slot in
    let k = c.args.place.at in
    let lt = subst (λ (x : Indexed). i < length x.slots) (sym c.self.view_is) c.requires.slot in
    let at = subst (λ (x : Indexed). k < length (arc_number x.slots i).points) (sym c.self.view_is) c.requires.at in
    let here = c.index_mut.ensures.value ∙ get_or_default slots i c.index_mut.result.now (record { left = 0; right = 0; points = [] }) lt in
    let rest_is = c.in_ok-rest.ensures.rest ∙ ap (λ (b : BaseArc). with_points b (drop k b.points)) here in
    let faces : HaveFaces n (arcs_in slots) = subst (λ (x : Indexed). HaveFaces x.faces (arcs_of x)) (sym c.self.view_is) c.requires.faces in
    let own = faces_of_slot n slots i lt (there (arc_number slots i) (omega arith)) faces in
    subst (HasFaces n) (sym rest_is) (record { left = own.left; right = own.right })

pub invariant_of-result : goal.invariant_of-result
invariant_of-result c =
    let slots = c.self.inside.slots.items in
    let counts = c.self.inside.counts in
    let i = c.args.place.slot in
    let k = c.args.place.at in
    let a = arc_number slots i in
    let rest = c.in_ok-rest.rest in
    let lt = subst (λ (x : Indexed). i < length x.slots) (sym c.self.view_is) c.requires.slot in
    let at = subst (λ (x : Indexed). k < length (arc_number x.slots i).points) (sym c.self.view_is) c.requires.at in
    let here = c.index_mut.ensures.value ∙ get_or_default slots i c.index_mut.result.now (record { left = 0; right = 0; points = [] }) lt in
    let rest_is = c.in_ok-rest.ensures.rest ∙ ap (λ (b : BaseArc). with_points b (drop k b.points)) here in
    let long = ap (λ (b : BaseArc). length b.points) rest_is ∙ length-drop k a.points in
    let front : length (take (k + 1) a.points) ≡ k + 1 = length-take-le (k + 1) a.points (omega arith) in
    let some = points_within slots i lt in
    let all = count_in slots in
    let points = c.self.invariant.counted.points_are in
    let is_there_now = there a (omega arith) in
    let written = written_is_changed i (take (k + 1)) slots c.index_mut.result.now c.split_off.new.arc lt c.index_mut.ensures.value c.in_ok-rest.ensures.kept in
    let cut = changed_at i (take (k + 1)) slots in
    let count : vec_len c.self.inside.slots ≡ length slots = omega (arith, c.self.inside.slots.ok.0) in
    let index_is : c.index.result.now ≡ c.split_off.new.arc = c.index.ensures ∙ get_or-set_same slots i c.split_off.new.arc _ lt in
    let kept : c.split_off.new.arc ≡ with_points a (take (k + 1) a.points) = c.in_ok-rest.ensures.kept ∙ ap (λ (b : BaseArc). with_points b (take (k + 1) b.points)) here in
    let front_is : c.as_slice-front.result.now ≡ take (k + 1) a.points = c.as_slice-front.ensures ∙ ap (λ (b : BaseArc). b.points) (index_is ∙ kept) in
    subst (λ (xs : List BaseArc). AreIndexed xs c.split.new.self c.list_sides.new.self (record { arcs = counts.arcs + 1; points = counts.points + 1 }))
    (sym (c.in_ok-push.ensures.items ∙ ap (λ (xs : List BaseArc). xs ++ rest ∷ []) written))
    (record {
      by_point = split_places (listed c.self.inside.places) (listed c.split.new.self) slots i k rest (ap (λ (b : BaseArc). b.points) rest_is)
          (λ p e t. c.in_ok-split.ensures.front p e (ap (list_any (same_point p)) front_is ∙ t))
          (λ p e t. subst (λ (n : ℕ). is_among n (listed c.split.new.self p) ≡ true) (c.len.ensures ∙ count) (c.in_ok-split.ensures.rest p e (ap (list_any (same_point p)) c.as_slice.ensures ∙ t)))
          (λ p j apart new. c.in_ok-split.ensures.others p j apart (λ s. new (s ∙ c.len.ensures ∙ count)))
          c.self.invariant.by_point;
      by_face = pushed_borders (bordering c.self.inside.borders) (bordering c.list_sides.new.self) cut rest
          (λ f j. c.in_ok-list_sides.ensures.listed f j
          ∙ ap (λ (n : ℕ). is_among j (bordering c.self.inside.borders f) || ((n == j) && borders_face f rest)) (c.len-2.ensures ∙ count ∙ sym (length-changed i (take (k + 1)) slots)))
          (changed_borders (bordering c.self.inside.borders) i (take (k + 1)) slots is_there_now c.self.invariant.by_face);
      counted =
          let less = counts.points + 1 - length rest.points in
          let one = counted_changed slots i (take (k + 1)) counts less lt is_there_now (omega arith) (omega arith) c.self.invariant.counted in
          subst (λ (n : ℕ). AreCounted (cut ++ rest ∷ []) (record { arcs = counts.arcs + 1; points = n })) (omega arith)
          (counted_more cut rest (record { arcs = counts.arcs; points = less }) (omega arith) one);
    })

pub returns-clause-arcs : goal.returns-clause-arcs
returns-clause-arcs c =
    let slots = c.self.inside.slots.items in
    let i = c.args.place.slot in
    let k = c.args.place.at in
    let lt = subst (λ (x : Indexed). i < length x.slots) (sym c.self.view_is) c.requires.slot in
    let at = subst (λ (x : Indexed). k < length (arc_number x.slots i).points) (sym c.self.view_is) c.requires.at in
    let here = c.index_mut.ensures.value ∙ get_or_default slots i c.index_mut.result.now (record { left = 0; right = 0; points = [] }) lt in
    let rest_is = c.in_ok-rest.ensures.rest ∙ ap (λ (b : BaseArc). with_points b (drop k b.points)) here in
    let written = written_is_changed i (take (k + 1)) slots c.index_mut.result.now c.split_off.new.arc lt c.index_mut.ensures.value c.in_ok-rest.ensures.kept in
    ap arcs_in c.in_ok-push.ensures.items
    ∙ (ap (λ (xs : List BaseArc). arcs_in (xs ++ c.in_ok-rest.rest ∷ [])) written
    ∙ (ap (λ (b : BaseArc). arcs_in (changed_at i (take (k + 1)) slots ++ b ∷ [])) rest_is
    ∙ (split_in slots i k lt at
    ∙ ap (λ (x : Indexed). split_at (arcs_of x) (pair_of x.slots c.args.place)) c.self.view_is)))
