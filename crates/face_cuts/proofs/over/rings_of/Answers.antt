use Rattle.std.proofs.Common.{◌≡◌, ◌∙◌, ◌||◌, ◌++◌, [], ◌∷◌, true, List, All, get_or, length, sym, ap, ap₂, subst}
use Rattle.std.specs.List.{list_any}
use Rattle.std.proofs.lemmas.List.{get_or_default, take_all}
use Rattle.ring_walk.specs.declared.side.Side.{Side}
use Rattle.ring_walk.specs.declared.side.Way.TheVariants.{Along}
use Rattle.ring_walk.specs.Sides.{same_side}
use Rattle.ring_walk.specs.Rings.{is_in_ring}
use Rattle.ring_walk.specs.Spans.{IsSide}
use Rattle.face_cuts.specs.Moves.{IsRingOf}
use Rattle.face_cuts.specs.Sectors.{spans_of}
use Rattle.face_cuts.specs.SideSets.{has}
use Rattle.face_cuts.proofs.Cases.{or_left, or_right}
use Rattle.face_cuts.proofs.OverRings.{among_more, formed_more, in_more, in_own_ring}
use Rattle.face_cuts.proofs.SpansOfArcs.{of_span}
use Rattle.face_cuts.proofs.over.rings_of.Goals as goal
use Rattle.face_cuts.proofs.over.rings_of.Goals.{then-not-has+in_ok-ring+in_ok-put_all+in_ok-push, else-not-has}

abbrev none : Side
none = record { span = 0; way = Along }

pub loop-side-preserved : goal.loop-side-preserved
loop-side-preserved g c =
    let arcs = g.T.ArcTable.arcs c.args.table.now in
    let spans = spans_of arcs in
    let row = c.args.row.now in
    let i = c.loop-side.side-index in
    let s = get_or row i none in
    let here : s ≡ get_or row i s = get_or_default row i none s c.loop-side-test.true in
    let rings = c.loop-side.rings in
    elim c.if-not-has.branch [
      | then-not-has+in_ok-ring+in_ok-put_all+in_ok-push w ↦
          let ring = w.in_ok-ring.ring in
          let within : IsSide (length spans) s = of_span arcs s (c.requires.row i none c.loop-side-test.true) in
          let formed : IsRingOf spans ring = record { first = s; within = within; is = w.in_ok-ring.ensures } in
          let more : c.if-not-has.rings ≡ rings ++ ring ∷ [] = w.rings-is ∙ w.in_ok-push.ensures in
          let own : list_any (same_side s) ring ≡ true = ap (list_any (same_side s)) w.in_ok-ring.ensures ∙ in_own_ring spans s within in
          record {
            formed = subst (All (IsRingOf spans)) (sym more) (formed_more spans rings ring c.loop-side.invariant.formed formed);
            taken = λ t. ap (λ set. has set t) w.taken-is ∙ w.in_ok-put_all.ensures t
                ∙ ap₂ (λ b (r : List Side). b || list_any (same_side t) r) (c.loop-side.invariant.taken t) w.as_slice.ensures ∙ sym (in_more spans rings ring t)
                ∙ ap (λ (rs : List (List Side)). is_in_ring rs t) (sym more);
            each = among_more spans rings c.if-not-has.rings row i s c.loop-side-test.true here
                (λ t e. ap (λ (rs : List (List Side)). is_in_ring rs t) more ∙ in_more spans rings ring t ∙ or_left (is_in_ring rings t) (list_any (same_side t) ring) e)
                (ap (λ (rs : List (List Side)). is_in_ring rs s) more ∙ in_more spans rings ring s ∙ or_right (is_in_ring rings s) (list_any (same_side s) ring) own)
                c.loop-side.invariant.each;
          }
      | else-not-has w ↦
          record {
            formed = subst (All (IsRingOf spans)) (sym w.rings-is) c.loop-side.invariant.formed;
            taken = λ t. ap (λ set. has set t) w.taken-is ∙ c.loop-side.invariant.taken t ∙ ap (λ (rs : List (List Side)). is_in_ring rs t) (sym w.rings-is);
            each = among_more spans rings c.if-not-has.rings row i s c.loop-side-test.true here
                (λ t e. ap (λ (rs : List (List Side)). is_in_ring rs t) w.rings-is ∙ e)
                (ap (λ (rs : List (List Side)). is_in_ring rs s) w.rings-is ∙ sym (c.loop-side.invariant.taken s) ∙ sym c.has.ensures ∙ w.if-not-has.false)
                c.loop-side.invariant.each;
          }
    ]

pub returns : goal.returns
returns g c = record {
  formed = c.loop-side.invariant.formed;
  each = subst (All (λ (s : Side). is_in_ring c.loop-side.rings s ≡ true)) (take_all c.loop-side.side-index c.args.row.now c.loop-side-test.false) c.loop-side.invariant.each;
}
