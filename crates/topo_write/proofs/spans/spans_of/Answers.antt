use Rattle.std.proofs.Common.{◌≡◌, ◌+◌, ◌<◌, ℕ, suc, List, [], ◌∷◌, ◌++◌, length, map, take, get_or, refl, sym, ap, ap₂, ◌∙◌, arith}
use Rattle.std.specs.List.{zip}
use Rattle.std.proofs.lemmas.List.{take_more, take_all, map-append, get_or_default}
use Rattle.std.proofs.lemmas.Slice.Zip.{get_or-zip}
use Rattle.tgap_model.specs.declared.slice.Edge.{Edge}
use Rattle.ring_walk.specs.declared.span.Span.{Span}
use Rattle.ring_walk.specs.declared.span.EdgeEnds.{EdgeEnds}
use Rattle.ring_walk.specs.Sides.{origin}
use Rattle.topo_write.specs.Polygons.{span_of}
use Rattle.topo_write.proofs.spans.spans_of.Goals as goal

length-zip : (edges : List Edge) (ends : List EdgeEnds) → length ends ≡ length edges → length (zip edges ends) ≡ length edges
length-zip [] [] e = refl
length-zip [] (x ∷ ends) e = absurd (omega arith)
length-zip (y ∷ edges) [] e = absurd (omega arith)
length-zip (y ∷ edges) (x ∷ ends) e = ap suc (length-zip edges ends (omega arith))

one_more : (edges : List Edge) (ends : List EdgeEnds) (i : ℕ) (e : Edge) (x : EdgeEnds) (spans new : List Span) (s : Span) → i < length edges → length ends ≡ length edges
    → e ≡ get_or edges i e → x ≡ get_or ends i x → spans ≡ map span_of (take i (zip edges ends)) → s ≡ span_of (e, x) → new ≡ spans ++ s ∷ [] → new ≡ map span_of (take (i + 1) (zip edges ends))
one_more edges ends i e x spans new s inside each he hx so_far is pushed =
    let long = length-zip edges ends each in
    let here : get_or (zip edges ends) i (e, x) ≡ (e, x) = get_or-zip edges ends i (e, x) inside (omega (arith, inside, each)) ∙ ap₂ (λ (f : Edge) (y : EdgeEnds). (f, y)) (sym he) (sym hx) in
    pushed ∙ ap₂ (λ (ss : List Span) (t : Span). ss ++ t ∷ []) so_far is
    ∙ sym (ap (map span_of) (take_more (zip edges ends) i (e, x) (omega (arith, inside, long)) ∙ ap (λ p. take i (zip edges ends) ++ p ∷ []) here)
    ∙ map-append span_of (take i (zip edges ends)) ((e, x) ∷ []))

abbrev none : EdgeEnds
none = record { after_first = origin; before_last = origin }

pub loop-i-preserved : goal.loop-i-preserved
loop-i-preserved c =
    let edges = c.args.edges.now in
    let ends = c.args.ends.now in
    let i = c.loop-i.i in
    let e = c.index-edges-i.result in
    let x = get_or ends i none in
    one_more edges ends i e x c.loop-i.spans.items c.push.new.self.items c.span_of.result c.loop-i-test.true c.requires.each c.index-edges-i.is
    (sym (get_or_default ends i x none (omega (arith, c.loop-i-test.true, c.requires.each)))) c.loop-i.invariant c.span_of.ensures c.in_ok-push.ensures.items

pub returns : goal.returns
returns c =
    let long = length-zip c.args.edges.now c.args.ends.now c.requires.each in
    c.loop-i.invariant ∙ ap (map span_of) (take_all c.loop-i.i (zip c.args.edges.now c.args.ends.now) (omega (arith, long)))
