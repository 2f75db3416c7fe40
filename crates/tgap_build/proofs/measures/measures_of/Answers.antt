use Rattle.std.proofs.Common.{◌≡◌, ◌<◌, ◌≤◌, ◌∙◌, ap, sym, subst, List, length, slice_index_or, All}
use Rattle.rayon.proofs.ToStd.{slice-map}
use Rattle.tgap_model.specs.declared.base.BaseArc.{BaseArc}
use Rattle.tgap_model.specs.declared.limits.TheConstants.{MAX_POINTS}
use Rattle.tgap_model.specs.Bounds.{IsNear}
use Rattle.face_merge.specs.Measures.{measure_of}
use Rattle.face_merge.proofs.Start.{base_near, base_short}
use Rattle.tgap_build.proofs.measures.measures_of.Goals as goal

pub collect-requires-clause-ready : goal.collect-requires-clause-ready
collect-requires-clause-ready g c κs within =
    let m = c.args.base.now in
    let same = ap (λ it. it.slice.now) c.map.ensures.base ∙ (c.par_iter.ensures ∙ (c.as_slice.ensures ∙ c.arcs.ensures.value)) in
    λ k d lt x e.
    let inside : k < length m.arcs = subst (λ (arcs : List BaseArc). k < length arcs) same lt in
    let is : slice_index_or m.arcs k d ≡ x.now = sym (e ∙ ap (λ (arcs : List BaseArc). slice_index_or arcs k d) same) in (
      (
        subst (λ (a : BaseArc). All IsNear a.points) is (base_near m c.arcs.ensures.base k d inside),
        subst (λ (a : BaseArc). length a.points ≤ MAX_POINTS) is (base_short m c.arcs.ensures.base k d inside),
      ),
      λ y p. tt,
    )

pub returns : goal.returns
returns g c =
    let arcs = c.args.base.now.arcs in
    let slice = ap (λ it. it.slice.now) c.map.ensures.base ∙ (c.par_iter.ensures ∙ (c.as_slice.ensures ∙ c.arcs.ensures.value)) in
    let found = c.in_ok-measures.ensures in
    let chain = found.1 in
    c.from.ensures ∙ (found.2 ∙ slice-map chain.0 arcs (chain.1 ∙ slice) measure_of found.0 chain.2)
