-- One more edge is out.
use Rattle.std.proofs.Common.{◌≡◌, ℕ, ◌<◌, true, false, List, length, get_or, set, Option, Some, None, refl, sym, ap, ◌∙◌, subst, arith}
use Rattle.std.proofs.lemmas.List.{length-set}
use Rattle.tgap_model.specs.declared.geometry.Point.{Point}
use Rattle.tgap_model.specs.declared.slice.Edge.{Edge}
use Rattle.grid_index.specs.Keyed.{edge_in, edges_in}
use Rattle.point_rope.specs.Rows.{oriented, glued}
use Rattle.tgap_build.specs.declared.joined.OldEdge.{OldEdge}
use Rattle.tgap_build.proofs.Filters.{filter_all}
use Rattle.tgap_build.proofs.Merging.{key_there}
use Rattle.tgap_build.proofs.TableChanges.{place_read, keyed_emptied}
use Rattle.tgap_build.proofs.TakenRows.{part_placed, part_still, left_more, still_more, row_more}
use Rattle.tgap_build.proofs.edge_table.take_row.Goals.{in-Some+in_ok-append, in_default}
use Rattle.tgap_build.proofs.edge_table.take_row.Goals as goal

pub loop-part-init : goal.loop-part-init
loop-part-init c = record {
  row = c.new-row.ensures;
  keyed = c.requires.keyed;
  left = sym (filter_all (λ (e : Edge). true) (edges_in c.args.places.now.items) (λ e m. refl));
  still = λ k out. refl;
  room = refl;
}

pub index_mut-requires : goal.index_mut-requires
index_mut-requires c =
    let l = part_placed c.args.places.now.items c.requires.keyed c.args.parts.now c.requires.there c.loop-part.part-index (record { key = 0; turned = false }) c.loop-part-test.true in
    omega (arith, l, c.loop-part.invariant.room, c.loop-part.places.ok.0)

pub loop-part-preserved : goal.loop-part-preserved
loop-part-preserved c =
    let p0 = c.args.places.now.items in
    let parts = c.args.parts.now in
    let i = c.loop-part.part-index in
    let d : OldEdge = record { key = 0; turned = false } in
    let part = get_or parts i d in
    let within = c.loop-part-test.true in
    let before = c.loop-part.invariant in
    let now = c.loop-part.places.items in
    let l : part.key < length now
    = let q = part_placed p0 c.requires.keyed parts c.requires.there i d within in omega (arith, q, before.room) in
    let gone : set now part.key c.take.new.self ≡ set now part.key None = ap (set now part.key) c.take.ensures.after in
    let here = part_still p0 parts c.requires.apart i d within now before.still in
    let there = key_there p0 c.requires.keyed part.key (c.requires.there i d within) in
    record {
      row = elim c.match-take.branch [
        | in-Some+in_ok-append w ↦
            w.row-is
            ∙ row_more p0 parts i d within c.loop-part.row before.row w.append.new.self w.in-Some.edge
            (sym here ∙ place_read now part.key l c.index_mut.result.now c.take.result (Some w.in-Some.edge) c.index_mut.ensures.value c.take.ensures.value w.in-Some.is)
            (w.in_ok-append.ensures.ok ∙ ap (λ (ps : List Point). glued c.loop-part.row (oriented part.turned ps)) w.into_row.ensures)
        | in_default w ↦
            absurd (let none = place_read now part.key l c.index_mut.result.now c.take.result None c.index_mut.ensures.value c.take.ensures.value w.in_default.is in
            let some = sym there.1 ∙ sym here ∙ none in cc)
      ];
      keyed = subst (λ (ps : List (Option Edge)). (i : ℕ) (e : Edge) → edge_in ps i ≡ Some e → e.key ≡ i) (sym gone) (keyed_emptied now part.key l before.keyed);
      left = ap edges_in gone ∙ left_more p0 parts i d within now before.keyed before.left;
      still = λ k out. ap (λ (ps : List (Option Edge)). edge_in ps k) gone ∙ still_more p0 parts i d within now before.still k out;
      room = length-set now part.key c.take.new.self ∙ before.room;
    }
