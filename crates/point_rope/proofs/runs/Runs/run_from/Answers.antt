use Rattle.std.proofs.Common.{◌+◌, ◌-◌, ◌<◌, ◌≤◌, ℕ, List, length, get_or, ap, ◌∙◌, subst, arith}
use Rattle.tgap_model.specs.declared.geometry.Point.{Point}
use Rattle.point_rope.specs.Rows.{IsRun}
use Rattle.point_rope.specs.Runs.{joined, starts_from}
use Rattle.point_rope.proofs.Places.{starts_size, start_at, some_run, start_low, run_found}
use Rattle.point_rope.proofs.runs.Runs.run_from.Goals as goal

pub last_up_to-found-requires : goal.last_up_to-found-requires
last_up_to-found-requires c =
    let runs = c.args.self.now in
    let starts = c.self.inside.starts.items in
    let are = c.self.invariant.begin ∙ ap (starts_from 0) c.self.view_is in
    let some : 0 < length (joined runs) = omega (arith, c.requires) in
    record {
      some = omega (arith, ap length c.deref.ensures.value, starts_size starts runs are, some_run runs some);
    }

pub index-requires : goal.index-requires
index-requires c =
    let starts = c.self.inside.starts.items in
    omega (arith, c.self.inside.runs.ok.0, ap length c.deref.ensures.value, starts_size starts c.self.inside.runs.items c.self.invariant.begin, c.last_up_to-found.ensures.within)

pub overflow_sub-place : goal.overflow_sub-place
overflow_sub-place c =
    let runs = c.args.self.now in
    let starts = c.self.inside.starts.items in
    let place = c.args.place in
    let k = c.last_up_to-found.result in
    let are = c.self.invariant.begin ∙ ap (starts_from 0) c.self.view_is in
    let short : k < length runs = omega (arith, ap length c.deref.ensures.value, starts_size starts runs are, c.last_up_to-found.ensures.within) in
    let begun = subst (λ (ns : List ℕ). 0 < k → get_or ns k 0 ≤ place) c.deref.ensures.value c.last_up_to-found.ensures.begun in
    let next = subst (λ (ns : List ℕ). k + 1 < length ns → place < get_or ns (k + 1) 0) c.deref.ensures.value c.last_up_to-found.ensures.next in
    let at = c.index-2.ensures ∙ start_at starts runs k c.index-2.result.now are short in
    omega (arith, at, start_low starts runs place k are short c.requires begun next)

pub returns : goal.returns
returns c =
    let runs = c.args.self.now in
    let starts = c.self.inside.starts.items in
    let place = c.args.place in
    let k = c.last_up_to-found.result in
    let are = c.self.invariant.begin ∙ ap (starts_from 0) c.self.view_is in
    let short : k < length runs = omega (arith, ap length c.deref.ensures.value, starts_size starts runs are, c.last_up_to-found.ensures.within) in
    let begun = subst (λ (ns : List ℕ). 0 < k → get_or ns k 0 ≤ place) c.deref.ensures.value c.last_up_to-found.ensures.begun in
    let next = subst (λ (ns : List ℕ). k + 1 < length ns → place < get_or ns (k + 1) 0) c.deref.ensures.value c.last_up_to-found.ensures.next in
    let at = c.index-2.ensures ∙ start_at starts runs k c.index-2.result.now are short in
    let run = c.index.result.now in
    let here = c.index.ensures ∙ ap (λ (rs : List (List Point)). get_or rs k run) c.self.view_is in
    run_found starts runs place k are short c.requires begun next run c.index-2.result.now c.rest.result at
    (subst (λ (ps : List Point). IsRun ps (place - c.index-2.result.now) c.rest.result) here c.rest.ensures)
