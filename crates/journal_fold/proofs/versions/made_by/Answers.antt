use Rattle.std.proofs.Common.{◌≡◌, ◌+◌, ◌++◌, ◌∷◌, [], List, ap, sym, ◌∙◌, subst, arith}
use Rattle.std.proofs.lemmas.List.{length-map, map-append}
use Rattle.std.proofs.lemmas.Result.{err_from_is_err_and}
use Rattle.std.specs.Arc.{arc_value}
use Rattle.std.specs.declared.sync.Arc.{Arc}
use Rattle.std.specs.declared.alloc.Global.{Global}
use Rattle.map_version.specs.declared.version.Version.{Version}
use Rattle.journal_fold.specs.Made.{values, newest}
use Rattle.journal_fold.proofs.VersionSteps.{Versions, pinned_number, versions_next, versions_stop}
use Rattle.journal_fold.proofs.versions.made_by.Goals as goal

-- the last version, of the versions that were lent
newest_of : (first pinned : Version) (lent versions : List (Arc Version Global)) → pinned ≡ newest first (values lent) → lent ≡ versions
    → pinned ≡ newest first (values versions)
newest_of first pinned lent versions is same = is ∙ ap (λ (l : List (Arc Version Global)). newest first (values l)) same

pub version_after-requires-after_bounds : goal.version_after-requires-after_bounds
version_after-requires-after_bounds g c = λ κs out.
    let first = c.args.first.now in let l = c.loop-place in
    let same = newest_of first c.newest-pinned.result.now c.as_slice.result.now l.versions.items c.newest-pinned.ensures c.as_slice.ensures.value in
    let number =
    pinned_number first c.args.entries.now c.args.places.now l.place-index (values l.versions.items) c.newest-pinned.result.now l.invariant.made same
    c.requires.first ∙ length-map l.versions.items arc_value in
    let few = c.requires.few in let len = l.versions.ok.0 in let count = l.invariant.count in let within = c.loop-place-test.true in
    omega (arith, number, few, len, count, within)

pub returns-in_err-version-clause-refused : goal.returns-in_err-version-clause-refused
returns-in_err-version-clause-refused g c =
    let first = c.args.first.now in let l = c.loop-place in
    let same = newest_of first c.newest-pinned.result.now c.as_slice.result.now l.versions.items c.newest-pinned.ensures c.as_slice.ensures.value in
    let p = err_from_is_err_and c.from_residual-in_err-version.result c.from_residual-in_err-version.ensures.1 in
    rw (p.1, p.2)
    (versions_stop first c.args.entries.now c.args.places.now l.place-index (values l.versions.items) c.newest-pinned.result.now l.invariant.made same
    c.requires.first c.index-entries-place.result c.loop-place-test.true (c.requires.within l.place-index 0 c.loop-place-test.true)
    c.index-entries-place.is c.in_err-version.field-0.0 c.in_err-version.ensures.refused)

pub loop-place-preserved : goal.loop-place-preserved
loop-place-preserved g c =
    let first = c.args.first.now in let entries = c.args.entries.now in let places = c.args.places.now in
    let l = c.loop-place in let version = c.in_ok-version.version in let next = c.in_ok-version.ensures in
    let same = newest_of first c.newest-pinned.result.now c.as_slice.result.now l.versions.items c.newest-pinned.ensures c.as_slice.ensures.value in
    let pushed : values c.push_reserved.new.self.items ≡ values l.versions.items ++ arc_value version ∷ [] =
    ap values c.push_reserved.ensures.items ∙ map-append arc_value l.versions.items (version ∷ []) in
    let made =
    versions_next first entries places l.place-index (values l.versions.items) c.newest-pinned.result.now l.invariant.made same c.requires.first
    c.index-entries-place.result c.loop-place-test.true (c.requires.within l.place-index 0 c.loop-place-test.true) c.index-entries-place.is
    (arc_value version) next.map next.batch next.number in record {
      count = omega (arith, c.push_reserved.ensures.len, l.invariant.count);
      room = omega (arith, c.push_reserved.ensures.capacity, l.invariant.room);
      made = subst (Versions first entries places (l.place-index + 1)) (sym pushed) made;
    }
