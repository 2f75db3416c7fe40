-- So many requests were answered, and neither the end of the input nor a failure came.
use Rattle.std.proofs.Common.{◌≡◌, false}
use Rattle.session.specs.Keeping.{AreKept}
use Rattle.session.specs.Progress.{Progress}
use Rattle.session.proofs.serve.serve.Given as goal

abbrev pub invariant-loop-count : goal.invariant-loop-count
invariant-loop-count g l = record {
  progress : Progress l.initial.talk.pin.number (g.V.Versions.seen l.initial.versions) (g.V.Versions.seen l.versions)
      (g.L.Link.taken l.initial.link) (g.L.Link.taken l.link) (g.L.Link.told l.initial.link) (g.L.Link.told l.link) l.talk.pin l.fittings.room l.talk.log l.count;
  unended : g.L.Link.ended l.link ≡ false;
  take_faults : g.L.Link.take_faults l.link ≡ g.L.Link.take_faults l.initial.link;
  texts : AreKept (g.V.Versions.seen l.versions).history l.fittings.kept;
  put_faults : g.L.Link.put_faults l.link ≡ g.L.Link.put_faults l.initial.link;
}
