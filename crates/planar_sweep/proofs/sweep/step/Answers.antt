-- The segments of the event are some of the segments, and the row after it is that of what is done then.
use Rattle.std.proofs.Common.{◌≡◌, true, ◌+◌, map, take, sym, ◌∙◌, refl, arith}
use Rattle.std.proofs.lemmas.Result.{IfOk-weaker}
use Rattle.planar_sweep.specs.declared.events.Event.TheVariants.{Leaves, Comes, Passes}
use Rattle.planar_sweep.specs.Rows.{leaving, moment_of, changes_of, HasCome, HasPassed}
use Rattle.planar_sweep.specs.Line.{IsLineOf}
use Rattle.planar_sweep.specs.Swept.{gaps_in, IsSwept}
use Rattle.planar_sweep.proofs.Steps.{row_few}
use Rattle.planar_sweep.proofs.EventSteps.{changes_known, after_coming, after_leaving, after_passing}
use Rattle.planar_sweep.proofs.sweep.step.Goals as goal

pub leave-requires-clause-number : goal.leave-requires-clause-number
leave-requires-clause-number c = changes_known c.args.segs.now c.args.keys.now c.requires.events c.args.k c.requires.inside (Leaves c.in-Leaves.number) (sym c.event_of.ensures ∙ c.in-Leaves.is) 0 (leaving 0) (omega arith)

pub leave-requires-clause-few : goal.leave-requires-clause-few
leave-requires-clause-few c = omega (arith, row_few c.args.segs.now (changes_of (take c.args.k (map moment_of c.args.keys.now))) c.args.line.now.row.row c.requires.swept.row, c.requires.few)

pub come-requires-clause-number : goal.come-requires-clause-number
come-requires-clause-number c = changes_known c.args.segs.now c.args.keys.now c.requires.events c.args.k c.requires.inside (Comes c.in-Comes.number) (sym c.event_of.ensures ∙ c.in-Comes.is) 0 (leaving 0) (omega arith)

pub come-requires-clause-few : goal.come-requires-clause-few
come-requires-clause-few c = omega (arith, row_few c.args.segs.now (changes_of (take c.args.k (map moment_of c.args.keys.now))) c.args.line.now.row.row c.requires.swept.row, c.requires.few)

pub pass-requires-clause-from : goal.pass-requires-clause-from
pass-requires-clause-from c = changes_known c.args.segs.now c.args.keys.now c.requires.events c.args.k c.requires.inside (Passes c.in-Passes.from c.in-Passes.to) (sym c.event_of.ensures ∙ c.in-Passes.is) 1 (leaving 0) (omega arith)

pub pass-requires-clause-to : goal.pass-requires-clause-to
pass-requires-clause-to c = changes_known c.args.segs.now c.args.keys.now c.requires.events c.args.k c.requires.inside (Passes c.in-Passes.from c.in-Passes.to) (sym c.event_of.ensures ∙ c.in-Passes.is) 0 (leaving 0) (omega arith)

pub pass-requires-clause-few : goal.pass-requires-clause-few
pass-requires-clause-few c = omega (arith, row_few c.args.segs.now (changes_of (take c.args.k (map moment_of c.args.keys.now))) c.args.line.now.row.row c.requires.swept.row, c.requires.few)

pub returns-in-Leaves : goal.returns-in-Leaves
returns-in-Leaves c = λ e. record {
  line = c.leave.ensures.line;
  row = after_leaving c.args.segs.now c.args.keys.now c.requires.events c.args.k c.requires.inside (Leaves c.in-Leaves.number) (sym c.event_of.ensures ∙ c.in-Leaves.is) c.requires.ready
      c.args.line.now.row.row c.leave.new.line.row.row c.requires.swept.row c.in-Leaves.number refl (c.leave.ensures.left e);
  gaps = c.leave.ensures.gaps e;
}

pub returns-in-Comes : goal.returns-in-Comes
returns-in-Comes c =
    let segs = c.args.segs.now in
    let faces = c.args.faces.now in
    let n = c.in-Comes.number in
    let old = c.args.line.now.row.row in
    let line = c.come.new.line in
    let gaps = c.come.new.gaps in
    IfOk-weaker c.come.result (λ fits. fits ≡ true → IsLineOf segs line × HasCome segs n old line.row.row × (gaps ≡ gaps_in faces line.row.row))
    (λ fits. fits ≡ true → IsSwept segs faces (changes_of (take (c.args.k + 1) (map moment_of c.args.keys.now))) line gaps)
    (λ fits has e. let came = has e in record {
      line = came.0;
      row = after_coming segs c.args.keys.now c.requires.events c.args.k c.requires.inside (Comes n) (sym c.event_of.ensures ∙ c.in-Comes.is) c.requires.ready old line.row.row c.requires.swept.row n refl came.1;
      gaps = came.2;
    }) c.come.ensures

pub returns-in-Passes : goal.returns-in-Passes
returns-in-Passes c =
    let segs = c.args.segs.now in
    let faces = c.args.faces.now in
    let from = c.in-Passes.from in
    let to = c.in-Passes.to in
    let old = c.args.line.now.row.row in
    let line = c.pass.new.line in
    let gaps = c.pass.new.gaps in
    IfOk-weaker c.pass.result (λ fits. fits ≡ true → IsLineOf segs line × HasPassed segs from to old line.row.row × (gaps ≡ gaps_in faces line.row.row))
    (λ fits. fits ≡ true → IsSwept segs faces (changes_of (take (c.args.k + 1) (map moment_of c.args.keys.now))) line gaps)
    (λ fits has e. let passed = has e in record {
      line = passed.0;
      row = after_passing segs c.args.keys.now c.requires.events c.args.k c.requires.inside (Passes from to) (sym c.event_of.ensures ∙ c.in-Passes.is) c.requires.ready old line.row.row c.requires.swept.row from to refl passed.1;
      gaps = passed.2;
    }) c.pass.ensures
