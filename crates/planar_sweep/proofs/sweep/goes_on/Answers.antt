-- Keys of one column are of events at one abscissa.
use Rattle.std.proofs.Common.{ℤ, ◌+◌, ◌<◌, length, get_or, sym, ap, ◌∙◌, subst₂, arith}
use Rattle.std.proofs.lemmas.Bool.Decides.{Decides-eqb}
use Rattle.std.proofs.lemmas.List.{get_or-map, length-map}
use Rattle.planar_sweep.specs.Rows.{Moment, moment_of}
use Rattle.planar_sweep.specs.Faces.{AreOfOneColumn}
use Rattle.planar_sweep.proofs.EventSteps.{of_one_column}
use Rattle.planar_sweep.proofs.sweep.goes_on.Goals as goal

pub returns-then-keys-k-gt1 : goal.returns-then-keys-k-gt1
returns-then-keys-k-gt1 c = λ d e.
    let keys = c.args.keys.now in
    let k = c.args.k in
    let more : k + 1 < length keys = omega (arith, c.if-keys-k-gt1.true) in
    let same = sym c.column_of.ensures ∙ (Decides-eqb c.column_of.result c.column_of-then-keys-k-gt1.result).0 e ∙ c.column_of-then-keys-k-gt1.ensures in (
      omega (arith, more, length-map keys moment_of),
      subst₂ (λ (s t : ℤ). AreOfOneColumn s t)
          (sym (ap (λ (m : Moment). m.time) (get_or-map moment_of keys k 0 d c.requires.inside)))
          (sym (ap (λ (m : Moment). m.time) (get_or-map moment_of keys (k + 1) 0 d more)))
          (of_one_column (get_or keys k 0) (get_or keys (k + 1) 0) same),
    )
