-- What is kept comes to the batches, and where the batch is kept for sure, to these with it.
use Rattle.std.proofs.Common.{◌≡◌, ◌<◌, ◌+◌, ◌++◌, ℕ, List, [], ◌∷◌, length, OnOk, sym, ap, ◌∙◌, subst, arith}
use Rattle.tgap_model.specs.Keeping.{KeptEntry}
use Rattle.version_store.specs.Folds.{batches_of, FitsTold}
use Rattle.version_store.proofs.Folds.{told_fits, told_fits_next, batches_length, batches_push}
use Rattle.version_store.proofs.press.publish.PressOf+V+N+K+Growing.keep.Goals as goal

pub invariant_of-self-clause-kept : goal.invariant_of-self-clause-kept
invariant_of-self-clause-kept g c =
    let press = c.args.self.now in
    let list = press.place.me.0.list in
    let e : KeptEntry = record { number = c.args.number; batch = c.batch-batch.result.now } in
    let some : 0 < length list = (let n = press.counted.0 in let p = press.counted.2 in omega arith) in
    let number : e.number ≡ length (batches_of g.V.Holds.batched list) + 1 = c.requires.number ∙ sym (batches_length g.V.Holds.batched list some) in
    told_fits (g.K.Keep.limit press.keeper) (batches_of g.V.Holds.batched list) e number (g.K.Keep.told press.keeper) (g.K.Keep.told c.keep.new.self) c.keep.result
    press.kept c.keep.ensures.kept

pub returns-clause-fits : goal.returns-clause-fits
returns-clause-fits g c =
    let press = c.args.self.now in
    let list = press.place.me.0.list in
    let batches = batches_of g.V.Holds.batched list in
    let e : KeptEntry = record { number = c.args.number; batch = c.batch-batch.result.now } in
    let some : 0 < length list = (let n = press.counted.0 in let p = press.counted.2 in omega arith) in
    let number : e.number ≡ length batches + 1 = c.requires.number ∙ sym (batches_length g.V.Holds.batched list some) in
    subst (λ (b : List (List ℕ)). OnOk c.keep.result (FitsTold b (g.K.Keep.told c.keep.new.self)))
    (ap (λ (x : List ℕ). batches ++ x ∷ []) c.batch-batch.ensures ∙ sym (batches_push g.V.Holds.batched list c.args.version.now some))
    (told_fits_next (g.K.Keep.limit press.keeper) batches e number (g.K.Keep.told press.keeper) (g.K.Keep.told c.keep.new.self) c.keep.result press.kept c.keep.ensures.kept)
