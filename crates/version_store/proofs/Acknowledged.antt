-- What a crash leaves after a run of publishes.
use Rattle.std.proofs.Common.{◌≡◌, ◌<◌, ◌⊎◌, inl, inr, ℕ, List, [], ◌∷◌, ◌++◌, length, Result, Ok, Err, drop, refl, sym, ap, ◌∙◌, subst, arith}
use Rattle.tgap_model.specs.declared.holds.Holds as Held
use Rattle.tgap_model.specs.declared.keep.Keep as Keeper
use Rattle.std.proofs.lemmas.List.{take-append-drop}
use Rattle.tgap_model.specs.Keeping.{KeptEntry, folded}
use Rattle.version_store.specs.declared.name.StoreName as Named
use Rattle.version_store.specs.declared.press.PressOf.{PressOf}
use Rattle.version_store.specs.declared.press.fail.PublishFail.{PublishFail}
use Rattle.version_store.specs.Folds.{batches_of, FitsFold}
use Rattle.version_store.specs.Store.{press_versions, press_keeper}
use Rattle.version_store.specs.Acknowledged.{Publish, versions_after, acknowledged, IsLeft, entry_of, Run, all_acknowledged, HoldsAll, OutlastsCrash, OutlastsCrashWithin}
use Rattle.version_store.proofs.Folds.{batches_length, batches_push, fits_start, fits_next}

-- a publish acknowledges the batch of its version, or none
one_more : {V : Type 0} (batch : V → List ℕ) (list : List V) (ps : List (Publish V)) (p : Publish V) → 0 < length list
    → acknowledged batch (batches_of batch list) (p ∷ ps)
    ≡ acknowledged batch (batches_of batch (versions_after list p.next p.answer)) ps
one_more batch list ps p some = by p.answer
  where
    by : (answer : Result ℕ PublishFail)
        → elim answer [ Ok number ↦ acknowledged batch (batches_of batch list ++ batch p.next ∷ []) ps | Err fail ↦ acknowledged batch (batches_of batch list) ps ]
        ≡ acknowledged batch (batches_of batch (versions_after list p.next answer)) ps
    by (Ok number) = ap (λ (l : List (List ℕ)). acknowledged batch l ps) (sym (batches_push batch list p.next some))
    by (Err fail) = refl

-- the same in other words
holds_all : (batches : List (List ℕ)) (left : List KeptEntry) → FitsFold batches left → HoldsAll batches left
holds_all batches left f = record {
  front = (
    drop (length batches) (folded left),
    sym (take-append-drop (length batches) (folded left)) ∙ ap (λ (l : List (List ℕ)). l ++ drop (length batches) (folded left)) f.0,
  );
  most = f.1;
}

module _ {V N K P : Type 0} {held : Held.Ghosts V} {named : Named.Ghosts N} {keep : Keeper.Ghosts K} where
  some_versions : (press : PressOf V N K P held named keep) → 0 < length (press_versions press)
  some_versions press = let n = press.counted.0 in let s = press.counted.2 in omega arith

  -- what is acknowledged after a run are the batches of the versions then
  run_acknowledged : (press now : PressOf V N K P held named keep) (ps : List (Publish V)) → Run press ps now
      → all_acknowledged press ps ≡ batches_of held.batched (press_versions now)
  run_acknowledged press now [] run = ap (λ (q : PressOf V N K P held named keep). batches_of held.batched (press_versions q)) (sym run)
  run_acknowledged press now (p ∷ ps) run =
      one_more held.batched (press_versions press) ps p (some_versions press)
      ∙ ap (λ (l : List V). acknowledged held.batched (batches_of held.batched l) ps) (sym run.1.versions)
      ∙ run_acknowledged run.0 now ps run.2

  -- what a press knows of what is kept
  left_fits : (press : PressOf V N K P held named keep) (left : List KeptEntry) → IsLeft (keep.told (press_keeper press)) left
      → FitsFold (batches_of held.batched (press_versions press)) left
  left_fits press left l = fits_start (batches_of held.batched (press_versions press)) l.0 left (press.kept l.0 l.1) l.2

  pub outlasts_crash : OutlastsCrash P held named keep
  outlasts_crash press now ps left run l =
      holds_all (all_acknowledged press ps) left
      (subst (λ (b : List (List ℕ)). FitsFold b left) (sym (run_acknowledged press now ps run)) (left_fits now left l))

  pub outlasts_crash_within : OutlastsCrashWithin P held named keep
  outlasts_crash_within press now ps next left run l =
      holds_all (all_acknowledged press ps) left
      (subst (λ (b : List (List ℕ)). FitsFold b left) (sym (run_acknowledged press now ps run)) (by l.2))
    where
      by : (left ≡ l.0) ⊎ (left ≡ l.0 ++ entry_of now next ∷ []) → FitsFold (batches_of held.batched (press_versions now)) left
      by (inl is) = subst (FitsFold (batches_of held.batched (press_versions now))) (sym is) (left_fits now l.0 l.1)
      by (inr is) =
          subst (FitsFold (batches_of held.batched (press_versions now))) (sym is)
          (fits_next l.0 (batches_of held.batched (press_versions now)) (entry_of now next) (left_fits now l.0 l.1)
          (sym (batches_length held.batched (press_versions now) (some_versions now))))
