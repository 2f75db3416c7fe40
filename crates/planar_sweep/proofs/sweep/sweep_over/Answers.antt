-- Each step leaves a row, and all rows together show that segments are apart and that the faces agree.
use Rattle.std.proofs.Common.{◌≡◌, ◌+◌, ℕ, List, [], length, map, take, get_or, All, AllPairs, refl, sym, ap, ◌∙◌, inl, inr, ◌⊎◌, ⊎_elim, ◌<◌, subst, subst₂, true≢false, arith}
use Rattle.std.proofs.lemmas.List.{length-map}
use Rattle.tgap_model.specs.Partition.{AreApart}
use Rattle.planar_sweep.specs.Ends.{swept, HaveCommonEnds}
use Rattle.planar_sweep.specs.Rows.{moment_of, changes_of, IsRow, HadRows}
use Rattle.planar_sweep.specs.Faces.{HadAgreement, AreOfOneColumn}
use Rattle.planar_sweep.specs.Swept.{gaps_in, IsSwept}
use Rattle.planar_sweep.proofs.Agreement.{faces_agree}
use Rattle.planar_sweep.proofs.FaceGaps.{agreement_first, agreement_more}
use Rattle.planar_sweep.proofs.GapCounts.{gaps_known}
use Rattle.planar_sweep.proofs.Labels.{all_are_apart}
use Rattle.planar_sweep.proofs.Steps.{no_event, row_known}
use Rattle.planar_sweep.proofs.Whole.{first_row, first_rows, forward_ready, one_row_more, have_common_ends}
use Rattle.planar_sweep.proofs.sweep.sweep_over.Goals.{then-agree, else-agree}
use Rattle.planar_sweep.proofs.sweep.sweep_over.Goals as goal

pub loop-k-init : goal.loop-k-init
loop-k-init c =
    let segs = c.args.segs.now in
    let events = map moment_of c.in_ok-keys.keys.items in
    record {
      had = first_rows segs events;
      swept = record {
        line = c.in_ok-line.ensures.line segs refl;
        row = subst (IsRow segs []) (sym c.in_ok-line.ensures.row) (first_row segs);
        gaps = sym (ap (gaps_in c.in_ok-faces.faces.items) c.in_ok-line.ensures.row);
      };
      agreed = λ _. agreement_first c.args.segments.now segs events;
    }

pub loop-k-preserved : goal.loop-k-preserved
loop-k-preserved c =
    let segments = c.args.segments.now in
    let segs = c.args.segs.now in
    let events = map moment_of c.in_ok-keys.keys.items in
    let faces = c.in_ok-faces.faces.items in
    let k = c.loop-k.k in
    let line = c.step.new.line in
    let gaps = c.step.new.gaps in
    let next : IsSwept segs faces (changes_of (take (k + 1) events)) line gaps =
    subst₂ (λ (fs : List (ℕ × ℕ)) (ns : List ℕ). IsSwept segs fs (changes_of (take (k + 1) (map moment_of ns))) line gaps) c.deref.ensures.value c.deref-in-loop-k.ensures.value (c.in_ok-fits.ensures c.if-not-fits.false) in
    let row = line.row.row in
    let known : All (λ n. n < length segments) row =
    subst (λ (m : ℕ). All (λ n. n < m) row) (ap length c.requires.same ∙ length-map segments swept) (row_known segs (changes_of (take (k + 1) events)) row next.row) in
    let counted = gaps_known segments faces c.in_ok-faces.ensures row known in
    record {
      had = one_row_more segs events k row c.loop-k.invariant.had next.row;
      swept = next;
      agreed = elim c.if-agree.branch [
        | then-agree w ↦ λ e. agreement_more segments segs events k no_event row (c.loop-k.invariant.agreed w.if-agree.true) next.row
            (⊎_elim (λ none. inl (sym counted ∙ sym next.gaps ∙ none)) inr
            (subst (λ (ns : List ℕ). (gaps ≡ 0) ⊎ ((k + 1 < length (map moment_of ns)) × AreOfOneColumn (get_or (map moment_of ns) k no_event).time (get_or (map moment_of ns) (k + 1) no_event).time)) w.deref-then-agree.ensures.value
            (w.agrees_behind-agree.ensures no_event (sym w.agree-is ∙ e))))
        | else-agree w ↦ λ e. absurd (true≢false (sym e ∙ w.agree-is ∙ w.if-agree.false))
      ];
    }

-- all events are done
done : (c : goal.After-drop-faces-2) → c.loop-k.k ≡ length (map moment_of c.in_ok-keys.keys.items)
done c = omega (arith, c.loop-k-test.false, c.loop-k.auto.k-end, c.len-k-end.ensures, c.in_ok-keys.keys.ok.0, length-map c.in_ok-keys.keys.items moment_of)

apart : (c : goal.After-drop-faces-2) → AllPairs AreApart c.args.segments.now
apart c =
    let segs = c.args.segs.now in
    let events = map moment_of c.in_ok-keys.keys.items in
    all_are_apart c.args.segments.now c.requires.ends
    (subst HaveCommonEnds c.requires.same (have_common_ends segs events c.in_ok-keys.ensures.events (forward_ready segs c.requires.ready) (subst (HadRows segs events) (done c) c.loop-k.invariant.had)))

pub returns-clause-apart : goal.returns-clause-apart
returns-clause-apart c = λ _. apart c

pub returns-clause-agree : goal.returns-clause-agree
returns-clause-agree c = λ e.
    let segments = c.args.segments.now in
    let segs = c.args.segs.now in
    let events = map moment_of c.in_ok-keys.keys.items in
    faces_agree segments segs events c.requires.same c.in_ok-keys.ensures.events c.requires.ready (apart c) (subst (HadAgreement segments segs events) (done c) (c.loop-k.invariant.agreed e))
