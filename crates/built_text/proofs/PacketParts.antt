-- The text of a packet, part after part.
use Rattle.std.proofs.Common.{◌≡◌, ℕ, ◌+◌, ◌-◌, ◌<◌, ◌≤◌, List, [], ◌∷◌, ◌++◌, length, codes, decimal, sym, ap, ◌∙◌, append_assoc}
use Rattle.std.specs.Prelude.{flat_map}
use Rattle.std.proofs.lemmas.Grind.{flat_map-append}
use Rattle.std.proofs.lemmas.List.{append-nil}
use Rattle.tgap_model.specs.declared.record.StepRecord.{StepRecord}
use Rattle.tgap_model.specs.Merged.{MergedMap}
use Rattle.tgap_model.specs.Records.{step_record, records_down, packet_of}
use Rattle.line_forms.specs.Texts.{line, lines}
use Rattle.line_forms.specs.Words.{Row}
use Rattle.plain_io.proofs.Fields.{lines_put, line_after}
use Rattle.wire_text.specs.SliceTexts.{record_rows, packet_text}
use Rattle.refine_packets.proofs.Down.{one_more}

-- its first line, its records and its last line
pub packet_put : (o0 o1 o2 o3 : List ℕ) (h : MergedMap) (from to : ℕ) → o0 ≡ [] → o1 ≡ o0 ++ line (codes "packet" ∷ decimal from ∷ decimal to ∷ [])
    → o2 ≡ o1 ++ lines (flat_map record_rows (records_down h from (from - to))) → o3 ≡ o2 ++ line (codes "end" ∷ [])
    → o3 ≡ packet_text (packet_of h from to)
unfolding packet_of
packet_put o0 o1 o2 o3 h from to e0 e1 e2 e3 =
    let first : Row = codes "packet" ∷ decimal from ∷ decimal to ∷ [] in
    let rows : List Row = flat_map record_rows (records_down h from (from - to)) in
    let f1 = line_after o0 o1 [] first e0 e1 in
    let f2 = lines_put o1 o2 (first ∷ []) rows f1 e2 in
    line_after o2 o3 (first ∷ rows) (codes "end" ∷ []) f2 e3

-- the rows of one record more
pub record_put : (before old new : List ℕ) (h : MergedMap) (from i : ℕ) → i < from → from ≤ length h.steps
    → old ≡ before ++ lines (flat_map record_rows (records_down h from i)) → new ≡ old ++ lines (record_rows (step_record h (from - i)))
    → new ≡ before ++ lines (flat_map record_rows (records_down h from (i + 1)))
record_put before old new h from i some within e f =
    let so_far : List Row = flat_map record_rows (records_down h from i) in
    let next : List Row = record_rows (step_record h (from - i)) in
    f ∙ ap (λ (text : List ℕ). text ++ lines next) e ∙ append_assoc before (lines so_far) (lines next)
    ∙ ap (λ (text : List ℕ). before ++ text) (sym (flat_map-append line so_far next))
    ∙ ap (λ (rows : List Row). before ++ lines (so_far ++ rows)) (sym (append-nil next))
    ∙ ap (λ (rows : List Row). before ++ lines rows) (sym (flat_map-append record_rows (records_down h from i) (step_record h (from - i) ∷ [])))
    ∙ ap (λ (rs : List StepRecord). before ++ lines (flat_map record_rows rs)) (one_more h from i some within)
