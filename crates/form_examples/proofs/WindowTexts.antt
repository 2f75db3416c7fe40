-- Packets of windows of worked maps spelled as texts.
use Rattle.std.proofs.Common.{◌≡◌, refl, codes}
use Rattle.std.specs.Fmt.{digits}
use Rattle.tgap_model.specs.History.{next_step, history_of}
use Rattle.tgap_model.specs.Merged.{merged}
use Rattle.tgap_model.specs.Chains.{chains_at}
use Rattle.tgap_model.specs.Clear.{is_clear}
use Rattle.tgap_model.specs.Removals.{is_removable, sweep, removals_to}
use Rattle.tgap_model.specs.Slice.{window_of}
use Rattle.tgap_model.specs.WindowRecords.{window_packet_of}
use Rattle.wire_text.specs.SliceTexts.{window_packet_text}
use Rattle.map_laws.proofs.Examples.{two_squares}
use Rattle.map_laws.proofs.SliceExamples.{two_triangles}
use Rattle.map_laws.proofs.WindowExamples.{right_part, upper_part}

right_spelled : window_packet_text (window_packet_of (merged two_squares) right_part 1 0) ≡ codes "window-packet 1 0 12 2 30 4\nstep 1 1 2 3 1 1 0\nface 2 0\nmend 0 1 2\nput 3 10 0\npiece 0 3 1 0\npiece 1 6 2 0\nend\n"
unfolding digits window_packet_of window_of removals_to sweep is_removable is_clear chains_at history_of next_step
right_spelled = refl

upper_spelled : window_packet_text (window_packet_of (merged two_triangles) upper_part 1 0) ≡ codes "window-packet 1 0 0 8 2 12\nstep 1 1 2 3 1 0 1\nface 2 0\nedge 1 2 0 3 6 6 0 12 0 0\nend\n"
unfolding digits window_packet_of window_of removals_to sweep is_removable is_clear chains_at history_of next_step
upper_spelled = refl
