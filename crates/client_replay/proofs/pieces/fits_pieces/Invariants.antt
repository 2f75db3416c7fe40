use Rattle.std.proofs.Common.{◌≡◌, drop}
use Rattle.std.specs.List.{list_all}
use Rattle.client_replay.specs.Rules.{mend_pieces_fit}
use Rattle.client_replay.specs.Working.{slice_of}
use Rattle.client_replay.proofs.pieces.fits_pieces.Given as goal

-- the pieces of all mends fit where those of the mends that are left do
abbrev pub invariant-loop-mend : goal.invariant-loop-mend
invariant-loop-mend l =
    list_all (mend_pieces_fit (slice_of l.working) l.step_record) (drop l.mend-index l.step_record.mends) ≡ list_all (mend_pieces_fit (slice_of l.working) l.step_record) l.step_record.mends
