-- The texts that were passed have the room that is gone.
use Rattle.std.proofs.Common.{◌≡◌, ◌≤◌, ◌+◌, ◌-◌, drop, length, sum_by}
use Rattle.session.specs.KeptTexts.{size_of}
use Rattle.session.proofs.kept_texts.first_that_stays.Given as goal

abbrev pub invariant-loop-passed : goal.invariant-loop-passed
invariant-loop-passed l = (l.room + sum_by size_of (drop (length l.texts - l.passed) l.texts) ≡ l.bytes) × (l.passed ≤ l.count)
