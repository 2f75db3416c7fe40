use Rattle.std.proofs.Common.{rules}
use Rattle.std.proofs.lemmas.Fn.{filter_same}
use Rattle.tgap_model.specs.Slice.{meets_window}
use Rattle.client_replay.proofs.coming.keep_meeting.Goals as goal

pub returns : goal.returns
returns c = filter_same _ (meets_window c.args.area) _ (λ x b f' k. search rules) _ _ c.retain.ensures.filtered
