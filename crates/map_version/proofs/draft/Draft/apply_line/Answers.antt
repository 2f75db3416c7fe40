use Rattle.edit_laws.specs.Edits.{read_edit}
use Rattle.edit_laws.proofs.Batches.{edit_fits}
use Rattle.map_version.specs.Lines.{told}
use Rattle.map_version.proofs.Drafts.{read_is}
use Rattle.map_version.proofs.draft.Draft.apply_line.Goals as goal

pub apply-requires : goal.apply-requires
apply-requires c = edit_fits c.args.words.now (told c.in_ok-edit.edit) (read_is (read_edit c.args.words.now) 1 (told c.in_ok-edit.edit) c.in_ok-edit.ensures)
