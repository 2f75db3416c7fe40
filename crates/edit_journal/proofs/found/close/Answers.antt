use Rattle.std.proofs.Common.{◌≡◌, ℕ, List, [], ◌∷◌, ap, subst, ⊎_elim, arith}
use Rattle.edit_journal.specs.Disk.{Torn, IsWritten, LeftOrChanged}
use Rattle.edit_journal.specs.Entries.{entries_of}
use Rattle.edit_journal.proofs.EntryLists.{ends_within}
use Rattle.edit_journal.proofs.Moments.{weaker}
use Rattle.edit_journal.proofs.Outcomes.{on_ok}
use Rattle.edit_journal.proofs.Rest.{rest_settled}
use Rattle.edit_journal.proofs.ClosingByte.{torn_keeps, written_rests}
use Rattle.edit_journal.proofs.found.close.Goals as goal

pub write_sure-requires : goal.write_sure-requires
write_sure-requires g c = λ told. omega (arith, c.requires.end told, ends_within (g.D.Disk.seen c.args.disk.now))

pub returns-clause-any_moment : goal.returns-clause-any_moment
returns-clause-any_moment g c =
    λ told.
    let seen : List ℕ = g.D.Disk.seen c.args.disk.now in
    let sure = c.requires.sure told in
    weaker g.D.Disk.moment g.D.Disk.left_since c.args.disk.now c.write_sure.new.disk (LeftOrChanged (Torn c.args.end 1) (g.D.Disk.may_leave c.args.disk.now)) (λ image. entries_of image ≡ entries_of seen) (c.write_sure.ensures.any_moment told) (λ image left. ⊎_elim (λ was. ap entries_of (sure image was)) (λ torn. torn_keeps 67108864 seen (c.requires.not_closed told) (c.requires.within told) image (subst (λ (n : ℕ). Torn n 1 seen image) (c.requires.end told) (subst (λ (l : List ℕ). Torn c.args.end 1 l image) (sure torn.0 torn.1) torn.2))) left)

pub returns-clause-settled : goal.returns-clause-settled
returns-clause-settled g c =
    λ told.
    let seen : List ℕ = g.D.Disk.seen c.args.disk.now in
    on_ok c.write_sure.result _ _ (λ written. rest_settled 67108864 (entries_of seen).0 (g.D.Disk.seen c.write_sure.new.disk) (written_rests 67108864 seen (c.requires.not_closed told) (c.requires.within told) (g.D.Disk.seen c.write_sure.new.disk) (subst (λ (n : ℕ). IsWritten seen n (0 ∷ []) (g.D.Disk.seen c.write_sure.new.disk)) (c.requires.end told) written))) (c.write_sure.ensures.written told)
