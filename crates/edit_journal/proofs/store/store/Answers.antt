use Rattle.std.proofs.Common.{◌≡◌, ℕ, ◌+◌, ◌++◌, ◌∷◌, [], List, length, true, sym, ◌∙◌, subst, arith}
use Rattle.tgap_model.specs.Keeping.{KeptEntry}
use Rattle.edit_journal.specs.Disk.{IsWritten, Torn, LeavesOnly, LeftOrChanged}
use Rattle.edit_journal.specs.Entries.{entries_of, body_of}
use Rattle.edit_journal.specs.Images.{IsLeft}
use Rattle.edit_journal.specs.Told.{kept_of}
use Rattle.edit_journal.proofs.Append.{Ready, ready, Staged, row_body, left_without, behind_all, behind_moment, behind_staged, behind_fits, staged_all, staged_moment, staged_written, staged_fits}
use Rattle.edit_journal.proofs.Crash.{Body}
use Rattle.edit_journal.proofs.Moments.{weaker, and_then}
use Rattle.edit_journal.proofs.Outcomes.{on_ok}
use Rattle.edit_journal.proofs.Rest.{AtRest, rest_settled, settled_rest}
use Rattle.edit_journal.proofs.store.store.Goals as goal

pub write_sure-requires : goal.write_sure-requires
write_sure-requires g c =
    λ told.
    let e : KeptEntry = kept_of c.args.row.now.entry in
    let seen : List ℕ = g.D.Disk.seen c.args.disk.now in
    let es : List KeptEntry = (entries_of seen).0 in
    let body : Body e (body_of e) = row_body e c.args.row.now.number c.args.row.now.size in
    let r : Ready 67108864 es c.args.end seen = ready 67108864 es c.args.end seen (c.requires.settled told) (c.requires.end told) (omega (arith, c.requires.room)) in
    let spelled : c.as_slice.result.now ≡ body_of e ++ 0 ∷ [] = c.as_slice.ensures.value ∙ c.args.row.now.spelled in
    behind_fits 67108864 es c.args.end seen r e body c.requires.room

-- a crash within the first write leaves the entries as they were
pub returns-in_err-write_sure-clause-left : goal.returns-in_err-write_sure-clause-left
returns-in_err-write_sure-clause-left g c =
    λ told image left.
    let e : KeptEntry = kept_of c.args.row.now.entry in
    let seen : List ℕ = g.D.Disk.seen c.args.disk.now in
    let es : List KeptEntry = (entries_of seen).0 in
    let body : Body e (body_of e) = row_body e c.args.row.now.number c.args.row.now.size in
    let r : Ready 67108864 es c.args.end seen = ready 67108864 es c.args.end seen (c.requires.settled told) (c.requires.end told) (omega (arith, c.requires.room)) in
    let spelled : c.as_slice.result.now ≡ body_of e ++ 0 ∷ [] = c.as_slice.ensures.value ∙ c.args.row.now.spelled in
    left_without 67108864 es (e ∷ []) image (behind_all 67108864 es c.args.end seen r e body c.requires.room c.as_slice.result.now (g.D.Disk.may_leave c.args.disk.now) (g.D.Disk.may_leave c.write_sure.new.disk) spelled (c.requires.sure told) (c.write_sure.ensures.crash told) image left)

pub returns-in_err-write_sure-clause-any_moment : goal.returns-in_err-write_sure-clause-any_moment
returns-in_err-write_sure-clause-any_moment g c =
    λ told.
    let e : KeptEntry = kept_of c.args.row.now.entry in
    let seen : List ℕ = g.D.Disk.seen c.args.disk.now in
    let es : List KeptEntry = (entries_of seen).0 in
    let body : Body e (body_of e) = row_body e c.args.row.now.number c.args.row.now.size in
    let r : Ready 67108864 es c.args.end seen = ready 67108864 es c.args.end seen (c.requires.settled told) (c.requires.end told) (omega (arith, c.requires.room)) in
    let spelled : c.as_slice.result.now ≡ body_of e ++ 0 ∷ [] = c.as_slice.ensures.value ∙ c.args.row.now.spelled in
    weaker g.D.Disk.moment g.D.Disk.left_since c.args.disk.now c.write_sure.new.disk (LeftOrChanged (Torn (c.args.end + 1) (length c.as_slice.result.now)) (g.D.Disk.may_leave c.args.disk.now)) (IsLeft 67108864 es (e ∷ [])) (c.write_sure.ensures.any_moment told) (behind_moment 67108864 es c.args.end seen r e body c.requires.room c.as_slice.result.now (g.D.Disk.may_leave c.args.disk.now) spelled (c.requires.sure told) (settled_rest 67108864 es seen (c.requires.settled told)))

pub write_sure-requires-2 : goal.write_sure-requires-2
write_sure-requires-2 g c =
    λ told_mid.
    let told : g.D.Disk.told c.args.disk.now ≡ true = sym c.write_sure.ensures.told ∙ told_mid in
    let e : KeptEntry = kept_of c.args.row.now.entry in
    let seen : List ℕ = g.D.Disk.seen c.args.disk.now in
    let es : List KeptEntry = (entries_of seen).0 in
    let body : Body e (body_of e) = row_body e c.args.row.now.number c.args.row.now.size in
    let r : Ready 67108864 es c.args.end seen = ready 67108864 es c.args.end seen (c.requires.settled told) (c.requires.end told) (omega (arith, c.requires.room)) in
    let spelled : c.as_slice.result.now ≡ body_of e ++ 0 ∷ [] = c.as_slice.ensures.value ∙ c.args.row.now.spelled in
    let mid = c.write_sure.new.disk in
    let rest : AtRest 67108864 es (g.D.Disk.seen mid) = behind_all 67108864 es c.args.end seen r e body c.requires.room c.as_slice.result.now (g.D.Disk.may_leave c.args.disk.now) (g.D.Disk.may_leave mid) spelled (c.requires.sure told) (c.write_sure.ensures.crash told) (g.D.Disk.seen mid) (g.met.D.Disk.seen_is_left mid told_mid) in
    let staged : Staged 67108864 es e c.args.end (g.D.Disk.seen mid) = behind_staged 67108864 es c.args.end seen r e body c.requires.room (g.D.Disk.seen mid) (subst (λ (b : List ℕ). IsWritten seen (c.args.end + 1) b (g.D.Disk.seen mid)) spelled (c.in_ok-write_sure.ensures.written told)) rest.within in
    staged_fits 67108864 es e c.args.end (g.D.Disk.seen mid) staged

-- the second leaves them with the new one or without
pub returns-clause-left : goal.returns-clause-left
returns-clause-left g c =
    λ told image left.
    let e : KeptEntry = kept_of c.args.row.now.entry in
    let seen : List ℕ = g.D.Disk.seen c.args.disk.now in
    let es : List KeptEntry = (entries_of seen).0 in
    let body : Body e (body_of e) = row_body e c.args.row.now.number c.args.row.now.size in
    let r : Ready 67108864 es c.args.end seen = ready 67108864 es c.args.end seen (c.requires.settled told) (c.requires.end told) (omega (arith, c.requires.room)) in
    let spelled : c.as_slice.result.now ≡ body_of e ++ 0 ∷ [] = c.as_slice.ensures.value ∙ c.args.row.now.spelled in
    let mid = c.write_sure.new.disk in
    let told_mid : g.D.Disk.told mid ≡ true = c.write_sure.ensures.told ∙ told in
    let rest : AtRest 67108864 es (g.D.Disk.seen mid) = behind_all 67108864 es c.args.end seen r e body c.requires.room c.as_slice.result.now (g.D.Disk.may_leave c.args.disk.now) (g.D.Disk.may_leave mid) spelled (c.requires.sure told) (c.write_sure.ensures.crash told) (g.D.Disk.seen mid) (g.met.D.Disk.seen_is_left mid told_mid) in
    let staged : Staged 67108864 es e c.args.end (g.D.Disk.seen mid) = behind_staged 67108864 es c.args.end seen r e body c.requires.room (g.D.Disk.seen mid) (subst (λ (b : List ℕ). IsWritten seen (c.args.end + 1) b (g.D.Disk.seen mid)) spelled (c.in_ok-write_sure.ensures.written told)) rest.within in
    staged_all 67108864 es e c.args.end (g.D.Disk.seen mid) staged (g.D.Disk.may_leave mid) (g.D.Disk.may_leave c.write_sure-2.new.disk) (c.in_ok-write_sure.ensures.sure told) (c.write_sure-2.ensures.crash told_mid) image left

pub returns-clause-any_moment : goal.returns-clause-any_moment
returns-clause-any_moment g c =
    λ told.
    let e : KeptEntry = kept_of c.args.row.now.entry in
    let seen : List ℕ = g.D.Disk.seen c.args.disk.now in
    let es : List KeptEntry = (entries_of seen).0 in
    let body : Body e (body_of e) = row_body e c.args.row.now.number c.args.row.now.size in
    let r : Ready 67108864 es c.args.end seen = ready 67108864 es c.args.end seen (c.requires.settled told) (c.requires.end told) (omega (arith, c.requires.room)) in
    let spelled : c.as_slice.result.now ≡ body_of e ++ 0 ∷ [] = c.as_slice.ensures.value ∙ c.args.row.now.spelled in
    let mid = c.write_sure.new.disk in
    let told_mid : g.D.Disk.told mid ≡ true = c.write_sure.ensures.told ∙ told in
    let rest : AtRest 67108864 es (g.D.Disk.seen mid) = behind_all 67108864 es c.args.end seen r e body c.requires.room c.as_slice.result.now (g.D.Disk.may_leave c.args.disk.now) (g.D.Disk.may_leave mid) spelled (c.requires.sure told) (c.write_sure.ensures.crash told) (g.D.Disk.seen mid) (g.met.D.Disk.seen_is_left mid told_mid) in
    let staged : Staged 67108864 es e c.args.end (g.D.Disk.seen mid) = behind_staged 67108864 es c.args.end seen r e body c.requires.room (g.D.Disk.seen mid) (subst (λ (b : List ℕ). IsWritten seen (c.args.end + 1) b (g.D.Disk.seen mid)) spelled (c.in_ok-write_sure.ensures.written told)) rest.within in
    let first : LeavesOnly g.D.Disk.moment g.D.Disk.left_since c.args.disk.now mid (IsLeft 67108864 es (e ∷ [])) = weaker g.D.Disk.moment g.D.Disk.left_since c.args.disk.now c.write_sure.new.disk (LeftOrChanged (Torn (c.args.end + 1) (length c.as_slice.result.now)) (g.D.Disk.may_leave c.args.disk.now)) (IsLeft 67108864 es (e ∷ [])) (c.write_sure.ensures.any_moment told) (behind_moment 67108864 es c.args.end seen r e body c.requires.room c.as_slice.result.now (g.D.Disk.may_leave c.args.disk.now) spelled (c.requires.sure told) (settled_rest 67108864 es seen (c.requires.settled told))) in
    and_then g.D.Disk.moment g.D.Disk.left_since c.args.disk.now mid c.write_sure-2.new.disk (IsLeft 67108864 es (e ∷ [])) (LeftOrChanged (Torn c.args.end 1) (g.D.Disk.may_leave mid)) first (c.write_sure-2.ensures.any_moment told_mid) (staged_moment 67108864 es e c.args.end (g.D.Disk.seen mid) staged (g.D.Disk.may_leave mid) (c.in_ok-write_sure.ensures.sure told))

-- and then the journal is settled with it
pub returns-clause-stored : goal.returns-clause-stored
returns-clause-stored g c =
    λ told.
    let e : KeptEntry = kept_of c.args.row.now.entry in
    let seen : List ℕ = g.D.Disk.seen c.args.disk.now in
    let es : List KeptEntry = (entries_of seen).0 in
    let body : Body e (body_of e) = row_body e c.args.row.now.number c.args.row.now.size in
    let r : Ready 67108864 es c.args.end seen = ready 67108864 es c.args.end seen (c.requires.settled told) (c.requires.end told) (omega (arith, c.requires.room)) in
    let spelled : c.as_slice.result.now ≡ body_of e ++ 0 ∷ [] = c.as_slice.ensures.value ∙ c.args.row.now.spelled in
    let mid = c.write_sure.new.disk in
    let told_mid : g.D.Disk.told mid ≡ true = c.write_sure.ensures.told ∙ told in
    let rest : AtRest 67108864 es (g.D.Disk.seen mid) = behind_all 67108864 es c.args.end seen r e body c.requires.room c.as_slice.result.now (g.D.Disk.may_leave c.args.disk.now) (g.D.Disk.may_leave mid) spelled (c.requires.sure told) (c.write_sure.ensures.crash told) (g.D.Disk.seen mid) (g.met.D.Disk.seen_is_left mid told_mid) in
    let staged : Staged 67108864 es e c.args.end (g.D.Disk.seen mid) = behind_staged 67108864 es c.args.end seen r e body c.requires.room (g.D.Disk.seen mid) (subst (λ (b : List ℕ). IsWritten seen (c.args.end + 1) b (g.D.Disk.seen mid)) spelled (c.in_ok-write_sure.ensures.written told)) rest.within in
    on_ok c.write_sure-2.result _ _ (λ written. rest_settled 67108864 (es ++ e ∷ []) (g.D.Disk.seen c.write_sure-2.new.disk) (staged_written 67108864 es e c.args.end (g.D.Disk.seen mid) staged (g.D.Disk.seen c.write_sure-2.new.disk) written)) (c.write_sure-2.ensures.written told_mid)
