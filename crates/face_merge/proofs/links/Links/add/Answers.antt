use Rattle.std.proofs.Common.{◌≡◌, ◌+◌, ◌∙◌, Some, cond, ap, ℕ, Bool, unwrap_or}
use Rattle.std.specs.BTreeMap.{get, is_at}
use Rattle.std.proofs.lemmas.Result.{IfOk-weaker}
use Rattle.face_merge.specs.Links.{length_at, pair_cmp, with_more}
use Rattle.face_merge.proofs.Linked.{pair_at}
use Rattle.face_merge.proofs.links.Links.add.Goals as goal

pub returns : goal.returns
returns c =
    let w = length_at c.args.self.now in
    let more = Some (unwrap_or (w c.args.slot c.args.other) 0 + c.args.length) in
    let new = c.add_at.new.lengths in
    IfOk-weaker c.add_at.result (λ _. (s : ℕ × ℕ) → get pair_cmp new s ≡ cond (is_at (pair_cmp (c.args.slot, c.args.other)) s) more (w s.0 s.1))
    (λ _. (s t : ℕ) → get pair_cmp new (s, t) ≡ with_more w c.args.slot c.args.other c.args.length s t)
    (λ _ h s t. h (s, t) ∙ ap (λ (b : Bool). cond b more (w s t)) (pair_at c.args.slot c.args.other s t)) c.add_at.ensures
