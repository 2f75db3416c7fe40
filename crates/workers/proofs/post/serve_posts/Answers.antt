use Rattle.std.proofs.Common.{◌≡◌, ◌∙◌, sym, true}
use Rattle.tgap_model.specs.Faults.{Rose}
use Rattle.workers.specs.declared.end.ServeEnd.TheVariants.{Closed, DoorFailed}
use Rattle.workers.proofs.Parts.{each_weaker, all_first}
use Rattle.workers.proofs.post.serve_posts.Goals as goal

pub returns-clause-served : goal.returns-clause-served
returns-clause-served g c = each_weaker _ _ _ _ (λ x y both. both.0) c.work_all.ensures.done

pub returns-clause-stopped : goal.returns-clause-stopped
returns-clause-stopped g c = each_weaker _ _ _ _ (λ x y both. both.1) c.work_all.ensures.done

pub returns-clause-closed : goal.returns-clause-closed
returns-clause-closed g c closed =
    all_first (λ post. g.D.Door.closed post.door ≡ true) (λ old new. Rose (g.D.Door.faults old.door) (g.D.Door.faults new.door)) _ _
    (returns-clause-stopped g c)
    (λ one. let e : DoorFailed ≡ Closed = sym (c.work_all.ensures.end.1 one) ∙ closed in cc)
